-- Scripts that are read: their transactions are whole and end, and they name no table of the tool's.
use Rattle.std.proofs.Common.{◌≡◌, ℕ, Bool, true, false, not, ◌&&◌, ◌||◌, cond, List, [], ◌∷◌, ◌++◌, Option, Some, None, Result, Ok, Err, refl, sym, ap, ◌∙◌, subst}
use Rattle.std.specs.List.{AllByRecursion}
use Rattle.std.proofs.lemmas.Bool.{true≢false}
use Rattle.std.specs.Str.Lines.{lines}
use Rattle.sql_grammar.specs.declared.token.Token.{Token}
use Rattle.sql_grammar.specs.declared.tokens.TextWords.{TextWords}
use Rattle.sql_grammar.specs.Tokens.{text_words}
use Rattle.base_values.proofs.SchemaRules.Steps.{bind_ok, ok_is, kept_out}
use Rattle.base_script.specs.declared.script.ScriptLine.{ScriptLine}
use Rattle.base_script.specs.declared.script.ScriptWord.{ScriptWord}
use Rattle.base_script.specs.declared.script.ScriptWord.TheVariants.{Begin, Commit, Rollback, Do}
use Rattle.sql_statement.specs.declared.code.ScriptCode.{ScriptCode}
use Rattle.sql_statement.specs.declared.code.ScriptCode.TheVariants as codes
use Rattle.sql_statement.specs.declared.code.ScriptRefusal.{ScriptRefusal}
use Rattle.sql_statement.specs.declared.code.StatementCode.{StatementCode}
use Rattle.sql_statement.specs.Lines.{asked_of, of_statement, line_of, is_empty, is_line, has_lines}
use Rattle.sql_statement.specs.Statements.{statement_of}
use Rattle.sql_statement.specs.Scripts.{names_one_of, open_after, ended_before, unless_tool, fitting, fitting_line, at_line, numbered, next_line, lines_from, script_of}
use Rattle.proof_journals.specs.Machine.Scripts.{LinesFit, WordFits, inside_after}
use Rattle.proof_migration.specs.ToolPhase.Ready.{LinesEnd}

-- what a line's text asks, where no fault was found
abbrev is_some_line : Option ScriptWord → Bool
is_some_line None = false
is_some_line (Some asked) = true

of_statement_is : (read : Result ScriptWord StatementCode) (asked : Option ScriptWord) → of_statement read ≡ Ok asked → is_some_line asked ≡ true
of_statement_is (Ok word) asked is = let same : Some word ≡ asked = cc in ap is_some_line (sym same)
of_statement_is (Err code) asked is = absurd cc

asked_is : (words : List Token) (asked : Option ScriptWord) → asked_of words ≡ Ok asked → not (is_empty words) ≡ is_some_line asked
asked_is [] asked is = let same : None ≡ asked = cc in ap is_some_line same
asked_is (word ∷ rest) asked is = sym (of_statement_is (statement_of (word ∷ rest)) asked is)

-- a text is a line where it asks for something
line_is : (text : TextWords) (asked : Option ScriptWord) → line_of text ≡ Ok asked → is_line text ≡ is_some_line asked
line_is text asked is = by text.is_faulty is where
  by : (b : Bool) → cond b (Err codes.Word) (asked_of text.words) ≡ Ok asked → cond b true (not (is_empty text.words)) ≡ is_some_line asked
  by true is = absurd cc
  by false is = asked_is text.words asked is

-- how a line stands in its transaction
record Fits (is_open : Bool) (asked : ScriptWord) (following : Bool) : Type 0 where
  pub fits : WordFits is_open asked
  pub behind_is : following ≡ inside_after is_open asked

opens : (is_open following : Bool) (asked : ScriptWord) → open_after is_open asked ≡ Ok following → Fits is_open asked following
opens true following Begin is = absurd cc
opens false following Begin is = record { fits = refl; behind_is = cc }
opens true following Commit is = record { fits = refl; behind_is = cc }
opens false following Commit is = absurd cc
opens true following Rollback is = record { fits = refl; behind_is = cc }
opens false following Rollback is = absurd cc
opens is_open following (Do statement) is = record { fits = tt; behind_is = cc }

-- where lines are no more to come, the transaction has ended
ends : (is_open some : Bool) → (is_open && not some) ≡ false → some ≡ false → is_open ≡ false
ends true true off none = absurd (true≢false none)
ends true false off none = off
ends false some off none = refl

record IsFitting (tools texts : List (List ℕ)) (is_open : Bool) (asked : ScriptWord) (following : Bool) : Type 0 where
  pub fits : Fits is_open asked following
  pub ended : has_lines texts ≡ false → following ≡ false
  pub named : names_one_of tools asked ≡ false

fitting_is : (tools texts : List (List ℕ)) (is_open following : Bool) (asked : ScriptWord) → fitting tools texts is_open (Some asked) ≡ Ok following → IsFitting tools texts is_open asked following
unfolding fitting
fitting_is tools texts is_open following asked is =
    let opened = bind_ok (open_after is_open asked) _ following is in
    let ended = bind_ok (ended_before texts opened.0) (λ b. unless_tool tools b asked) following opened.2 in
    let closes = kept_out (opened.0 && not (has_lines texts)) opened.0 ended.0 codes.LeftOpen ended.1 in
    let named = kept_out (names_one_of tools asked) ended.0 following codes.ToolTable ended.2 in
    let same : opened.0 ≡ following = closes.1 ∙ named.1 in
    record {
      fits = subst (Fits is_open asked) same (opens is_open opened.0 asked opened.1);
      ended = λ none. sym same ∙ ends opened.0 (has_lines texts) closes.0 none;
      named = named.0;
    }

-- *Lines that are read*, where a transaction is open in front of them or not
pub record AreLines (tools texts : List (List ℕ)) (is_open : Bool) (script : List ScriptLine) : Type 0 where
  pub fit : LinesFit is_open script
  pub end : (has_lines texts ≡ false → is_open ≡ false) → LinesEnd is_open script
  pub named : AllByRecursion (λ line. names_one_of tools line.word ≡ false) script

-- a line that was read
pub was_read : {A : Type 0} (number : ℕ) (read : Result A ScriptCode) (x : A) → at_line number read ≡ Ok x → read ≡ Ok x
was_read number (Ok y) x is = cc
was_read number (Err code) x is = absurd cc

-- one line more in front
more : (tools texts : List (List ℕ)) (text : List ℕ) (number : ℕ) (is_open following : Bool) (asked : Option ScriptWord) (others : List ScriptLine) → is_line (text_words text) ≡ is_some_line asked → fitting tools texts is_open asked ≡ Ok following → AreLines tools texts following others
    → AreLines tools (text ∷ texts) is_open (numbered number asked ++ others)
unfolding fitting
more tools texts text number is_open following None others line is are =
    let same : is_open ≡ following = cc in
    let lines_same : has_lines (text ∷ texts) ≡ has_lines texts = ap (λ (b : Bool). b || has_lines texts) line in
    record {
      fit = subst (λ (b : Bool). LinesFit b others) (sym same) are.fit;
      end = λ ended. subst (λ (b : Bool). LinesEnd b others) (sym same) (are.end (λ none. sym same ∙ ended (lines_same ∙ none)));
      named = are.named;
    }
more tools texts text number is_open following (Some asked) others line is are =
    let fits = fitting_is tools texts is_open following asked is in
    record {
      fit = (fits.fits.fits, subst (λ (b : Bool). LinesFit b others) fits.fits.behind_is are.fit);
      end = λ ended. subst (λ (b : Bool). LinesEnd b others) fits.fits.behind_is (are.end fits.ended);
      named = (fits.named, are.named);
    }

lines_are : (tools : List (List ℕ)) (is_open : Bool) (number : ℕ) (texts : List (List ℕ)) (script : List ScriptLine) → lines_from tools is_open number texts ≡ Ok script → AreLines tools texts is_open script
unfolding lines_from fitting_line
lines_are tools is_open number [] script is =
    subst (AreLines tools [] is_open) (ok_is {C = ScriptRefusal} [] script is) (record { fit = tt; end = λ ended. ended refl; named = tt })
lines_are tools is_open number (text ∷ texts) script is =
    let line = bind_ok (at_line number (fitting_line tools texts is_open text)) _ script is in
    let others = bind_ok (lines_from tools line.0.1 (next_line number) texts) (λ others. Ok (numbered number line.0.0 ++ others)) script line.2 in
    let was = was_read number (fitting_line tools texts is_open text) line.0 line.1 in
    let asked = bind_ok (line_of (text_words text)) _ line.0 was in
    let fits = bind_ok (fitting tools texts is_open asked.0) (λ is_open. Ok (asked.0, is_open)) line.0 asked.2 in
    let both : (asked.0, fits.0) ≡ line.0 = ok_is {C = ScriptCode} (asked.0, fits.0) line.0 fits.2 in
    let following : AreLines tools texts fits.0 others.0 = subst (λ (b : Bool). AreLines tools texts b others.0) (sym (ap (λ (l : Option ScriptWord × Bool). l.1) both)) (lines_are tools line.0.1 (next_line number) texts others.0 others.1) in
    let made = more tools texts text number is_open fits.0 asked.0 others.0 (line_is (text_words text) asked.0 asked.1) fits.1 following in
    subst (AreLines tools (text ∷ texts) is_open)
    (ap (λ (l : Option ScriptWord × Bool). numbered number l.0 ++ others.0) both ∙ ok_is {C = ScriptRefusal} (numbered number line.0.0 ++ others.0) script others.2) made

-- *Scripts that are read*
pub record IsScript (tools : List (List ℕ)) (script : List ScriptLine) : Type 0 where
  pub fit : LinesFit false script
  pub end : LinesEnd false script
  pub named : AllByRecursion (λ line. names_one_of tools line.word ≡ false) script

pub script_is : (tools : List (List ℕ)) (text : List ℕ) (script : List ScriptLine) → script_of tools text ≡ Ok script → IsScript tools script
script_is tools text script is =
    let are = lines_are tools false 1 (lines text) script is in
    record { fit = are.fit; end = are.end (λ none. refl); named = are.named }
