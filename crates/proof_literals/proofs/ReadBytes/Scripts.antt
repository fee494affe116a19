-- The literals that the statements of a script store have bytes, where its text has.
use Rattle.std.proofs.Common.{◌≡◌, ◌<◌, ℕ, Bool, true, false, cond, ◌-◌, ◌==◌, List, [], ◌∷◌, length, take, Option, Some, None, Result, Ok, Err, refl, subst, codes}
use Rattle.std.specs.Prelude.{slice_index}
use Rattle.std.specs.List.{AllByRecursion, onto_first, slice_split}
use Rattle.std.specs.Option.{IfSome}
use Rattle.std.specs.Result.{IfOk}
use Rattle.std.specs.Str.Lines.{lines, lines_of_parts}
use Rattle.base_script.specs.declared.script.ScriptLine.{ScriptLine}
use Rattle.base_script.specs.declared.script.ScriptWord.{ScriptWord}
use Rattle.base_script.specs.declared.script.ScriptWord.TheVariants.{Begin, Commit, Rollback}
use Rattle.base_script.specs.declared.statement.Set.{Set}
use Rattle.base_values.specs.declared.value.Value.{Value}
use Rattle.base_values.specs.SchemaRules.Results.{◌>>=◌}
use Rattle.base_values.proofs.SchemaRules.Lists.{All-append, All-weaker}
use Rattle.sql_grammar.specs.declared.code.SchemaCode.{SchemaCode}
use Rattle.sql_grammar.specs.declared.code.SchemaCode.TheVariants as schemas
use Rattle.sql_grammar.specs.declared.token.Token.{Token}
use Rattle.sql_grammar.specs.declared.tokens.TextWords.{TextWords}
use Rattle.sql_grammar.specs.Keys as keys
use Rattle.sql_grammar.specs.Pieces.{after_sign, found_at, literal_of, with_rest}
use Rattle.sql_grammar.specs.Pieces as table
use Rattle.sql_grammar.specs.Tokens.{is_keyword, same_sign, text_words}
use Rattle.sql_statement.specs.declared.code.ScriptCode.{ScriptCode}
use Rattle.sql_statement.specs.declared.code.ScriptCode.TheVariants as script_codes
use Rattle.sql_statement.specs.declared.code.StatementCode.{StatementCode}
use Rattle.sql_statement.specs.declared.code.StatementCode.TheVariants.{Scope, Syntax}
use Rattle.sql_statement.specs.declared.rows.RowText.{RowText}
use Rattle.sql_statement.specs.Conditions.{condition_at}
use Rattle.sql_statement.specs.Lines.{asked_of, line_of, of_statement}
use Rattle.sql_statement.specs.Pieces.{fits, keyword_at, literal_at, name_at, names_at, sign_at}
use Rattle.sql_statement.specs.Rows.{columns_at, in_parentheses, literals_at, row_at, set_at, sets_at, values_at}
use Rattle.sql_statement.specs.Scope.{is_out_of_scope}
use Rattle.sql_statement.specs.Scripts.{at_line, fitting, fitting_line, lines_from, next_line, numbered, script_of}
use Rattle.sql_statement.specs.Statements.{asked_at, delete_at, ended, insert_at, replace_at, select_at, start_at, statement_of, update_at}
use Rattle.proof_schemas.specs.Printed.Laws.{CanQuote}
use Rattle.proof_schemas.proofs.ReadAgain.Sound.{All-take, AreSound, text-sound}
use Rattle.proof_schemas.proofs.ReadAgain.SoundReaders.{Leaves, LeavesWords, SomeSound, after_sign-sound, keyword-sound, listed-sound, name_at-sound, sign-sound}
use Rattle.proof_schemas.proofs.ReadAgain.SoundValues.{SoundValue, literal-sound}
use Rattle.proof_plain.specs.Plain.{AreBytes, HasBytes}
use Rattle.proof_plain.specs.Plans.{HasByteLiterals}
use Rattle.proof_plain.proofs.Values.{sound_bytes}
use Rattle.proof_literals.proofs.ReadBytes.Steps.{ok_if, ok_then, then_ok}

-- ---- single words

-- what is read, and the words behind it, are sound
abbrev pub Reads : {A C : Type 0} → (A → Type 0) → Result (A × List Token) C → Type 0
Reads P r = IfOk r (λ x. P x.0 × AreSound x.1)

reads : {A C : Type 0} (P : A → Type 0) (r : Result (A × List Token) C) → Leaves P r → Reads P r
reads P (Ok x) leaves = leaves x refl
reads P (Err code) leaves = tt

leaves : {A C : Type 0} (P : A → Type 0) (r : Result (A × List Token) C) → Reads P r → Leaves P r
leaves P r is x e = subst (λ read. Reads P read) e is

words_read : {C : Type 0} (r : Result (List Token) C) → LeavesWords r → IfOk r AreSound
words_read (Ok words) left = left words refl
words_read (Err code) left = tt

fits_so : {A : Type 0} (P : A → Type 0) (r : Result A SchemaCode) → IfOk r P → IfOk (fits r) P
fits_so P (Ok x) is = is
fits_so P (Err code) is = tt

pub literal_reads : (words : List Token) → AreSound words → Reads SoundValue (table.literal_at words)
unfolding table.literal_at
literal_reads [] sound = tt
literal_reads (word ∷ rest) sound = by (literal_of word) refl where
  by : (value : Option Value) → literal_of word ≡ value → Reads SoundValue (found_at (word ∷ rest) (with_rest rest value))
  by (Some value) is = (literal-sound word sound.0 value is, sound.1)
  by None is = tt

keyword_reads : (known : List ℕ) (words : List Token) → AreSound words → IfOk (keyword_at known words) AreSound
keyword_reads known words sound = fits_so AreSound (table.keyword_at known words) (words_read (table.keyword_at known words) (keyword-sound known words sound))

sign_reads : (known : List ℕ) (words : List Token) → AreSound words → IfOk (sign_at known words) AreSound
sign_reads known words sound = fits_so AreSound (table.sign_at known words) (words_read (table.sign_at known words) (sign-sound known words sound))

abbrev NameRead : List ℕ × List Token → Type 0
NameRead read = CanQuote read.0 × AreSound read.1

name_reads : (words : List Token) → AreSound words → IfOk (name_at words) NameRead
name_reads words sound = fits_so NameRead (table.name_at words) (reads CanQuote (table.name_at words) (name_at-sound words sound))

abbrev NamesRead : List (List ℕ) × List Token → Type 0
NamesRead read = AllByRecursion CanQuote read.0 × AreSound read.1

names_read : (words : List Token) → AreSound words → IfOk (names_at words) NamesRead
unfolding keys.names_at
names_read words sound = fits_so NamesRead (keys.names_at words) (reads (AllByRecursion CanQuote) (keys.names_at words) (listed-sound CanQuote table.name_at schemas.Syntax name_at-sound (length words) words sound))

abbrev ValueRead : Value × List Token → Type 0
ValueRead read = SoundValue read.0 × AreSound read.1

value_reads : (words : List Token) → AreSound words → IfOk (literal_at words) ValueRead
value_reads words sound = fits_so ValueRead (table.literal_at words) (literal_reads words sound)

-- ---- rows

values_listed : (words : List Token) → AreSound words → Reads (AllByRecursion SoundValue) (literals_at words)
unfolding literals_at
values_listed words sound = reads (AllByRecursion SoundValue) (literals_at words) (listed-sound SoundValue literal_at Syntax (λ rest left. leaves SoundValue (literal_at rest) (value_reads rest left)) (length words) words sound)

abbrev SetHas : Set → Type 0
SetHas set = SoundValue set.value

set_reads : (words : List Token) → AreSound words → Reads SetHas (set_at words)
unfolding set_at
set_reads words sound =
    ok_then NameRead (λ read. SetHas read.0 × AreSound read.1) (name_at words) _ (name_reads words sound)
    (λ column is. ok_then AreSound (λ read. SetHas read.0 × AreSound read.1) (sign_at (codes "=") column.1) _ (sign_reads (codes "=") column.1 is.1)
    (λ rest left. ok_then ValueRead (λ read. SetHas read.0 × AreSound read.1) (literal_at rest) _ (value_reads rest left) (λ value own. own)))

sets_listed : (words : List Token) → AreSound words → Reads (AllByRecursion SetHas) (sets_at words)
unfolding sets_at
sets_listed words sound = reads (AllByRecursion SetHas) (sets_at words) (listed-sound SetHas set_at Syntax (λ rest left. leaves SetHas (set_at rest) (set_reads rest left)) (length words) words sound)

abbrev ColumnsRead : Option (List (List ℕ)) × List Token → Type 0
ColumnsRead read = AreSound read.1

columns_read : (words : List Token) → AreSound words → IfOk (columns_at words) ColumnsRead
unfolding columns_at
columns_read words sound = by (after_sign (codes "(") words) (after_sign-sound (codes "(") words sound) where
  by : (opened : Option (List Token)) → SomeSound opened → IfOk (in_parentheses words opened) ColumnsRead
  by None following = sound
  by (Some rest) following =
      ok_then NamesRead ColumnsRead (names_at rest) _ (names_read rest (following rest refl))
      (λ names is. ok_then AreSound ColumnsRead (sign_at (codes ")") names.1) _ (sign_reads (codes ")") names.1 is.1) (λ rest left. left))

abbrev ValuesRead : List Value × List Token → Type 0
ValuesRead read = AllByRecursion SoundValue read.0

values_read : (words : List Token) → AreSound words → IfOk (values_at words) ValuesRead
unfolding values_at
values_read words sound =
    ok_then AreSound ValuesRead (keyword_at (codes "VALUES") words) _ (keyword_reads (codes "VALUES") words sound)
    (λ rest left. ok_then AreSound ValuesRead (sign_at (codes "(") rest) _ (sign_reads (codes "(") rest left)
    (λ rest left. ok_then (λ read. AllByRecursion SoundValue read.0 × AreSound read.1) ValuesRead (literals_at rest) _ (values_listed rest left)
    (λ values is. then_ok ValuesRead (sign_at (codes ")") values.1) _ (λ rest. is.0))))

abbrev RowRead : RowText × List Token → Type 0
RowRead read = AllByRecursion SoundValue read.0.values

row_reads : (words : List Token) → AreSound words → IfOk (row_at words) RowRead
unfolding row_at
row_reads words sound =
    ok_then AreSound RowRead (keyword_at (codes "INTO") words) _ (keyword_reads (codes "INTO") words sound)
    (λ rest left. ok_then NameRead RowRead (name_at rest) _ (name_reads rest left)
    (λ table is. ok_then ColumnsRead RowRead (columns_at table.1) _ (columns_read table.1 is.1)
    (λ columns left. ok_then ValuesRead RowRead (values_at columns.1) _ (values_read columns.1 left) (λ values all. all))))

-- ---- statements

abbrev WordRead : ScriptWord × List Token → Type 0
WordRead read = HasByteLiterals read.0

all_bytes : (values : List Value) → AllByRecursion SoundValue values → AllByRecursion HasBytes values
all_bytes values all = All-weaker SoundValue HasBytes sound_bytes values all

insert_bytes : (words : List Token) → AreSound words → IfOk (insert_at words) WordRead
unfolding insert_at
insert_bytes words sound = ok_then RowRead WordRead (row_at words) _ (row_reads words sound) (λ row all. all_bytes row.0.values all)

replace_bytes : (words : List Token) → AreSound words → IfOk (replace_at words) WordRead
unfolding replace_at
replace_bytes words sound = ok_then RowRead WordRead (row_at words) _ (row_reads words sound) (λ row all. all_bytes row.0.values all)

delete_bytes : (words : List Token) → IfOk (delete_at words) WordRead
unfolding delete_at
delete_bytes words = then_ok WordRead (keyword_at (codes "FROM") words) _ (λ rest. then_ok WordRead (name_at rest) _ (λ table. then_ok WordRead (condition_at table.1) _ (λ condition. tt)))

update_bytes : (words : List Token) → AreSound words → IfOk (update_at words) WordRead
unfolding update_at
update_bytes words sound =
    ok_then NameRead WordRead (name_at words) _ (name_reads words sound)
    (λ table is. ok_then AreSound WordRead (keyword_at (codes "SET") table.1) _ (keyword_reads (codes "SET") table.1 is.1)
    (λ rest left. ok_then (λ read. AllByRecursion SetHas read.0 × AreSound read.1) WordRead (sets_at rest) _ (sets_listed rest left)
    (λ sets all. then_ok WordRead (condition_at sets.1) _ (λ condition. All-weaker SetHas (λ set. HasBytes set.value) (λ set own. sound_bytes set.value own) sets.0 all.0))))

select_bytes : (words : List Token) → IfOk (select_at words) WordRead
unfolding select_at
select_bytes words = then_ok WordRead _ _ (λ shown. then_ok WordRead (keyword_at (codes "FROM") shown.1) _ (λ rest. then_ok WordRead (name_at rest) _ (λ table. then_ok WordRead (condition_at table.1) _ (λ condition. tt))))

start_bytes : (words : List Token) → IfOk (start_at words) WordRead
start_bytes words = then_ok WordRead (keyword_at (codes "TRANSACTION") words) _ (λ rest. tt)

asked_bytes : (words : List Token) → AreSound words → IfOk (asked_at words) WordRead
unfolding asked_at
asked_bytes [] sound = tt
asked_bytes (word ∷ rest) sound =
    ok_if WordRead (is_keyword word (codes "INSERT")) (insert_at rest) _ (insert_bytes rest sound.1)
    (ok_if WordRead (is_keyword word (codes "REPLACE")) (replace_at rest) _ (replace_bytes rest sound.1)
    (ok_if WordRead (is_keyword word (codes "DELETE")) (delete_at rest) _ (delete_bytes rest)
    (ok_if WordRead (is_keyword word (codes "UPDATE")) (update_at rest) _ (update_bytes rest sound.1)
    (ok_if WordRead (is_keyword word (codes "SELECT")) (select_at rest) _ (select_bytes rest)
    (ok_if WordRead (is_keyword word (codes "BEGIN")) (Ok (Begin, rest)) _ tt
    (ok_if WordRead (is_keyword word (codes "START")) (start_at rest) _ (start_bytes rest)
    (ok_if WordRead (is_keyword word (codes "COMMIT")) (Ok (Commit, rest)) _ tt (ok_if WordRead (is_keyword word (codes "ROLLBACK")) (Ok (Rollback, rest)) (Err Syntax) tt tt))))))))

ended_bytes : (word : ScriptWord) (words : List Token) → HasByteLiterals word → IfOk (ended word words) HasByteLiterals
ended_bytes word [] has = has
ended_bytes word (last ∷ []) has = ok_if HasByteLiterals (same_sign last (codes ";")) (Ok word) (Err Syntax) has tt
ended_bytes word (last ∷ (other ∷ rest)) has = tt

statement_bytes : (words : List Token) → AreSound words → IfOk (statement_of words) HasByteLiterals
unfolding statement_of
statement_bytes words sound =
    ok_if HasByteLiterals (is_out_of_scope words) (Err Scope) (asked_at words >>= (λ asked. ended asked.0 asked.1)) tt
    (ok_then WordRead HasByteLiterals (asked_at words) (λ asked. ended asked.0 asked.1) (asked_bytes words sound) (λ asked has. ended_bytes asked.0 asked.1 has))

-- ---- lines

abbrev LineHas : Option ScriptWord → Type 0
LineHas asked = IfSome asked HasByteLiterals

line_bytes : (text : TextWords) → AreSound text.words → IfOk (line_of text) LineHas
line_bytes text sound = ok_if LineHas text.is_faulty (Err script_codes.Word) (asked_of text.words) tt (by text.words sound) where
  said : (read : Result ScriptWord StatementCode) → IfOk read HasByteLiterals → IfOk (of_statement read) LineHas
  said (Ok word) has = has
  said (Err code) has = tt

  by : (words : List Token) → AreSound words → IfOk (asked_of words) LineHas
  by [] sound = tt
  by (word ∷ rest) sound = said (statement_of (word ∷ rest)) (statement_bytes (word ∷ rest) sound)

abbrev FittingHas : Option ScriptWord × Bool → Type 0
FittingHas line = LineHas line.0

fitting_bytes : (tools texts : List (List ℕ)) (is_open : Bool) (text : List ℕ) → AreBytes text → IfOk (fitting_line tools texts is_open text) FittingHas
unfolding fitting_line
fitting_bytes tools texts is_open text are = ok_then LineHas FittingHas (line_of (text_words text)) _ (line_bytes (text_words text) (text-sound text are)) (λ asked has. then_ok FittingHas (fitting tools texts is_open asked) _ (λ is_open. has))

at_bytes : {A : Type 0} (P : A → Type 0) (number : ℕ) (read : Result A ScriptCode) → IfOk read P → IfOk (at_line number read) P
at_bytes P number (Ok x) has = has
at_bytes P number (Err code) has = tt

abbrev pub ScriptHas : List ScriptLine → Type 0
ScriptHas script = AllByRecursion (λ line. HasByteLiterals line.word) script

numbered_bytes : (number : ℕ) (asked : Option ScriptWord) → LineHas asked → ScriptHas (numbered number asked)
numbered_bytes number None has = tt
numbered_bytes number (Some word) has = (has, tt)

lines_bytes : (tools : List (List ℕ)) (is_open : Bool) (number : ℕ) (texts : List (List ℕ)) → AllByRecursion AreBytes texts → IfOk (lines_from tools is_open number texts) ScriptHas
unfolding lines_from
lines_bytes tools is_open number [] are = tt
lines_bytes tools is_open number (text ∷ texts) are =
    ok_then FittingHas ScriptHas (at_line number (fitting_line tools texts is_open text)) _ (at_bytes FittingHas number (fitting_line tools texts is_open text) (fitting_bytes tools texts is_open text are.0))
    (λ line has. ok_then ScriptHas ScriptHas (lines_from tools line.1 (next_line number) texts) _ (lines_bytes tools line.1 (next_line number) texts are.1)
    (λ others all. All-append (λ (line : ScriptLine). HasByteLiterals line.word) (numbered number line.0) others (numbered_bytes number line.0 has) all))

-- ---- a text's lines

onto_bytes : (byte : ℕ) (parts : List (List ℕ)) → AreBytes (byte ∷ []) → AllByRecursion AreBytes parts → AllByRecursion AreBytes (onto_first byte parts)
onto_bytes byte [] is are = (is, tt)
onto_bytes byte (part ∷ parts) is are = ((is.0, are.0), are.1)

parts_bytes : (text : List ℕ) → AreBytes text → AllByRecursion AreBytes (slice_split (λ b. b == 10) text)
parts_bytes [] are = (tt, tt)
parts_bytes (byte ∷ rest) are = by (byte == 10) (parts_bytes rest are.1) where
  by : (b : Bool) → AllByRecursion AreBytes (slice_split (λ b. b == 10) rest) → AllByRecursion AreBytes (cond b ([] ∷ slice_split (λ b. b == 10) rest) (onto_first byte (slice_split (λ b. b == 10) rest)))
  by true all = (tt, all)
  by false all = onto_bytes byte (slice_split (λ b. b == 10) rest) (are.0, tt) all

text_lines : (parts : List (List ℕ)) → AllByRecursion AreBytes parts → AllByRecursion AreBytes (lines_of_parts parts)
text_lines [] are = tt
text_lines (part ∷ []) are = by (length part == 0) where
  by : (b : Bool) → AllByRecursion AreBytes (cond b [] (part ∷ []))
  by true = tt
  by false = are
text_lines (part ∷ (next ∷ more)) are = (by (slice_index part (length part - 1) == 13), text_lines (next ∷ more) are.1) where
  by : (b : Bool) → AreBytes (cond b (take (length part - 1) part) part)
  by true = All-take (λ (b : ℕ). b < 256) (length part - 1) part are.0
  by false = are.0

-- *Scripts of texts of bytes store bytes*
pub script_bytes : (tools : List (List ℕ)) (text : List ℕ) → AreBytes text → IfOk (script_of tools text) ScriptHas
script_bytes tools text are = lines_bytes tools false 1 (lines text) (text_lines (slice_split (λ b. b == 10) text) (parts_bytes text are))
