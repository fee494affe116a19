use Rattle.std.proofs.Common.{◌≡◌, ℕ, ◌≤◌, ◌-◌, Bool, true, false, cond, List, [], ◌∷◌, length, drop, slice_index_or, refl, sym, subst, ◌∙◌, arith, length-drop}
use Rattle.std.proofs.lemmas.List.{take_all}
use Rattle.std.specs.Prelude.{codes}
use Rattle.sql_grammar.specs.declared.token.Token.{Token}
use Rattle.sql_grammar.specs.Tokens.{is_keyword}
use Rattle.sql_grammar.specs.Versions.{is_auto_increment}
use Rattle.sql_create.specs.Options.{start_at, charset_at, option_at}
use Rattle.sql_create.proofs.options.option_at.Goals as goal

-- AUTO_INCREMENT, or what comes last
no-word : (version : ℕ) (words : List Token) (word : Token) (b : Bool) → 1 ≤ length words → word ≡ slice_index_or words 0 word
    → is_keyword word (codes "ENGINE") ≡ false → is_keyword word (codes "COMMENT") ≡ false → is_keyword word (codes "DEFAULT") ≡ false → is_auto_increment version word ≡ b
    → option_at version words ≡ cond b (start_at (drop 1 words)) (charset_at words)
unfolding option_at
no-word version [] word b some is engine comment default counter = absurd (omega arith)
no-word version (first ∷ rest) word b some is engine comment default counter =
    subst (λ (front : Token). option_at version (front ∷ rest) ≡ cond b (start_at rest) (charset_at (front ∷ rest))) is (rw (engine, comment, default, counter) refl)

pub returns-then-is_auto_increment : goal.returns-then-is_auto_increment
returns-then-is_auto_increment c =
    let rest = take_all (length c.args.words.now - 1) (drop 1 c.args.words.now) (omega (arith, length-drop 1 c.args.words.now)) in
    let started = rw rest at c.start_at.ensures in
    rw (no-word c.args.version c.args.words.now c.word-item.result true (omega arith) c.word-item.is (sym c.is_keyword.ensures ∙ c.if-is_keyword.false) (sym c.is_keyword-else-is_keyword.ensures ∙ c.if-is_keyword-2.false) (sym c.is_keyword-else-is_keyword-2.ensures ∙ c.if-is_keyword-3.false) (sym c.is_auto_increment.ensures ∙ c.if-is_auto_increment.true)) started

pub returns-else-is_auto_increment : goal.returns-else-is_auto_increment
returns-else-is_auto_increment c =
    rw (no-word c.args.version c.args.words.now c.word-item.result false (omega arith) c.word-item.is (sym c.is_keyword.ensures ∙ c.if-is_keyword.false) (sym c.is_keyword-else-is_keyword.ensures ∙ c.if-is_keyword-2.false) (sym c.is_keyword-else-is_keyword-2.ensures ∙ c.if-is_keyword-3.false) (sym c.is_auto_increment.ensures ∙ c.if-is_auto_increment.false)) c.charset_at.ensures
