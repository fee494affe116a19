use Rattle.std.proofs.Common.{◌≡◌, ℕ, ◌≤◌, Bool, true, false, ◌||◌, cond, List, [], ◌∷◌, length, slice_index_or, Err, refl, sym, subst, ◌∙◌, arith}
use Rattle.std.specs.Prelude.{codes}
use Rattle.sql_grammar.specs.declared.code.SchemaCode.TheVariants.{Scope}
use Rattle.sql_grammar.specs.declared.token.Token.{Token}
use Rattle.sql_grammar.specs.Scope.{begins_no_item}
use Rattle.sql_grammar.specs.Tokens.{is_keyword}
use Rattle.sql_create.specs.Written.{column_item_at, item_at}
use Rattle.sql_create.proofs.table.item_at.Goals as goal
use Rattle.sql_create.proofs.table.item_at.Goals.{then-is_keyword-3, else-is_keyword-3}

-- an item that no keyword begins
no-key : (version : ℕ) (words : List Token) (word : Token) (b : Bool) → 1 ≤ length words → word ≡ slice_index_or words 0 word
    → is_keyword word (codes "PRIMARY") ≡ false → is_keyword word (codes "UNIQUE") ≡ false → (is_keyword word (codes "KEY") || is_keyword word (codes "INDEX")) ≡ false → begins_no_item version word ≡ b
    → item_at version words ≡ cond b (Err Scope) (column_item_at version words)
unfolding item_at
no-key version [] word b some is primary unique key none = absurd (omega arith)
no-key version (first ∷ rest) word b some is primary unique key none =
    subst (λ (front : Token). item_at version (front ∷ rest) ≡ cond b (Err Scope) (column_item_at version (front ∷ rest))) is (rw (primary, unique, key, none) refl)

neither : (a b : Bool) → a ≡ false → b ≡ false → (a || b) ≡ false
neither true b no_a no_b = absurd cc
neither false b no_a no_b = no_b

pub returns-then-begins_no_item : goal.returns-then-begins_no_item
returns-then-begins_no_item c =
    let word = c.word-item.result in
    let key : (is_keyword word (codes "KEY") || is_keyword word (codes "INDEX")) ≡ false = elim c.if-is_keyword-3.branch [
      | then-is_keyword-3 w ↦ let on = w.value-is in let off = c.if-is_keyword-4.false in absurd cc
      | else-is_keyword-3 w ↦ neither (is_keyword word (codes "KEY")) (is_keyword word (codes "INDEX")) (sym c.is_keyword-else-is_keyword-2.ensures ∙ w.if-is_keyword-3.false) (sym w.is_keyword-else-is_keyword-3.ensures ∙ sym w.value-is ∙ c.if-is_keyword-4.false)
    ] in
    no-key c.args.version c.args.words.now word true (omega arith) c.word-item.is (sym c.is_keyword.ensures ∙ c.if-is_keyword.false) (sym c.is_keyword-else-is_keyword.ensures ∙ c.if-is_keyword-2.false) key (sym c.begins_no_item.ensures ∙ c.if-begins_no_item.true)

pub returns-else-begins_no_item : goal.returns-else-begins_no_item
returns-else-begins_no_item c =
    let word = c.word-item.result in
    let key : (is_keyword word (codes "KEY") || is_keyword word (codes "INDEX")) ≡ false = elim c.if-is_keyword-3.branch [
      | then-is_keyword-3 w ↦ let on = w.value-is in let off = c.if-is_keyword-4.false in absurd cc
      | else-is_keyword-3 w ↦ neither (is_keyword word (codes "KEY")) (is_keyword word (codes "INDEX")) (sym c.is_keyword-else-is_keyword-2.ensures ∙ w.if-is_keyword-3.false) (sym w.is_keyword-else-is_keyword-3.ensures ∙ sym w.value-is ∙ c.if-is_keyword-4.false)
    ] in
    rw (no-key c.args.version c.args.words.now word false (omega arith) c.word-item.is (sym c.is_keyword.ensures ∙ c.if-is_keyword.false) (sym c.is_keyword-else-is_keyword.ensures ∙ c.if-is_keyword-2.false) key (sym c.begins_no_item.ensures ∙ c.if-begins_no_item.false)) c.column_item_at.ensures
