-- Rows in order of their key, with one more.
use Rattle.std.proofs.Common.{◌≡◌, ℕ, Bool, true, false, List, [], ◌∷◌, Some, None, cond, Ordering, Less, Equal, Greater, refl, sym, ap, ◌∙◌}
use Rattle.std.proofs.lemmas.Bool.{or_parts, false≢true}
use Rattle.std.specs.Cmp.{IsTotalOrder}
use Rattle.std.specs.Ordering.{is_eq, match_ordering, ordering_reverse}
use Rattle.std.specs.List.{AllByRecursion, list_any}
use Rattle.base_values.specs.declared.value.Value.{Value}
use Rattle.base_values.specs.KeyOrder.{compare_keys}
use Rattle.base_values.specs.declared.gho_schema.schema.Column.{Column}
use Rattle.base_values.specs.GhoSchema.Rows.{key_of, has_key, with_row, put}
use Rattle.base_values.specs.GhoSchema.Tables.{IsRow, Ascends}

abbrev pub Row : Type 0
Row = List Value

-- whatever holds of the row and of the others holds of all
all_placed : (P : Row → Type 0) (o : Ordering) (row first : Row) (rows placed : List Row) → P row → P first → AllByRecursion P rows → AllByRecursion P placed
    → AllByRecursion P (match_ordering o (row ∷ first ∷ rows) (row ∷ first ∷ rows) (first ∷ placed))
all_placed P Less row first rows placed r f others p = (r, (f, others))
all_placed P Equal row first rows placed r f others p = (r, (f, others))
all_placed P Greater row first rows placed r f others p = (f, p)

pub all-with_row : (P : Row → Type 0) (places : List ℕ) (row : Row) (rows : List Row) → P row → AllByRecursion P rows → AllByRecursion P (with_row places row rows)
unfolding with_row
all-with_row P places row [] r others = (r, tt)
all-with_row P places row (first ∷ rows) r others =
    all_placed P (compare_keys (key_of places row) (key_of places first)) row first rows (with_row places row rows) r others.0 others.1 (all-with_row P places row rows r others.1)

-- what comes before a row comes before those behind it
before_all : IsTotalOrder compare_keys → (places : List ℕ) (row first : Row) (rows : List Row) → compare_keys (key_of places row) (key_of places first) ≡ Less
    → AllByRecursion (λ other. compare_keys (key_of places first) (key_of places other) ≡ Less) rows → AllByRecursion (λ other. compare_keys (key_of places row) (key_of places other) ≡ Less) rows
before_all total places row first [] less others = tt
before_all total places row first (next ∷ rows) less others =
    (total.trans (key_of places row) (key_of places first) (key_of places next) less others.0, before_all total places row first rows less others.1)

placed_ascends : IsTotalOrder compare_keys → (o : Ordering) (places : List ℕ) (row first : Row) (rows : List Row) → compare_keys (key_of places row) (key_of places first) ≡ o → is_eq o ≡ false
    → Ascends places (first ∷ rows) → Ascends places (with_row places row rows) → Ascends places (match_ordering o (row ∷ first ∷ rows) (row ∷ first ∷ rows) (first ∷ with_row places row rows))
placed_ascends total Less places row first rows is other ascends placed = ((is, before_all total places row first rows is ascends.0), ascends)
placed_ascends total Equal places row first rows is other ascends placed = absurd (false≢true (sym other))
placed_ascends total Greater places row first rows is other ascends placed =
    let less : compare_keys (key_of places first) (key_of places row) ≡ Less = total.antisymm (key_of places first) (key_of places row) ∙ ap ordering_reverse is in
    (all-with_row (λ other. compare_keys (key_of places first) (key_of places other) ≡ Less) places row rows less ascends.0, placed)

ascends-with_row : IsTotalOrder compare_keys → (places : List ℕ) (row : Row) (rows : List Row) → has_key places rows (key_of places row) ≡ false → Ascends places rows → Ascends places (with_row places row rows)
unfolding has_key with_row
ascends-with_row total places row [] new ascends = (tt, tt)
ascends-with_row total places row (first ∷ rows) new ascends =
    let parts = or_parts (is_eq (compare_keys (key_of places row) (key_of places first))) (list_any (λ row'. is_eq (compare_keys (key_of places row) (key_of places row'))) rows) new in
    placed_ascends total (compare_keys (key_of places row) (key_of places first)) places row first rows refl parts.0 ascends (ascends-with_row total places row rows parts.1 ascends.1)

-- what is put has a new key
pub some_put : (b : Bool) (rows new : List Row) → cond b None (Some rows) ≡ Some new → (b ≡ false) × (rows ≡ new)
some_put true rows new is = absurd (cc)
some_put false rows new is = (refl, cc)

pub put_keeps : IsTotalOrder compare_keys → (columns : List Column) (places : List ℕ) (row : Row) (rows new : List Row) → AllByRecursion (IsRow columns) rows → Ascends places rows → IsRow columns row → put places row rows ≡ Some new
    → AllByRecursion (IsRow columns) new × Ascends places new
put_keeps total columns places row rows new fit ascends fits is =
    let parts = some_put (has_key places rows (key_of places row)) (with_row places row rows) new is in
    rw (← parts.1) (all-with_row (IsRow columns) places row rows fits fit, ascends-with_row total places row rows parts.0 ascends)
