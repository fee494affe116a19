-- Rows stay in order where one is put in its place, and where some are taken out.
use Rattle.std.proofs.Common.{◌≡◌, ℕ, Bool, true, false, List, [], ◌∷◌, find, filter, cond, Option, Some, None, Ordering, Less, Equal, Greater, refl, ap, ◌∙◌}
use Rattle.std.specs.Ordering.{is_eq, match_ordering, ordering_reverse}
use Rattle.std.specs.List.{AllByRecursion}
use Rattle.base_values.specs.KeyOrder.{compare_keys}
use Rattle.base_values.proofs.Orders.{keys_total}
use Rattle.base_values.specs.GhoSchema.Rows.{key_of, with_row}
use Rattle.base_values.specs.GhoSchema.Tables.{Ascends}
use Rattle.base_values.proofs.GhoSchema.Orders.{all-with_row}
use Rattle.table_store.specs.RowLists.{is_at}
use Rattle.table_store.proofs.Orders.{Row}

-- what comes before a row comes before those behind it
pub before_all : (places : List ℕ) (row first : Row) (rows : List Row) → compare_keys (key_of places row) (key_of places first) ≡ Less
    → AllByRecursion (λ other. compare_keys (key_of places first) (key_of places other) ≡ Less) rows → AllByRecursion (λ other. compare_keys (key_of places row) (key_of places other) ≡ Less) rows
before_all places row first [] less others = tt
before_all places row first (next ∷ rows) less others =
    (keys_total.trans (key_of places row) (key_of places first) (key_of places next) less others.0, before_all places row first rows less others.1)

placed_ascends : (o : Ordering) (places : List ℕ) (row first : Row) (rows : List Row) → compare_keys (key_of places row) (key_of places first) ≡ o → is_eq o ≡ false
    → Ascends places (first ∷ rows) → Ascends places (with_row places row rows) → Ascends places (match_ordering o (row ∷ first ∷ rows) (row ∷ first ∷ rows) (first ∷ with_row places row rows))
placed_ascends Less places row first rows is other ascends placed = ((is, before_all places row first rows is ascends.0), ascends)
placed_ascends Equal places row first rows is other ascends placed = absurd (cc)
placed_ascends Greater places row first rows is other ascends placed =
    let less : compare_keys (key_of places first) (key_of places row) ≡ Less = keys_total.antisymm (key_of places first) (key_of places row) ∙ ap ordering_reverse is in
    (all-with_row (λ other. compare_keys (key_of places first) (key_of places other) ≡ Less) places row rows less ascends.0, placed)

pub none_parts : (b : Bool) (row : Row) (rest : Option Row) → cond b (Some row) rest ≡ None → (b ≡ false) × (rest ≡ None)
none_parts true row rest none = absurd (cc)
none_parts false row rest none = (refl, none)

pub ascends-with_row : (places : List ℕ) (row : Row) (rows : List Row) → find (is_at places (key_of places row)) rows ≡ None → Ascends places rows → Ascends places (with_row places row rows)
unfolding with_row
ascends-with_row places row [] new ascends = (tt, tt)
ascends-with_row places row (first ∷ rows) new ascends =
    let parts = none_parts (is_at places (key_of places row) first) first (find (is_at places (key_of places row)) rows) new in
    placed_ascends (compare_keys (key_of places row) (key_of places first)) places row first rows refl parts.0 ascends (ascends-with_row places row rows parts.1 ascends.1)

all_kept : (P : Row → Type 0) (b : Bool) (row : Row) (rows : List Row) → P row → AllByRecursion P rows → AllByRecursion P (cond b (row ∷ rows) rows)
all_kept P true row rows r others = (r, others)
all_kept P false row rows r others = others

pub all-filter : (P : Row → Type 0) (test : Row → Bool) (rows : List Row) → AllByRecursion P rows → AllByRecursion P (filter test rows)
all-filter P test [] all = tt
all-filter P test (row ∷ rows) all = all_kept P (test row) row (filter test rows) all.0 (all-filter P test rows all.1)

kept_ascends : (places : List ℕ) (b : Bool) (row : Row) (rows : List Row) → AllByRecursion (λ other. compare_keys (key_of places row) (key_of places other) ≡ Less) rows → Ascends places rows → Ascends places (cond b (row ∷ rows) rows)
kept_ascends places true row rows less ascends = (less, ascends)
kept_ascends places false row rows less ascends = ascends

pub ascends-filter : (places : List ℕ) (test : Row → Bool) (rows : List Row) → Ascends places rows → Ascends places (filter test rows)
ascends-filter places test [] ascends = tt
ascends-filter places test (row ∷ rows) ascends =
    kept_ascends places (test row) row (filter test rows) (all-filter (λ other. compare_keys (key_of places row) (key_of places other) ≡ Less) test rows ascends.0) (ascends-filter places test rows ascends.1)
