-- Where rows with one more stand in order, it has a key that none of the others has.
use Rattle.std.proofs.Common.{◌≡◌, ℕ, List, [], ◌∷◌, find, cond, Some, None, Ordering, Less, Equal, Greater, refl}
use Rattle.std.specs.Ordering.{is_eq, match_ordering}
use Rattle.std.specs.List.{AllByRecursion}
use Rattle.base_values.specs.KeyOrder.{compare_keys}
use Rattle.base_values.specs.GhoSchema.Rows.{key_of, with_row}
use Rattle.base_values.specs.GhoSchema.Tables.{Ascends}
use Rattle.table_store.specs.RowLists.{is_at}
use Rattle.table_store.proofs.Orders.{Row}
use Rattle.table_store.proofs.FoundRows.{none_found, none_at}
use Rattle.server_seen.specs.FittingChanges.{IsNewAmong}

none_after : (places : List ℕ) (row : Row) (rows : List Row) → AllByRecursion (λ other. compare_keys (key_of places row) (key_of places other) ≡ Less) rows → IsNewAmong places rows row
none_after places row rows less = none_found (is_at places (key_of places row)) (is_at places (key_of places row)) rows (λ other fails. fails) (none_at places row rows less)

first_is : (places : List ℕ) (row first : Row) (rows placed : List Row) (o : Ordering) → compare_keys (key_of places row) (key_of places first) ≡ o → Ascends places (match_ordering o (row ∷ first ∷ rows) (row ∷ first ∷ rows) (first ∷ placed))
    → (Ascends places placed → IsNewAmong places rows row) → cond (is_eq o) (Some first) (find (is_at places (key_of places row)) rows) ≡ None
first_is places row first rows placed Less is ascends rest = none_after places row rows ascends.0.1
first_is places row first rows placed Equal is ascends rest = let less = ascends.0.0 in absurd (cc)
first_is places row first rows placed Greater is ascends rest = rest ascends.1

pub new_from : (places : List ℕ) (row : Row) (rows : List Row) → Ascends places (with_row places row rows) → IsNewAmong places rows row
unfolding with_row
new_from places row [] ascends = refl
new_from places row (first ∷ rows) ascends = first_is places row first rows (with_row places row rows) (compare_keys (key_of places row) (key_of places first)) refl ascends (new_from places row rows)
