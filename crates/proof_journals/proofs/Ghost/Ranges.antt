-- All rows lie in the range that is read, and a chunk's keys are those of the rows in its span.
use Rattle.std.proofs.Common.{◌≡◌, ℕ, true, List, [], ◌∷◌, Ordering, Less, Equal, Greater, refl, sym, ap, ◌∙◌}
use Rattle.std.proofs.lemmas.Bool.{false≢true}
use Rattle.std.proofs.lemmas.Cmp.{tied_itself}
use Rattle.std.specs.List.{AllByRecursion}
use Rattle.std.specs.Ordering.{is_le}
use Rattle.base_values.specs.KeyOrder.{compare_keys}
use Rattle.base_values.proofs.Orders.{keys_total}
use Rattle.base_values.specs.declared.span.Bound.TheVariants.{Closed}
use Rattle.base_values.specs.Spans.{has}
use Rattle.base_values.specs.GhoSchema.Rows.{key_of}
use Rattle.base_values.specs.GhoSchema.Tables.{Ascends}
use Rattle.table_store.proofs.Orders.{Row}
use Rattle.server_model.specs.Chunks.{keys_of, last_of}

-- the last key of rows is no less than any
pub tied : (key : Row) → is_le (compare_keys key key) ≡ true
tied key = ap is_le (tied_itself keys_total key)

pub less_then : (a b c : Row) (o : Ordering) → compare_keys b c ≡ o → compare_keys a b ≡ Less → is_le o ≡ true → is_le (compare_keys a c) ≡ true
less_then a b c Less is less le = ap is_le (keys_total.trans a b c less is)
less_then a b c Equal is less le = ap is_le (sym (Rattle.std.proofs.lemmas.Cmp.alike_right keys_total b c a is) ∙ less)
less_then a b c Greater is less le = absurd (false≢true le)

below_last : (places : List ℕ) (row : Row) (rows : List Row) → Ascends places (row ∷ rows) → AllByRecursion (λ other. is_le (compare_keys (key_of places other) (last_of (key_of places row) (keys_of places rows))) ≡ true) (row ∷ rows)
below_last places row [] ascends = (tied (key_of places row), tt)
below_last places row (next ∷ rows) ascends =
    let rest = below_last places next rows ascends.1 in
    (less_then (key_of places row) (key_of places next) (last_of (key_of places next) (keys_of places rows)) (compare_keys (key_of places next) (last_of (key_of places next) (keys_of places rows))) refl ascends.0.0 rest.0, rest)

above_first : (places : List ℕ) (row : Row) (rows : List Row) → AllByRecursion (λ other. compare_keys (key_of places row) (key_of places other) ≡ Less) rows → AllByRecursion (λ other. is_le (compare_keys (key_of places row) (key_of places other)) ≡ true) rows
above_first places row [] less = tt
above_first places row (other ∷ rows) less = (ap is_le less.0, above_first places row rows less.1)

both_ends : (places : List ℕ) (low high : Row) (rows : List Row) → AllByRecursion (λ other. is_le (compare_keys low (key_of places other)) ≡ true) rows → AllByRecursion (λ other. is_le (compare_keys (key_of places other) high) ≡ true) rows
    → AllByRecursion (λ row. has (record { low = Closed low; high = Closed high }) (key_of places row) ≡ true) rows
unfolding has
both_ends places low high [] one two = tt
both_ends places low high (row ∷ rows) one two = (rw (one.0, two.0) refl, both_ends places low high rows one.1 two.1)

-- *Every row lies between the least and the greatest key.*
pub in_range : (places : List ℕ) (row : Row) (rows : List Row) → Ascends places (row ∷ rows) → AllByRecursion (λ other. has (record { low = Closed (key_of places row); high = Closed (last_of (key_of places row) (keys_of places rows)) }) (key_of places other) ≡ true) (row ∷ rows)
in_range places row rows ascends =
    both_ends places (key_of places row) (last_of (key_of places row) (keys_of places rows)) (row ∷ rows) (tied (key_of places row), above_first places row rows ascends.0) (below_last places row rows ascends)
