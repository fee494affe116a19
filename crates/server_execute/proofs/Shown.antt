-- What is shown of a row.
use Rattle.std.proofs.Common.{◌≡◌, ℕ, ◌++◌, List, [], ◌∷◌, refl, ap}
use Rattle.std.specs.Prelude.{option_to_list, slice_get}
use Rattle.std.specs.List.{flat_map}
use Rattle.base_values.specs.GhoSchema.Rows.{key_of}
use Rattle.table_store.proofs.Orders.{Row}

-- the values at places are those of a key there
pub values_at : (places : List ℕ) (row : Row) → key_of places row ≡ flat_map (λ place. option_to_list (slice_get row place)) places
unfolding key_of
values_at [] row = refl
values_at (place ∷ places) row = ap (λ (values : Row). option_to_list (slice_get row place) ++ values) (values_at places row)
