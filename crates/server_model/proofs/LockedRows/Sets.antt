-- A row with what its columns are set to, column by column.
use Rattle.std.proofs.Common.{◌≡◌, List, ◌∷◌, Option, Some, None, refl, []}
use Rattle.std.specs.Prelude.{unwrap_or}
use Rattle.base_values.specs.declared.value.Value.{Value}
use Rattle.table_store.proofs.Orders.{Row}
use Rattle.server_model.specs.StatementResults.{with_sets}

-- one column more
pub with_sets_more : (set : Option Value) (sets : List (Option Value)) (value : Value) (row : Row) → with_sets (set ∷ sets) (value ∷ row) ≡ unwrap_or set value ∷ with_sets sets row
unfolding with_sets
with_sets_more None sets value row = refl
with_sets_more (Some new) sets value row = refl

-- no column is left
pub with_sets_none : (sets : List (Option Value)) → with_sets sets [] ≡ []
unfolding with_sets
with_sets_none [] = refl
with_sets_none (set ∷ sets) = refl
