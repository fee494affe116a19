-- Rows with columns set, and locks, piece by piece.
use Rattle.std.proofs.Common.{◌≡◌, ℕ, ◌+◌, List, [], ◌∷◌, ◌++◌, refl, append_assoc}
use Rattle.base_values.specs.declared.gho_schema.schema.Schema.{Schema}
use Rattle.base_values.specs.declared.gho_schema.schema.Index.{Index}
use Rattle.base_values.specs.GhoSchema.Rows.{key_of}
use Rattle.server_locks.specs.declared.row_locks.lock.Lock.{Lock}
use Rattle.table_store.proofs.Orders.{Row}
use Rattle.server_model.specs.StatementResults.{with_sets}
use Rattle.server_model.specs.Needs.{point_lock, points_from}

-- without sets all stays
pub with_no_sets : (row : Row) → with_sets [] row ≡ row
unfolding with_sets
with_no_sets row = refl

-- the locks of one key more
pub points_more : (schema : Schema) (into : List Lock) (place : ℕ) (index : Index) (uniques : List Index) (row : Row) → (into ++ point_lock schema place (key_of index.places row)) ++ points_from schema (place + 1) uniques row ≡ into ++ points_from schema place (index ∷ uniques) row
unfolding points_from
points_more schema into place index uniques row = append_assoc into (point_lock schema place (key_of index.places row)) (points_from schema (place + 1) uniques row)
