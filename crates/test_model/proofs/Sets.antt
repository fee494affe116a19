-- Rows with columns set, piece by piece.
use Rattle.std.proofs.Common.{◌≡◌, [], refl}
use Rattle.table_store.proofs.Orders.{Row}
use Rattle.server_model.specs.StatementResults.{with_sets}

-- without sets all stays
pub with_no_sets : (row : Row) → with_sets [] row ≡ row
unfolding with_sets
with_no_sets row = refl
