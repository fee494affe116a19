use Rattle.std.proofs.Common.{◌≡◌, drop}
use Rattle.server_model.specs.Checks.{row_from}
use Rattle.server_prepare.proofs.Fronts.{with_front}
use Rattle.server_prepare.proofs.rows.row_from.Given as goal

abbrev pub invariant-loop-column : goal.invariant-loop-column
invariant-loop-column l = record {
  made : with_front l.row (row_from l.place (drop l.column-index l.columns) l.places l.values) ≡ row_from 0 l.columns l.places l.values;
  place : l.place ≡ l.column-index;
}
