use Rattle.std.proofs.Common.{◌≡◌, drop}
use Rattle.server_model.specs.Checks.{sets_from}
use Rattle.server_prepare.proofs.Fronts.{with_front}
use Rattle.server_prepare.proofs.work.sets_from.Given as goal

abbrev pub invariant-loop-column : goal.invariant-loop-column
invariant-loop-column l = record {
  made : with_front l.sets (sets_from l.place (drop l.column-index l.columns) l.places l.values) ≡ sets_from 0 l.columns l.places l.values;
  place : l.place ≡ l.column-index;
}
