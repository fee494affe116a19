use Rattle.std.proofs.Common.{◌≡◌, map, take}
use Rattle.server_model.specs.StatementResults.{with_sets}
use Rattle.server_execute.proofs.settings.all_with_sets.Given as goal

-- the new rows so far
abbrev pub invariant-loop-row : goal.invariant-loop-row
invariant-loop-row l = l.all ≡ map (with_sets l.sets) (take l.row-index l.rows)
