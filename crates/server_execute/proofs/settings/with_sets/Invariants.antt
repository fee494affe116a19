use Rattle.std.proofs.Common.{◌≡◌, ◌++◌, drop}
use Rattle.server_model.specs.StatementResults.{with_sets}
use Rattle.server_execute.proofs.settings.with_sets.Given as goal

-- the values so far, and those of the columns that are left
abbrev pub invariant-loop-value : goal.invariant-loop-value
invariant-loop-value l = l.new ++ with_sets l.rest (drop l.value-index l.row) ≡ with_sets l.sets l.row
