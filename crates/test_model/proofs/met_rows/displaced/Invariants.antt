use Rattle.std.proofs.Common.{◌≡◌, ◌++◌, drop}
use Rattle.server_model.specs.StatementResults.{displaced}
use Rattle.test_model.proofs.met_rows.displaced.Given as goal

-- those of the rest that clash follow
abbrev pub invariant-loop-row : goal.invariant-loop-row
invariant-loop-row l = l.found ++ displaced l.schema l.new (drop l.row-index l.rows) ≡ displaced l.schema l.new l.rows
