use Rattle.std.proofs.Common.{◌≡◌, ◌++◌, drop}
use Rattle.server_model.specs.Rows.{rows_met}
use Rattle.test_model.proofs.met_rows.rows_met.Given as goal

-- those of the rest that are reached follow
abbrev pub invariant-loop-row : goal.invariant-loop-row
invariant-loop-row l = l.met ++ rows_met l.schema l.reach (drop l.row-index l.rows) ≡ rows_met l.schema l.reach l.rows
