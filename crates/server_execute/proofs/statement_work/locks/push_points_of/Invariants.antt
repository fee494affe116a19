use Rattle.std.proofs.Common.{◌≡◌, ◌++◌, drop}
use Rattle.server_model.specs.Needs.{points_of}
use Rattle.server_execute.proofs.statement_work.locks.push_points_of.Given as goal

-- the locks so far, and those of the rows that are left
abbrev pub invariant-loop-row : goal.invariant-loop-row
invariant-loop-row l = l.into ++ points_of l.schema (drop l.row-index l.rows) ≡ l.fn.into ++ points_of l.schema l.rows
