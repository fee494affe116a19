use Rattle.std.proofs.Common.{◌≡◌, ◌+◌, take, length}
use Rattle.std.specs.List.{sum_by}
use Rattle.plan_keys.proofs.limits.have_more.Given as goal

-- the rows so far, and those that may still come, are the limit
abbrev pub invariant-loop-table : goal.invariant-loop-table
invariant-loop-table l = l.left + sum_by (λ table. length table.rows.items) (take l.table-index l.tables) ≡ l.limit
