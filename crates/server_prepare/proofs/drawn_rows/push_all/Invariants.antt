use Rattle.std.proofs.Common.{◌≡◌, ◌++◌, drop}
use Rattle.server_prepare.proofs.drawn_rows.push_all.Given as goal

-- the values so far, and those that are left
abbrev pub invariant-loop-value : goal.invariant-loop-value
invariant-loop-value l = l.row ++ drop l.value-index l.values ≡ l.fn.row ++ l.values
