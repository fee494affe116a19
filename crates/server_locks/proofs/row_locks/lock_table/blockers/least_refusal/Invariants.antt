use Rattle.std.proofs.Common.{◌≡◌}
use Rattle.server_locks.specs.LeastSession.Least.{least}
use Rattle.server_locks.specs.RowLocks.Blockers.{least_of, refusal_at}
use Rattle.server_locks.proofs.row_locks.lock_table.blockers.least_refusal.Given as goal

-- what is found so far, with what the rest refuses, is what all refuse
abbrev pub invariant-loop-entry : goal.invariant-loop-entry
invariant-loop-entry l = least l.by (least_of (refusal_at l.slab l.session l.lock) l.entry-iterator) ≡ least_of (refusal_at l.slab l.session l.lock) l.fn.entries
