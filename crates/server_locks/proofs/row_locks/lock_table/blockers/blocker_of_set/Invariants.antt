use Rattle.std.proofs.Common.{◌≡◌, drop}
use Rattle.server_locks.specs.RowLocks.Grants.{blocker_of_set}
use Rattle.server_locks.specs.LeastSession.Least.{least}
use Rattle.server_locks.specs.RowLocks.LockLists.{locks_in}
use Rattle.server_locks.proofs.row_locks.lock_table.blockers.blocker_of_set.Given as goal

-- what is found so far, with what the rest refuses, is what all refuse
abbrev pub invariant-loop-lock : goal.invariant-loop-lock
invariant-loop-lock l = least l.by (blocker_of_set (locks_in l.lists) l.session (drop l.lock-index l.set)) ≡ blocker_of_set (locks_in l.lists) l.session l.set
