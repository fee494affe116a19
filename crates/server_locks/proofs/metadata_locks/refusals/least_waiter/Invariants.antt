use Rattle.std.proofs.Common.{◌≡◌, drop}
use Rattle.server_locks.specs.MetadataLocks.Grants.{least_waiter}
use Rattle.server_locks.specs.LeastSession.Least.{least}
use Rattle.server_locks.proofs.metadata_locks.refusals.least_waiter.Given as goal

-- what is found so far, with what the rest waits for, is what all wait for
abbrev pub invariant-loop-waiter : goal.invariant-loop-waiter
invariant-loop-waiter l = least l.by (least_waiter (drop l.waiter-index l.waiting) l.session l.name) ≡ least_waiter l.waiting l.session l.name
