use Rattle.std.proofs.Common.{◌≡◌, drop}
use Rattle.server_locks.specs.MetadataLocks.Grants.{least_holder}
use Rattle.server_locks.specs.LeastSession.Least.{least}
use Rattle.server_locks.specs.MetadataLocks.Requests.{all_locks}
use Rattle.server_locks.proofs.metadata_locks.refusals.least_holder.Given as goal

-- what is found so far, with what the rest holds, is what all hold
abbrev pub invariant-loop-request : goal.invariant-loop-request
invariant-loop-request l = least l.by (least_holder (all_locks (drop l.request-index l.granted)) l.session l.name l.exclusive) ≡ least_holder (all_locks l.granted) l.session l.name l.exclusive
