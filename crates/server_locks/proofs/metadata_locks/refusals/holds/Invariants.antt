use Rattle.std.proofs.Common.{◌≡◌, drop}
use Rattle.server_locks.specs.MetadataLocks.Grants.{holds}
use Rattle.server_locks.specs.MetadataLocks.Requests.{all_locks}
use Rattle.server_locks.proofs.metadata_locks.refusals.holds.Given as goal

-- what the rest holds decides
abbrev pub invariant-loop-request : goal.invariant-loop-request
invariant-loop-request l = holds (all_locks (drop l.request-index l.granted)) l.session l.name l.exclusive ≡ holds (all_locks l.granted) l.session l.name l.exclusive
