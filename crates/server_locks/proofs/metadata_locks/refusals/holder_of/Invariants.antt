use Rattle.std.proofs.Common.{◌≡◌, drop}
use Rattle.server_locks.specs.MetadataLocks.Grants.{holder_of}
use Rattle.server_locks.specs.MetadataLocks.Requests.{all_locks}
use Rattle.server_locks.proofs.metadata_locks.refusals.holder_of.Given as goal

-- what the rest holds decides
abbrev pub invariant-loop-request : goal.invariant-loop-request
invariant-loop-request l = holder_of (all_locks (drop l.request-index l.granted)) l.name ≡ holder_of (all_locks l.granted) l.name
