use Rattle.std.proofs.Common.{◌≡◌, drop}
use Rattle.server_locks.specs.MetadataLocks.LockTable.{shares}
use Rattle.server_locks.specs.MetadataLocks.Requests.{all_locks}
use Rattle.server_locks.proofs.metadata_locks.grants.shares.Given as goal

-- what the rest shares decides
abbrev pub invariant-loop-request : goal.invariant-loop-request
invariant-loop-request l = shares (all_locks (drop l.request-index l.granted)) l.session l.name ≡ shares (all_locks l.granted) l.session l.name
