use Rattle.std.proofs.Common.{◌≡◌, not, filter, take}
use Rattle.server_locks.specs.MetadataLocks.LockTable.{shares}
use Rattle.server_locks.specs.MetadataLocks.Requests.{all_locks}
use Rattle.server_locks.proofs.metadata_locks.grants.unshared.Given as goal

-- those of the names so far are there
abbrev pub invariant-loop-name : goal.invariant-loop-name
invariant-loop-name l = l.unshared ≡ filter (λ name. not (shares (all_locks l.granted) l.session name)) (take l.name-index l.names)
