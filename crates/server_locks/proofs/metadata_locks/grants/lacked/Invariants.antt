use Rattle.std.proofs.Common.{◌≡◌, not, false, filter, take}
use Rattle.server_locks.specs.MetadataLocks.Grants.{holds}
use Rattle.server_locks.specs.MetadataLocks.Requests.{all_locks}
use Rattle.server_locks.proofs.metadata_locks.grants.lacked.Given as goal

-- those of the names so far are there
abbrev pub invariant-loop-name : goal.invariant-loop-name
invariant-loop-name l = l.lacked ≡ filter (λ name. not (holds (all_locks l.granted) l.session name false)) (take l.name-index l.names)
