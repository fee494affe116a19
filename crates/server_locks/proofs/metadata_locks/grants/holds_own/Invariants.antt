use Rattle.std.proofs.Common.{◌≡◌, drop}
use Rattle.std.specs.List.{list_any}
use Rattle.server_locks.specs.MetadataLocks.LockTable.{is_own}
use Rattle.server_locks.specs.MetadataLocks.Requests.{all_locks}
use Rattle.server_locks.proofs.metadata_locks.grants.holds_own.Given as goal

-- what the rest holds decides
abbrev pub invariant-loop-request : goal.invariant-loop-request
invariant-loop-request l = list_any (is_own l.session l.exclusive) (all_locks (drop l.request-index l.granted)) ≡ list_any (is_own l.session l.exclusive) (all_locks l.granted)
