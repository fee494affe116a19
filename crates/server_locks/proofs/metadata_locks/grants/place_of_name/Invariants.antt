use Rattle.std.proofs.Common.{◌≡◌, ◌≤◌, ◌+◌, ◌^◌, ◌-◌}
use Rattle.std.specs.Prelude.{min}
use Rattle.server_locks.specs.MetadataLocks.LockTable.{own_names, place_among}
use Rattle.server_locks.specs.MetadataLocks.Requests.{all_locks}
use Rattle.server_locks.proofs.MetadataLocks.OwnNames.{names_from}
use Rattle.server_locks.proofs.metadata_locks.grants.place_of_name.Given as goal

-- what was passed, with the place among the rest, is the place among all
abbrev pub invariant-loop-request : goal.invariant-loop-request
invariant-loop-request l =
    (l.passed ≤ 2 ^ 64 - 1) × (min (l.passed + place_among (names_from l.granted l.request-index l.session l.exclusive) l.name) (2 ^ 64 - 1) ≡ min (place_among (own_names l.session l.exclusive (all_locks l.granted)) l.name) (2 ^ 64 - 1))
