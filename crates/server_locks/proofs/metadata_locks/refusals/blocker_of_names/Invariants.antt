use Rattle.std.proofs.Common.{◌≡◌, drop}
use Rattle.server_locks.specs.MetadataLocks.Grants.{blocker_of_names}
use Rattle.server_locks.specs.LeastSession.Least.{least}
use Rattle.server_locks.specs.MetadataLocks.Requests.{all_locks}
use Rattle.server_locks.proofs.metadata_locks.refusals.blocker_of_names.Given as goal

-- what is found so far, with what refuses the rest, is what refuses all
abbrev pub invariant-loop-name : goal.invariant-loop-name
invariant-loop-name l = least l.by (blocker_of_names (all_locks l.granted) l.waiting l.session l.exclusive (drop l.name-index l.names)) ≡ blocker_of_names (all_locks l.granted) l.waiting l.session l.exclusive l.names
