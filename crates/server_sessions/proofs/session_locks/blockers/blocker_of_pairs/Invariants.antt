use Rattle.std.proofs.Common.{◌≡◌, drop, true}
use Rattle.server_locks.specs.MetadataLocks.Grants.{blocker_of_names}
use Rattle.server_model.specs.States.{pair_names}
use Rattle.server_sessions.proofs.session_locks.blockers.blocker_of_pairs.Given as goal
use Rattle.server_locks.specs.LeastSession.Least.{least}

-- what is found so far, with what refuses the rest, is what refuses all
abbrev pub invariant-loop-pair : goal.invariant-loop-pair
invariant-loop-pair l = least l.by (blocker_of_names l.locks.held l.locks.waiting l.number true (pair_names (drop l.pair-index l.pairs))) ≡ blocker_of_names l.locks.held l.locks.waiting l.number true (pair_names l.pairs)
