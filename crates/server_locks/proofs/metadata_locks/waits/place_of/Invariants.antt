use Rattle.server_locks.proofs.MetadataLocks.Places.{NoneBelow}
use Rattle.server_locks.proofs.metadata_locks.waits.place_of.Given as goal

-- no request so far is the session's
abbrev pub invariant-loop-i : goal.invariant-loop-i
invariant-loop-i l = NoneBelow l.session l.waiting l.i
