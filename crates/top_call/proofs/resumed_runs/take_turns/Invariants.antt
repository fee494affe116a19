use Rattle.std.proofs.Common.{◌≡◌, vec_capacity}
use Rattle.top_call.proofs.ResumedRuns.{Finishing}
use Rattle.top_call.proofs.resumed_runs.take_turns.Given as goal

-- the run is the one that the new tool goes on with, the server is behind its turns, and there is room for them
abbrev pub invariant-loop-turn : goal.invariant-loop-turn
invariant-loop-turn g l = Finishing l.fn.finish l.finish (vec_capacity l.room) × (l.room.items ≡ l.fn.room.items)
