use Rattle.std.proofs.Common.{◌≡◌, ◌++◌, map, take, drop}
use Rattle.run_finish.specs.Sessions.{session_after}
use Rattle.run_finish.proofs.sessions.keep_sessions.Given as goal

-- the sessions up to here are those after the turn, and those from here on as they were
abbrev pub invariant-loop-one : goal.invariant-loop-one
invariant-loop-one l = take l.one-index l.one-items ++ map (session_after l.entry) (drop l.one-index l.one-items) ≡ map (session_after l.entry) l.fn.sessions.items
