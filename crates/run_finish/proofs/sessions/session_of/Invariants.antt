use Rattle.std.proofs.Common.{◌≡◌, drop}
use Rattle.run_finish.specs.Sessions.{session_of}
use Rattle.run_finish.proofs.sessions.session_of.Given as goal

-- none of those so far is the actor's
abbrev pub invariant-loop-one : goal.invariant-loop-one
invariant-loop-one l = session_of (drop l.one-index l.sessions) l.actor ≡ session_of l.sessions l.actor
