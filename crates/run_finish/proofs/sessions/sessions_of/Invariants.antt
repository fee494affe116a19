use Rattle.std.proofs.Common.{◌≡◌, ◌++◌, map, drop}
use Rattle.run_finish.specs.Sessions.{live_in}
use Rattle.run_finish.proofs.sessions.sessions_of.Given as goal

-- the sessions so far, and those that are still to come, are all
abbrev pub invariant-loop-actor_state : goal.invariant-loop-actor_state
invariant-loop-actor_state l = l.sessions.items ++ map live_in (drop l.actor_state-index l.actor_states) ≡ map live_in l.actor_states
