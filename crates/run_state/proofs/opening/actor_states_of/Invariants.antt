use Rattle.std.proofs.Common.{◌≡◌, ◌++◌, map, drop}
use Rattle.tool_program.specs.Orders.{actors}
use Rattle.run_state.specs.Books.{free_actor_state}
use Rattle.run_state.proofs.opening.actor_states_of.Given as goal

-- the states so far, and those that are still made, are all
abbrev pub invariant-loop-place : goal.invariant-loop-place
invariant-loop-place l = l.actor_states.items ++ map free_actor_state (drop l.place (actors l.plan)) ≡ map free_actor_state (actors l.plan)
