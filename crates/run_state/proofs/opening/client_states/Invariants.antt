use Rattle.std.proofs.Common.{◌≡◌, ◌++◌, map, drop}
use Rattle.run_state.specs.Books.{free_client}
use Rattle.run_state.proofs.opening.client_states.Given as goal

-- the seats so far, and those that are still made, are all
abbrev pub invariant-loop-script : goal.invariant-loop-script
invariant-loop-script l = l.actor_states.items ++ map free_client (drop l._script-index l.plan.clients) ≡ map free_client l.plan.clients
