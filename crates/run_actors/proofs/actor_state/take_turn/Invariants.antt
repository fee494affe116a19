use Rattle.std.proofs.Common.{◌≡◌, ℕ, ◌<◌, ◌^◌, ◌++◌, List, map, take, drop}
use Rattle.std.specs.List.{AllByRecursion}
use Rattle.server_model.specs.declared.entry.Entry.{Entry}
use Rattle.run_actors.specs.declared.actor_state.ActorState.{ActorState}
use Rattle.run_actors.specs.ActorStates.{actor_state_after}
use Rattle.run_actors.proofs.actor_state.take_turn.Given as goal

pub record Marking (table : List ℕ) (entry : Entry) (index : ℕ) (actor_states all : List ActorState) : Type 0 where
  pub done : take index actor_states ++ map (actor_state_after table entry) (drop index actor_states) ≡ map (actor_state_after table entry) all
  pub below : AllByRecursion (λ actor_state. actor_state.turns < 2 ^ 32) (drop index actor_states)

-- the seats up to here are marked, and those from here on are as they were
abbrev pub invariant-loop-actor_state : goal.invariant-loop-actor_state
invariant-loop-actor_state l = Marking l.table l.entry l.actor_state-index l.actor_state-items l.fn.actor_states.items
