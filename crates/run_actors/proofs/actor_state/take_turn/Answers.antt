use Rattle.std.proofs.Common.{◌<◌, length, get_or, arith}
use Rattle.std.proofs.lemmas.Option.{slice_get-get_or}
use Rattle.run_actors.proofs.Marking.{holds_at}
use Rattle.run_actors.proofs.actor_state.take_turn.Goals as goal

pub actor_state_after-requires : goal.actor_state_after-requires
actor_state_after-requires c =
    let within : c.loop-actor_state.actor_state-index < length c.loop-actor_state.actor_state-items = omega (arith, c.loop-actor_state-test.true, c.loop-actor_state.auto.actor_state-items) in
    holds_at (λ actor_state. actor_state.turns < 4294967296) c.loop-actor_state.actor_state-items c.loop-actor_state.actor_state-index (get_or c.loop-actor_state.actor_state-items c.loop-actor_state.actor_state-index _)
    (slice_get-get_or c.loop-actor_state.actor_state-items c.loop-actor_state.actor_state-index _ within) c.loop-actor_state.invariant.below
