use Rattle.std.proofs.Common.{ℕ, ◌<◌, subst}
use Rattle.std.specs.List.{All}
use Rattle.run_desk.proofs.TurnQueueWorkers.Members.{turns_below}
use Rattle.run_desk.proofs.turn_queue_workers.work.take_turns.Goals as goal

pub returns-clause-below : goal.returns-clause-below
returns-clause-below g c =
    subst (λ (count : ℕ). All (λ entry. entry.worker < count) (g.B.SharedState.entries c.close_turn_queue.result.shared_state)) c.in_ok-turn_queue.ensures.count.0
    (turns_below c.in_ok-turn_queue.turn_queue (g.B.SharedState.entries c.close_turn_queue.result.shared_state) c.close_turn_queue.result.passes.value.items c.close_turn_queue.ensures.members c.close_turn_queue.ensures.list)
