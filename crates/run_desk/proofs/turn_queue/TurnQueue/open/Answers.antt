-- The passes are the desk's, one for each worker.
use Rattle.std.proofs.Common.{All, length, sym, ap, ◌∙◌, subst}
use Rattle.run_desk.specs.Turns.{TurnQueueView, IsPassOf}
use Rattle.run_desk.proofs.Dealing.{length-first_passes, first_passes_ours}
use Rattle.run_desk.proofs.turn_queue.TurnQueue.open.Goals as goal

pub returns-in-Ok-lay-clause-count : goal.returns-in-Ok-lay-clause-count
returns-in-Ok-lay-clause-count g c = ap length c.deal.ensures ∙ length-first_passes _ _

pub returns-in-Ok-lay-clause-ours : goal.returns-in-Ok-lay-clause-ours
returns-in-Ok-lay-clause-ours g c =
    let dealt : TurnQueueView g.row.B-Opening.Denot = record { table = c.in-Ok-lay.board.shared.table_id; opening = g.B.SharedState.opening c.in-Ok-lay.board.shared.key.shared_state.value; workers = c.args.workers } in
    subst (All (IsPassOf dealt)) (sym c.deal.ensures) (first_passes_ours _ dealt)
