use Rattle.std.proofs.Common.{◌≡◌, sym, ap, ◌∙◌, subst}
use Rattle.std.specs.List.{All, Any}
use Rattle.std.proofs.lemmas.List.Elements.{All-map}
use Rattle.std.specs.Prelude.{true}
use Rattle.run_desk.specs.Turns.{IsPassOf}
use Rattle.run_desk.specs.declared.turn_queue_workers.workers.Worker.{Worker}
use Rattle.run_desk.specs.TurnQueueWorkers.Members.{IsMember}
use Rattle.run_desk.proofs.TurnQueueWorkers.Members.{over_found}
use Rattle.run_desk.proofs.turn_queue_workers.work.close_turn_queue.Goals as goal

pub close-requires-clause-passes : goal.close-requires-clause-passes
close-requires-clause-passes g c =
    subst (All (IsPassOf c.args.turn_queue)) (sym c.passes_of-passes.ensures)
    (All-map (IsPassOf c.args.turn_queue) (λ (worker : Worker g.row.B.Denot g.row.B-Opening.Denot g.row.B-Event.Denot). worker.pass) c.args.workers.items (λ k d below. (c.requires.members k d below).0))

pub returns-clause-members : goal.returns-clause-members
returns-clause-members g c =
    subst (All (IsMember c.args.turn_queue)) (sym (ap (λ passes. passes.items) c.of-reported.ensures ∙ c.passes_of-passes.ensures))
    (All-map (IsMember c.args.turn_queue) (λ (worker : Worker g.row.B.Denot g.row.B-Opening.Denot g.row.B-Event.Denot). worker.pass) c.args.workers.items c.requires.members)

pub returns-clause-over : goal.returns-clause-over
returns-clause-over g c = λ over.
    over_found (λ (worker : Worker g.row.B.Denot g.row.B-Opening.Denot g.row.B-Event.Denot). worker.pass) (g.B.SharedState.is_over c.args.turn_queue.opening) (g.met.B.SharedState.stays_over c.args.turn_queue.opening)
    (λ (worker : Worker g.row.B.Denot g.row.B-Opening.Denot g.row.B-Event.Denot). worker.found_end) c.args.workers.items c.passes_of-passes.result.items (g.B.SharedState.entries c.close.result) c.passes_of-passes.ensures c.requires.stopped c.close.ensures.list
    (subst (Any (λ (worker : Worker g.row.B.Denot g.row.B-Opening.Denot g.row.B-Event.Denot). worker.found_end ≡ true)) c.as_slice.ensures.value (c.is_over-is_over.ensures over))
