-- With the hands of all passes in one seat, the rule says what is in the slot.
use Rattle.std.proofs.Common.{sym, ap, ◌∙◌, subst}
use Rattle.run_desk.specs.Turns.{TurnQueueList}
use Rattle.run_desk.proofs.Ends.{closed, one_shared_state}
use Rattle.run_desk.proofs.turn_queue.TurnQueue.close.Goals as goal

pub taken_out-requires-clause-shared_state : goal.taken_out-requires-clause-shared_state
taken_out-requires-clause-shared_state g c =
    let end = closed g.B.SharedState.opening g.B.SharedState.entries _ _ _ _ c.args.passes.items _ _ (ap (λ m. m.0) c.gather-seat.ensures.hands) (c.requires.all ∙ sym (ap (λ d. d.workers) c.self.view_is)) c.close_with.ensures.values.2 in
    (end.shared_state, end.slot)

pub returns-clause-opening : goal.returns-clause-opening
returns-clause-opening g c =
    let end = closed g.B.SharedState.opening g.B.SharedState.entries _ _ _ _ c.args.passes.items _ _ (ap (λ m. m.0) c.gather-seat.ensures.hands) (c.requires.all ∙ sym (ap (λ d. d.workers) c.self.view_is)) c.close_with.ensures.values.2 in
    let same = one_shared_state end.shared_state c.taken_out.result (sym end.slot ∙ c.taken_out.ensures) in
    ap g.B.SharedState.opening (sym same) ∙ end.opened ∙ ap (λ d. d.opening) c.self.view_is

pub returns-clause-list : goal.returns-clause-list
returns-clause-list g c =
    let end = closed g.B.SharedState.opening g.B.SharedState.entries _ _ _ _ c.args.passes.items _ _ (ap (λ m. m.0) c.gather-seat.ensures.hands) (c.requires.all ∙ sym (ap (λ d. d.workers) c.self.view_is)) c.close_with.ensures.values.2 in
    let same = one_shared_state end.shared_state c.taken_out.result (sym end.slot ∙ c.taken_out.ensures) in
    subst (λ b. TurnQueueList (g.B.SharedState.entries b) c.args.passes.items) same end.list
