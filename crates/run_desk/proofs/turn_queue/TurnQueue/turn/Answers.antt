-- A turn: a ticket is drawn, its turn comes, and what the book answers is told to the pass.
use Rattle.std.proofs.Common.{sym, ap, ◌∙◌, subst, subst₂}
use Rattle.std.proofs.lemmas.Option.{same_Some}
use Rattle.std.specs.Prelude.{Bool, Result}
use Rattle.std.specs.declared.alloc.AllocError.{AllocError}
use Rattle.run_desk.specs.Boards.{Ends}
use Rattle.run_desk.specs.Turns.{PassView, Takes, Sees}
use Rattle.run_desk.specs.Views.{known_opening, seen_of, own_of}
use Rattle.run_desk.proofs.Turning.{drawn, come, rests, took, sees, over, no_memory}
use Rattle.run_desk.proofs.turn_queue.TurnQueue.turn.Goals as goal

pub wait-requires-clause-waits : goal.wait-requires-clause-waits
wait-requires-clause-waits g c =
    let drew = c.draw-ticket.ensures.ticket in
    let me = drawn g.B.SharedState.opening g.B.SharedState.entries _ _ _ _ c.pass.inside.seat.me c.draw-ticket.new.seat.me drew.0 c.pass.invariant.1 drew.2 in
    ((drew.0, drew.1, (_, _, _, _, ap (λ m. m.0) me)), ap (λ m. m.1) me)

pub take-requires-clause-holds : goal.take-requires-clause-holds
take-requires-clause-holds g c =
    let drew = c.draw-ticket.ensures.ticket in
    let me = drawn g.B.SharedState.opening g.B.SharedState.entries _ _ _ _ c.pass.inside.seat.me c.draw-ticket.new.seat.me drew.0 c.pass.invariant.1 drew.2 in
    let has = come g.B.SharedState.opening g.B.SharedState.entries _ _ _ _ c.draw-ticket.new.seat.me c.wait.new.seat.me drew.0 me c.wait.ensures.comes in
    (_, has.entries, _, has.held)

pub invariant_of-pass : goal.invariant_of-pass
invariant_of-pass g c =
    let drew = c.draw-ticket.ensures.ticket in
    let me = drawn g.B.SharedState.opening g.B.SharedState.entries _ _ _ _ c.pass.inside.seat.me c.draw-ticket.new.seat.me drew.0 c.pass.invariant.1 drew.2 in
    let has = come g.B.SharedState.opening g.B.SharedState.entries _ _ _ _ c.draw-ticket.new.seat.me c.wait.new.seat.me drew.0 me c.wait.ensures.comes in
    (_, rests g.B.SharedState.is_over _ has.entries _ _ _ has.begins c.take.result c.take.new.seat.me (c.take.ensures.taken _ has.entries _ has.held))

pub returns-clause-pass : goal.returns-clause-pass
returns-clause-pass g c =
    let drew = c.draw-ticket.ensures.ticket in
    let me = drawn g.B.SharedState.opening g.B.SharedState.entries _ _ _ _ c.pass.inside.seat.me c.draw-ticket.new.seat.me drew.0 c.pass.invariant.1 drew.2 in
    let has = come g.B.SharedState.opening g.B.SharedState.entries _ _ _ _ c.draw-ticket.new.seat.me c.wait.new.seat.me drew.0 me c.wait.ensures.comes in
    let after = rests g.B.SharedState.is_over _ has.entries _ _ _ has.begins c.take.result c.take.new.seat.me (c.take.ensures.taken _ has.entries _ has.held) in (
      c.take.ensures.seat.0 ∙ c.wait.ensures.seat.0 ∙ c.draw-ticket.ensures.seat.0 ∙ ap (λ p. p.table) c.pass.view_is,
      ap (λ p. p.worker) c.pass.view_is,
      ap (λ m. known_opening m.0) after ∙ sym (ap (λ m. known_opening m.0) c.pass.invariant.1) ∙ ap (λ p. p.opening) c.pass.view_is,
    )

pub returns-clause-took : goal.returns-clause-took
returns-clause-took g c = λ is.
    let drew = c.draw-ticket.ensures.ticket in
    let me = drawn g.B.SharedState.opening g.B.SharedState.entries _ _ _ _ c.pass.inside.seat.me c.draw-ticket.new.seat.me drew.0 c.pass.invariant.1 drew.2 in
    let has = come g.B.SharedState.opening g.B.SharedState.entries _ _ _ _ c.draw-ticket.new.seat.me c.wait.new.seat.me drew.0 me c.wait.ensures.comes in
    let known = same_Some c.pass.invariant.0 c.args.self.now.opening (sym (ap (λ m. known_opening m.0) c.pass.invariant.1) ∙ ap (λ (p : PassView g.row.B-Opening.Denot g.row.B-Event.Denot). p.opening) c.pass.view_is ∙ c.requires.1) in
    let ends = subst₂ (λ (o : g.row.B-Opening.Denot) (t : Result Bool AllocError). Ends g.B.SharedState.is_over o has.entries c.pass.inside.worker (own_of c.pass.inside.seat.me.0) t c.take.new.seat.me) known is (c.take.ensures.taken _ has.entries _ has.held) in
    subst (λ (p : PassView g.row.B-Opening.Denot g.row.B-Event.Denot). Takes (g.B.SharedState.is_over c.args.self.now.opening) p (record { table = c.take.new.seat.table_id; worker = c.pass.inside.worker; opening = known_opening c.take.new.seat.me.0; own = own_of c.take.new.seat.me.0; seen = seen_of c.take.new.seat.me.0 })) c.pass.view_is
    (took g.B.SharedState.is_over c.args.self.now.opening has.entries _ c.pass.inside.worker _ has.begins c.take.new.seat.me ends)

pub returns-clause-others : goal.returns-clause-others
returns-clause-others g c = λ other.
    let drew = c.draw-ticket.ensures.ticket in
    let me = drawn g.B.SharedState.opening g.B.SharedState.entries _ _ _ _ c.pass.inside.seat.me c.draw-ticket.new.seat.me drew.0 c.pass.invariant.1 drew.2 in
    let has = come g.B.SharedState.opening g.B.SharedState.entries _ _ _ _ c.draw-ticket.new.seat.me c.wait.new.seat.me drew.0 me c.wait.ensures.comes in
    subst (λ (p : PassView g.row.B-Opening.Denot g.row.B-Event.Denot). Sees p (record { table = c.take.new.seat.table_id; worker = c.pass.inside.worker; opening = known_opening c.take.new.seat.me.0; own = own_of c.take.new.seat.me.0; seen = seen_of c.take.new.seat.me.0 })) c.pass.view_is
    (sees g.B.SharedState.is_over _ has.entries _ c.pass.inside.worker _ has.begins c.take.result c.take.new.seat.me (c.take.ensures.taken _ has.entries _ has.held) other)

pub returns-clause-over : goal.returns-clause-over
returns-clause-over g c = λ is.
    let drew = c.draw-ticket.ensures.ticket in
    let me = drawn g.B.SharedState.opening g.B.SharedState.entries _ _ _ _ c.pass.inside.seat.me c.draw-ticket.new.seat.me drew.0 c.pass.invariant.1 drew.2 in
    let has = come g.B.SharedState.opening g.B.SharedState.entries _ _ _ _ c.draw-ticket.new.seat.me c.wait.new.seat.me drew.0 me c.wait.ensures.comes in
    let known = same_Some c.pass.invariant.0 c.args.self.now.opening (sym (ap (λ m. known_opening m.0) c.pass.invariant.1) ∙ ap (λ (p : PassView g.row.B-Opening.Denot g.row.B-Event.Denot). p.opening) c.pass.view_is ∙ c.requires.1) in
    let ends = subst₂ (λ (o : g.row.B-Opening.Denot) (t : Result Bool AllocError). Ends g.B.SharedState.is_over o has.entries c.pass.inside.worker (own_of c.pass.inside.seat.me.0) t c.take.new.seat.me) known is (c.take.ensures.taken _ has.entries _ has.held) in
    over g.B.SharedState.is_over c.args.self.now.opening has.entries _ c.pass.inside.worker _ has.begins c.take.new.seat.me ends

pub returns-clause-no_memory : goal.returns-clause-no_memory
returns-clause-no_memory g c =
    let drew = c.draw-ticket.ensures.ticket in
    let me = drawn g.B.SharedState.opening g.B.SharedState.entries _ _ _ _ c.pass.inside.seat.me c.draw-ticket.new.seat.me drew.0 c.pass.invariant.1 drew.2 in
    let has = come g.B.SharedState.opening g.B.SharedState.entries _ _ _ _ c.draw-ticket.new.seat.me c.wait.new.seat.me drew.0 me c.wait.ensures.comes in
    let known = same_Some c.pass.invariant.0 c.args.self.now.opening (sym (ap (λ m. known_opening m.0) c.pass.invariant.1) ∙ ap (λ (p : PassView g.row.B-Opening.Denot g.row.B-Event.Denot). p.opening) c.pass.view_is ∙ c.requires.1) in
    let ends = subst (λ (o : g.row.B-Opening.Denot). Ends g.B.SharedState.is_over o has.entries c.pass.inside.worker (own_of c.pass.inside.seat.me.0) c.take.result c.take.new.seat.me) known (c.take.ensures.taken _ has.entries _ has.held) in
    no_memory g.B.SharedState.is_over c.args.self.now.opening has.entries _ c.pass.inside.worker _ has.begins c.take.result c.take.new.seat.me ends
