-- A look tells whether the turn has come, and changes nothing where it hasn't.
use Rattle.std.proofs.Common.{◌≡◌, ℕ, ◌%◌, ◌^◌, List, rules, sym, ap, ◌∙◌, subst}
use Rattle.atomic_table.specs.Table.{Me}
use Rattle.run_desk.specs.declared.hand.Stage.TheVariants.{Waits}
use Rattle.run_desk.specs.declared.hand.Hand.{Hand}
use Rattle.run_desk.specs.Boards.{IsWorkerAt}
use Rattle.run_desk.specs.Steps.{Comes}
use Rattle.run_desk.specs.Views.{ticket_of}
use Rattle.run_desk.proofs.Keeps.{looks_as}
use Rattle.run_desk.proofs.steps.wait.Goals as goal

-- the ticket that the seat waits with is the one that was drawn
waits_with : {S O E : Type 0} (me first : Me S (List (Hand O E))) (ticket t : ℕ) → me ≡ first → IsWorkerAt first.0 (Waits t) → ticket ≡ t % 2 ^ 64 → ticket_of me.0 % 2 ^ 64 ≡ ticket
waits_with me first ticket t same waits is = ap (λ m. ticket_of m.0 % 2 ^ 64) same ∙ ap (λ v. ticket_of v % 2 ^ 64) waits.4 ∙ sym is

pub load-serving-requires : goal.load-serving-requires
load-serving-requires g c =
    let waits = c.requires.waits.0 in
    (search rules, search rules, looks_as _ _ _ _ _ _ c.loop.seat.me waits.0 (subst (λ m. IsWorkerAt m.0 (Waits waits.0)) (sym c.loop.invariant.2) waits.2))

pub loop-preserved : goal.loop-preserved
loop-preserved g c =
    let waits = c.requires.waits.0 in
    let held = c.loop.invariant in
    let is = waits_with c.loop.seat.me c.args.seat.now.me c.args.ticket waits.0 held.2 waits.2 waits.1 in
    let look = c.load-serving.ensures in
    (look.0 ∙ held.0, look.1 ∙ held.1, look.2.1 (λ e. c.if-serving-ticket.false (e ∙ is)) ∙ held.2)

pub returns-then-serving-ticket-clause-comes : goal.returns-then-serving-ticket-clause-comes
returns-then-serving-ticket-clause-comes g c =
    let waits = c.requires.waits.0 in
    let held = c.loop.invariant in
    let is = waits_with c.loop.seat.me c.args.seat.now.me c.args.ticket waits.0 held.2 waits.2 waits.1 in
    subst (λ m. Comes g.B.SharedState.opening g.B.SharedState.entries m c.load-serving.new.seat.me) held.2 (c.load-serving.ensures.2.0 (c.if-serving-ticket.true ∙ sym is))
