-- Each pass is that of its worker's number, and the others stay to be dealt.
use Rattle.std.proofs.Common.{◌≡◌, ℕ, ◌+◌, List, [], rules, arith, refl, sym, ap, ◌∙◌, subst}
use Rattle.atomic_table.specs.Table.{Me}
use Rattle.run_desk.specs.declared.hand.Stage.TheVariants.{Rests}
use Rattle.run_desk.specs.declared.hand.Hand.{Hand}
use Rattle.run_desk.specs.Turns.{TurnQueueView, PassView, first_pass}
use Rattle.run_desk.specs.Views.{worker_view, known_opening, seen_of, own_of, next}
use Rattle.run_desk.proofs.Keeps.{deals}
use Rattle.run_desk.proofs.Dealing.{dealt_next, dealt_others, dealt_more}
use Rattle.run_desk.proofs.opening.deal.Goals as goal

-- the seat of a new pass
at_rest : {S O E : Type 0} (o : O) (number : ℕ) (view : List (Hand O E)) (me : Me S (List (Hand O E))) → me ≡ (view, []) → view ≡ worker_view o [] number [] Rests → me ≡ (worker_view o (seen_of me.0) number (own_of me.0) Rests, [])
at_rest {S} {O} {E} o number view me is at =
    subst (λ (m : Me S (List (Hand O E))). m ≡ (worker_view o (seen_of m.0) number (own_of m.0) Rests, [])) (sym (is ∙ ap (λ (v : List (Hand O E)). (v, [])) at)) refl

pub split_seat-requires : goal.split_seat-requires
split_seat-requires g c = (search rules, search rules, deals _ _ _ _ _ _)

pub invariant_of-pass : goal.invariant_of-pass
invariant_of-pass g c =
    let i = c.loop-number.invariant in
    let o = g.B.SharedState.opening c.args.board.now.key.shared_state.value in (
      o,
      at_rest o c.loop-number.number (next c.loop-number.seat.me.0) c.split_seat.result.me c.split_seat.ensures.4
          (dealt_next o c.loop-number.number c.args.workers c.loop-number.seat.me.0 c.loop-number-test.true (ap (λ m. m.0) i.hands)),
    )

pub loop-number-preserved : goal.loop-number-preserved
loop-number-preserved g c =
    let i = c.loop-number.invariant in
    let o = g.B.SharedState.opening c.args.board.now.key.shared_state.value in
    let s = c.split_seat.ensures in
    let below = c.loop-number-test.true in
    let turn_queue : TurnQueueView g.row.B-Opening.Denot = record { table = c.args.board.now.table_id; opening = o; workers = c.args.workers } in
    let view = ap (λ m. m.0) i.hands in
    let first = s.4 ∙ ap (λ (v : List (Hand g.row.B-Opening.Denot g.row.B-Event.Denot)). (v, [])) (dealt_next o c.loop-number.number c.args.workers c.loop-number.seat.me.0 below view) in
    let pass : PassView g.row.B-Opening.Denot g.row.B-Event.Denot = record { table = c.split_seat.result.table_id; worker = c.loop-number.number; opening = known_opening c.split_seat.result.me.0; own = own_of c.split_seat.result.me.0; seen = seen_of c.split_seat.result.me.0 } in
    let is : pass ≡ first_pass turn_queue c.loop-number.number = λ k. record { table = (s.3 ∙ i.same) k; worker = c.loop-number.number; opening = known_opening (first k).0; own = own_of (first k).0; seen = seen_of (first k).0 } in
    record {
      same = s.0 ∙ i.same;
      hands = s.2 ∙ (λ k. (dealt_others o c.loop-number.number c.args.workers c.loop-number.seat.me.0 below view k, (i.hands k).1));
      dealt = dealt_more turn_queue c.loop-number.number c.args.workers c.loop-number.passes.items c.push_reserved.new.self.items pass below is c.push_reserved.ensures.items i.dealt;
      count = c.push_reserved.ensures.len ∙ ap (λ n. n + 1) i.count;
      room = omega (arith, c.push_reserved.ensures.capacity, i.room);
    }
