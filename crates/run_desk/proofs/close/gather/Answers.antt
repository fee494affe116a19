-- A seat has its pass's hand, and the hands of the seats that it took in.
use Rattle.std.proofs.Common.{◌++◌, map, Some, refl, rules, ap, ◌∙◌}
use Rattle.std.proofs.lemmas.List.Elements.{All-pop}
use Rattle.run_desk.specs.Turns.{IsOurs}
use Rattle.run_desk.specs.Views.{hand_of}
use Rattle.run_desk.proofs.Gathering.{has_hand, last_hand, more_hands}
use Rattle.run_desk.proofs.Keeps.{gathers}
use Rattle.run_desk.proofs.close.gather.Goals as goal

pub loop-pass-init : goal.loop-pass-init
loop-pass-init g c =
    let o = g.B.SharedState.opening c.args.board.now.key.shared_state.value in
    let rest = All-pop (IsOurs c.args.board.now.table_id o) c.args.passes.items c.pop.new.self.items (Some c.in-Some.last) c.in-Some.ensures.items c.requires.passes in
    let hand = has_hand o _ c.in-Some.last c.last.invariant.0 c.last.inside.seat.me.0 (ap (λ m. m.0) c.last.invariant.1) refl c.last.view_is rest.1.1 in
    record {
      same = ap (λ p. p.table) c.last.view_is ∙ rest.1.0;
      hands = (last_hand o c.args.passes.items c.pop.new.self.items c.in-Some.last c.last.inside.seat.me.0 c.in-Some.ensures.items hand, ap (λ m. m.1) c.last.invariant.1);
      ours = rest.0;
    }

pub join_seat-requires : goal.join_seat-requires
join_seat-requires g c =
    let i = c.loop-pass.invariant in
    let o = g.B.SharedState.opening c.args.board.now.key.shared_state.value in
    let rest = All-pop (IsOurs c.args.board.now.table_id o) c.loop-pass.passes.items c.pop-in-loop-pass.new.self.items (Some c.in-Some-pop.pass) c.in-Some-pop.ensures.items i.ours in
    (i.same, ap (λ p. p.table) c.pass.view_is ∙ rest.1.0, ap (λ m. m.1) c.pass.invariant.1, search rules, gathers _ _ _ _ _ _ _ _)

pub loop-pass-preserved : goal.loop-pass-preserved
loop-pass-preserved g c =
    let i = c.loop-pass.invariant in
    let j = c.join_seat.ensures in
    let o = g.B.SharedState.opening c.args.board.now.key.shared_state.value in
    let rest = All-pop (IsOurs c.args.board.now.table_id o) c.loop-pass.passes.items c.pop-in-loop-pass.new.self.items (Some c.in-Some-pop.pass) c.in-Some-pop.ensures.items i.ours in
    let hand = has_hand o _ c.in-Some-pop.pass c.pass.invariant.0 c.pass.inside.seat.me.0 (ap (λ m. m.0) c.pass.invariant.1) refl c.pass.view_is rest.1.1 in
    record {
      same = j.0 ∙ i.same;
      hands = (
        ap (λ m. map (hand_of o) c.pop-in-loop-pass.new.self.items ++ m.0) j.2
            ∙ more_hands o c.loop-pass.passes.items c.pop-in-loop-pass.new.self.items c.in-Some-pop.pass c.pass.inside.seat.me.0 c.loop-pass.seat.me.0 _ c.in-Some-pop.ensures.items hand i.hands.0,
        ap (λ m. m.1) j.2 ∙ i.hands.1,
      );
      ours = rest.0;
    }
