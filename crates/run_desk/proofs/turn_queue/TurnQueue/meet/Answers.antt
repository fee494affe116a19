-- A witness of what the one has seen joins the other, and a look at the board compares both.
use Rattle.std.proofs.Common.{◌++◌, rules, ap, ◌∙◌}
use Rattle.run_desk.proofs.Keeps.{tells, gathers, compares_as}
use Rattle.run_desk.proofs.Meeting.{joined}
use Rattle.run_desk.proofs.turn_queue.TurnQueue.meet.Goals as goal

pub split_seat-witness-requires : goal.split_seat-witness-requires
split_seat-witness-requires g c = (search rules, search rules, tells _ _ _ _ _ _)

pub join_seat-requires : goal.join_seat-requires
join_seat-requires g c = (search rules, search rules, search rules, search rules, gathers _ _ _ _ _ _ _ _)

pub load-requires : goal.load-requires
load-requires g c = (
  search rules,
  search rules,
  compares_as _ _ _ _ _ _ _ _ _ _ _ _ _
      (ap (λ m. m.0) c.join_seat.ensures.2 ∙ ap (λ m. m.0 ++ c.into.inside.seat.me.0) c.split_seat-witness.ensures.4
      ∙ joined _ _ _ _ _ _ _ _ c.from.inside.seat.me.0 c.into.inside.seat.me.0 (ap (λ m. m.0) c.from.invariant.1) (ap (λ m. m.0) c.into.invariant.1)),
)
