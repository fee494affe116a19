use Rattle.std.proofs.Common.{refl, sym, ap, ◌∙◌}
use Rattle.top_workload.specs.Draws.{next_state, state_after}
use Rattle.top_workload.proofs.States.{one_more}
use Rattle.top_workload.proofs.rows.draws_after_rows.Goals as goal

pub loop-place-init : goal.loop-place-init
unfolding state_after
loop-place-init c = refl

pub loop-place-preserved : goal.loop-place-preserved
loop-place-preserved c = c.draw.ensures.state ∙ ap next_state c.loop-place.invariant ∙ sym (one_more c.args.number c.loop-place._place)
