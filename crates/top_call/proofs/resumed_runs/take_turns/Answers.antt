use Rattle.std.proofs.Common.{vec_capacity, sym, ◌∙◌}
use Rattle.top_call.proofs.ResumedRuns.{finishing_more, took}
use Rattle.top_call.proofs.resumed_runs.take_turns.Goals as goal

pub loop-turn-preserved : goal.loop-turn-preserved
loop-turn-preserved g c = (
  finishing_more c.args.finish.now c.loop-turn.finish c.take_turn.new.finish (vec_capacity c.loop-turn.room) (vec_capacity c.take_turn.new.room) c.loop-turn.invariant.0 (took c.take_turn.result (sym c.is_err.ensures.value ∙ c.if-is_err.false) c.take_turn.ensures.ok) c.take_turn.ensures.capacity,
  c.take_turn.ensures.items ∙ c.loop-turn.invariant.1,
)
