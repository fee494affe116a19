use Rattle.std.proofs.lemmas.Result.{err_from_is_err_and}
use Rattle.plan_orders.proofs.TurnOrder.Reading.{goes_on, fails, ended}
use Rattle.plan_orders.proofs.turn_order.turns.runs_from.Goals as goal

pub returns-in_err-run : goal.returns-in_err-run
returns-in_err-run c =
    let p = err_from_is_err_and c.from_residual.result c.from_residual.ensures.1 in
    rw (p.1, p.2) (fails c.args.clients c.loop-word.number c.loop-word.runs c.args.words.now c.loop-word.word-index _ _ c.loop-word-test.true c.in_err-run.field-0.0 c.in_err-run.ensures c.loop-word.invariant)

pub loop-word-preserved : goal.loop-word-preserved
loop-word-preserved c = rw (c.in_ok-push.ensures.ok, c.saturating_add-number.ensures) (goes_on c.args.clients c.loop-word.number c.loop-word.runs c.args.words.now c.loop-word.word-index _ _ c.loop-word-test.true _ c.in_ok-run.ensures c.loop-word.invariant)

pub returns : goal.returns
returns c = ended c.args.clients c.loop-word.number c.loop-word.runs c.args.words.now c.loop-word.word-index _ c.loop-word-test.false c.loop-word.invariant
