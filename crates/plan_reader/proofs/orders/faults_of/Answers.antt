use Rattle.std.proofs.lemmas.Result.{err_from_is_err_and}
use Rattle.plan_reader.specs.Orders.{numbered_loss}
use Rattle.plan_reader.proofs.Walks.{goes_on, fails, ended}
use Rattle.plan_reader.proofs.orders.faults_of.Goals as goal

pub returns-in_err-loss : goal.returns-in_err-loss
returns-in_err-loss c =
    let p = err_from_is_err_and c.from_residual.result c.from_residual.ensures.1 in
    rw (p.1, p.2) (fails (numbered_loss c.args.clients) c.loop-text.fault c.loop-text.losses c.args.texts.now c.loop-text.text-index _ _ c.loop-text-test.true c.in_err-loss.field-0.0 c.in_err-loss.ensures c.loop-text.invariant)

pub loop-text-preserved : goal.loop-text-preserved
loop-text-preserved c = rw (c.in_ok-push.ensures.ok, c.saturating_add-fault.ensures) (goes_on (numbered_loss c.args.clients) c.loop-text.fault c.loop-text.losses c.args.texts.now c.loop-text.text-index _ _ c.loop-text-test.true _ c.in_ok-loss.ensures c.loop-text.invariant)

pub returns : goal.returns
returns c = ended (numbered_loss c.args.clients) c.loop-text.fault c.loop-text.losses c.args.texts.now c.loop-text.text-index _ c.loop-text-test.false c.loop-text.invariant
