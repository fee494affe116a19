use Rattle.std.proofs.lemmas.Result.{err_from_is_err_and}
use Rattle.plan_orders.proofs.Reading.{goes_on, fails, ended}
use Rattle.plan_orders.proofs.operator.commands_from.Goals as goal

pub returns-in_err-command : goal.returns-in_err-command
returns-in_err-command c =
    let p = err_from_is_err_and c.from_residual.result c.from_residual.ensures.1 in
    rw (p.1, p.2) (fails c.loop-text.line c.loop-text.commands c.args.texts.now c.loop-text.text-index _ _ c.loop-text-test.true c.in_err-command.field-0.0 c.in_err-command.ensures c.loop-text.invariant)

pub loop-text-preserved : goal.loop-text-preserved
loop-text-preserved c = rw (c.in_ok-push_command.ensures, c.saturating_add-line.ensures) (goes_on c.loop-text.line c.loop-text.commands c.args.texts.now c.loop-text.text-index _ _ c.loop-text-test.true _ c.in_ok-command.ensures c.loop-text.invariant)

pub returns : goal.returns
returns c = ended c.loop-text.line c.loop-text.commands c.args.texts.now c.loop-text.text-index _ c.loop-text-test.false c.loop-text.invariant
