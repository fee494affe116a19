use Rattle.std.proofs.lemmas.Result.{err_from_is_err_and}
use Rattle.plan_reader.specs.Clients.{client_script}
use Rattle.plan_reader.proofs.Walks.{goes_on, fails, ended, each_text}
use Rattle.plan_reader.proofs.clients.scripts_of.Goals as goal

pub returns-in_err-script-clause-scripts : goal.returns-in_err-script-clause-scripts
returns-in_err-script-clause-scripts c =
    let p = err_from_is_err_and c.from_residual.result c.from_residual.ensures.1 in
    rw (p.1, p.2) (fails (client_script c.args.tools.now) c.loop-text.client c.loop-text.scripts c.args.texts.now c.loop-text.text-index _ _ c.loop-text-test.true c.in_err-script.field-0.0 c.in_err-script.ensures c.loop-text.invariant)

pub loop-text-preserved : goal.loop-text-preserved
loop-text-preserved c = rw (c.in_ok-push.ensures.ok, c.saturating_add-client.ensures) (goes_on (client_script c.args.tools.now) c.loop-text.client c.loop-text.scripts c.args.texts.now c.loop-text.text-index _ _ c.loop-text-test.true _ c.in_ok-script.ensures c.loop-text.invariant)

pub returns-clause-scripts : goal.returns-clause-scripts
returns-clause-scripts c = ended (client_script c.args.tools.now) c.loop-text.client c.loop-text.scripts c.args.texts.now c.loop-text.text-index _ c.loop-text-test.false c.loop-text.invariant

pub returns-clause-each : goal.returns-clause-each
returns-clause-each c = each_text (client_script c.args.tools.now) c.args.texts.now c.loop-text.scripts (ended (client_script c.args.tools.now) c.loop-text.client c.loop-text.scripts c.args.texts.now c.loop-text.text-index _ c.loop-text-test.false c.loop-text.invariant)
