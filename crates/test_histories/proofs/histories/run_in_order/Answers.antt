use Rattle.std.proofs.Common.{◌≡◌, drop, List, [], Some, sym, ◌∙◌, subst}
use Rattle.std.proofs.lemmas.List.{at_drop_all}
use Rattle.test_histories.specs.Histories.{serial_run, goes_on}
use Rattle.test_histories.specs.declared.histories.HistoryStep.{HistoryStep}
use Rattle.test_histories.proofs.HistorySteps.{ended}
use Rattle.test_histories.proofs.histories.run_in_order.Goals as goal

pub returns : goal.returns
returns c =
    let plan = c.args.plan.now in
    let end : drop c.loop-history_step.history_step-index c.args.history_steps.now ≡ [] = at_drop_all (λ (all : List HistoryStep). all) c.args.history_steps.now c.loop-history_step.history_step-index c.loop-history_step-test.false in
    sym (ended plan c.loop-history_step.so_far)
    ∙ subst (λ (left : List HistoryStep). goes_on plan left (Some c.loop-history_step.so_far) ≡ serial_run plan c.args.tables c.args.history_steps.now) end c.loop-history_step.invariant.goes
