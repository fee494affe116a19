use Rattle.std.proofs.Common.{◌≡◌, drop, Some}
use Rattle.test_histories.specs.Histories.{serial_run, goes_on, AreValid}
use Rattle.test_histories.proofs.histories.run_in_order.Given as goal

-- what is left makes of what came so far what all makes; and the tables are lawful
abbrev pub invariant-loop-history_step : goal.invariant-loop-history_step
invariant-loop-history_step l = record {
  valid : AreValid l.so_far.tables;
  goes : goes_on l.plan (drop l.history_step-index l.history_steps) (Some l.so_far) ≡ serial_run l.plan l.fn.tables l.history_steps;
}
