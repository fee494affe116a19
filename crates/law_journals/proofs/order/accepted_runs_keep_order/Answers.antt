use Rattle.law_journals.proofs.order.accepted_runs_keep_order.Goals as goal

pub returns : goal.returns
returns c = record {
  order = λ plan journal was kept. c.kept_journals_keep_order.ensures plan journal (c.read_plans_are_runnable.ensures plan was) (c.read_plans_are_serial.ensures.serial was.bytes plan was.is) kept;
  locks = λ plan journal was kept. c.journals_copy_under_locks.ensures plan journal kept.faithful kept.follows;
  inserts = λ plan journal was kept. c.journals_apply_inserts.ensures plan journal kept.faithful kept.follows;
}
