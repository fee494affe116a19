use Rattle.law_journals.proofs.Sums.{chunks_bounded, batches_bounded}
use Rattle.law_journals.proofs.bounds.tasks_are_bounded.Goals as goal

pub returns : goal.returns
returns c =
    let runnable = c.read_plans_are_runnable.ensures in
    let serial = c.read_plans_are_serial.ensures.serial in
    record {
      chunks = chunks_bounded c.stored_values_store_again.ensures c.definitions_are_done.ensures c.rows_stay_few.ensures.committed c.chunks_are_few.ensures c.read_options_allow.ensures runnable serial;
      batches = batches_bounded
          (record {
            again = c.stored_values_store_again.ensures;
            alone = c.exclusive_is_alone.ensures;
            defined = c.definitions_are_done.ensures;
            reported = c.waits_are_reported.ensures.reported;
            turned = c.journals_are_turned.ensures;
          }) c.events_stay_few.ensures.table c.events_stay_few.ensures.changelog c.read_options_allow.ensures runnable serial c.read_plans_are_serial.ensures.alterable;
    }
