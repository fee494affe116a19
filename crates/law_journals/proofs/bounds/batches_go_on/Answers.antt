use Rattle.proof_bounds.proofs.TaskTurns.BatchesGo.{batches_go}
use Rattle.law_journals.proofs.bounds.batches_go_on.Goals as goal

pub returns : goal.returns
returns c = batches_go (record {
  again = c.stored_values_store_again.ensures;
  alone = c.exclusive_is_alone.ensures;
  defined = c.definitions_are_done.ensures;
  reported = c.waits_are_reported.ensures.reported;
  turned = c.journals_are_turned.ensures;
})
