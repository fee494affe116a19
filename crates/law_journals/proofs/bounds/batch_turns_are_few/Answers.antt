use Rattle.proof_bounds.proofs.TaskTurns.Batches.{batch_few}
use Rattle.law_journals.proofs.bounds.batch_turns_are_few.Goals as goal

pub returns : goal.returns
returns c = batch_few c.definitions_are_done.ensures
