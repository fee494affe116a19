use Rattle.proof_journals.proofs.Ghost.Rows.Steps.{batch_commits_on, batch_rolls_back_on, batch_is_to_repeat}
use Rattle.law_journals.proofs.ghost_rows.batches_end.Goals as goal

pub returns-clause-committed : goal.returns-clause-committed
returns-clause-committed c = batch_commits_on

pub returns-clause-rolled_back : goal.returns-clause-rolled_back
returns-clause-rolled_back c = batch_rolls_back_on

pub returns-clause-repeated : goal.returns-clause-repeated
returns-clause-repeated c = batch_is_to_repeat
