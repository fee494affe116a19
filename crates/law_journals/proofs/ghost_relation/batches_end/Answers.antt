use Rattle.proof_journals.proofs.Ghost.Relation.AllViews.{batch_commits, batch_rolls_back, lowers_all}
use Rattle.law_journals.proofs.ghost_relation.batches_end.Goals as goal

pub returns-clause-committed : goal.returns-clause-committed
returns-clause-committed g c = batch_commits

pub returns-clause-rolled_back : goal.returns-clause-rolled_back
returns-clause-rolled_back g c = batch_rolls_back

pub returns-clause-repeated : goal.returns-clause-repeated
returns-clause-repeated g c = lowers_all
