use Rattle.proof_journals.proofs.Ghost.Relation.AllViews.{chunk_is_committed, chunk_rolls_back}
use Rattle.law_journals.proofs.ghost_relation.chunks_end.Goals as goal

pub returns-clause-committed : goal.returns-clause-committed
returns-clause-committed g c = chunk_is_committed

pub returns-clause-rolled_back : goal.returns-clause-rolled_back
returns-clause-rolled_back g c = chunk_rolls_back
