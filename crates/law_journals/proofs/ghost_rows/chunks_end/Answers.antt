use Rattle.proof_journals.proofs.Ghost.Rows.Steps.{chunk_commits_on, chunk_rolls_back_on, chunk_is_to_repeat, range_ends}
use Rattle.law_journals.proofs.ghost_rows.chunks_end.Goals as goal

pub returns-clause-committed : goal.returns-clause-committed
returns-clause-committed c = chunk_commits_on

pub returns-clause-rolled_back : goal.returns-clause-rolled_back
returns-clause-rolled_back c = chunk_rolls_back_on

pub returns-clause-repeated : goal.returns-clause-repeated
returns-clause-repeated c = chunk_is_to_repeat

pub returns-clause-last : goal.returns-clause-last
returns-clause-last c = range_ends
