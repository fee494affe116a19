use Rattle.proof_bounds.proofs.TaskTurns.ChunksGo.{chunks_go}
use Rattle.law_journals.proofs.bounds.chunks_go_on.Goals as goal

pub returns : goal.returns
returns c = chunks_go c.stored_values_store_again.ensures c.definitions_are_done.ensures
