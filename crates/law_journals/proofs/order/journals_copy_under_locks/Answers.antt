use Rattle.proof_order.proofs.ChunkTurns.{copies_locked}
use Rattle.law_journals.proofs.order.journals_copy_under_locks.Goals as goal

pub returns : goal.returns
returns c = copies_locked
