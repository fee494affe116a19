use Rattle.proof_order.proofs.BatchTurns.{inserts_applied}
use Rattle.law_journals.proofs.order.journals_apply_inserts.Goals as goal

pub returns : goal.returns
returns c = inserts_applied
