use Rattle.proof_migration.proofs.ToolPhase.Chunks.Onlines.{journals_online}
use Rattle.law_journals.proofs.chunks.journals_are_online.Goals as goal

pub returns : goal.returns
returns c = journals_online c.stored_values_store_again.ensures
