use Rattle.proof_migration.proofs.ToolPhase.Chunks.Onlines.{ends_come}
use Rattle.law_journals.proofs.chunks.chunk_ends_come_at_once.Goals as goal

pub returns : goal.returns
returns c = ends_come
