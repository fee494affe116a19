use Rattle.proof_feeds.proofs.GoingOn.{goes_on}
use Rattle.proof_migration.proofs.ToolPhase.Ready.Actors.{someone_ready}
use Rattle.law_journals.proofs.progress.someone_is_ready.Goals as goal

pub returns : goal.returns
returns c = record { ready = someone_ready; goes = goes_on }
