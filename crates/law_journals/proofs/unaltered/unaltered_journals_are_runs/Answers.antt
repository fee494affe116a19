use Rattle.proof_migration.proofs.ToolPhase.Unaltered.Runs.{unaltered_runs}
use Rattle.law_journals.proofs.unaltered.unaltered_journals_are_runs.Goals as goal

pub returns : goal.returns
returns c = unaltered_runs
