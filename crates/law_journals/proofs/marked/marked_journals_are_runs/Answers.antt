use Rattle.proof_migration.proofs.ToolPhase.Marked.{marked_runs}
use Rattle.law_journals.proofs.marked.marked_journals_are_runs.Goals as goal

pub returns : goal.returns
returns c = marked_runs c.alterable_plans_are_runnable.ensures
