use Rattle.proof_migration.proofs.ToolPhase.Marked.{marked_serial}
use Rattle.law_journals.proofs.marked.marked_journals_are_serial.Goals as goal

pub returns : goal.returns
returns c = marked_serial c.alterable_plans_are_runnable.ensures
