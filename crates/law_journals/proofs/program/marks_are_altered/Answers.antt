use Rattle.proof_migration.proofs.Program.Turns.GoingOn.{marks_are_altered}
use Rattle.law_journals.proofs.program.marks_are_altered.Goals as goal

pub returns : goal.returns
returns c = marks_are_altered
