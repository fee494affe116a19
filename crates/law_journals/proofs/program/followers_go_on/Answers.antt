use Rattle.proof_migration.proofs.Program.Turns.GoingOn.{followers_go_on}
use Rattle.law_journals.proofs.program.followers_go_on.Goals as goal

pub returns : goal.returns
returns c = followers_go_on
