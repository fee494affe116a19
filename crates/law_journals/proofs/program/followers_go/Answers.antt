use Rattle.proof_migration.proofs.Program.Starts.{followers_go}
use Rattle.law_journals.proofs.program.followers_go.Goals as goal

pub returns : goal.returns
returns c = followers_go
