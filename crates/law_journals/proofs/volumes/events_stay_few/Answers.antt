use Rattle.proof_bounds.proofs.Volumes.Hints.{hints_few, read_few}
use Rattle.proof_bounds.proofs.Volumes.Volumes.{events_few}
use Rattle.law_journals.proofs.volumes.events_stay_few.Goals as goal

pub returns : goal.returns
returns c = record { table = events_few; changelog = hints_few; read = read_few }
