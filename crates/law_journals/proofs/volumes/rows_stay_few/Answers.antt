use Rattle.proof_bounds.proofs.Volumes.Views.{views_few}
use Rattle.proof_bounds.proofs.Volumes.Volumes.{committed_few}
use Rattle.law_journals.proofs.volumes.rows_stay_few.Goals as goal

pub returns : goal.returns
returns c = record { committed = committed_few; seen = views_few }
