use Rattle.proof_resume.proofs.Starts.Starting.{finishes_start, ranges_start}
use Rattle.proof_resume.proofs.start_laws.finishes_start.Goals as goal

pub returns : goal.returns
returns c = record { ranges = ranges_start; start = finishes_start }
