use Rattle.proof_resume.proofs.Starts.Exchanging.{finishes_exchange_altered, finishes_start_right}
use Rattle.proof_resume.proofs.start_laws.finishes_exchange_altered.Goals as goal

pub returns : goal.returns
returns c = record { right = finishes_start_right; altered = finishes_exchange_altered }
