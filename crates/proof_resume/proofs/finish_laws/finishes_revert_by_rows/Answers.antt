use Rattle.proof_resume.proofs.Finish.Refusals.{finishes_revert_by_rows}
use Rattle.proof_resume.proofs.finish_laws.finishes_revert_by_rows.Goals as goal

pub returns : goal.returns
returns c = finishes_revert_by_rows
