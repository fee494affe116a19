use Rattle.proof_resume.proofs.Reached.Existing.{checkpoints_exist, stored_behind}
use Rattle.proof_resume.proofs.Reached.Lasting.{checkpoints_last}
use Rattle.proof_resume.proofs.laws.checkpoints_exist.Goals as goal

pub returns-clause-exist : goal.returns-clause-exist
returns-clause-exist c = checkpoints_exist

pub returns-clause-behind : goal.returns-clause-behind
returns-clause-behind c = stored_behind

pub returns-clause-last : goal.returns-clause-last
returns-clause-last c = checkpoints_last
