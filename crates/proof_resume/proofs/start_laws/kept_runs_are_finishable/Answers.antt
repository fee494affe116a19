use Rattle.proof_resume.proofs.Starts.Finishable.{kept_runs_are_finishable}
use Rattle.proof_resume.proofs.Starts.StoredKeys.{found_is_keyed}
use Rattle.proof_resume.proofs.start_laws.kept_runs_are_finishable.Goals as goal

pub returns-clause-keyed : goal.returns-clause-keyed
returns-clause-keyed c = found_is_keyed

pub returns-clause-finishable : goal.returns-clause-finishable
returns-clause-finishable c = kept_runs_are_finishable
