use Rattle.proof_resume.proofs.Finish.Runs.{finishes_are_runs, finishes_are_serial}
use Rattle.proof_resume.proofs.finish_laws.finishes_are_runs.Goals as goal

pub returns-clause-runs : goal.returns-clause-runs
returns-clause-runs c = finishes_are_runs

pub returns-clause-serial : goal.returns-clause-serial
returns-clause-serial c = finishes_are_serial
