use Rattle.proof_journals.proofs.PlanJournals.{plan_runs_are_scene_runs}
use Rattle.law_journals.proofs.histories.plan_runs_are_scene_runs.Goals as goal

pub returns : goal.returns
returns c = plan_runs_are_scene_runs
