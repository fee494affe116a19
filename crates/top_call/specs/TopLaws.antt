-- The laws on which the top call stands. (This project's rule.)
use Rattle.proof_journals.specs.Machine.Laws.{VerdictsTellTheAlter}
use Rattle.proof_plans.specs.ReadPlans.Laws.{ReadPlansAreRunnable, ReadPlansAreSerial}
use Rattle.proof_plans.specs.Complete.Laws.{SmoothRunsAreDone}
use Rattle.proof_plans.specs.Complete.Quiet.{QuietRunsAreDone}
use Rattle.proof_plans.specs.ReadPlans.Options.{ReadOptionsAllow}
use Rattle.top_call.specs.ResumedRuns.{FinishesTellTheAlter}

-- *The laws*: of verdicts, of what every plan that was read is, of quiet and of smooth runs, of options, and of new tools
pub record Laws : Type 0 where
  pub tell : VerdictsTellTheAlter
  pub runnable : ReadPlansAreRunnable
  pub serial : ReadPlansAreSerial
  pub quiet : QuietRunsAreDone
  pub smooth : SmoothRunsAreDone
  pub allow : ReadOptionsAllow
  pub finishes : FinishesTellTheAlter
