-- What every accepted plan has, and each run of it: on this stand the laws of their traces. (This project's rule.)
use Rattle.std.specs.Prelude.{List}
use Rattle.base_values.specs.Laws.{StoresAgain}
use Rattle.server_model.specs.declared.entry.Entry.{Entry}
use Rattle.plan_data.specs.PlanData.{PlanData}
use Rattle.proof_journals.specs.Plans.{IsPlanRun}
use Rattle.proof_journals.specs.Run.Kept.{IsKept}
use Rattle.proof_plans.specs.Laws.{AcceptedCausesStand, AcceptedRunsAreSerial}
use Rattle.proof_plans.specs.ReadPlans.Laws.{ReadPlansAreAlterable, ReadPlansAreRunnable, ReadPlansAreSerial, ReadPlansAreWorded, WasRead}
use Rattle.proof_plans.specs.ReadPlans.Options.{ReadOptionsAllow}
use Rattle.proof_plans.specs.ReadPlans.Schemas.{ReadPlansAreAccepted}

-- each kept journal of a plan that was read is a run of it
abbrev pub AcceptedRunsAreRuns : Type 0
AcceptedRunsAreRuns = (plan : PlanData) (journal : List Entry) → WasRead plan → IsKept plan journal → IsPlanRun plan journal

pub record AcceptedPlanLaws : Type 0 where
  pub again : StoresAgain
  pub accepted : ReadPlansAreAccepted
  pub runnable : ReadPlansAreRunnable
  pub alterable : ReadPlansAreAlterable
  pub serial : ReadPlansAreSerial
  pub worded : ReadPlansAreWorded
  pub allow : ReadOptionsAllow
  pub runs : AcceptedRunsAreRuns
  pub serial_runs : AcceptedRunsAreSerial
  pub causes : AcceptedCausesStand
