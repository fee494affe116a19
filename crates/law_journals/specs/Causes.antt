-- Which cause a verdict names, of every run of every accepted plan.
use Rattle.std.specs.Prelude.{◌≡◌, List}
use Rattle.server_model.specs.declared.entry.Entry.{Entry}
use Rattle.server_model.specs.declared.outcome.Cause.{Cause}
use Rattle.server_model.specs.declared.outcome.Verdict.TheVariants.{Reverted}
use Rattle.plan_data.specs.PlanData.{PlanData}
use Rattle.tool_program.specs.Failures.{Stands}
use Rattle.tool_program.specs.Verdicts.{verdict_of}
use Rattle.proof_journals.specs.Run.Kept.{IsKept}
use Rattle.proof_order.specs.LeastCauses.{IsNoLater}
use Rattle.proof_plans.specs.ReadPlans.Laws.{WasRead}

-- *Accepted causes are least*: where all was reverted, the verdict's cause is no later than any that stands.
abbrev pub AcceptedCausesAreLeast : Type 0
AcceptedCausesAreLeast = (plan : PlanData) (journal : List Entry) (cause other : Cause) → WasRead plan → IsKept plan journal → Stands plan journal other → verdict_of plan journal ≡ Reverted cause → IsNoLater cause other
