-- What worker threads ask of a plan, every plan that is read has.
use Rattle.plan_data.specs.PlanData.{PlanData}
use Rattle.proof_plans.specs.ReadPlans.Laws.{WasRead}
use Rattle.run_workers.specs.WorkerRun.Workers.{IsGoing}

-- *Read plans go*: each is a going plan.
abbrev pub ReadPlansGo : Type 0
ReadPlansGo = (plan : PlanData) → WasRead plan → IsGoing plan
