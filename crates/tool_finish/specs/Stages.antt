-- What holds of a stage, and of what is looked at, at any time. (This project's rule.)
use Rattle.std.specs.Prelude.{◌≡◌, ℕ, ◌≤◌, Bool, true, false, List, [], ◌∷◌, Option}
use Rattle.base_values.specs.ToolNames.{log_name}
use Rattle.base_script.specs.declared.actor.Actor.{Actor}
use Rattle.server_model.specs.declared.entry.Entry.{Entry}
use Rattle.server_model.specs.declared.outcome.Verdict.{Verdict}
use Rattle.server_model.specs.declared.outcome.Verdict.TheVariants as verdicts
use Rattle.plan_data.specs.PlanData.{PlanData}
use Rattle.tool_program.specs.ChunkCopier.CopierFacts as chunks
use Rattle.tool_program.specs.EventApplier.BatchPlans as batches
use Rattle.tool_finish.specs.declared.stage.Stage.{Stage}
use Rattle.tool_finish.specs.declared.stage.Stage.TheVariants.{Reading, Ranging, Copying, Applying, DroppingLog, DroppingOld, RollingBack, Done, Reverted}
use Rattle.tool_finish.specs.Finishes.{first_live, cause_of}

-- the copier's chunks are no more than the turns, and each machine's step is one that it may be at
abbrev pub FitsStage : ℕ → Stage → Type 0
FitsStage turns (Copying copier applier) = (copier.number ≤ turns) × chunks.StepFits copier.step × batches.StepFits applier.step
FitsStage turns (Applying applier) = batches.StepFits applier.step
FitsStage turns stage = Unit {0}

-- an answer at this stage is copied or read, which takes memory
abbrev pub wants_memory : Stage → Bool
wants_memory (Reading listed) = true
wants_memory (Ranging found) = true
wants_memory stage = false

-- the actor is the first that has a session, and the tables are those that the applier reads
pub record IsSeen (plan : PlanData) (journal : List Entry) (first : Option Actor) (tables : List (List ℕ)) : Type 0 where
  pub live : first ≡ first_live plan journal
  pub names : tables ≡ plan.table ∷ log_name plan.table ∷ []

-- the new tool is over behind the answer at this stage, whatever it is
abbrev pub ends : Stage → Bool
ends (DroppingLog false) = true
ends DroppingOld = true
ends (RollingBack row) = true
ends Done = true
ends (Reverted row) = true
ends stage = false

-- its verdict behind that answer
abbrev pub verdict_behind : PlanData → List Entry → Stage → Verdict
verdict_behind plan journal (DroppingLog false) = verdicts.Done
verdict_behind plan journal DroppingOld = verdicts.Done
verdict_behind plan journal (RollingBack row) = verdicts.Reverted (cause_of plan journal row)
verdict_behind plan journal Done = verdicts.Done
verdict_behind plan journal (Reverted row) = verdicts.Reverted (cause_of plan journal row)
verdict_behind plan journal stage = verdicts.Unfinished
