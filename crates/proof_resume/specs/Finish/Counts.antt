-- *How many turns a new tool takes* besides its copier's and its applier's.
use Rattle.std.specs.Prelude.{◌≡◌, ℕ, ◌+◌, ◌≤◌, Bool, true, false, if◌then◌else◌, is_some, List, [], ◌∷◌, ◌++◌, length, drop}
use Rattle.server_model.specs.Along.{Along}
use Rattle.server_model.specs.declared.entry.Entry.{Entry}
use Rattle.plan_data.specs.PlanData.{PlanData}
use Rattle.tool_program.specs.JournalWords.Journals.{IsFaithful}
use Rattle.tool_program.specs.Orders.{actors}
use Rattle.tool_finish.specs.declared.stage.Listed.{Listed}
use Rattle.tool_finish.specs.declared.stage.Stage.{Stage}
use Rattle.tool_finish.specs.declared.stage.Stage.TheVariants.{Reading, Copying, Applying}
use Rattle.tool_finish.specs.Checkpoints.{has_checkpoint}
use Rattle.tool_finish.specs.Finishes.{checkpoint_in, stage_behind, IsFinish}
use Rattle.proof_journals.specs.Machine.Runnable.{IsRunnable}
use Rattle.proof_journals.specs.Plans.{IsSerialPlan}
use Rattle.proof_journals.specs.Run.Kept.{IsKept}

-- rows are copied, or events are applied
abbrev pub is_working : Stage → Bool
is_working (Copying copier applier) = true
is_working (Applying applier) = true
is_working stage = false

-- the turns that aren't the copier's or the applier's at work
abbrev pub other_turns : PlanData → List Entry → List Entry → List Entry → ℕ
other_turns plan run before [] = 0
other_turns plan run before (entry ∷ turns) = (if is_working (stage_behind plan run (drop (length run) before)) then 0 else 1) + other_turns plan run (before ++ entry ∷ []) turns

-- *The checkpoint is read*: the answer of the SELECT has its row, whenever it is asked for.
abbrev pub ReadsCheckpoint : PlanData → List Entry → List Entry → Type 0
ReadsCheckpoint plan run turns = Along (λ before entry. (seen : Listed) → stage_behind plan run (drop (length run) before) ≡ Reading seen → is_some (checkpoint_in entry.answer) ≡ true) run turns

-- *Other turns are few*: the losses of the sessions, which are no more than the actors, and nine calls.
abbrev pub OtherTurnsAreFew : Type 0
OtherTurnsAreFew =
    (plan : PlanData) (run turns : List Entry) → IsRunnable plan → IsSerialPlan plan → IsKept plan run → has_checkpoint plan run ≡ true → IsFinish plan run turns → IsFaithful plan (run ++ turns) → ReadsCheckpoint plan run turns → other_turns plan run run turns ≤ 9 + length (actors plan)
