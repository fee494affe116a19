-- *A run that is finished*: behind its turns a new tool takes its own, one by one, on the same server. (This project's rule.)
use Rattle.std.specs.Prelude.{◌≡◌, Bool, true, false, List, [], ◌∷◌, ◌++◌, Result, Ok, Err, Some}
use Rattle.server_model.specs.declared.entry.Entry.{Entry}
use Rattle.server_model.specs.States.{State}
use Rattle.plan_data.specs.PlanData.{PlanData}
use Rattle.tool_finish.specs.Checkpoints.{has_checkpoint}
use Rattle.tool_finish.specs.Finishes.{next, stage_behind, is_over}
use Rattle.tool_program.specs.JournalWords.Journals.{after_entry}
use Rattle.proof_journals.specs.Run.Counts.{IsAfter}
use Rattle.run_turns.specs.Runs.{RunView}
use Rattle.run_turns.specs.declared.run.Stepped.{Stepped}
use Rattle.run_turns.specs.declared.run.Stepped.TheVariants.{Took, Idle, Over, NoMemory}
use Rattle.run_finish.specs.declared.finish.FinishFault.{FinishFault}
use Rattle.run_finish.specs.declared.finish.FinishFault.TheVariants.{NoCheckpoint, Memory}

pub record FinishRun : Type 0 where
  pub plan : PlanData
  -- the run's turns
  pub run : List Entry
  -- the new tool's
  pub turns : List Entry
  -- the server
  pub server : State

-- *Over*: the new tool is
abbrev pub is_ended : FinishRun → Bool
is_ended finish = is_over (stage_behind finish.plan finish.run finish.turns)

-- *What opening answers*: the run with no turn of the new tool, or the run as it was
abbrev pub Opens : RunView → Result FinishRun (RunView × FinishFault) → Type 0
Opens run (Ok finish) = (has_checkpoint run.plan run.journal ≡ true) × (finish ≡ record { plan = run.plan; run = run.journal; turns = []; server = run.server })
Opens run (Err (left, NoCheckpoint)) = (has_checkpoint run.plan run.journal ≡ false) × (left ≡ run)
Opens run (Err (left, Memory)) = (has_checkpoint run.plan run.journal ≡ true) × (left ≡ run)

-- the call or the loss that came next was taken
pub record TakesNext (before after : FinishRun) : Type 0 where
  pub entry : Entry
  pub asked : next before.plan (before.run ++ before.turns) (stage_behind before.plan before.run before.turns) ≡ Some (entry.actor, entry.asked)
  pub taken : after ≡ record before { turns = before.turns ++ entry ∷ []; server = after_entry before.server entry }

-- no turn was taken; the server may have made a session that is lost again
pub record IsUnmoved (before after : FinishRun) : Type 0 where
  pub plan : after.plan ≡ before.plan
  pub run : after.run ≡ before.run
  pub turns : after.turns ≡ before.turns
  pub server : IsAfter before.server after.server

-- *Steps*: what a step answers, and what it leaves. There is always a next turn until the new tool is over.
abbrev pub StepsOn : FinishRun → Stepped → FinishRun → Type 0
StepsOn before Over after = (is_ended before ≡ true) × (after ≡ before)
StepsOn before Idle after = ⊥
StepsOn before Took after = (is_ended before ≡ false) × TakesNext before after
StepsOn before NoMemory after = (is_ended before ≡ false) × IsUnmoved before after
