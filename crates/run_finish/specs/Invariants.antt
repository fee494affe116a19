-- What holds of the parts of a run that is finished, between its turns. (This project's rule.)
use Rattle.std.specs.Prelude.{◌≡◌, ℕ, ◌≤◌, Bool, true, false, List, [], ◌∷◌, ◌++◌, length, take, drop, Some, None}
use Rattle.base_values.specs.ToolNames.{log_name}
use Rattle.server_model.specs.declared.entry.Entry.{Entry}
use Rattle.server_model.specs.States.{State}
use Rattle.plan_data.specs.PlanData.{PlanData}
use Rattle.tool_finish.specs.Callable.{IsFinishable}
use Rattle.tool_finish.specs.Finishes.{next, stage_behind, IsFinish}
use Rattle.tool_finish.specs.declared.stage.Stage.{Stage}
use Rattle.tool_program.specs.JournalWords.Journals.{after_entry, state_at, IsFaithful}
use Rattle.tool_program.specs.JournalWords.Sessions.{KeepsSessions}
use Rattle.proof_journals.specs.Run.Counts.{IsAfter}
use Rattle.run_turns.specs.declared.due_turns.migration_run.counting.Counts.{Counts}
use Rattle.run_turns.specs.declared.due_turns.migration_run.turn.Turn.{Turn}
use Rattle.run_turns.specs.DueTurns.MigrationRun.ServerTurns.{counts_of}
use Rattle.run_turns.specs.DueTurns.Due.{next_entry}
use Rattle.run_finish.specs.declared.finish_state.FinishState.{FinishState}
use Rattle.run_finish.specs.declared.sessions.LiveSession.{LiveSession}
use Rattle.run_finish.specs.Sessions.{sessions_at}

-- the run's turns and the new tool's
abbrev pub run_of : FinishState → List Entry
run_of one = take one.run_turns one.journal.items

abbrev pub turns_in : FinishState → List Entry
turns_in one = drop one.run_turns one.journal.items

-- the stage is the one behind the turns but the last, whose answer is still to be taken
pub record IsAnswered (plan : PlanData) (run turns : List Entry) (stage : Stage) : Type 0 where
  pub before : List Entry
  pub entry : Entry
  pub last : turns ≡ before ++ entry ∷ []
  pub at : stage ≡ stage_behind plan run before

abbrev pub IsStageAt : PlanData → List Entry → List Entry → Bool → Stage → Type 0
IsStageAt plan run turns true stage = IsAnswered plan run turns stage
IsStageAt plan run turns false stage = stage ≡ stage_behind plan run turns

-- What holds of the parts: the plan and the server, the journal with so many turns of the run's, and what is kept of it.
pub record IsGoing (plan : PlanData) (count : ℕ) (journal : List Entry) (tables : List (List ℕ)) (live : List LiveSession) (counted : Counts) (most : ℕ) (at : Stage) (answered : Bool) (state : State) : Type 0 where
  pub finishable : IsFinishable plan (take count journal)
  pub bound : count ≤ length journal
  pub finish : IsFinish plan (take count journal) (drop count journal)
  pub faithful : IsFaithful plan journal
  pub kept : KeepsSessions journal
  pub following : IsAfter (state_at plan journal) state
  pub names : tables ≡ plan.table ∷ log_name plan.table ∷ []
  pub sessions : live ≡ sessions_at plan journal
  pub counts : counted ≡ counts_of state
  pub made : state.made ≤ most
  pub stage : IsStageAt plan (take count journal) (drop count journal) answered at

abbrev pub IsFinishState : FinishState → State → Type 0
IsFinishState one state = IsGoing one.plan.now one.run_turns one.journal.items one.names one.sessions.items one.counts one.made one.stage one.is_answered state

-- the last answer is taken, and all else is as before
pub record Reads (before after : FinishState) : Type 0 where
  pub stage : after.stage ≡ stage_behind before.plan.now (run_of before) (turns_in before)
  pub same : after ≡ record before { stage = after.stage; is_answered = false }

-- the turn comes next
pub record IsNext (one : FinishState) (turn : Turn) : Type 0 where
  pub asked : next one.plan.now one.journal.items one.stage ≡ Some (turn.actor, turn.asked)
  pub side : turn.side ≡ None

-- a turn was taken on the server
pub record TakesTurn (before : FinishState) (server : State) (turn : Turn) (after : FinishState) (left : State) : Type 0 where
  pub plan : after.plan ≡ before.plan
  pub run : after.run_turns ≡ before.run_turns
  pub journal : after.journal.items ≡ before.journal.items ++ next_entry before.journal.items server turn ∷ []
  pub server_left : left ≡ after_entry server (next_entry before.journal.items server turn)

-- the call or the loss that comes next was taken
pub record Advances (before : FinishState) (server : State) (after : FinishState) (left : State) : Type 0 where
  pub entry : Entry
  pub asked : next before.plan.now before.journal.items (stage_behind before.plan.now (run_of before) (turns_in before)) ≡ Some (entry.actor, entry.asked)
  pub plan : after.plan ≡ before.plan
  pub run : after.run_turns ≡ before.run_turns
  pub journal : after.journal.items ≡ before.journal.items ++ entry ∷ []
  pub server_left : left ≡ after_entry server entry

-- none was; the server may have made a session that is lost again
pub record IsStill (before : FinishState) (server : State) (after : FinishState) (left : State) : Type 0 where
  pub plan : after.plan ≡ before.plan
  pub run : after.run_turns ≡ before.run_turns
  pub journal : after.journal.items ≡ before.journal.items
  pub following : IsAfter server left
