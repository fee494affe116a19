-- *Running*: what holds of a run's parts between its turns, and which turn comes next. (This project's rule.)
use Rattle.std.specs.Prelude.{◌≡◌, ℕ, ◌≤◌, List, length, Some}
use Rattle.base_script.specs.declared.actor.Actor.{Actor}
use Rattle.server_model.specs.declared.entry.Entry.{Entry}
use Rattle.server_model.specs.States.{State}
use Rattle.plan_data.specs.PlanData.{PlanData}
use Rattle.tool_program.specs.JournalWords.Journals.{state_at}
use Rattle.proof_journals.specs.Run.Counts.{IsAfter}
use Rattle.proof_journals.specs.Run.Kept.{IsKept}
use Rattle.proof_journals.specs.Machine.Runnable.{IsRunnable}
use Rattle.run_state.specs.declared.run_state.RunState.{RunState}
use Rattle.run_state.specs.Books.{HasRoomFor, IsRunState}
use Rattle.run_turns.specs.declared.due_turns.migration_run.turn.Turn.{Turn}
use Rattle.run_turns.specs.DueTurns.Due.{due}

-- the turn comes next where some actor is to take one
pub record IsDue (plan : PlanData) (journal : List Entry) (turn : Turn) : Type 0 where
  pub actor : Actor
  pub is : due plan journal actor ≡ Some turn

-- What holds of a run: its plan is runnable; its journal is kept, with no more turns than the plan allows, and the run state is
-- that journal's, with room for all turns that the plan allows; and the server is the one after it, with no more sessions than
-- were counted.
pub record IsRun (plan : PlanData) (journal : List Entry) (one : RunState) (sessions : ℕ) (state : State) : Type 0 where
  pub runs : IsRunnable plan
  pub kept : IsKept plan journal
  pub bound : length journal ≤ plan.options.turn_limit
  pub run_state : IsRunState plan journal one
  pub room : HasRoomFor plan journal one
  pub server : IsAfter (state_at plan journal) state
  pub made : state.made ≤ sessions
