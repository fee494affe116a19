-- *Finishes are few*: how many turns a new tool takes at most.
use Rattle.std.specs.Prelude.{◌≡◌, ℕ, ◌+◌, ◌*◌, ◌≤◌, true, List, [], ◌∷◌, ◌++◌, length, Option, Some, None}
use Rattle.base_values.specs.ToolNames.{log_name}
use Rattle.table_store.specs.Databases.{TableRows, find_table}
use Rattle.server_model.specs.States.{State, unread}
use Rattle.server_model.specs.declared.entry.Entry.{Entry}
use Rattle.plan_data.specs.declared.plan.TheConstants.{CLIENT_LIMIT}
use Rattle.plan_data.specs.PlanData.{PlanData}
use Rattle.tool_notes.specs.declared.checkpoint.Checkpoint.{Checkpoint}
use Rattle.tool_notes.specs.Readings.{checkpoint_of}
use Rattle.tool_program.specs.JournalWords.Journals.{state_at, IsFaithful}
use Rattle.tool_finish.specs.Checkpoints.{has_checkpoint}
use Rattle.tool_finish.specs.Finishes.{IsFinish}
use Rattle.proof_journals.specs.Ghost.HeldKeys.{Clustered}
use Rattle.proof_journals.specs.Ghost.Rows.Moments.{Row}
use Rattle.proof_journals.specs.Plans.{IsPlanRun}
use Rattle.proof_journals.specs.Run.Kept.{IsKept}
use Rattle.proof_migration.specs.Migration.Planning.{migration_of}
use Rattle.proof_migration.specs.Program.Turns.Laws.{IsMigrationOf}
use Rattle.proof_migration.specs.ToolPhase.Runnable.{IsAlterable}
use Rattle.proof_bounds.specs.AttemptTurns.Attempts.{MayTry}
use Rattle.proof_plain.specs.Plans.{IsShort, PlainPlan}
use Rattle.proof_resume.specs.Reached.Checkpoints.{checkpoint_stored}

abbrev pub count_of : Option TableRows → ℕ
count_of None = 0
count_of (Some table) = length table.rows

abbrev pub position_of : Option Checkpoint → ℕ
position_of None = 0
position_of (Some found) = found.position

abbrev pub position_in : Option Row → ℕ
position_in None = 0
position_in (Some row) = position_of (checkpoint_of row)

-- the events of the migrated table and of the changelog from the checkpoint's position on
abbrev pub events_left : PlanData → State → ℕ
events_left plan state = unread state (position_in (checkpoint_stored plan.table state.tables)) (plan.table ∷ log_name plan.table ∷ [])

-- *How many turns it takes at most*, on the server after the run: four for each row of the migrated table, six for each event that is
-- left, and 90: a loss for each of 70 actors, nine calls of the inspector's and the renamer's, three for the last chunk, and eight to spare
abbrev pub most_turns : PlanData → State → ℕ
most_turns plan state = 4 * count_of (find_table plan.table state.tables) + 6 * events_left plan state + 90

-- *Finishes are few*, whether the run did its RENAME or not
abbrev pub FinishesAreFew : Type 0
FinishesAreFew =
    (plan : PlanData) (is : IsAlterable plan) (at : Clustered is.table.schema) → IsMigrationOf plan (migration_of is.table.schema is.new) is.table.rows → MayTry plan → PlainPlan plan → length plan.clients ≤ CLIENT_LIMIT → ((before : List Entry) → IsKept plan before → IsPlanRun plan before)
    → (run turns : List Entry) → IsKept plan run → IsShort run → has_checkpoint plan run ≡ true → IsFinish plan run turns → IsFaithful plan (run ++ turns) → length turns ≤ most_turns plan (state_at plan run)
