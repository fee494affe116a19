-- *The beginning of the new tool*: what it finds in each stage before it copies. First all sessions are lost, and nothing else changes;
-- then it is alone, and reads the checkpoint; then at most the sentry is dropped. (This project's rule.)
use Rattle.std.specs.Prelude.{◌≡◌, ℕ, true, List, [], ◌∷◌, Option, Some, None}
use Rattle.base_script.specs.declared.actor.Actor.TheVariants.{Insp}
use Rattle.server_model.specs.declared.answer.Answer.{Answer}
use Rattle.server_model.specs.declared.answer.Answer.TheVariants as answers
use Rattle.server_model.specs.declared.answer.KeyRange.{KeyRange}
use Rattle.server_model.specs.declared.entry.Entry.{Entry}
use Rattle.server_model.specs.declared.session.Session.{Session}
use Rattle.server_model.specs.States.{new_session}
use Rattle.plan_data.specs.PlanData.{PlanData}
use Rattle.tool_notes.specs.declared.checkpoint.Checkpoint.{Checkpoint}
use Rattle.tool_notes.specs.Readings.{checkpoint_of}
use Rattle.tool_program.specs.JournalWords.Journals.{state_at}
use Rattle.tool_program.specs.JournalWords.Sessions.{live_session}
use Rattle.tool_program.specs.Programs.{Follows}
use Rattle.tool_finish.specs.declared.stage.Stage.{Stage}
use Rattle.tool_finish.specs.declared.stage.Stage.TheVariants.{Losing, Listing, Reading, Clearing, ReadingCounter, SettingCounter, Ranging}
use Rattle.proof_journals.specs.Holdings.{stored}
use Rattle.proof_journals.specs.Scenes.{no_hold}
use Rattle.proof_journals.specs.Ghost.Rows.Moments.{Row}
use Rattle.proof_journals.specs.Ghost.Rows.Timelines.{Migration}
use Rattle.proof_migration.specs.Migration.Machines.{hold_at}
use Rattle.proof_resume.specs.Reached.Checkpoints.{checkpoint_stored}
use Rattle.proof_resume.specs.Settled.Ranges.{IsRangeNow}
use Rattle.proof_resume.specs.Settled.ResumeLaws.{KeepTables}

-- all tables and the log are as after the run
pub record KeepsAll (plan : PlanData) (run journal : List Entry) : Type 0 where
  pub tables : (state_at plan journal).tables ≡ (state_at plan run).tables
  pub log : (state_at plan journal).log ≡ (state_at plan run).log

-- a session that has just connected, or has done nothing that lasts; none where the inspector has none
abbrev pub sessions_with : Option ℕ → List Session
sessions_with None = []
sessions_with (Some number) = new_session number true ∷ []

-- *Only the inspector is there*: nobody waits, and no session is live but the inspector's, which holds nothing
pub record IsAtRest (plan : PlanData) (journal : List Entry) : Type 0 where
  pub waiting : (state_at plan journal).waiting ≡ []
  pub sessions : (state_at plan journal).sessions ≡ sessions_with (live_session journal Insp)

-- the checkpoint is the one whose row the run left in the changelog
pub record IsStored (plan : PlanData) (run : List Entry) (found : Checkpoint) : Type 0 where
  pub row : Row
  pub stored : checkpoint_stored plan.table (state_at plan run).tables ≡ Some row
  pub read : checkpoint_of row ≡ Some found

-- the inspector is alone, and nothing was changed since the run
pub record IsUnchanged (plan : PlanData) (run journal : List Entry) : Type 0 where
  pub keeps : KeepsAll plan run journal
  pub rest : IsAtRest plan journal

-- the inspector is alone, and knows the checkpoint; both tables and the log are as after the run
pub record IsCleared (plan : PlanData) (m : Migration) (run journal : List Entry) (found : Checkpoint) : Type 0 where
  pub keeps : KeepTables plan m run journal
  pub rest : IsAtRest plan journal
  pub stored : IsStored plan run found

-- *What a stage before the copy finds*
abbrev pub StageFinds : PlanData → Migration → List Entry → List Entry → Stage → Type 0
StageFinds plan m run journal Losing = KeepsAll plan run journal × Follows plan journal
StageFinds plan m run journal Listing = IsUnchanged plan run journal
StageFinds plan m run journal (Reading listed) = IsUnchanged plan run journal
StageFinds plan m run journal (Clearing found) = IsUnchanged plan run journal × IsStored plan run found
StageFinds plan m run journal (ReadingCounter found) = IsCleared plan m run journal found
StageFinds plan m run journal (SettingCounter found number) = IsCleared plan m run journal found
StageFinds plan m run journal (Ranging found) = IsCleared plan m run journal found
StageFinds plan m run journal stage = Unit {0}

-- *What the copy starts from*: the range of the keys that now exist was answered, both tables and the log are as after the run, and no
-- session holds anything.
pub record StartsFrom (plan : PlanData) (m : Migration) (rows : List Row) (run journal : List Entry) (answer : Answer) : Type 0 where
  pub range : Option KeyRange
  pub answered : answer ≡ answers.Ends range
  pub ranged : IsRangeNow m rows (stored (state_at plan journal)) range
  pub keeps : KeepTables plan m run journal
  pub free : (n : ℕ) → hold_at (state_at plan journal) n ≡ no_hold
