-- *Text of a rebuild* of a run in which the RENAME was done. (This project's rule: it speaks of the server's table and log, and of no
-- shards.)
use Rattle.std.specs.Prelude.{◌≡◌, true, false, ℕ, List, [], ◌∷◌, unwrap_or, Option, Some, None}
use Rattle.std.specs.List.{list_any}
use Rattle.std.specs.Option.{option_map}
use Rattle.base_values.specs.declared.value.Value.{Value}
use Rattle.table_store.specs.Databases.{TableRows, find_table}
use Rattle.server_model.specs.declared.entry.Entry.{Entry}
use Rattle.server_model.specs.States.{State, unread}
use Rattle.plan_data.specs.PlanData.{PlanData, new_map, plan_altered}
use Rattle.plan_data.specs.declared.plan.AlteredSchema.{AlteredSchema}
use Rattle.tool_program.specs.EventApplier.Appliers.{events_of}
use Rattle.tool_program.specs.JournalWords.Histories.{history, is_alter}
use Rattle.tool_program.specs.JournalWords.Journals.{state_at}
use Rattle.proof_plans.specs.ReadPlans.Laws.{WasRead}
use Rattle.proof_rebuild.specs.Shards.{UnfitRow, first_unfit, rows_seen}
use Rattle.run_replay.specs.WholeReplay.Marks.{at_mark, logged_at_mark}
use Rattle.law_rebuild.specs.Laws.{IsRebuiltOf}
use Rattle.law_rebuild.specs.Marks.{changes_logged}
use Rattle.top_endings.specs.Rebuilt.{rebuilt_text, unfit_text}
use Rattle.top_call.specs.ResumedRuns.{Resumes, run_in}
use Rattle.top_call.specs.WholeReplays.SoundRuns.{IsSoundRun}

-- *After the mark*: this is the server after a journal in which the RENAME was done, and so many events of the migrated table did the
-- log have then, where the run's turns did it
pub record IsAfterMark (plan : PlanData) (journal : List Entry) (logged : Option ℕ) (server : State) : Type 0 where
  pub was_read : WasRead plan
  pub sound : IsSoundRun plan (run_in plan journal)
  pub resumes : Resumes plan journal
  pub altered : list_any is_alter (history plan journal) ≡ true
  pub counted : logged ≡ logged_at_mark plan (plan.table ∷ []) (run_in plan journal)
  pub server_is : server ≡ state_at plan journal

-- how many of the migrated table's events are read: those that were counted at the mark; all, where none were, since nothing of the
-- table is logged after a new tool's RENAME
abbrev pub count_read : List ℕ → Option ℕ → State → ℕ
count_read table (Some logged) server = logged
count_read table None server = unread server 0 (table ∷ [])

-- *Finished marks are rebuilt*: where a new tool did the RENAME, the table under the migrated one's name is right after it what its opening
-- rows and the log make, altered; and nothing of the table is logged after that.
pub record IsMarkedBehind (plan : PlanData) (table : TableRows) (new : AlteredSchema) (journal : List Entry) : Type 0 where
  pub rebuilt : IsRebuiltOf table new (changes_logged plan.table (at_mark plan journal).log) (find_table plan.table (at_mark plan journal).tables)
  pub last : events_of plan.table (state_at plan journal).log ≡ events_of plan.table (at_mark plan journal).log

abbrev pub FinishedMarksAreRebuilt : Type 0
FinishedMarksAreRebuilt =
    (plan : PlanData) (table : TableRows) (new : AlteredSchema) (journal : List Entry) → WasRead plan → find_table plan.table plan.tables ≡ Some table → plan_altered plan ≡ Some (new.schema, new.map) → IsSoundRun plan (run_in plan journal) → Resumes plan journal
    → list_any is_alter (history plan (run_in plan journal)) ≡ false → list_any is_alter (history plan journal) ≡ true → IsMarkedBehind plan table new journal

-- the opening rows of the migrated table
abbrev pub opening_rows : PlanData → List (List Value)
opening_rows plan = unwrap_or (option_map (λ table. table.rows) (find_table plan.table plan.tables)) []

-- the first of the migrated table's opening rows, and of the rows after each of its changes that the log has at the mark, that has
-- no converted row
abbrev pub unfit_at_mark : PlanData → List Entry → Option UnfitRow
unfit_at_mark plan journal = first_unfit (new_map plan) 0 (rows_seen (opening_rows plan) (changes_logged plan.table (at_mark plan journal).log))

-- the table's line and rows, where it exists
abbrev pub table_text : Option TableRows → List ℕ
table_text None = []
table_text (Some table) = rebuilt_text table.schema table.rows

-- the place of an unfit row, or else the table
abbrev pub row_or_table : Option UnfitRow → Option TableRows → List ℕ
row_or_table (Some row) table = unfit_text row.place
row_or_table None table = table_text table

-- *Text at the mark*: the migrated table as it is right after the RENAME; or the place of the first row that was seen until then and
-- has no converted row
abbrev pub text_at_mark : PlanData → List Entry → List ℕ
text_at_mark plan journal = row_or_table (unfit_at_mark plan journal) (find_table plan.table (at_mark plan journal).tables)
