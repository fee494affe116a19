-- *Has a checkpoint*: a run wrote one, and its changelog exists. A changelog that an earlier migration left is none of the run's,
-- and is dropped in the setup. (After gh-ost's `resume.md`; what counts as one is this project's rule.)
use Rattle.std.specs.Prelude.{Bool, true, false, ◌&&◌, List, Option, Some}
use Rattle.std.specs.List.{list_any}
use Rattle.base_values.specs.ToolNames.{log_name}
use Rattle.base_script.specs.declared.actor.Actor.{Actor}
use Rattle.base_script.specs.declared.actor.Actor.TheVariants.{Insp}
use Rattle.base_script.specs.declared.statement.Statement.TheVariants as statements
use Rattle.table_store.specs.Databases.{has_table}
use Rattle.server_model.specs.declared.answer.Answer.{Answer}
use Rattle.server_model.specs.declared.answer.Answer.TheVariants as answers
use Rattle.server_model.specs.declared.entry.Asked.{Asked}
use Rattle.server_model.specs.declared.entry.Asked.TheVariants.{Call}
use Rattle.server_model.specs.declared.entry.Entry.{Entry}
use Rattle.server_model.specs.declared.request.Request.TheVariants as requests
use Rattle.plan_data.specs.PlanData.{PlanData}
use Rattle.tool_program.specs.JournalWords.Journals.{state_at}
use Rattle.tool_program.specs.NoteWriter.Notes.{is_checkpoint}
use Rattle.tool_program.specs.Tools.{ToolPhase, SettingUp, Migrating, moment}

-- a checkpoint's row: the inspector's REPLACE of the row with id 0
abbrev pub asks_checkpoint : Actor → Asked → Bool
asks_checkpoint Insp (Call (requests.Do (statements.Replace table columns row drawn))) = is_checkpoint row
asks_checkpoint actor asked = false

-- the call was done, also where nobody heard of it
abbrev pub was_done : Answer → Option Answer → Bool
was_done (answers.Ok count) missed = true
was_done answer (Some (answers.Ok count)) = true
was_done answer missed = false

abbrev pub writes_checkpoint : Entry → Bool
writes_checkpoint entry = asks_checkpoint entry.actor entry.asked && was_done entry.answer entry.missed

-- the setup is over
abbrev pub is_migrating : ToolPhase → Bool
is_migrating (SettingUp setup tries) = false
is_migrating (Migrating work) = true

-- *Has a checkpoint*: the setup is over, a checkpoint's row was written, and the changelog exists.
unfoldable pub has_checkpoint : PlanData → List Entry → Bool
has_checkpoint plan run = is_migrating (moment plan run).tool.tool_phase && list_any writes_checkpoint run && has_table (log_name plan.table) (state_at plan run).tables
