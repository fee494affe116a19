-- *The checkpoint's row*: the one that is stored in the changelog, and the last one that the turns of a journal wrote.
use Rattle.std.specs.Prelude.{◌≡◌, ℕ, if◌then◌else◌, pos, List, [], ◌∷◌, find, fold, Option, Some, None}
use Rattle.base_values.specs.declared.value.Value.{Value}
use Rattle.base_values.specs.declared.value.Value.TheVariants.{Num}
use Rattle.base_values.specs.GhoSchema.Rows.{key_places}
use Rattle.base_values.specs.ToolNames.{log_name}
use Rattle.base_script.specs.declared.actor.Actor.{Actor}
use Rattle.base_script.specs.declared.actor.Actor.TheVariants.{Insp}
use Rattle.base_script.specs.declared.statement.Statement.TheVariants as statements
use Rattle.table_store.specs.Databases.{Database, TableRows, find_table}
use Rattle.table_store.specs.RowLists.{is_at}
use Rattle.server_model.specs.declared.answer.Answer.{Answer}
use Rattle.server_model.specs.declared.answer.Answer.TheVariants as answers
use Rattle.server_model.specs.declared.entry.Asked.{Asked}
use Rattle.server_model.specs.declared.entry.Asked.TheVariants.{Call}
use Rattle.server_model.specs.declared.entry.Entry.{Entry}
use Rattle.server_model.specs.declared.request.Request.TheVariants as requests
use Rattle.tool_changelog.specs.Checkpoints.{checkpoint_row}
use Rattle.tool_notes.specs.declared.checkpoint.Checkpoint.{Checkpoint}
use Rattle.tool_program.specs.NoteWriter.Notes.{is_checkpoint}
use Rattle.tool_program.specs.Tools.{Work}
use Rattle.proof_journals.specs.Ghost.Rows.Moments.{Row}
use Rattle.proof_journals.specs.Turns.{reported_at}
use Rattle.proof_migration.specs.Migration.Copier.CopierPlace.{copy_state}
use Rattle.proof_resume.specs.Reached.Coverage.{IsBehindTool, left_in}

-- WHAT IS STORED

-- a checkpoint's id is 0
abbrev pub checkpoint_key : List Value
checkpoint_key = Num (pos 0) ∷ []

abbrev pub checkpoint_among : Option TableRows → Option Row
checkpoint_among None = None
checkpoint_among (Some table) = find (is_at (key_places table.schema) checkpoint_key) table.rows

-- *The checkpoint that is stored* in the changelog of the table of this name: its row
abbrev pub checkpoint_stored : List ℕ → Database → Option Row
checkpoint_stored name tables = checkpoint_among (find_table (log_name name) tables)

-- WHAT WAS WRITTEN

-- the row of a checkpoint that the inspector asks to write
abbrev pub checkpoint_asked : Actor → Asked → Option Row
checkpoint_asked Insp (Call (requests.Do (statements.Replace table columns row drawn))) = if is_checkpoint row then Some row else None
checkpoint_asked actor asked = None

-- it is written where the server did it, also where its answer was missed
abbrev pub if_done : Option Answer → Option Row → Option Row
if_done (Some (answers.Ok count)) row = row
if_done reported row = None

abbrev pub checkpoint_written : Entry → Option Row
checkpoint_written entry = if_done (reported_at entry.side entry.answer entry.missed) (checkpoint_asked entry.actor entry.asked)

abbrev pub or_earlier : Option Row → Option Row → Option Row
or_earlier earlier None = earlier
or_earlier earlier (Some row) = Some row

-- *The last checkpoint* that these turns wrote: its row
unfoldable pub last_checkpoint : List Entry → Option Row
last_checkpoint journal = fold (λ last entry. or_earlier last (checkpoint_written entry)) None journal

-- *A row is of a checkpoint behind the tool*
pub record IsOfCheckpoint (journal : List Entry) (work : Work) (row : Row) : Type 0 where
  pub found : Checkpoint
  pub is : checkpoint_row found.position found.reach ≡ Some row
  pub behind : IsBehindTool found work.applier.position (left_in (copy_state journal work.copier))
