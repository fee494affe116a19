-- *Other tables draw so*: in every journal that is kept, a number that is drawn from a table that neither is the migrated one nor has a
-- name of the tool's is drawn by a client, is the table's counter, and is above each number that was drawn from the table before, and
-- above every value of its column.
use Rattle.std.specs.Prelude.{◌≡◌, ◌≤◌, ◌<◌, ◌||◌, ℕ, false, List, length, unwrap_or, Some}
use Rattle.std.specs.List.{AllByRecursion}
use Rattle.std.specs.Str.{bytes_eq}
use Rattle.base_values.specs.GhoSchema.AutoIncrement.{auto_place}
use Rattle.base_values.specs.GhoSchema.Tables.{IsRow}
use Rattle.base_values.specs.ToolNames.{is_tool_name}
use Rattle.base_script.specs.declared.statement.Statement.{Statement}
use Rattle.table_store.specs.Databases.{TableRows}
use Rattle.server_model.specs.declared.entry.Entry.{Entry}
use Rattle.server_model.specs.declared.request.Request.TheVariants as requests
use Rattle.server_model.specs.Operations.{table_of}
use Rattle.plan_data.specs.PlanData.{PlanData}
use Rattle.tool_program.specs.JournalWords.Draws.{asked_in, IsDrawn}
use Rattle.tool_program.specs.JournalWords.Journals.{IsAnswered, state_at}
use Rattle.tool_program.specs.Programs.{IsFollowed}
use Rattle.proof_journals.specs.Run.Kept.{IsKept}
use Rattle.law_draws.specs.SmallNumbers.{CountsIn}

abbrev pub IsOther : PlanData → List ℕ → Type 0
IsOther plan name = (bytes_eq name plan.table || is_tool_name plan.table name) ≡ false

-- a table's AUTO_INCREMENT column may be one, its rows are rows of its columns, and its start is one of a BIGINT's numbers
pub record StartsWell (table : TableRows) (place : ℕ) : Type 0 where
  pub counts : CountsIn table.schema place
  pub rows : AllByRecursion (IsRow table.schema.columns) table.rows
  pub start : unwrap_or table.schema.start 1 ≤ 9223372036854775808

abbrev pub MayCount : TableRows → Type 0
MayCount table = (place : ℕ) → auto_place table.schema ≡ Some place → StartsWell table place

-- *Other tables draw so*
abbrev pub OtherTablesDraw : Type 0
OtherTablesDraw =
    (plan : PlanData) (journal : List Entry) (entry : Entry) (number : ℕ) (statement : Statement) → AllByRecursion MayCount plan.tables → length journal < 9223372036854775807 → IsKept plan journal → IsAnswered (state_at plan journal) entry → IsFollowed plan journal entry
    → entry.draw ≡ Some number → asked_in (state_at plan journal) entry ≡ Some (requests.Do statement) → IsOther plan (table_of statement) → IsDrawn plan journal entry number
