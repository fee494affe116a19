-- What holds of tables that are rebuilt.
use Rattle.std.specs.Prelude.{◌≡◌, Bool, List, [], ◌∷◌, ◌++◌, Option, Some, Ok}
use Rattle.base_values.specs.declared.event.Change.{Change}
use Rattle.base_values.specs.declared.event.RowEvent.{RowEvent}
use Rattle.base_values.specs.declared.gho_schema.schema.Schema.{Schema}
use Rattle.base_values.specs.declared.row_conversion.clause.Clause.{Clause}
use Rattle.base_values.specs.declared.value.Value.{Value}
use Rattle.base_values.specs.GhoSchema.Rows.{key_places}
use Rattle.base_values.specs.GhoSchema.Tables.{IsTable}
use Rattle.base_values.specs.RowConversion.ConvertedRows.{converted_rows}
use Rattle.base_values.specs.SchemaRules.Valid.{IsValid}
use Rattle.table_store.specs.ClusteredKeys.{HasClusteredKey}
use Rattle.table_store.specs.Databases.{TableRows, find_table}
use Rattle.server_model.specs.declared.entry.Entry.{Entry}
use Rattle.server_model.specs.Rows.{change_all}
use Rattle.sql_change.specs.AlteredSchema.{altered}
use Rattle.plan_data.specs.PlanData.{PlanData, plan_altered}
use Rattle.plan_data.specs.declared.plan.AlteredSchema.{AlteredSchema}
use Rattle.proof_journals.specs.Ghost.Rows.Moments.{FitsAll}
use Rattle.proof_migration.specs.CutOver.{IsRename}
use Rattle.proof_plans.specs.ReadPlans.Laws.{WasRead}
use Rattle.tool_program.specs.JournalWords.Journals.{state_at}
use Rattle.run_rebuild.specs.Rebuilds.{GoTogether}
use Rattle.law_rebuild.specs.Marks.{changes_logged}

-- *Logs of altered tables go together with their opening rows*: where each event fits the table as it then is, and an ALTER of the
-- table's schema is taken, the rebuilt table is the altered form of the table that followed the events.
abbrev pub AlteredLogsGoTogether : Type 0
AlteredLogsGoTogether =
    (approve : Bool) (schema : Schema) (clauses : List Clause) (new : AlteredSchema) (rows : List (List Value)) (changes : List Change) → IsValid schema → HasClusteredKey schema → altered approve schema clauses ≡ Ok (new.schema, new.map) → IsTable schema rows → FitsAll schema rows changes
    → GoTogether new (record { schema = schema; rows = rows }) changes

-- *The rebuilt table*: the changes go together with the opening table, and the altered form of the table that followed them is there.
pub record IsRebuiltOf (table : TableRows) (new : AlteredSchema) (changes : List Change) (then : Option TableRows) : Type 0 where
  pub together : GoTogether new table changes
  pub made : List (List Value)
  pub converted : converted_rows new.map (change_all (key_places table.schema) changes table.rows) ≡ Some made
  pub stands : then ≡ Some (record { schema = new.schema; rows = made })

-- *The migrated table at the mark is the rebuilt one*: in each run of an accepted plan, right after the RENAME the table under the
-- migrated one's name is what its opening rows and the log make, altered.
abbrev pub AcceptedMarksAreRebuilt : Type 0
AcceptedMarksAreRebuilt =
    (plan : PlanData) (table : TableRows) (new : AlteredSchema) (journal : List Entry) (entry : Entry) → WasRead plan → find_table plan.table plan.tables ≡ Some table → plan_altered plan ≡ Some (new.schema, new.map) → IsRename plan journal entry
    → IsRebuiltOf table new (changes_logged plan.table (state_at plan (journal ++ entry ∷ [])).log) (find_table plan.table (state_at plan (journal ++ entry ∷ [])).tables)

-- *Logs grow*: what a journal's turns logged stays when more turns are taken.
abbrev pub LogsGrow : Type 0
LogsGrow = (plan : PlanData) (journal more : List Entry) → (rest : List RowEvent) × ((state_at plan (journal ++ more)).log ≡ (state_at plan journal).log ++ rest)
