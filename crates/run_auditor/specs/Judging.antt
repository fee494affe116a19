-- What is judged, one at a time, over the tables that were reached. (This project's rule.)
use Rattle.std.specs.Prelude.{◌≡◌, ℕ, Bool, true, false, if◌then◌else◌, List, [], ◌∷◌, ◌++◌, Option, Some, None}
use Rattle.base_values.specs.declared.gho_schema.schema.Schema.{Schema}
use Rattle.table_store.specs.Databases.{TableRows, Database, is_named}
use Rattle.server_model.specs.Alone.{alone}
use Rattle.server_model.specs.LockedRows.Coverage.{IsWellFormedTable}
use Rattle.server_model.specs.LockedRows.Databases.{IsWellFormedDatabase}
use Rattle.server_storage.specs.Storage.{committed, written}
use Rattle.plan_data.specs.PlanData.{PlanData}
use Rattle.proof_journals.specs.Machine.MigrationTables.{schema_of}
use Rattle.tool_program.specs.JournalWords.AlteredTables.{plan_altered_table}
use Rattle.tool_program.specs.JournalWords.Serials.{altered_database}
use Rattle.run_audit.specs.Audits.{Judged, Ended, Altered, least, opening_tables, tables_reached, wrong_turns}
use Rattle.run_auditor.specs.declared.judge.Judge.{Judge}

-- ---- the ALTER

-- the table after the ALTER: the plan's is altered, another one stays as it is
abbrev pub table_after : PlanData → TableRows → Option TableRows
table_after plan table = if is_named plan.table table then plan_altered_table plan table else Some table

abbrev pub joined : Option TableRows → Option Database → Option Database
joined None tables = None
joined (Some table) None = None
joined (Some table) (Some tables) = Some (table ∷ tables)

-- each table after the ALTER, where all have one
unfoldable pub tables_after : PlanData → Database → Option Database
tables_after plan [] = Some []
tables_after plan (table ∷ tables) = joined (table_after plan table) (tables_after plan tables)

abbrev pub after_these : Database → Option Database → Option Database
after_these before None = None
after_these before (Some tables) = Some (before ++ tables)

-- *Planned*: where there is a table of the migrated one's name, its schema is that with which the trace begins
abbrev pub IsPlanned : PlanData → Database → Type 0
IsPlanned plan tables = (schema : Schema) → schema_of plan.table tables ≡ Some schema → schema_of plan.table plan.tables ≡ Some schema

-- *The ALTER makes tables*: the altered form of a well-formed table of that schema is one, under the same name
pub record MakesTable (table after : TableRows) : Type 0 where
  pub formed : IsWellFormedTable after
  pub name : after.schema.name ≡ table.schema.name

abbrev pub AltersTables : PlanData → Type 0
AltersTables plan = (table after : TableRows) → IsWellFormedTable table → schema_of plan.table plan.tables ≡ Some table.schema → plan_altered_table plan table ≡ Some after → MakesTable table after

-- ---- the judge

abbrev pub or_stops : (Database → Bool) → Option Database → Bool
or_stops rest None = true
or_stops rest (Some after) = rest after

-- the ALTER couldn't be done, after which nothing is judged
unfoldable pub stops : PlanData → Database → List Judged → Bool
stops plan tables [] = false
stops plan tables (Ended past turns ∷ items) = stops plan (alone tables past.txn.lines).tables items
stops plan tables (Altered turn ∷ items) = or_stops (λ after. stops plan after items) (altered_database plan tables)

-- *Judging*: what is kept is what is wrong, and the tables that are reached, where these were judged
pub record IsJudging (plan : PlanData) (items : List Judged) (judge : Judge) : Type 0 where
  pub worst : judge.worst ≡ least (wrong_turns plan (opening_tables plan) items)
  pub tables : committed judge.storage ≡ tables_reached plan (opening_tables plan) items
  pub over : judge.is_over ≡ stops plan (opening_tables plan) items

-- the tables are well formed, and nobody has written to them
pub record IsSound (judge : Judge) : Type 0 where
  pub fresh : (session : ℕ) → written judge.storage session ≡ []
  pub formed : IsWellFormedDatabase (committed judge.storage)
