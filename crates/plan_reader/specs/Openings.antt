-- *Opening* of a plan: the tables that exist before the migration, the ALTER, and what it makes of the migrated table. This
-- project's rule, and gh-ost's where it has the option.
use Rattle.std.specs.Prelude.{ℕ, Bool, not, ◌&&◌, ◌||◌, if◌then◌else◌, false, List, Option, Some, None, Result, Ok, Err}
use Rattle.std.specs.Str.{bytes_eq}
use Rattle.base_values.specs.declared.row_conversion.clause.Clause.{Clause}
use Rattle.table_store.specs.Databases.{Database, TableRows, find_table, has_table, database}
use Rattle.base_values.specs.SchemaRules.Results.{◌>>=◌}
use Rattle.sql_change.specs.AlteredSchema.{altered}
use Rattle.sql_alter.specs.AlterText.{alter_at}
use Rattle.base_values.specs.ToolNames.{ghost_name, old_name}
use Rattle.tool_changelog.specs.ToolTables.{sentry_comment}
use Rattle.plan_data.specs.declared.options.Options.{Options}
use Rattle.plan_data.specs.PlanData.{Altered}
use Rattle.plan_keys.specs.PlanKeys.{KeyData}
use Rattle.plan_reader.specs.PlanTables.Tables.{tables_of}
use Rattle.plan_reader.specs.declared.fault.PlanRefusal.{PlanRefusal}
use Rattle.plan_reader.specs.declared.fault.PlanRefusal.TheVariants.{NoTable, Leftover}
use Rattle.plan_reader.specs.declared.openings.Opening.{Opening}
use Rattle.plan_reader.specs.Refusals.{of_tables, of_alter, or_refused}

-- the opening tables, the clauses of the ALTER, and what they make of the migrated table
pub record OpeningData : Type 0 where
  pub tables : Database
  pub alter : List Clause
  pub new : Altered

-- ---- what an earlier run left

-- A new table that an earlier run left exists, and may not be dropped (gh-ost, `--initially-drop-ghost-table`).
abbrev pub has_left_ghost : List ℕ → Options → Database → Bool
has_left_ghost migrated options tables = has_table (ghost_name migrated) tables && not options.initially_drop_ghost_table

-- a table exists that is no earlier run's sentry, which its comment would tell
abbrev pub is_no_sentry : Option TableRows → Bool
is_no_sentry None = false
is_no_sentry (Some table) = not (bytes_eq table.schema.comment sentry_comment)

-- An old table that an earlier run left exists, and may not be dropped (gh-ost, `--initially-drop-old-table`).
abbrev pub has_left_old : List ℕ → Options → Database → Bool
has_left_old migrated options tables = is_no_sentry (find_table (old_name migrated) tables) && not options.initially_drop_old_table

-- The tables, where the tool may drop what an earlier run left. (It always drops a changelog and a sentry.)
abbrev pub without_leftovers : List ℕ → Options → Database → Result Database PlanRefusal
without_leftovers migrated options tables = if has_left_ghost migrated options tables || has_left_old migrated options tables then Err Leftover else Ok tables

-- ---- the opening

-- the table to migrate
abbrev pub migrated_in : List ℕ → Database → Result TableRows PlanRefusal
migrated_in migrated tables = or_refused NoTable (find_table migrated tables)

-- *Opening*: the tables are refused first, then that the one to migrate isn't there, then one that is left, then the text of
-- the ALTER, then what it would make of the table.
unfoldable pub opening_of : KeyData → Result OpeningData PlanRefusal
opening_of keys = do
  tables ← of_tables (tables_of keys.version keys.texts.table keys.texts.tables)
  table ← migrated_in keys.texts.table tables
  tables ← without_leftovers keys.texts.table keys.options tables
  clauses ← of_alter (alter_at keys.version keys.texts.table keys.texts.alter)
  new ← of_alter (altered keys.options.approve_renamed_columns table.schema clauses)
  Ok (record { tables = tables; alter = clauses; new = new })

-- what the code found, seen as that
abbrev pub opening_data : Opening → OpeningData
opening_data opening = record { tables = database opening.tables; alter = opening.alter; new = (opening.new.schema, opening.new.map) }
