-- *Serial history*: what ended leads, one at a time, from the opening tables to those that are left, and each open
-- transaction has the replies that it has alone. (MySQL's manual, "Transaction Isolation Levels", under SERIALIZABLE; the
-- order of ends is this project's rule.)
use Rattle.std.specs.Prelude.{◌≡◌, ◌≤◌, ℕ, not, List, [], ◌∷◌, filter, count_by, option_to_list, Option, Some, None}
use Rattle.std.specs.List.{flat_map}
use Rattle.std.specs.Option.{option_map}
use Rattle.table_store.specs.Databases.{TableRows, Database, find_table, with_change}
use Rattle.server_model.specs.declared.entry.Entry.{Entry}
use Rattle.plan_data.specs.PlanData.{PlanData}
use Rattle.tool_program.specs.JournalWords.AlteredTables.{plan_altered_table}
use Rattle.base_values.specs.ToolNames.{is_tool_name}
use Rattle.tool_program.specs.JournalWords.Journals.{state_at}
use Rattle.tool_program.specs.JournalWords.Clients.{client_at}
use Rattle.server_model.specs.Alone.{alone, lines_run, nothing_ran}
use Rattle.tool_program.specs.JournalWords.Histories.{HistoryItem, Txn, Alter, history, is_alter}

-- *Altered table* in a database: the migrated table with the new schema and every row converted, the others as they are; none
-- where the ALTER is refused or a row can't be converted
abbrev pub altered_in : PlanData → Database → Option TableRows → Option Database
altered_in plan tables None = None
altered_in plan tables (Some table) = option_map (λ new. with_change plan.table (λ old. new) tables) (plan_altered_table plan table)

unfoldable pub altered_database : PlanData → Database → Option Database
altered_database plan tables = altered_in plan tables (find_table plan.table tables)

-- one item leads from the one database to the other: a transaction's replies and database are those that it has
-- alone; the ALTER alters the whole table at once
abbrev pub Leads : PlanData → HistoryItem → Database → Database → Type 0
Leads plan (Txn past) before after = (past.replies ≡ (alone before past.txn.lines).replies) × (after ≡ (alone before past.txn.lines).tables)
Leads plan Alter before after = altered_database plan before ≡ Some after

-- *Serial history*: what happened, one at a time, leads from the one database to the other.
abbrev pub Serial : PlanData → Database → List HistoryItem → Database → Type 0
Serial plan before [] after = after ≡ before
Serial plan before (item ∷ items) after = (between : Database) × Leads plan item before between × Serial plan between items after

-- *Tables left*: the plan's tables but the leftovers, as they are, in the plan's order
unfoldable pub tables_left : PlanData → Database → Database
tables_left plan tables = flat_map (λ table. option_to_list (find_table table.schema.name tables)) (filter (λ table. not (is_tool_name plan.table table.schema.name)) plan.tables)

-- *Journals are serial*: the history has one ALTER at most and leads to the tables that are left; and each open
-- transaction has at its lines the replies that they have one after the other, from those tables on
pub record IsSerial (plan : PlanData) (journal : List Entry) : Type 0 where
  pub once : count_by is_alter (history plan journal) ≤ 1
  pub leads : Serial plan (tables_left plan plan.tables) (history plan journal) (tables_left plan (state_at plan journal).tables)
  pub going : (client : ℕ) → (client_at plan journal client).replies ≡ (lines_run (tables_left plan (state_at plan journal).tables) nothing_ran (client_at plan journal client).lines).replies
