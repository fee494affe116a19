-- *What a statement says* and *needs* on a database; copying a row, which is INSERT IGNORE of its converted row (MySQL's
-- manual, "INSERT Statement", after gh-ost's copy of rows; that a converted row which doesn't fit is refused and never cut is
-- this project's rule); and databases after events.
use Rattle.std.specs.Prelude.{ℕ, List, [], ◌∷◌, map, Option, Some, None, Result, Ok, Err}
use Rattle.std.specs.Option.{option_map}
use Rattle.base_values.specs.declared.value.Value.{Value}
use Rattle.base_values.specs.declared.gho_schema.schema.Schema.{Schema}
use Rattle.base_values.specs.GhoSchema.Rows.{key_places}
use Rattle.base_values.specs.declared.row_conversion.map.MapColumn.{MapColumn}
use Rattle.base_values.specs.declared.row_conversion.conversion_fault.UnfitAt.{UnfitAt}
use Rattle.base_values.specs.RowConversion.ConvertedRows.{converted_row}
use Rattle.base_values.specs.declared.event.RowEvent.{RowEvent}
use Rattle.base_values.specs.declared.event.Change.{Change}
use Rattle.base_values.specs.declared.mysql_errors.TheConstants.{ER_NO_SUCH_TABLE}
use Rattle.server_locks.specs.declared.row_locks.lock.Lock.{Lock}
use Rattle.table_store.specs.Databases.{TableRows, Database, find_table, row_at_key, with_change}
use Rattle.base_script.specs.declared.statement.Statement.{Statement}
use Rattle.base_script.specs.declared.statement.Statement.TheVariants as statements
use Rattle.server_model.specs.declared.work.StatementResult.{StatementResult}
use Rattle.server_model.specs.Answers.{refuses, refuses_value}
use Rattle.server_model.specs.declared.answer.Answer.TheVariants as answers
use Rattle.server_model.specs.Rows.{change_rows}
use Rattle.server_model.specs.declared.work.Work.{Work}
use Rattle.server_model.specs.declared.work.Work.TheVariants as works
use Rattle.server_model.specs.Checks.{or_refused, new_row, work_of}
use Rattle.server_model.specs.StatementResults.{TableResult, tells}
use Rattle.server_model.specs.Needs.{needs}

-- the statement's table
abbrev pub table_of : Statement → List ℕ
table_of (statements.Insert table columns values drawn) = table
table_of (statements.Replace table columns values drawn) = table
table_of (statements.Delete table condition) = table
table_of (statements.Update table sets condition) = table
table_of (statements.Select table shown condition) = table

-- What is to be done to one table: a statement's work, as the table's schema decides it; or work that is known already.
pub record Operation : Type 0 where
  pub table : List ℕ
  pub work : Schema → Work

abbrev pub operation_of : Statement → Operation
operation_of statement = record { table = table_of statement; work = λ schema. work_of schema statement }

-- changes of a table, as events
abbrev pub events_of : List ℕ → List Change → List RowEvent
events_of name changes = map (λ change. record { table = name; change = change }) changes

abbrev pub result_of : List ℕ → TableResult → StatementResult
result_of name executed = record { answer = executed.answer; events = events_of name executed.changes }

-- what a job gives, where its table exists
abbrev pub result_in : Operation → Option TableRows → StatementResult
result_in operation None = record { answer = refuses ER_NO_SUCH_TABLE; events = [] }
result_in operation (Some table) = result_of operation.table (tells table.schema table.rows (operation.work table.schema))

-- what a job says
unfoldable pub operation_result : Database → Operation → StatementResult
operation_result tables operation = result_in operation (find_table operation.table tables)

abbrev pub needs_in : Operation → Option TableRows → List Lock
needs_in operation None = []
needs_in operation (Some table) = needs table.schema table.rows (operation.work table.schema)

-- the row locks that a job needs
unfoldable pub operation_needs : Database → Operation → List Lock
operation_needs tables operation = needs_in operation (find_table operation.table tables)

-- *What a statement says*, and the row locks that it *needs*
abbrev pub statement_result : Database → Statement → StatementResult
statement_result tables statement = operation_result tables (operation_of statement)

abbrev pub row_needs : Database → Statement → List Lock
row_needs tables statement = operation_needs tables (operation_of statement)

-- Copying a converted row: INSERT IGNORE of its values, which are stored by the columns of the table that they go into (where
-- the map is of that table, they are stored as they are); a converted row that doesn't fit is refused, and a row that isn't
-- there is nothing.
abbrev pub copy_work : Option (Result (List Value) UnfitAt) → Schema → Work
copy_work None schema = works.Refuse (answers.Ok 0)
copy_work (Some (Err at)) schema = works.Refuse (refuses_value at)
copy_work (Some (Ok values)) schema = or_refused (new_row schema None values) works.Copy

abbrev pub copy_from : Option TableRows → List MapColumn → List Value → Schema → Work
copy_from None map key schema = works.Refuse (refuses ER_NO_SUCH_TABLE)
copy_from (Some table) map key schema = copy_work (option_map (converted_row map) (row_at_key table key)) schema

-- *Copying a row*, by its clustered key, from the one table into the other
abbrev pub copy_operation : Database → List ℕ → List ℕ → List MapColumn → List Value → Operation
copy_operation tables from into map key = record { table = into; work = copy_from (find_table from tables) map key }

-- the table after a change
abbrev pub change_table : Change → TableRows → TableRows
change_table change table = record { schema = table.schema; rows = change_rows (key_places table.schema) change table.rows }

-- the tables after events, one by one
unfoldable pub after_events : Database → List RowEvent → Database
after_events tables [] = tables
after_events tables (event ∷ events) = after_events (with_change event.table (change_table event.change) tables) events
