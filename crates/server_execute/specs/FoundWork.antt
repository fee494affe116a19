-- *Found*: a statement's work with the rows of its table that it meets, which are locked and then changed, and with the new rows
-- that an UPDATE makes of them.
use Rattle.std.specs.Prelude.{List, []}
use Rattle.base_values.specs.declared.value.Value.{Value}
use Rattle.base_values.specs.declared.gho_schema.schema.Schema.{Schema}
use Rattle.table_store.specs.Databases.{TableRows}
use Rattle.server_model.specs.Needs.{new_rows}
use Rattle.server_model.specs.Rows.{rows_met}
use Rattle.server_model.specs.declared.work.Work.{Work}
use Rattle.server_model.specs.declared.work.Work.TheVariants.{Refuse, Insert, Copy, Replace, Delete, Update, Select}
use Rattle.server_model.specs.StatementResults.{displaced}
use Rattle.server_execute.specs.declared.found_work.FoundWork.{FoundWork}

-- the rows that work meets: those that a REPLACE displaces, and those that a DELETE or an UPDATE reaches
abbrev pub met_by : Schema → List (List Value) → Work → List (List Value)
met_by schema rows (Refuse refusal) = []
met_by schema rows (Insert row) = []
met_by schema rows (Copy row) = []
met_by schema rows (Replace row) = displaced schema row rows
met_by schema rows (Delete reach) = rows_met schema reach rows
met_by schema rows (Update reach sets) = rows_met schema reach rows
met_by schema rows (Select reach selection) = []

-- the new rows that work makes of the rows that it meets: those of an UPDATE whose values store
abbrev pub made_by : Work → List (List Value) → List (List Value)
made_by (Refuse refusal) met = []
made_by (Insert row) met = []
made_by (Copy row) met = []
made_by (Replace row) met = []
made_by (Delete reach) met = []
made_by (Update reach sets) met = new_rows sets met
made_by (Select reach selection) met = []

-- work, with the rows of a table that it meets, and those that it makes of them
abbrev pub found_in : TableRows → Work → FoundWork
found_in table work = record { work = work; met = met_by table.schema table.rows work; made = made_by work (met_by table.schema table.rows work) }
