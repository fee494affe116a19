-- *Altered table*: what an ALTER makes of a whole table. (MySQL's manual, "ALTER TABLE Statement", as one mapping.)
use Rattle.std.specs.Prelude.{Bool, List, Option, Some, None}
use Rattle.std.specs.Result.{result_ok}
use Rattle.std.specs.Option.{option_map}
use Rattle.base_values.specs.declared.value.Value.{Value}
use Rattle.base_values.specs.declared.gho_schema.schema.Schema.{Schema}
use Rattle.base_values.specs.declared.row_conversion.clause.Clause.{Clause}
use Rattle.base_values.specs.declared.row_conversion.map.MapColumn.{MapColumn}
use Rattle.base_values.specs.RowConversion.ConvertedRows.{converted_rows}
use Rattle.sql_change.specs.AlteredSchema.{altered}
use Rattle.table_store.specs.Databases.{TableRows}
use Rattle.plan_data.specs.PlanData.{PlanData}

-- a new schema, and for each of its columns where its values come from
abbrev pub Altered : Type 0
Altered = Schema × List MapColumn

-- what clauses make of a schema, where renamed columns are approved or not; none where the clauses are refused
abbrev pub altered_by : Bool → List Clause → Schema → Option Altered
altered_by approve clauses schema = result_ok (altered approve schema clauses)

-- the table of a new schema, with every row converted; none where a row can't be converted
abbrev pub imaged : Option Altered → List (List Value) → Option TableRows
imaged None rows = None
imaged (Some new) rows = option_map (λ made. record { schema = new.0; rows = made }) (converted_rows new.1 rows)

-- *Altered table*: the new schema and every row converted. There is none where the clauses are refused or a row can't be
-- converted.
unfoldable pub altered_table : Bool → List Clause → TableRows → Option TableRows
altered_table approve clauses table = imaged (altered_by approve clauses table.schema) table.rows

-- what the plan's ALTER makes of a table
abbrev pub plan_altered_table : PlanData → TableRows → Option TableRows
plan_altered_table plan table = altered_table plan.options.approve_renamed_columns plan.alter table
