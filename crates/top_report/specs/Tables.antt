-- The tables that are left, as they are printed. This project's rule.
use Rattle.std.specs.Prelude.{codes, ℕ, Bool, true, false, if◌then◌else◌, List, [], ◌++◌, length, option_to_list}
use Rattle.std.specs.Fmt.{decimal}
use Rattle.std.specs.List.{flat_map}
use Rattle.base_values.specs.declared.value.Value.{Value}
use Rattle.table_store.specs.Databases.{TableRows, Database, find_table}
use Rattle.base_values.specs.ToolNames.{is_tool_name}
use Rattle.plan_data.specs.PlanData.{PlanData}
use Rattle.table_print.specs.Tables.{row_lines, table_line}

-- a table's rows in order of the clustered key, where they are shown; else how many there are: `rows 20000`
unfoldable pub rows_text : Bool → List (List Value) → List ℕ
rows_text true rows = row_lines rows
rows_text false rows = codes "rows " ++ decimal (length rows) ++ codes "\n"

-- a table: its columns, and then its rows
abbrev pub table_text : Bool → TableRows → List ℕ
table_text shown table = table_line table.schema ++ rows_text shown table.rows

-- what is left of a table of the plan: a leftover isn't looked for
abbrev pub left_of : PlanData → TableRows → Database → Database
left_of plan opening tables = if is_tool_name plan.table opening.schema.name then [] else option_to_list (find_table opening.schema.name tables)

-- tables one after the other
unfoldable pub tables_text : Bool → Database → List ℕ
tables_text shown tables = flat_map (table_text shown) tables
