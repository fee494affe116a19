-- How a table's columns and rows are printed. This project's rule.
use Rattle.std.specs.Prelude.{codes, ℕ, List, [], ◌∷◌, ◌++◌}
use Rattle.std.specs.List.{flat_map}
use Rattle.base_values.specs.declared.value.Value.{Value}
use Rattle.base_values.specs.Literals.{printed_row}
use Rattle.base_values.specs.declared.gho_schema.schema.Schema.{Schema}
use Rattle.base_values.specs.declared.gho_schema.schema.Column.{Column}

-- the names of columns, with a comma and a blank between two
unfoldable pub more_names : List Column → List ℕ
more_names columns = flat_map (λ column. codes ", " ++ column.name) columns

unfoldable pub column_names : List Column → List ℕ
column_names [] = []
column_names (first ∷ others) = first.name ++ more_names others

-- a table's name and those of its columns: `t (id, b)`
abbrev pub schema_line : Schema → List ℕ
schema_line schema = schema.name ++ codes " (" ++ column_names schema.columns ++ codes ")\n"

-- a table and its columns: `table t (id, b)`
unfoldable pub table_line : Schema → List ℕ
table_line schema = codes "table " ++ schema_line schema

-- each row on a line of its own: `(1, 7)`
unfoldable pub row_lines : List (List Value) → List ℕ
row_lines rows = flat_map (λ row. printed_row row ++ codes "\n") rows
