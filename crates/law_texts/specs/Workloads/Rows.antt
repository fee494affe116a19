-- What a workload's table is: its schema and its rows. This project's rule.
use Rattle.std.specs.Prelude.{codes, ℕ, pos, true, false, List, [], ◌∷◌, ◌++◌, map, Some, None}
use Rattle.std.specs.Fmt.{decimal}
use Rattle.std.specs.List.{range_with_len}
use Rattle.base_values.specs.declared.kind.Kind.TheVariants.{Int, VarChar}
use Rattle.base_values.specs.declared.value.Value.{Value}
use Rattle.base_values.specs.declared.value.Value.TheVariants.{Null, Num, Text}
use Rattle.base_values.specs.declared.gho_schema.schema.Schema.{Schema}
use Rattle.table_store.specs.Databases.{TableRows}
use Rattle.top_workload.specs.Workloads.{row_count}
use Rattle.law_texts.specs.Workloads.Document.Texts.{table_name, row_key, row_value}

-- a BIGINT as the key, a text that is unique, and an INT
abbrev pub table_schema : Schema
table_schema = record {
  name = table_name;
  columns =
      record { name = codes "id"; kind = Int 8 false; nullable = false; default = None; auto = false }
      ∷ record { name = codes "u"; kind = VarChar 24; nullable = true; default = Some Null; auto = false }
      ∷ record { name = codes "v"; kind = Int 4 false; nullable = true; default = Some Null; auto = false }
      ∷ [];
  uniques = record { name = None; places = 0 ∷ [] } ∷ record { name = Some (codes "u"); places = 1 ∷ [] } ∷ [];
  indexes = [];
  comment = [];
  start = None;
}

-- a row: its key, a text of the key, and a value
abbrev pub row_values : ℕ → ℕ → List Value
row_values key value = Num (pos key) ∷ Text (codes "u" ++ decimal key) ∷ Num (pos value) ∷ []

-- the rows that the table of a workload opens with
unfoldable pub opening_rows : ℕ → List (List Value)
opening_rows number = map (λ place. row_values (row_key place) (row_value number place)) (range_with_len 0 (row_count number))

-- the table of a workload
abbrev pub opening_table : ℕ → TableRows
opening_table number = record { schema = table_schema; rows = opening_rows number }
