-- What a workload's ALTER says, and the table that it makes. This project's rule.
use Rattle.std.specs.Prelude.{codes, true, false, List, [], ◌∷◌, Some, None}
use Rattle.base_values.specs.declared.kind.Kind.TheVariants.{Int, VarChar}
use Rattle.base_values.specs.declared.value.Value.TheVariants.{Null, Text}
use Rattle.base_values.specs.declared.gho_schema.schema.Schema.{Schema}
use Rattle.base_values.specs.declared.row_conversion.clause.Clause.{Clause}
use Rattle.base_values.specs.declared.row_conversion.clause.Clause.TheVariants.{Add, Change}
use Rattle.base_values.specs.declared.row_conversion.clause.ColumnPosition.TheVariants.{Unsaid}
use Rattle.base_values.specs.declared.row_conversion.map.MapColumn.{MapColumn}
use Rattle.base_values.specs.declared.row_conversion.map.Origin.TheVariants as from
use Rattle.law_texts.specs.Workloads.Document.Texts.{table_name}

-- ADD COLUMN and MODIFY
abbrev pub clauses : List Clause
clauses =
    Add (record { name = codes "s"; kind = VarChar 8; nullable = Some false; default = Some (Text (codes "new")); auto = false }) Unsaid
    ∷ Change (codes "v") (record { name = codes "v"; kind = Int 8 false; nullable = None; default = None; auto = false }) Unsaid
    ∷ []

-- the altered table's schema
abbrev pub altered_schema : Schema
altered_schema = record {
  name = table_name;
  columns =
      record { name = codes "id"; kind = Int 8 false; nullable = false; default = None; auto = false }
      ∷ record { name = codes "u"; kind = VarChar 24; nullable = true; default = Some Null; auto = false }
      ∷ record { name = codes "v"; kind = Int 8 false; nullable = true; default = Some Null; auto = false }
      ∷ record { name = codes "s"; kind = VarChar 8; nullable = false; default = Some (Text (codes "new")); auto = false }
      ∷ [];
  uniques = record { name = None; places = 0 ∷ [] } ∷ record { name = Some (codes "u"); places = 1 ∷ [] } ∷ [];
  indexes = [];
  comment = [];
  start = None;
}

-- where the values of its columns come from
abbrev pub altered_map : List MapColumn
altered_map =
    record { kind = Int 8 false; nullable = false; origin = from.Old 0 }
    ∷ record { kind = VarChar 24; nullable = true; origin = from.Old 1 }
    ∷ record { kind = Int 8 false; nullable = true; origin = from.Old 2 }
    ∷ record { kind = VarChar 8; nullable = false; origin = from.Added (Text (codes "new")) }
    ∷ []
