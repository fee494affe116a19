-- *Table*: a schema and rows that go together.
use Rattle.std.specs.Prelude.{◌≡◌, ℕ, Bool, true, false, ◌&&◌, List, [], ◌∷◌, Ok}
use Rattle.std.specs.declared.cmp.Ordering.TheVariants.{Less}
use Rattle.std.specs.Ordering.{is_eq}
use Rattle.std.specs.List.{AllByRecursion, list_any}
use Rattle.base_values.specs.declared.value.Value.{Value}
use Rattle.base_values.specs.declared.value.Value.TheVariants.{Null, Num, Text, Blob}
use Rattle.base_values.specs.StoredValues.{stores}
use Rattle.base_values.specs.KeyOrder.{compare_keys}
use Rattle.base_values.specs.declared.gho_schema.schema.Schema.{Schema}
use Rattle.base_values.specs.declared.gho_schema.schema.Column.{Column}
use Rattle.base_values.specs.declared.gho_schema.schema.Index.{Index}
use Rattle.base_values.specs.GhoSchema.Rows.{key_of, key_places}

-- The row has one value a column, and each column stores its value as it is.
abbrev pub IsRow : List Column → List Value → Type 0
IsRow [] [] = Unit {0}
IsRow (column ∷ columns) (value ∷ values) = (stores value column.kind column.nullable ≡ Ok value) × IsRow columns values
IsRow columns values = ⊥

-- The rows are in order of the key at these places, and no two have one key (MySQL's manual, "Clustered and Secondary
-- Indexes").
abbrev pub Ascends : List ℕ → List (List Value) → Type 0
Ascends places [] = Unit {0}
Ascends places (row ∷ rows) = AllByRecursion (λ other. compare_keys (key_of places row) (key_of places other) ≡ Less) rows × Ascends places rows

-- no value is null
abbrev pub no_null : List Value → Bool
no_null [] = true
no_null (Null ∷ values) = false
no_null (Num n ∷ values) = no_null values
no_null (Text text ∷ values) = no_null values
no_null (Blob blob ∷ values) = no_null values

-- *Clash*: some unique key has equal values in both rows, none of them null (MySQL's manual, "CREATE INDEX Statement",
-- "Unique Indexes").
abbrev pub clash : List Index → List Value → List Value → Bool
clash uniques row other = list_any (λ index. is_eq (compare_keys (key_of index.places row) (key_of index.places other)) && no_null (key_of index.places row)) uniques

-- no two rows clash
abbrev pub Apart : List Index → List (List Value) → Type 0
Apart uniques [] = Unit {0}
Apart uniques (row ∷ rows) = AllByRecursion (λ other. clash uniques row other ≡ false) rows × Apart uniques rows

-- *Table*: each row is one of the schema's columns, the rows are in order of the clustered key, no two with one key, and no two
-- clash.
pub record IsTable (schema : Schema) (rows : List (List Value)) : Type 0 where
  pub rows_fit : AllByRecursion (IsRow schema.columns) rows
  pub ascends : Ascends (key_places schema) rows
  pub apart : Apart schema.uniques rows
