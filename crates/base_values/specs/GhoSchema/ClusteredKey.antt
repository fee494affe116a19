-- *Clustered key*: the key in whose order a table keeps its rows (MySQL's manual, "Clustered and Secondary Indexes").
use Rattle.std.specs.Prelude.{ℕ, Bool, false, not, ◌||◌, List, is_none, position, Option, Some, None}
use Rattle.std.specs.List.{list_all, slice_get}
use Rattle.base_values.specs.declared.gho_schema.schema.Schema.{Schema}
use Rattle.base_values.specs.declared.gho_schema.schema.Column.{Column}
use Rattle.base_values.specs.declared.gho_schema.schema.Index.{Index}

-- the column is there and may not be null
abbrev pub is_not_null : Option Column → Bool
is_not_null (Some column) = not column.nullable
is_not_null None = false

-- the key is the PRIMARY KEY, or none of its columns may be null
abbrev pub may_cluster : List Column → Index → Bool
may_cluster columns index = is_none index.name || list_all (λ place. is_not_null (slice_get columns place)) index.places

-- The first of these unique keys that may cluster rows of these columns: the PRIMARY KEY, which comes first, else the first
-- whose columns are all NOT NULL.
unfoldable pub clustered_among : List Column → List Index → Option ℕ
clustered_among columns uniques = position (may_cluster columns) uniques

-- *Clustered key*, by its place among the schema's unique keys; none where there is no such key
abbrev pub clustered_place : Schema → Option ℕ
clustered_place schema = clustered_among schema.columns schema.uniques

abbrev pub unique_at : List Index → Option ℕ → Option Index
unique_at uniques (Some place) = slice_get uniques place
unique_at uniques None = None

-- the clustered key itself
abbrev pub clustered_key : Schema → Option Index
clustered_key schema = unique_at schema.uniques (clustered_place schema)
