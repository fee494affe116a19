-- What ADD INDEX and DROP INDEX make of the table, or the first reason to refuse them ("ALTER TABLE Statement").
use Rattle.std.specs.Prelude.{ℕ, ◌==◌, nat_le, Bool, false, not, ◌&&◌, if◌then◌else◌, List, [], ◌∷◌, ◌++◌, length, position, Option, Some, None, Result, Ok, Err}
use Rattle.std.specs.List.{filter_map, list_all, remove}
use Rattle.base_values.specs.declared.gho_schema.schema.Column.{Column}
use Rattle.base_values.specs.declared.gho_schema.schema.Index.{Index}
use Rattle.base_values.specs.declared.gho_schema.schema.Schema.{Schema}
use Rattle.base_values.specs.GhoSchema.Names.{same_name}
use Rattle.base_values.specs.GhoSchema.ClusteredKey.{clustered_place}
use Rattle.base_values.specs.SchemaRules.Reasons.{Reasons, first_reason, unless}
use Rattle.base_values.specs.SchemaRules.Names.{is_among, free_name}
use Rattle.sql_change.specs.declared.code.AlterCode.{AlterCode}
use Rattle.sql_change.specs.declared.code.AlterCode.TheVariants as codes
use Rattle.sql_change.specs.declared.so_far.AlteredSoFar.{AlteredSoFar}
use Rattle.sql_change.specs.Columns.{column_place, has_column, column_named}

-- the names of all keys that have one
unfoldable pub key_names : Schema → List (List ℕ)
key_names schema = filter_map (λ index. index.name) schema.uniques ++ filter_map (λ index. index.name) schema.indexes

-- the name of a column as the table spells it
abbrev pub spelled_as : Option (ℕ × Column) → List ℕ
spelled_as (Some found) = found.1.name
spelled_as None = []

unfoldable pub first_column : List Column → List (List ℕ) → List ℕ
first_column columns [] = []
first_column columns (name ∷ names) = spelled_as (column_named columns name)

-- an index without a name has that of its first column, numbered where it is taken
abbrev pub index_name : Schema → List (List ℕ) → Option (List ℕ) → List ℕ
index_name schema names (Some name) = name
index_name schema names None = free_name (key_names schema) (first_column schema.columns names)

-- there are columns, and each is there
abbrev pub are_columns : List Column → List (List ℕ) → Bool
are_columns columns names = not (length names == 0) && list_all (has_column columns) names

abbrev pub index_reasons : Schema → List (List ℕ) → List ℕ → Reasons AlterCode
index_reasons schema names name =
    (not (are_columns schema.columns names), codes.UnknownName)
    ∷ (is_among (key_names schema) name, codes.RepeatedName)
    ∷ (nat_le 8 (length schema.indexes), codes.Scope)
    ∷ []

abbrev pub index_of : Schema → List (List ℕ) → List ℕ → Index
index_of schema names name = record { name = Some name; places = filter_map (column_place schema.columns) names }

abbrev pub with_index : AlteredSoFar → Index → AlteredSoFar
with_index standing index = record standing { schema = record standing.schema { indexes = standing.schema.indexes ++ index ∷ [] } }

abbrev pub indexed_as : AlteredSoFar → List (List ℕ) → List ℕ → Result AlteredSoFar AlterCode
indexed_as standing names name = unless (first_reason (index_reasons standing.schema names name)) (Ok (with_index standing (index_of standing.schema names name)))

unfoldable pub indexed : AlteredSoFar → Option (List ℕ) → List (List ℕ) → Result AlteredSoFar AlterCode
indexed standing name names = indexed_as standing names (index_name standing.schema names name)

-- ---- DROP INDEX

-- the key has this name, whatever the case of letters; the PRIMARY KEY has none
abbrev pub is_named : List ℕ → Option (List ℕ) → Bool
is_named name (Some own) = same_name own name
is_named name None = false

unfoldable pub index_place : List Index → List ℕ → Option ℕ
index_place indexes name = position (λ index. is_named name index.name) indexes

-- the key at this place is the clustered one
abbrev pub is_clustered : Option ℕ → ℕ → Bool
is_clustered None place = false
is_clustered (Some clustered) place = clustered == place

abbrev pub without_unique : AlteredSoFar → ℕ → AlteredSoFar
without_unique standing place = record standing { schema = record standing.schema { uniques = remove standing.schema.uniques place } }

abbrev pub without_index : AlteredSoFar → ℕ → AlteredSoFar
without_index standing place = record standing { schema = record standing.schema { indexes = remove standing.schema.indexes place } }

abbrev pub unindexed_at : AlteredSoFar → Option ℕ → Option ℕ → Result AlteredSoFar AlterCode
unindexed_at standing (Some place) index = if is_clustered (clustered_place standing.schema) place then Err codes.ClusteredKeyChange else Ok (without_unique standing place)
unindexed_at standing None (Some place) = Ok (without_index standing place)
unindexed_at standing None None = Err codes.UnknownName

unfoldable pub unindexed : AlteredSoFar → List ℕ → Result AlteredSoFar AlterCode
unindexed standing name = unindexed_at standing (index_place standing.schema.uniques name) (index_place standing.schema.indexes name)
