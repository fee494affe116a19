-- Tables that have a clustered key.
use Rattle.std.specs.Prelude.{◌≡◌, ◌<◌, true, [], ◌∷◌, length}
use Rattle.std.specs.List.{AllByRecursion, slice_get}
use Rattle.base_values.specs.declared.gho_schema.schema.Schema.{Schema}
use Rattle.base_values.specs.declared.gho_schema.schema.Index.{Index}
use Rattle.base_values.specs.GhoSchema.ClusteredKey.{is_not_null}
use Rattle.base_values.specs.GhoSchema.Rows.{key_places}

-- The schema has a clustered key: the key has columns, and none of them may be null (MySQL's manual, "Clustered and
-- Secondary Indexes"; that each table has one is this project's rule).
pub record HasClusteredKey (schema : Schema) : Type 0 where
  pub some : 0 < length (key_places schema)
  pub not_null : AllByRecursion (λ place. is_not_null (slice_get schema.columns place) ≡ true) (key_places schema)

-- the clustered key is the schema's only unique key
pub record IsOnlyKey (schema : Schema) : Type 0 where
  pub key : Index
  pub only : schema.uniques ≡ key ∷ []
  pub places : key_places schema ≡ key.places
