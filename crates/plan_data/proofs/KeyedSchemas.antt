-- The clustered key of a lawful schema has columns, none of which may be null.
use Rattle.std.proofs.Common.{◌≡◌, ◌<◌, true, length, Option, Some, None, refl, ℕ}
use Rattle.std.specs.List.{AllByRecursion, slice_get}
use Rattle.base_values.specs.declared.gho_schema.schema.Index.{Index}
use Rattle.base_values.specs.declared.gho_schema.schema.Schema.{Schema}
use Rattle.base_values.specs.GhoSchema.ClusteredKey.{is_not_null, unique_at, clustered_place, clustered_key}
use Rattle.base_values.specs.GhoSchema.Rows.{places_of}
use Rattle.base_values.proofs.SchemaRules.Lists.{list_all-All, All-at}
use Rattle.base_values.specs.SchemaRules.Valid.{IsKey, IsNotNull, IsValid}
use Rattle.table_store.specs.ClusteredKeys.{HasClusteredKey}

pub one_keyed : (schema : Schema) (o : Option Index) → ((index : Index) → o ≡ Some index → IsKey (length schema.columns) index) → IsNotNull schema.columns o
    → (0 < length (places_of o)) × AllByRecursion (λ place. is_not_null (slice_get schema.columns place) ≡ true) (places_of o)
one_keyed schema None is_key all = absurd all
one_keyed schema (Some index) is_key all = ((is_key index refl).some, list_all-All (λ place. is_not_null (slice_get schema.columns place)) index.places all)

pub unique_is_key : (schema : Schema) (place : Option ℕ) (index : Index) → IsValid schema → unique_at schema.uniques place ≡ Some index → IsKey (length schema.columns) index
unique_is_key schema None index valid is = absurd (cc)
unique_is_key schema (Some place) index valid is = All-at (IsKey (length schema.columns)) schema.uniques place index valid.uniques is

pub valid_keyed : (schema : Schema) → IsValid schema → HasClusteredKey schema
valid_keyed schema valid =
    let both = one_keyed schema (clustered_key schema) (λ index is. unique_is_key schema (clustered_place schema) index valid is) valid.clustered in
    record { some = both.0; not_null = both.1 }
