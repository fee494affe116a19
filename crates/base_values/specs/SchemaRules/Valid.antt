-- *Valid schema*: what every schema is that a text or an ALTER gives.
use Rattle.std.specs.Prelude.{◌≡◌, ℕ, ◌≤◌, ◌<◌, ◌==◌, Bool, true, ◌&&◌, ◌||◌, nat_le, List, length, map, Option, Some, None, Ok}
use Rattle.std.specs.List.{list_all, slice_get, AllByRecursion}
use Rattle.base_values.specs.declared.kind.Kind.{Kind}
use Rattle.base_values.specs.declared.kind.Kind.TheVariants.{Int, VarChar, VarBinary}
use Rattle.base_values.specs.declared.value.Value.{Value}
use Rattle.base_values.specs.StoredValues.{stores}
use Rattle.base_values.specs.declared.gho_schema.schema.Column.{Column}
use Rattle.base_values.specs.declared.gho_schema.schema.Index.{Index}
use Rattle.base_values.specs.declared.gho_schema.schema.Schema.{Schema}
use Rattle.base_values.specs.GhoSchema.ClusteredKey.{is_not_null, clustered_key}
use Rattle.base_values.specs.SchemaRules.Names.{names_differ}

-- integers of 1, 2, 3, 4 or 8 bytes, and texts and bytes of a length from 1 to 1,000 ("Data Types"; the greatest length is this project's rule)
abbrev pub is_kind : Kind → Bool
is_kind (Int bytes unsigned) = bytes == 1 || bytes == 2 || bytes == 3 || bytes == 4 || bytes == 8
is_kind (VarChar limit) = nat_le 1 limit && nat_le limit 1000
is_kind (VarBinary limit) = nat_le 1 limit && nat_le limit 1000

-- a default that is there is stored as itself
abbrev pub StoresDefault : Column → Option Value → Type 0
StoresDefault column None = Unit {0}
StoresDefault column (Some value) = stores value column.kind column.nullable ≡ Ok value

-- a column's kind is one of these, and it stores its default
pub record IsColumn (column : Column) : Type 0 where
  pub kind : is_kind column.kind ≡ true
  pub default : StoresDefault column column.default

-- a key of this many columns has at least one place, and its places are theirs
pub record IsKey (count : ℕ) (index : Index) : Type 0 where
  pub some : 0 < length index.places
  pub within : AllByRecursion (λ place. place < count) index.places

-- there is a key, none of whose columns may be null
abbrev pub IsNotNull : List Column → Option Index → Type 0
IsNotNull columns None = ⊥
IsNotNull columns (Some index) = list_all (λ place. is_not_null (slice_get columns place)) index.places ≡ true

-- 1 to 64 columns of different names, keys of these columns, and a clustered key none of whose columns may be null.
pub record IsValid (schema : Schema) : Type 0 where
  pub some : 1 ≤ length schema.columns
  pub few : length schema.columns ≤ 64
  pub names : names_differ (map (λ column. column.name) schema.columns) ≡ true
  pub columns : AllByRecursion IsColumn schema.columns
  pub uniques : AllByRecursion (IsKey (length schema.columns)) schema.uniques
  pub indexes : AllByRecursion (IsKey (length schema.columns)) schema.indexes
  pub clustered : IsNotNull schema.columns (clustered_key schema)
