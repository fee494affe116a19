-- Changes of two sessions that have no row and no unique key in common.
use Rattle.std.specs.Prelude.{◌≡◌, false, List}
use Rattle.std.specs.List.{AllByRecursion}
use Rattle.base_values.specs.declared.gho_schema.schema.Schema.{Schema}
use Rattle.base_values.specs.GhoSchema.Rows.{key_of, key_places}
use Rattle.base_values.specs.GhoSchema.Tables.{clash}
use Rattle.base_values.specs.declared.event.Change.{Change}
use Rattle.server_model.specs.LockedRows.Coverage.{rows_of}
use Rattle.proof_journals.specs.Ghost.Rows.Moments.{Row}

-- *Disjoint rows*: they don't clash, and have different clustered keys.
pub record AreDisjoint (schema : Schema) (row other : Row) : Type 0 where
  pub apart : clash schema.uniques row other ≡ false
  pub turned : clash schema.uniques other row ≡ false
  pub keys : key_of (key_places schema) row ≡ key_of (key_places schema) other → ⊥

-- all rows that the one change puts or removes are disjoint from those of the other
abbrev pub Disjoint : Schema → Change → Change → Type 0
Disjoint schema change other = AllByRecursion (λ row. AllByRecursion (AreDisjoint schema row) (rows_of other)) (rows_of change)

abbrev pub AllDisjoint : Schema → List Change → List Change → Type 0
AllDisjoint schema changes others = AllByRecursion (λ change. AllByRecursion (Disjoint schema change) others) changes
