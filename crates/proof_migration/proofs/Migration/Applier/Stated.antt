-- What the applier's statements rest on holds of each ALTER that is taken.
use Rattle.std.proofs.Common.{◌≡◌, ℕ, List, [], ◌∷◌, length, Option, refl, sym, ap, ◌∙◌, subst, arith}
use Rattle.std.specs.List.{AllByRecursion}
use Rattle.base_values.specs.declared.gho_schema.schema.Column.{Column}
use Rattle.base_values.specs.declared.gho_schema.schema.Index.{Index}
use Rattle.base_values.specs.declared.gho_schema.schema.Schema.{Schema}
use Rattle.base_values.specs.GhoSchema.ClusteredKey.{clustered_key}
use Rattle.base_values.specs.GhoSchema.Rows.{places_of}
use Rattle.sql_change.specs.declared.so_far.AlteredSoFar.{AlteredSoFar}
use Rattle.sql_change.specs.AlteredSchema.{map_of}
use Rattle.proof_schemas.proofs.Alters.ConvertedRowTables.{Both, both-clustered}
use Rattle.proof_schemas.proofs.Alters.ConvertedRows.{map-at}
use Rattle.proof_schemas.proofs.Alters.KeepingKeys.{Ends, ends}
use Rattle.proof_schemas.proofs.Alters.Traces.{SamePlaces, Traced}
use Rattle.plan_data.specs.PlanData.{Altered}
use Rattle.proof_journals.specs.Ghost.Rows.Timelines.{old_places}
use Rattle.proof_journals.specs.Ghost.Statements.{SameColumns}
use Rattle.proof_migration.specs.Migration.Planning.{migration_of}
use Rattle.proof_migration.proofs.Migration.Planning.OldPlaces.{clustered_places}
use Rattle.proof_migration.specs.Migration.Applier.FoundColumns.{IsFrom}
use Rattle.proof_migration.specs.Migration.Applier.Laws.{AltersFindRows}

-- the map's columns are the altered table's
same_columns : (columns : List Column) (origins : List (Option ℕ)) → length origins ≡ length columns → SameColumns columns (map_of columns origins)
unfolding map_of
same_columns [] origins same = tt
same_columns (column ∷ columns) [] same = absurd (omega (arith, same))
same_columns (column ∷ columns) (origin ∷ origins) same = (refl, refl, same_columns columns origins (omega (arith, same)))

-- a traced key's columns were columns before
module _ (schema : Schema) (standing : AlteredSoFar) where
  abbrev made : Altered
  made = (standing.schema, map_of standing.schema.columns standing.origins)

  places_from : (places before : List ℕ) → SamePlaces schema standing places before → AllByRecursion (IsFrom (migration_of schema made)) places
  places_from [] [] same = tt
  places_from [] (b ∷ before) same = absurd same
  places_from (p ∷ places) [] same = absurd same
  places_from (p ∷ places) (b ∷ before) same =
      let one = same.0 in (
        record {
          column = one.column;
          here = one.here;
          before = b;
          mapped = map-at standing.schema.columns standing.origins p b one.column one.here one.origin;
          source = one.source;
          there = one.there;
          same_sort = one.sort;
        },
        places_from places before same.1,
      )

  keys_from : (uniques : List Index) → AllByRecursion (Traced schema standing) uniques → AllByRecursion (λ index. AllByRecursion (IsFrom (migration_of schema made)) index.places) uniques
  keys_from [] all = tt
  keys_from (index ∷ uniques) all = (places_from index.places (all.0.source).places all.0.places, keys_from uniques all.1)

pub alters_find_rows : AltersFindRows
alters_find_rows approve schema clauses new valid also e =
    let end : Ends approve schema clauses new = ends approve schema clauses new valid e in
    let both = subst (λ (n : Altered). Both (clustered_key schema) (clustered_key n.0)) end.is (both-clustered schema end.standing end.reasons) in
    let places = clustered_places approve schema clauses new both.old both.index valid e both.there both.here in
    record {
      columns = subst (λ (n : Altered). SameColumns n.0.columns n.1) end.is (same_columns (end.standing).schema.columns (end.standing).origins end.kept.stands.origins);
      names = also.names;
      keys = subst (λ (n : Altered). AllByRecursion (λ (index : Index). AllByRecursion (IsFrom (migration_of schema n)) index.places) n.0.uniques) end.is (keys_from schema end.standing (end.standing).schema.uniques end.kept.traced);
      clustered = ap (λ (o : Option Index). old_places new.1 (places_of o)) both.here ∙ places ∙ ap places_of (sym both.there);
    }
