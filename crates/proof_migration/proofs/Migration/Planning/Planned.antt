-- What the ghost relation asks of a migration.
use Rattle.std.proofs.Common.{◌≡◌, ℕ, ◌<◌, true, not, eqb, List, [], ◌∷◌, length, Option, Some, None, sym, ap, subst, ◌∙◌, arith}
use Rattle.std.specs.List.{list_all, slice_get, AllByRecursion}
use Rattle.std.proofs.lemmas.Bool.{and_parts, not-false}
use Rattle.base_values.specs.Laws.{StoresAgain}
use Rattle.base_values.specs.declared.gho_schema.schema.Index.{Index}
use Rattle.base_values.specs.declared.gho_schema.schema.Schema.{Schema}
use Rattle.base_values.specs.GhoSchema.ClusteredKey.{is_not_null, clustered_key}
use Rattle.base_values.specs.GhoSchema.Rows.{places_of}
use Rattle.base_values.specs.declared.row_conversion.map.MapColumn.{MapColumn}
use Rattle.base_values.specs.SchemaRules.Valid.{IsKey, IsValid, IsNotNull}
use Rattle.base_values.specs.SchemaRules.Reasons.{first_reason}
use Rattle.base_values.proofs.SchemaRules.Lists.{list_all-All}
use Rattle.base_values.proofs.SchemaRules.Steps.{none_first}
use Rattle.table_store.specs.ClusteredKeys.{HasClusteredKey}
use Rattle.sql_change.specs.declared.code.AlterCode.TheVariants as codes
use Rattle.sql_change.specs.declared.so_far.AlteredSoFar.{AlteredSoFar}
use Rattle.sql_change.specs.AlteredSchema.{keeps_key, result_reasons, same_columns}
use Rattle.proof_schemas.proofs.Alters.ConvertedRowRows.{converted_rows_are_rows}
use Rattle.proof_schemas.proofs.Alters.ConvertedRowTables.{Both, both-clustered, clustered_keys_kept}
use Rattle.proof_schemas.proofs.Alters.KeepingKeys.{at-place, clustered-stands, ends}
use Rattle.plan_data.specs.PlanData.{Altered}
use Rattle.proof_journals.specs.Ghost.Rows.Timelines.{kept_key, old_places}
use Rattle.proof_migration.specs.Migration.Planning.{AltersArePlanned}
use Rattle.proof_migration.proofs.Migration.Planning.OldPlaces.{clustered_places, get-kept, converted_rows_clash, kept_are_old}

abbrev AreNotNull : Schema → List ℕ → Type 0
AreNotNull schema places = list_all (λ place. is_not_null (slice_get schema.columns place)) places ≡ true

-- a clustered key with columns, none of which may be null
keyed : (schema : Schema) (index : Index) → clustered_key schema ≡ Some index → 0 < length index.places → AreNotNull schema index.places → HasClusteredKey schema
keyed schema index there some all =
    record {
      some = subst (λ (o : Option Index). 0 < length (places_of o)) (sym there) some;
      not_null =
          subst (λ (o : Option Index). AllByRecursion (λ place. is_not_null (slice_get schema.columns place) ≡ true) (places_of o)) (sym there)
          (list_all-All (λ place. is_not_null (slice_get schema.columns place)) index.places all);
    }

-- the clustered key of a lawful schema has columns
has_columns : (schema : Schema) (index : Index) → IsValid schema → clustered_key schema ≡ Some index → 0 < length index.places
has_columns schema index valid there =
    let at = clustered-stands schema index there in
    let key = at-place (IsKey (length schema.columns)) schema.uniques at.0 index valid.uniques at.1 in
    key.some

old_keyed : (schema : Schema) (index : Index) → IsValid schema → clustered_key schema ≡ Some index → HasClusteredKey schema
old_keyed schema index valid there =
    keyed schema index there (has_columns schema index valid there) (subst (λ (o : Option Index). IsNotNull schema.columns o) there valid.clustered)

-- none of the altered table's clustered columns may be null
kept_not_null : (standing : AlteredSoFar) (a b : Option Index) (index : Index) → b ≡ Some index → keeps_key standing a b ≡ true → AreNotNull standing.schema index.places
kept_not_null standing (Some old) (Some found) index is e =
    let same : found ≡ index = cc in
    let parts = and_parts (same_columns standing.origins found.places old.places) (list_all (λ place. is_not_null (slice_get standing.schema.columns place)) found.places) e in
    subst (λ (i : Index). AreNotNull standing.schema i.places) same parts.1
kept_not_null standing (Some old) None index is e = absurd cc
kept_not_null standing None b index is e = absurd cc

end_not_null : (schema : Schema) (standing : AlteredSoFar) (index : Index) → first_reason (result_reasons schema standing) ≡ None → clustered_key standing.schema ≡ Some index → AreNotNull standing.schema index.places
end_not_null schema standing index none here =
    let changed = not (keeps_key standing (clustered_key schema) (clustered_key standing.schema)) in
    let first = none_first (eqb (length standing.schema.columns) 0) codes.AllColumnsDropped ((changed, codes.ClusteredKeyChange) ∷ []) none in
    let second = none_first changed codes.ClusteredKeyChange [] first.1 in
    kept_not_null standing (clustered_key schema) (clustered_key standing.schema) index here (not-false _ second.0)

-- places that come from some are some
some_places : (columns : List MapColumn) (places olds : List ℕ) → old_places columns places ≡ olds → 0 < length olds → 0 < length places
some_places columns [] olds e some = subst (λ (o : List ℕ). 0 < length o) (sym e) some
some_places columns (p ∷ places) olds e some = omega arith

pub alters_planned : StoresAgain → AltersArePlanned
alters_planned again approve schema clauses new rows valid e table =
    let end = ends approve schema clauses new valid e in
    let both = subst (λ (n : Altered). Both (clustered_key schema) (clustered_key n.0)) end.is (both-clustered schema end.standing end.reasons) in
    let places = clustered_places approve schema clauses new both.old both.index valid e both.there both.here in
    let all = subst (λ (n : Altered). clustered_key n.0 ≡ Some both.index → AreNotNull n.0 both.index.places) end.is (end_not_null schema end.standing both.index end.reasons) both.here in
    let at = clustered-stands new.0 both.index both.here in
    record {
      old_key = old_keyed schema both.old valid both.there;
      new_key = keyed _ both.index both.here (some_places new.1 both.index.places both.old.places places (has_columns schema both.old valid both.there)) all;
      keeps =
          record {
            clashes = λ row other made more fits too converted_row_is other_is. converted_rows_clash approve schema clauses new row other made more valid e fits too converted_row_is other_is;
            are_old = λ row other. kept_are_old approve schema clauses new row other valid e;
            place = at.0;
            clustered = kept_key new.1 both.index;
            there = get-kept new.1 new.0.uniques at.0 both.index at.1;
            its_places = places ∙ ap places_of (sym both.there);
          };
      table = table;
      fits = λ row made fits converted_row_is. converted_rows_are_rows again approve schema clauses new row made valid e converted_row_is;
      same_key = λ row made fits converted_row_is. clustered_keys_kept approve schema clauses new row made valid e fits converted_row_is;
    }
