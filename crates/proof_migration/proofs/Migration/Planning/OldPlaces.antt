-- The unique keys of an altered table, as keys of the table before.
use Rattle.std.proofs.Common.{◌≡◌, ℕ, zero, suc, Bool, true, not, ◌&&◌, eqb, List, [], ◌∷◌, length, Some, None, Ok, refl, sym, ap, subst, ◌∙◌}
use Rattle.std.specs.List.{slice_get}
use Rattle.std.specs.Ordering.{is_eq}
use Rattle.std.proofs.lemmas.Bool.{not-false}
use Rattle.std.proofs.lemmas.Map.Keys.{any_passes_from_place}
use Rattle.base_values.specs.declared.value.Value.{Value}
use Rattle.base_values.specs.KeyOrder.{compare_keys}
use Rattle.base_values.specs.declared.gho_schema.schema.Index.{Index}
use Rattle.base_values.specs.declared.gho_schema.schema.Schema.{Schema}
use Rattle.base_values.specs.GhoSchema.ClusteredKey.{clustered_key}
use Rattle.base_values.specs.GhoSchema.Rows.{key_of}
use Rattle.base_values.specs.GhoSchema.Tables.{IsRow, clash, no_null}
use Rattle.base_values.specs.declared.row_conversion.clause.Clause.{Clause}
use Rattle.base_values.specs.declared.row_conversion.map.MapColumn.{MapColumn}
use Rattle.base_values.specs.RowConversion.ConvertedRows.{converted_row}
use Rattle.base_values.specs.SchemaRules.Valid.{IsValid}
use Rattle.base_values.specs.SchemaRules.Reasons.{first_reason}
use Rattle.base_values.proofs.SchemaRules.Steps.{none_first}
use Rattle.sql_change.specs.declared.code.AlterCode.TheVariants as codes
use Rattle.sql_change.specs.declared.so_far.AlteredSoFar.{AlteredSoFar}
use Rattle.sql_change.specs.AlteredSchema.{keeps_key, result_reasons, map_of, altered}
use Rattle.proof_schemas.specs.Alters.Laws.{Altered}
use Rattle.proof_schemas.proofs.Alters.ConvertedRows.{map-at, key-same}
use Rattle.proof_schemas.proofs.Alters.Steps.{Kept}
use Rattle.proof_schemas.proofs.Alters.Traces.{SamePlaces, Traced}
use Rattle.proof_schemas.proofs.Alters.KeepingKeys.{ends, at-place, any-item, clashes, keeps-parts, clustered-stands, same_columns-are}
use Rattle.proof_journals.specs.Ghost.Rows.Timelines.{old_places, kept_key, kept_keys}

-- the places that a traced key's columns come from
pub from-places : (old : Schema) (standing : AlteredSoFar) (places sources : List ℕ) → SamePlaces old standing places sources → old_places (map_of standing.schema.columns standing.origins) places ≡ sources
from-places old standing [] [] same = refl
from-places old standing [] (q ∷ qs) same = absurd same
from-places old standing (p ∷ ps) [] same = absurd same
from-places old standing (p ∷ ps) (q ∷ qs) same = rw (map-at standing.schema.columns standing.origins p q same.0.column same.0.here same.0.origin) (ap (λ (places : List ℕ). q ∷ places) (from-places old standing ps qs same.1))

-- Each unique key of an altered table stands in the old one, at the places that its columns come from.
pub record StaysAt (schema : Schema) (new : Altered) (index : Index) : Type 0 where
  pub place : ℕ
  pub old : Index
  pub stands : slice_get schema.uniques place ≡ Some old
  pub places : old_places new.1 index.places ≡ old.places
  pub keeps : (row made : List Value) → IsRow schema.columns row → converted_row new.1 row ≡ Ok made → key_of index.places made ≡ key_of old.places row

stays-at : (schema : Schema) (standing : AlteredSoFar) (place : ℕ) (index : Index) → Kept schema standing → slice_get standing.schema.uniques place ≡ Some index → StaysAt schema (standing.schema, map_of standing.schema.columns standing.origins) index
stays-at schema standing place index kept e =
    let t = at-place (Traced schema standing) standing.schema.uniques place index kept.traced e in
    record { place = t.place; old = t.source; stands = t.stands; places = from-places schema standing index.places t.source.places t.places; keeps = λ row made is h. key-same schema standing row made is h index.places t.source.places t.places }

pub stay_at : (approve : Bool) (schema : Schema) (clauses : List Clause) (new : Altered) (place : ℕ) (index : Index) → IsValid schema → altered approve schema clauses ≡ Ok new → slice_get new.0.uniques place ≡ Some index → StaysAt schema new index
stay_at approve schema clauses new place index valid e at =
    let end = ends approve schema clauses new valid e in
    subst (λ (n : Altered). slice_get n.0.uniques place ≡ Some index → StaysAt schema n index) end.is (stays-at schema end.standing place index end.kept) at

-- a kept key by its place
kept-get : (columns : List MapColumn) (uniques : List Index) (place : ℕ) (found : Index) → slice_get (kept_keys columns uniques) place ≡ Some found → (index : Index) × (slice_get uniques place ≡ Some index) × (kept_key columns index ≡ found)
kept-get columns [] place found e = absurd cc
kept-get columns (first ∷ uniques) zero found e = (first, refl, let same : kept_key columns first ≡ found = cc in same)
kept-get columns (first ∷ uniques) (suc place) found e = kept-get columns uniques place found e

pub get-kept : (columns : List MapColumn) (uniques : List Index) (place : ℕ) (index : Index) → slice_get uniques place ≡ Some index → slice_get (kept_keys columns uniques) place ≡ Some (kept_key columns index)
get-kept columns [] place index e = absurd cc
get-kept columns (first ∷ uniques) zero index e = let same : first ≡ index = cc in ap (λ (i : Index). Some (kept_key columns i)) same
get-kept columns (first ∷ uniques) (suc place) index e = get-kept columns uniques place index e

-- *Kept keys are old keys*: rows that clash in them clash.
pub kept_are_old : (approve : Bool) (schema : Schema) (clauses : List Clause) (new : Altered) (row other : List Value) → IsValid schema → altered approve schema clauses ≡ Ok new → clash (kept_keys new.1 new.0.uniques) row other ≡ true → clash schema.uniques row other ≡ true
kept_are_old approve schema clauses new row other valid e clash_kept =
    let found = any-item (clashes row other) (kept_keys new.1 new.0.uniques) clash_kept in
    let key = kept-get new.1 new.0.uniques found.place found.item found.here in
    let s = stay_at approve schema clauses new found.place key.0 valid e key.1 in
    let places : found.item.places ≡ s.old.places = sym (ap (λ (i : Index). i.places) key.2) ∙ s.places in
    let old : clashes row other s.old ≡ true = subst (λ (ps : List ℕ). (is_eq (compare_keys (key_of ps row) (key_of ps other)) && no_null (key_of ps row)) ≡ true) places found.passes in
    any_passes_from_place (clashes row other) schema.uniques s.place s.old s.stands old

-- *Images clash only where their rows clash in the kept keys.*
pub converted_rows_clash : (approve : Bool) (schema : Schema) (clauses : List Clause) (new : Altered) (a b made other : List Value) → IsValid schema → altered approve schema clauses ≡ Ok new → IsRow schema.columns a → IsRow schema.columns b → converted_row new.1 a ≡ Ok made → converted_row new.1 b ≡ Ok other
    → clash new.0.uniques made other ≡ true → clash (kept_keys new.1 new.0.uniques) a b ≡ true
converted_rows_clash approve schema clauses new a b made other valid e is also converted_row_a converted_row_b clash_new =
    let found = any-item (clashes made other) new.0.uniques clash_new in
    let s = stay_at approve schema clauses new found.place found.item valid e found.here in
    let first : key_of found.item.places made ≡ key_of (old_places new.1 found.item.places) a = s.keeps a made is converted_row_a ∙ ap (λ (ps : List ℕ). key_of ps a) (sym s.places) in
    let second : key_of found.item.places other ≡ key_of (old_places new.1 found.item.places) b = s.keeps b other also converted_row_b ∙ ap (λ (ps : List ℕ). key_of ps b) (sym s.places) in
    let passes : clashes a b (kept_key new.1 found.item) ≡ true =
    subst (λ (k : List Value). (is_eq (compare_keys k (key_of (old_places new.1 found.item.places) b)) && no_null k) ≡ true) first
    (subst (λ (k : List Value). (is_eq (compare_keys (key_of found.item.places made) k) && no_null (key_of found.item.places made)) ≡ true) second found.passes) in
    any_passes_from_place (clashes a b) (kept_keys new.1 new.0.uniques) found.place (kept_key new.1 found.item) (get-kept new.1 new.0.uniques found.place found.item found.here) passes

-- *The clustered key is kept.*
pub clustered_from : (schema : Schema) (standing : AlteredSoFar) (old index : Index) → Kept schema standing → first_reason (result_reasons schema standing) ≡ None → clustered_key schema ≡ Some old → clustered_key standing.schema ≡ Some index
    → old_places (map_of standing.schema.columns standing.origins) index.places ≡ old.places
clustered_from schema standing old index kept none there here =
    let changed = not (keeps_key standing (clustered_key schema) (clustered_key standing.schema)) in
    let second = none_first (eqb (length standing.schema.columns) 0) codes.AllColumnsDropped ((changed, codes.ClusteredKeyChange) ∷ []) none in
    let third = none_first changed codes.ClusteredKeyChange [] second.1 in
    let columns = keeps-parts standing old index (clustered_key schema) (clustered_key standing.schema) there here (not-false (keeps_key standing (clustered_key schema) (clustered_key standing.schema)) third.0) in
    let at = clustered-stands standing.schema index here in
    let t = at-place (Traced schema standing) standing.schema.uniques at.0 index kept.traced at.1 in
    from-places schema standing index.places t.source.places t.places ∙ same_columns-are schema standing index.places t.source.places old.places t.places columns

pub clustered_places : (approve : Bool) (schema : Schema) (clauses : List Clause) (new : Altered) (old index : Index) → IsValid schema → altered approve schema clauses ≡ Ok new → clustered_key schema ≡ Some old → clustered_key new.0 ≡ Some index → old_places new.1 index.places ≡ old.places
clustered_places approve schema clauses new old index valid e there here =
    let end = ends approve schema clauses new valid e in
    subst (λ (n : Altered). clustered_key n.0 ≡ Some index → old_places n.1 index.places ≡ old.places) end.is (λ h. clustered_from schema end.standing old index end.kept end.reasons there h) here
