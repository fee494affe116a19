-- The laws on images, from what is known of the table after the last clause.
use Rattle.std.proofs.Common.{◌≡◌, ℕ, zero, suc, Bool, true, false, not, ◌&&◌, ◌||◌, eqb, List, [], ◌∷◌, length, Option, Some, None, Ok, refl, sym, ap, subst, ◌∙◌}
use Rattle.std.specs.List.{list_all, list_any, slice_get, AllByRecursion}
use Rattle.std.specs.Ordering.{is_eq}
use Rattle.std.proofs.lemmas.Bool.{eqb-true, and_parts, not-false}
use Rattle.std.proofs.lemmas.Map.Keys.{any_passes_from_place}
use Rattle.base_values.specs.declared.value.Value.{Value}
use Rattle.base_values.specs.KeyOrder.{compare_keys}
use Rattle.base_values.specs.declared.gho_schema.schema.Index.{Index}
use Rattle.base_values.specs.declared.gho_schema.schema.Schema.{Schema}
use Rattle.base_values.specs.GhoSchema.Rows.{key_of}
use Rattle.base_values.specs.GhoSchema.Tables.{no_null}
use Rattle.base_values.specs.declared.row_conversion.clause.Clause.{Clause}
use Rattle.base_values.specs.GhoSchema.ClusteredKey.{is_not_null, clustered_place, unique_at, clustered_key}
use Rattle.base_values.specs.SchemaRules.Reasons.{first_reason}
use Rattle.base_values.specs.SchemaRules.Valid.{IsValid}
use Rattle.sql_change.specs.declared.code.AlterCode.{AlterCode}
use Rattle.sql_change.specs.declared.code.AlterCode.TheVariants as codes
use Rattle.sql_change.specs.declared.so_far.AlteredSoFar.{AlteredSoFar}
use Rattle.sql_change.specs.AlteredSchema.{steps, is_origin, same_columns, keeps_key, result_reasons, map_of, result_of, altered}
use Rattle.sql_change.specs.AlteredSoFar.{start}
use Rattle.base_values.proofs.SchemaRules.Steps.{bind_ok, unless_ok, none_first, ok_is}
use Rattle.proof_schemas.specs.Alters.Laws.{Altered, KeepsKeys, Stays, ConvertedRowsKeepKeys, ConvertedRowsStayApart, ClusteredKeysStay}
use Rattle.proof_schemas.proofs.Alters.ConvertedRows.{key-same}
use Rattle.proof_schemas.proofs.Alters.Steps.{Kept, start-kept, steps-kept}
use Rattle.proof_schemas.proofs.Alters.Traces.{SamePlaces, Traced}

-- the table after the last clause
pub record Ends (approve : Bool) (schema : Schema) (clauses : List Clause) (new : Altered) : Type 0 where
  pub standing : AlteredSoFar
  pub kept : Kept schema standing
  pub reasons : first_reason (result_reasons schema standing) ≡ None
  pub is : (standing.schema, map_of standing.schema.columns standing.origins) ≡ new

pub ends : (approve : Bool) (schema : Schema) (clauses : List Clause) (new : Altered) → IsValid schema → altered approve schema clauses ≡ Ok new → Ends approve schema clauses new
unfolding altered
ends approve schema clauses new valid e =
    let b = bind_ok (steps approve (start schema) clauses) (result_of schema) new e in
    let made : Altered = (b.0.schema, map_of b.0.schema.columns b.0.origins) in
    let r = unless_ok (first_reason (result_reasons schema b.0)) (Ok made) new b.2 in
    record { standing = b.0; kept = steps-kept schema approve (start schema) b.0 clauses (start-kept schema valid) b.1; reasons = r.0; is = ok_is {C = AlterCode} made new r.1 }

-- ---- each unique key

pub at-place : (P : Index → Type 0) (xs : List Index) (i : ℕ) (x : Index) → AllByRecursion P xs → slice_get xs i ≡ Some x → P x
at-place P [] i x all e = absurd cc
at-place P (y ∷ xs) zero x all e = let same : y ≡ x = cc in subst P same all.0
at-place P (y ∷ xs) (suc i) x all e = at-place P xs i x all.1 e

stays-in : (schema : Schema) (standing : AlteredSoFar) (place : ℕ) (index : Index) → Kept schema standing → slice_get standing.schema.uniques place ≡ Some index → Stays schema (standing.schema, map_of standing.schema.columns standing.origins) index
stays-in schema standing place index kept e =
    let t = at-place (Traced schema standing) standing.schema.uniques place index kept.traced e in
    record { place = t.place; old = t.source; stands = t.stands; name = t.name; keeps = λ row made is h. key-same schema standing row made is h index.places t.source.places t.places }

pub keeps_keys : ConvertedRowsKeepKeys
keeps_keys approve schema clauses new place index valid e at =
    let end = ends approve schema clauses new valid e in
    subst (λ (n : Altered). slice_get n.0.uniques place ≡ Some index → Stays schema n index) end.is (stays-in schema end.standing place index end.kept) at

-- ---- rows that don't clash

pub record AnyItem (test : Index → Bool) (xs : List Index) : Type 0 where
  pub place : ℕ
  pub item : Index
  pub here : slice_get xs place ≡ Some item
  pub passes : test item ≡ true

any-cons : (test : Index → Bool) (x : Index) (xs : List Index) (b : Bool) → test x ≡ b → (list_any test xs ≡ true → AnyItem test xs) → (b || list_any test xs) ≡ true → AnyItem test (x ∷ xs)
any-cons test x xs true h rest e = record { place = 0; item = x; here = refl; passes = h }
any-cons test x xs false h rest e = let later = rest e in record { place = suc later.place; item = later.item; here = later.here; passes = later.passes }

pub any-item : (test : Index → Bool) (xs : List Index) → list_any test xs ≡ true → AnyItem test xs
any-item test [] e = absurd cc
any-item test (x ∷ xs) e = any-cons test x xs (test x) refl (any-item test xs) e

abbrev pub clashes : List Value → List Value → Index → Bool
clashes a b index = is_eq (compare_keys (key_of index.places a) (key_of index.places b)) && no_null (key_of index.places a)

pub stay_apart : ConvertedRowsStayApart
stay_apart approve schema clauses new a b made other valid e is also converted_row_a converted_row_b apart =
    let found = any-item (clashes made other) new.0.uniques apart in
    let s = keeps_keys approve schema clauses new found.place found.item valid e found.here in
    let first : key_of found.item.places made ≡ key_of s.old.places a = s.keeps a made is converted_row_a in
    let second : key_of found.item.places other ≡ key_of s.old.places b = s.keeps b other also converted_row_b in
    let clash_old : clashes a b s.old ≡ true = subst (λ (k : List Value). (is_eq (compare_keys k (key_of s.old.places b)) && no_null k) ≡ true) first (subst (λ (k : List Value). (is_eq (compare_keys (key_of found.item.places made) k) && no_null (key_of found.item.places made)) ≡ true) second found.passes) in
    any_passes_from_place (clashes a b) schema.uniques s.place s.old s.stands clash_old

-- ---- the clustered key

abbrev some_index : Index → Option Index
some_index i = Some i

index-is : (a b : Index) → some_index a ≡ some_index b → a ≡ b
index-is a b e = cc

origin-is : (o : Option (Option ℕ)) (before place : ℕ) → o ≡ Some (Some place) → is_origin o before ≡ true → place ≡ before
origin-is (Some (Some p)) before place e h = let same : p ≡ place = cc in sym same ∙ eqb-true p before h
origin-is (Some None) before place e h = absurd cc
origin-is None before place e h = absurd cc

-- the places that were the columns' are the old key's
pub same_columns-are : (old : Schema) (standing : AlteredSoFar) (places sources before : List ℕ) → SamePlaces old standing places sources → same_columns standing.origins places before ≡ true → sources ≡ before
unfolding same_columns
same_columns-are old standing [] [] [] same e = refl
same_columns-are old standing [] [] (b ∷ before) same e = absurd cc
same_columns-are old standing [] (s ∷ sources) before same e = absurd same
same_columns-are old standing (p ∷ places) [] before same e = absurd same
same_columns-are old standing (p ∷ places) (s ∷ sources) [] same e = absurd cc
same_columns-are old standing (p ∷ places) (s ∷ sources) (b ∷ before) same e =
    let h = and_parts (is_origin (slice_get standing.origins p) b) (same_columns standing.origins places before) e in
    rw (origin-is (slice_get standing.origins p) b s same.0.origin h.0, same_columns-are old standing places sources before same.1 h.1) refl

clustered-place : (schema : Schema) (o : Option ℕ) (index : Index) → unique_at schema.uniques o ≡ Some index → (place : ℕ) × (slice_get schema.uniques place ≡ Some index)
clustered-place schema (Some place) index e = (place, e)
clustered-place schema None index e = absurd cc

pub clustered-stands : (schema : Schema) (index : Index) → clustered_key schema ≡ Some index → (place : ℕ) × (slice_get schema.uniques place ≡ Some index)
clustered-stands schema index e = clustered-place schema (clustered_place schema) index e

pub keeps-parts : (standing : AlteredSoFar) (old index : Index) (a b : Option Index) → a ≡ Some old → b ≡ Some index → keeps_key standing a b ≡ true → same_columns standing.origins index.places old.places ≡ true
keeps-parts standing old index (Some x) (Some y) e f h =
    let same : x ≡ old = index-is x old e in
    let also : y ≡ index = index-is y index f in
    let parts = and_parts (same_columns standing.origins y.places x.places) (list_all (λ place. is_not_null (slice_get standing.schema.columns place)) y.places) h in
    subst (λ (i : Index). same_columns standing.origins i.places old.places ≡ true) also (subst (λ (i : Index). same_columns standing.origins y.places i.places ≡ true) same parts.0)
keeps-parts standing old index None b e f h = absurd cc
keeps-parts standing old index (Some x) None e f h = absurd cc

clustered-in : (schema : Schema) (standing : AlteredSoFar) (old index : Index) → Kept schema standing → first_reason (result_reasons schema standing) ≡ None → clustered_key schema ≡ Some old → clustered_key standing.schema ≡ Some index
    → KeepsKeys schema (standing.schema, map_of standing.schema.columns standing.origins) old index
clustered-in schema standing old index kept none there here row made is h =
    let changed = not (keeps_key standing (clustered_key schema) (clustered_key standing.schema)) in
    let second = none_first (eqb (length standing.schema.columns) 0) codes.AllColumnsDropped ((changed, codes.ClusteredKeyChange) ∷ []) none in
    let third = none_first changed codes.ClusteredKeyChange [] second.1 in
    let columns = keeps-parts standing old index (clustered_key schema) (clustered_key standing.schema) there here (not-false _ third.0) in
    let at = clustered-stands standing.schema index here in
    let t = at-place (Traced schema standing) standing.schema.uniques at.0 index kept.traced at.1 in
    key-same schema standing row made is h index.places t.source.places t.places ∙ ap (λ (places : List ℕ). key_of places row) (same_columns-are schema standing index.places t.source.places old.places t.places columns)

pub clustered_stay : ClusteredKeysStay
clustered_stay approve schema clauses new old index valid e there here =
    let end = ends approve schema clauses new valid e in
    subst (λ (n : Altered). clustered_key n.0 ≡ Some index → KeepsKeys schema n old index) end.is (λ h. clustered-in schema end.standing old index end.kept end.reasons there h) here
