-- The AUTO_INCREMENT column of a table stays the one column of its clustered key.
use Rattle.std.proofs.Common.{◌≡◌, ℕ, ◌≤◌, Bool, true, false, not, eqb, List, [], ◌∷◌, length, Option, Some, None, Ok, refl, sym, ap, subst, ◌∙◌, arith, eqb-true}
use Rattle.std.specs.List.{list_all, slice_get}
use Rattle.std.proofs.lemmas.Bool.{not-false, not-true, and_parts, eq-eqb}
use Rattle.base_values.specs.declared.kind.Kind.{Kind}
use Rattle.base_values.specs.declared.kind.Kind.TheVariants.{Int, VarChar, VarBinary}
use Rattle.base_values.specs.declared.gho_schema.schema.Column.{Column}
use Rattle.base_values.specs.declared.gho_schema.schema.Index.{Index}
use Rattle.base_values.specs.declared.gho_schema.schema.Schema.{Schema}
use Rattle.base_values.specs.declared.row_conversion.clause.Clause.{Clause}
use Rattle.base_values.specs.GhoSchema.AutoIncrement.{is_widest, is_only, auto_place, MayCount, IsCounter, CountsAt, IsCounting}
use Rattle.base_values.specs.GhoSchema.ClusteredKey.{is_not_null, clustered_key}
use Rattle.base_values.specs.GhoSchema.Rows.{places_of, key_places}
use Rattle.base_values.specs.SchemaRules.Reasons.{first_reason}
use Rattle.base_values.specs.SchemaRules.Valid.{IsValid}
use Rattle.base_values.proofs.SchemaRules.Lists.{position-found}
use Rattle.base_values.proofs.SchemaRules.Steps.{none_first, some_is}
use Rattle.sql_change.specs.declared.code.AlterCode.TheVariants as codes
use Rattle.sql_change.specs.declared.so_far.AlteredSoFar.{AlteredSoFar}
use Rattle.sql_change.specs.AlteredSchema.{same_columns, keeps_key, result_reasons, altered}
use Rattle.sql_change.specs.Columns.{is_key_conversion}
use Rattle.proof_schemas.specs.Alters.Laws.{Altered}
use Rattle.proof_schemas.specs.Alters.ReadAgain.{AlteredSchemasAreDeclared}
use Rattle.proof_schemas.specs.ReadAgain.{MayStart}
use Rattle.proof_schemas.proofs.Autos.{is_auto, count, only-place, no-place, no-count}
use Rattle.proof_schemas.proofs.Alters.KeepingKeys.{ends, at-place, clustered-stands, same_columns-are}
use Rattle.proof_schemas.proofs.Alters.Steps.{Kept}
use Rattle.proof_schemas.proofs.Alters.Traces.{Counts, SamePlace, SamePlaces, Traced}
use Rattle.proof_schemas.proofs.Alters.ReadAgain.Declared.{altered-held}

-- ---- the column

may-stay : (a b : Kind) → MayCount a → is_key_conversion a b ≡ true → is_widest b ≡ false → MayCount b
may-stay (Int m u) (Int n v) may sort narrow = narrow
may-stay (Int m u) (VarChar k) may sort narrow = absurd cc
may-stay (Int m u) (VarBinary k) may sort narrow = absurd cc
may-stay (VarChar i) b may sort narrow = absurd may
may-stay (VarBinary i) b may sort narrow = absurd may

narrow-is : (kind : Kind) → MayCount kind → is_widest kind ≡ false
narrow-is (Int bytes unsigned) may = may
narrow-is (VarChar limit) may = absurd may
narrow-is (VarBinary limit) may = absurd may

source-counts : (source : Column) → IsCounter (Some source) → Counts source
source-counts source is = (narrow-is source.kind is.0, λ strict. is.1)

-- ---- the clustered key

module _ (old : Schema) (standing : AlteredSoFar) (before : ℕ) (was : auto_place old ≡ Some before) (few : count standing.schema.columns ≤ 1) where
  -- where the column is, AUTO_INCREMENT is
  now-at : (place : ℕ) → SamePlace old standing place before → auto_place standing.schema ≡ Some place
  now-at place same =
      let found = position-found is_auto old.columns before was in
      let source_is : found.item ≡ same.source = some_is found.item same.source (sym found.is ∙ same.there) in
      let on : same.source.auto ≡ true = ap (λ (c : Column). c.auto) (sym source_is) ∙ found.passes in
      only-place standing.schema.columns place same.column same.here (same.auto ∙ on) few

  same-at : (place source : ℕ) → SamePlace old standing place source → eqb source before ≡ true → SamePlace old standing place before
  same-at place source same is = subst (SamePlace old standing place) (eqb-true source before is) same

  only-now : (place : ℕ) → auto_place standing.schema ≡ Some place → (places sources : List ℕ) → SamePlaces old standing places sources → list_all (λ other. eqb other before) sources ≡ true → list_all (λ other. eqb other place) places ≡ true
  only-now place now [] [] same only = refl
  only-now place now [] (s ∷ sources) same only = absurd same
  only-now place now (p ∷ places) [] same only = absurd same
  only-now place now (p ∷ places) (s ∷ sources) same only =
      let t = and_parts (eqb s before) (list_all (λ other. eqb other before) sources) only in
      let at : p ≡ place = some_is p place (sym (now-at p (same-at p s same.0 t.0)) ∙ now) in
      rw (eq-eqb p place at) (only-now place now places sources same.1 t.1)

-- the one place of the clustered key before and after
record OnePlace (old : Schema) (standing : AlteredSoFar) (before : ℕ) : Type 0 where
  pub place : ℕ
  pub same : SamePlace old standing place before
  pub now : auto_place standing.schema ≡ Some place
  pub key : is_only place (key_places standing.schema) ≡ true
  pub strict : is_not_null (slice_get standing.schema.columns place) ≡ true

one-place : (old : Schema) (standing : AlteredSoFar) (before : ℕ) (index : Index) (places sources : List ℕ) → auto_place old ≡ Some before → count standing.schema.columns ≤ 1 → SamePlaces old standing places sources → is_only before sources ≡ true → index.places ≡ places → clustered_key standing.schema ≡ Some index
    → list_all (λ place. is_not_null (slice_get standing.schema.columns place)) places ≡ true → OnePlace old standing before
one-place old standing before index [] [] was few same only own here strict = absurd cc
one-place old standing before index [] (s ∷ sources) was few same only own here strict = absurd same
one-place old standing before index (p ∷ places) [] was few same only own here strict = absurd same
one-place old standing before index (p ∷ places) (s ∷ sources) was few same only own here strict =
    let t = and_parts (eqb s before) (list_all (λ other. eqb other before) sources) only in
    let first = same-at old standing before was few p s same.0 t.0 in
    let now = now-at old standing before was few p first in
    let all : is_only p (p ∷ places) ≡ true = rw (eq-eqb p p refl) (only-now old standing before was few p now places sources same.1 t.1) in
    record {
      place = p;
      same = first;
      now = now;
      key = ap (is_only p) (ap places_of here ∙ own) ∙ all;
      strict = (and_parts (is_not_null (slice_get standing.schema.columns p)) (list_all (λ place. is_not_null (slice_get standing.schema.columns place)) places) strict).0;
    }

key-parts : (standing : AlteredSoFar) (a b : Option Index) → keeps_key standing a b ≡ true
    → (old : Index) × (index : Index) × (a ≡ Some old) × (b ≡ Some index) × (same_columns standing.origins index.places old.places ≡ true) × (list_all (λ place. is_not_null (slice_get standing.schema.columns place)) index.places ≡ true)
key-parts standing (Some old) (Some index) e =
    let t = and_parts (same_columns standing.origins index.places old.places) (list_all (λ place. is_not_null (slice_get standing.schema.columns place)) index.places) e in
    (old, index, refl, refl, t.0, t.1)
key-parts standing (Some old) None e = absurd cc
key-parts standing None b e = absurd cc

kept-place : (old : Schema) (standing : AlteredSoFar) (before : ℕ) → auto_place old ≡ Some before → count standing.schema.columns ≤ 1 → Kept old standing → first_reason (result_reasons old standing) ≡ None → is_only before (key_places old) ≡ true → OnePlace old standing before
kept-place old standing before was_at few kept none key =
    let changed = not (keeps_key standing (clustered_key old) (clustered_key standing.schema)) in
    let second = none_first (eqb (length standing.schema.columns) 0) codes.AllColumnsDropped ((changed, codes.ClusteredKeyChange) ∷ []) none in
    let third = none_first changed codes.ClusteredKeyChange [] second.1 in
    let parts = key-parts standing (clustered_key old) (clustered_key standing.schema) (not-false _ third.0) in
    let was = parts.0 in
    let index = parts.1 in
    let at = clustered-stands standing.schema index parts.3 in
    let t = at-place (Traced old standing) standing.schema.uniques at.0 index kept.traced at.1 in
    let own : is_only before was.places ≡ true = ap (is_only before) (ap places_of (sym parts.2)) ∙ key in
    let sources = same_columns-are old standing index.places t.source.places was.places t.places parts.4 in
    one-place old standing before index index.places t.source.places was_at few t.places (ap (is_only before) sources ∙ own) refl parts.3 parts.5

-- ---- the result

-- what is left of the AUTO_INCREMENT column
record StaysCounting (old new : Schema) : Type 0 where
  pub counting : IsCounting new
  pub starts : (start : Option ℕ) → MayStart (auto_place old) start → MayStart (auto_place new) start

strict-column : (o : Option Column) (column : Column) → o ≡ Some column → is_not_null o ≡ true → column.nullable ≡ false
strict-column (Some own) column is e = let same : own ≡ column = some_is own column is in ap (λ (c : Column). c.nullable) (sym same) ∙ not-true own.nullable e
strict-column None column is e = absurd cc

counter-at : (o : Option Column) (column : Column) → o ≡ Some column → IsCounter o → IsCounter (Some column)
counter-at (Some own) column is counter = let same : own ≡ column = some_is own column is in subst (λ (c : Column). IsCounter (Some c)) same counter
counter-at None column is counter = absurd cc

start-moves : (place now start : Option ℕ) (before after : ℕ) → place ≡ Some before → now ≡ Some after → MayStart place start → MayStart now start
start-moves place now None before after was is may = subst (λ (o : Option ℕ). MayStart o None) (sym is) tt
start-moves (Some p) now (Some n) before after was is may = subst (λ (o : Option ℕ). MayStart o (Some n)) (sym is) may
start-moves None now (Some n) before after was is may = absurd may

at-place-counts : (schema : Schema) (place : ℕ) → auto_place schema ≡ Some place → CountsAt schema (auto_place schema) → CountsAt schema (Some place)
at-place-counts schema place is at = subst (CountsAt schema) is at

some-stays : (old : Schema) (standing : AlteredSoFar) (before : ℕ) → auto_place old ≡ Some before → IsCounting old → count standing.schema.columns ≤ count old.columns → Kept old standing → first_reason (result_reasons old standing) ≡ None → StaysCounting old standing.schema
some-stays old standing before was counting few kept none =
    let at = at-place-counts old before was counting.at in
    let once : count standing.schema.columns ≤ 1 = let first : count old.columns ≤ 1 = counting.once in omega (arith, few, first) in
    let one = kept-place old standing before was once kept none at.0 in
    let same = one.same in
    let found = position-found is_auto old.columns before was in
    let source_is : found.item ≡ same.source = some_is found.item same.source (sym found.is ∙ same.there) in
    let on : same.source.auto ≡ true = ap (λ (c : Column). c.auto) (sym source_is) ∙ found.passes in
    let counter = counter-at (slice_get old.columns before) same.source same.there at.1 in
    let counts = same.counts on (source-counts same.source counter) in
    let strict = strict-column (slice_get standing.schema.columns one.place) same.column same.here one.strict in
    let own : IsCounter (Some same.column) = (may-stay same.source.kind same.column.kind counter.0 same.sort counts.0, counts.1 strict) in
    let now = one.now in
    let counts_at : CountsAt standing.schema (Some one.place) = (one.key, subst IsCounter (sym same.here) own) in
    record {
      counting = record { once = once; at = subst (CountsAt standing.schema) (sym now) counts_at };
      starts = λ start may. start-moves (auto_place old) (auto_place standing.schema) start before one.place was now may;
    }

none-stays : (old new : Schema) → auto_place old ≡ None → count new.columns ≤ count old.columns → StaysCounting old new
none-stays old new was few =
    let zero_before : count old.columns ≡ 0 = no-count old.columns was in
    let zero_now : count new.columns ≡ 0 = omega (arith, few, zero_before) in
    let now : auto_place new ≡ None = no-place new.columns zero_now in
    record {
      counting = record { once = omega (arith, zero_now); at = subst (CountsAt new) (sym now) tt };
      starts = λ start may. subst (λ (o : Option ℕ). MayStart o start) (was ∙ sym now) may;
    }

stays-by : (old : Schema) (standing : AlteredSoFar) (o : Option ℕ) → auto_place old ≡ o → IsCounting old → count standing.schema.columns ≤ count old.columns → Kept old standing → first_reason (result_reasons old standing) ≡ None → StaysCounting old standing.schema
stays-by old standing (Some before) was counting few kept none = some-stays old standing before was counting few kept none
stays-by old standing None was counting few kept none = none-stays old standing.schema was few

altered-counts : (approve : Bool) (schema : Schema) (clauses : List Clause) (new : Altered) → IsValid schema → IsCounting schema → count new.0.columns ≤ count schema.columns → altered approve schema clauses ≡ Ok new → StaysCounting schema new.0
altered-counts approve schema clauses new valid counting few e =
    let end = ends approve schema clauses new valid e in
    subst (λ (n : Altered). count n.0.columns ≤ count schema.columns → StaysCounting schema n.0) end.is (λ less. stays-by schema end.standing (auto_place schema) refl counting less end.kept end.reasons) few

pub altered-declared : AlteredSchemasAreDeclared
altered-declared migrated approve schema clauses new valid is e =
    let held = altered-held migrated approve schema clauses new is.shaped e in
    let stays = altered-counts approve schema clauses new valid is.counting held.few e in
    record { shaped = held.shaped; counting = stays.counting; start = subst (MayStart (auto_place new.0)) (sym held.start) (stays.starts schema.start is.start) }
