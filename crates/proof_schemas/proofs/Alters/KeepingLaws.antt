-- Altered schemas are lawful.
use Rattle.std.proofs.Common.{◌≡◌, ℕ, zero, suc, ◌<◌, ◌≤◌, Bool, true, false, not, eqb, List, [], ◌∷◌, length, Option, Some, None, Ok, subst, arith}
use Rattle.std.specs.List.{list_all, slice_get, AllByRecursion}
use Rattle.base_values.specs.Laws.{StoresAgain}
use Rattle.base_values.specs.declared.gho_schema.schema.Index.{Index}
use Rattle.base_values.specs.declared.gho_schema.schema.Schema.{Schema}
use Rattle.base_values.specs.declared.row_conversion.clause.Clause.{Clause}
use Rattle.base_values.specs.GhoSchema.ClusteredKey.{is_not_null, clustered_key}
use Rattle.base_values.specs.SchemaRules.Reasons.{first_reason}
use Rattle.base_values.specs.SchemaRules.Valid.{IsKey, IsNotNull, IsValid}
use Rattle.base_values.proofs.SchemaRules.Lists.{All-at}
use Rattle.sql_change.specs.declared.code.AlterCode.{AlterCode}
use Rattle.sql_change.specs.declared.code.AlterCode.TheVariants as codes
use Rattle.sql_change.specs.declared.so_far.AlteredSoFar.{AlteredSoFar}
use Rattle.sql_change.specs.AlteredSchema.{step, steps, same_columns, keeps_key, result_reasons, map_of, result_of, altered}
use Rattle.sql_change.specs.Places.{ArePlaces}
use Rattle.sql_change.specs.AlteredSoFar.{start}
use Rattle.base_values.proofs.SchemaRules.Steps.{bind_ok, unless_ok, none_first, ok_is}
use Rattle.proof_schemas.specs.Alters.Laws.{Altered, IsClause, AlteredSchemasAreValid}
use Rattle.proof_schemas.proofs.Alters.Apart.{names-apart, apart-names}
use Rattle.proof_schemas.proofs.Alters.Keeping.{HasPlaces, IsGood, step-good}
use Rattle.proof_schemas.proofs.Alters.Steps.{Kept, start-kept, steps-kept}
use Rattle.proof_schemas.proofs.Alters.Traces.{SamePlaces, Traced}
use Rattle.std.proofs.lemmas.Bool.{and_parts, not-false}

-- ---- the clauses

steps-good : StoresAgain → (approve : Bool) (standing next : AlteredSoFar) (clauses : List Clause) → AllByRecursion IsClause clauses → IsGood standing.schema → steps approve standing clauses ≡ Ok next → IsGood next.schema
unfolding steps
steps-good again approve standing next [] all good e = subst (λ (s : AlteredSoFar). IsGood s.schema) (ok_is {C = AlterCode} standing next e) good
steps-good again approve standing next (clause ∷ clauses) all good e =
    let b = bind_ok (step approve standing clause) (λ s. steps approve s clauses) next e in
    steps-good again approve b.0 next clauses all.1 (step-good again approve standing b.0 clause all.0 good b.1) b.2

keys-have : (count : ℕ) (indexes : List Index) → AllByRecursion (IsKey count) indexes → AllByRecursion HasPlaces indexes
keys-have count [] all = tt
keys-have count (index ∷ indexes) all = (all.0.some, keys-have count indexes all.1)

valid-good : (schema : Schema) → IsValid schema → IsGood schema
valid-good schema valid = record { columns = valid.columns; apart = names-apart schema.columns valid.names; indexes = keys-have (length schema.columns) schema.indexes valid.indexes }

-- ---- keys

same-length : (old : Schema) (standing : AlteredSoFar) (places others : List ℕ) → SamePlaces old standing places others → 0 < length others → 0 < length places
same-length old standing [] [] same lt = lt
same-length old standing [] (q ∷ qs) same lt = absurd same
same-length old standing (p ∷ ps) others same lt = omega arith

traced-has : (old : Schema) (standing : AlteredSoFar) (index : Index) → IsValid old → Traced old standing index → HasPlaces index
traced-has old standing index valid t = same-length old standing index.places t.source.places t.places (All-at (IsKey (length old.columns)) old.uniques t.place t.source valid.uniques t.stands).some

uniques-are : (old : Schema) (standing : AlteredSoFar) (count : ℕ) (uniques : List Index) → IsValid old → AllByRecursion (Traced old standing) uniques → ArePlaces count uniques → AllByRecursion (IsKey count) uniques
uniques-are old standing count [] valid traced within = tt
uniques-are old standing count (index ∷ uniques) valid traced within =
    (record { some = traced-has old standing index valid traced.0; within = within.0 }, uniques-are old standing count uniques valid traced.1 within.1)

indexes-are : (count : ℕ) (indexes : List Index) → AllByRecursion HasPlaces indexes → ArePlaces count indexes → AllByRecursion (IsKey count) indexes
indexes-are count [] has within = tt
indexes-are count (index ∷ indexes) has within = (record { some = has.0; within = within.0 }, indexes-are count indexes has.1 within.1)

-- ---- the result

some-columns : (n : ℕ) → eqb n 0 ≡ false → 1 ≤ n
some-columns zero e = absurd cc
some-columns (suc n) e = omega arith

stays-clustered : (standing : AlteredSoFar) (old new : Option Index) → keeps_key standing old new ≡ true → IsNotNull standing.schema.columns new
stays-clustered standing (Some old) (Some new) e = (and_parts (same_columns standing.origins new.places old.places) (list_all (λ place. is_not_null (slice_get standing.schema.columns place)) new.places) e).1
stays-clustered standing (Some old) None e = absurd cc
stays-clustered standing None new e = absurd cc

valid-end : (old : Schema) (standing : AlteredSoFar) → IsValid old → Kept old standing → IsGood standing.schema → first_reason (result_reasons old standing) ≡ None → IsValid standing.schema
valid-end old standing valid kept good none =
    let changed = not (keeps_key standing (clustered_key old) (clustered_key standing.schema)) in
    let first = none_first (eqb (length standing.schema.columns) 0) codes.AllColumnsDropped ((changed, codes.ClusteredKeyChange) ∷ []) none in
    let second = none_first changed codes.ClusteredKeyChange [] first.1 in
    record {
      some = some-columns (length standing.schema.columns) first.0;
      few = kept.stands.few;
      names = apart-names standing.schema.columns good.apart;
      columns = good.columns;
      uniques = uniques-are old standing (length standing.schema.columns) standing.schema.uniques valid kept.traced kept.stands.uniques;
      indexes = indexes-are (length standing.schema.columns) standing.schema.indexes good.indexes kept.stands.indexes;
      clustered = stays-clustered standing (clustered_key old) (clustered_key standing.schema) (not-false _ second.0);
    }

pub altered-valid : StoresAgain → AlteredSchemasAreValid
unfolding altered
altered-valid again approve schema clauses new valid all e =
    let b = bind_ok (steps approve (start schema) clauses) (result_of schema) new e in
    let made : Altered = (b.0.schema, map_of b.0.schema.columns b.0.origins) in
    let r = unless_ok (first_reason (result_reasons schema b.0)) (Ok made) new b.2 in
    let kept = steps-kept schema approve (start schema) b.0 clauses (start-kept schema valid) b.1 in
    let good = steps-good again approve (start schema) b.0 clauses all (valid-good schema valid) b.1 in
    subst (λ (n : Altered). IsValid n.0) (ok_is {C = AlterCode} made new r.1) (valid-end schema b.0 valid kept good r.0)
