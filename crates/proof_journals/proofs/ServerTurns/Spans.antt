-- The rows of a span of the clustered key: as the store finds them, and as locks see them.
use Rattle.std.proofs.Common.{◌≡◌, ℕ, Bool, true, List, [], ◌∷◌, filter, cond, Option, Some, None, refl, sym, ap, ◌∙◌, subst, arith}
use Rattle.std.specs.Prelude.{◌<◌, length}
use Rattle.std.specs.List.{AllByRecursion, slice_get}
use Rattle.base_values.specs.declared.value.Value.{Value}
use Rattle.base_values.specs.declared.span.Span.{Span}
use Rattle.base_values.specs.Spans.{has}
use Rattle.base_values.specs.declared.gho_schema.schema.Schema.{Schema}
use Rattle.base_values.specs.declared.gho_schema.schema.Index.{Index}
use Rattle.base_values.specs.GhoSchema.ClusteredKey.{clustered_place, unique_at}
use Rattle.base_values.specs.GhoSchema.Rows.{key_of, key_places, places_of}
use Rattle.base_values.specs.GhoSchema.Tables.{IsRow, no_null}
use Rattle.table_store.specs.Databases.{TableRows, rows_in}
use Rattle.table_store.proofs.TableLaws.{key_no_null}
use Rattle.server_model.specs.Rows.{reaches, rows_met, lies_under}
use Rattle.server_model.specs.LockedRows.Coverage.{IsWellFormedTable}
use Rattle.server_model.specs.LockedRows.Databases.{WhereFound}
use Rattle.proof_journals.specs.ServerTurns.Others.{SpanStays}
use Rattle.server_model.proofs.LockedRows.WellFormed.{nulls}
use Rattle.proof_journals.proofs.ServerTurns.Agreements.{rows_stay}

-- the clustered key of a row is in the span where the row is reached
index_there : (found : Option Index) → 0 < length (places_of found) → (index : Index) × (found ≡ Some index)
index_there None some = absurd (grind (arith))
index_there (Some index) some = (index, refl)

reached_in : (table : TableRows) (place : ℕ) (span : Span) (row : List Value) → IsWellFormedTable table → clustered_place table.schema ≡ Some place → IsRow table.schema.columns row → reaches table.schema (record { key = place; span = span }) row ≡ has span (key_of (key_places table.schema) row)
unfolding lies_under
reached_in table place span row is clustered fits =
    let found : Option Index = slice_get table.schema.uniques place in
    let same : key_places table.schema ≡ places_of found = ap (λ (p : Option ℕ). places_of (unique_at table.schema.uniques p)) clustered in
    let full : no_null (key_of (key_places table.schema) row) ≡ true = key_no_null nulls table.schema.columns row (key_places table.schema) fits is.keyed.not_null in
    at found (index_there found (subst (λ (ps : List ℕ). 0 < length ps) same is.keyed.some)) (subst (λ (ps : List ℕ). no_null (key_of ps row) ≡ true) same full) ∙ ap (λ (ps : List ℕ). has span (key_of ps row)) (sym same) where
      at : (found : Option Index) → (index : Index) × (found ≡ Some index) → no_null (key_of (places_of found) row) ≡ true → lies_under found span row ≡ has span (key_of (places_of found) row)
      at None there full = absurd (cc (there.1))
      at (Some index) there full = rw full refl

met_in : (table : TableRows) (place : ℕ) (span : Span) (rows : List (List Value)) → IsWellFormedTable table → clustered_place table.schema ≡ Some place → AllByRecursion (IsRow table.schema.columns) rows
    → filter (reaches table.schema (record { key = place; span = span })) rows ≡ filter (λ row. has span (key_of (key_places table.schema) row)) rows
met_in table place span [] is clustered fits = refl
met_in table place span (row ∷ rows) is clustered fits =
    ap (λ (b : Bool). cond b (row ∷ filter (reaches table.schema (record { key = place; span = span })) rows) (filter (reaches table.schema (record { key = place; span = span })) rows)) (reached_in table place span row is clustered fits.0)
    ∙ ap (λ (more : List (List Value)). cond (has span (key_of (key_places table.schema) row)) (row ∷ more) more) (met_in table place span rows is clustered fits.1)

pub rows_of_span : (table : TableRows) (place : ℕ) (span : Span) → IsWellFormedTable table → clustered_place table.schema ≡ Some place → rows_met table.schema (record { key = place; span = span }) table.rows ≡ rows_in table span
rows_of_span table place span is clustered = met_in table place span table.rows is clustered is.is_table.rows_fit

-- *A span under a lock stays*
pub span_stays : SpanStays
span_stays names locks a b name one two exclusive place span agree well_formed_a well_formed_b held found_a found_b clustered among =
    let both = rows_stay names locks a b name one two exclusive (record { key = place; span = span }) agree well_formed_a well_formed_b held found_a found_b among in
    let first : IsWellFormedTable one = subst (λ (o : Option TableRows). WhereFound IsWellFormedTable o) found_a (well_formed_a.each name) in
    let second : IsWellFormedTable two = subst (λ (o : Option TableRows). WhereFound IsWellFormedTable o) found_b (well_formed_b.each name) in
    (both.0, sym (rows_of_span two place span second (ap clustered_place both.0 ∙ clustered)) ∙ ap (λ (s : Schema). rows_met s (record { key = place; span = span }) two.rows) both.0 ∙ both.1 ∙ rows_of_span one place span first clustered)
