-- Rows with the number that they draw.
use Rattle.std.proofs.Common.{◌≡◌, ℕ, List, [], ◌∷◌, ◌++◌, pos, Option, Some, Result, Ok, refl, sym, ap, ◌∙◌}
use Rattle.std.specs.Prelude.{◌==◌, slice_get}
use Rattle.std.specs.List.{list_any}
use Rattle.std.proofs.lemmas.List.{append-nil}
use Rattle.base_values.specs.declared.value.Value.{Value}
use Rattle.base_values.specs.declared.value.Value.TheVariants.{Num}
use Rattle.base_values.specs.declared.gho_schema.schema.Schema.{Schema}
use Rattle.base_values.specs.GhoSchema.AutoIncrement.{auto_place}
use Rattle.server_model.specs.Checks.{drawn_row, names_filled, new_row, places_listed, value_set, values_filled}

-- nothing is set where there are no values
none_set : (place : ℕ) (places : List ℕ) (new : Value) → value_set place places new [] ≡ []
unfolding value_set
none_set place [] new = refl
none_set place (other ∷ places) new = refl

pub set_all : (place : ℕ) (places : List ℕ) (new : Value) (row rest total : List Value) → rest ≡ [] → row ++ value_set place places new rest ≡ total → row ≡ total
set_all place places new row rest total none so_far =
    sym (ap (λ (values : List Value). row ++ value_set place places new values) none ∙ (ap (λ (more : List Value). row ++ more) (none_set place places new) ∙ append-nil row)) ∙ so_far

-- a row of what was filled
pub filled_row : (schema : Schema) (names filled : Option (List (List ℕ))) (values all : List Value) (drawn : Option ℕ) (number place : ℕ) (places : List ℕ) → drawn ≡ Some number → auto_place schema ≡ Some place → places_listed schema names ≡ Ok places
    → filled ≡ names_filled (slice_get schema.columns place) (list_any (λ other. place == other) places) names → all ≡ values_filled place places (list_any (λ other. place == other) places) (Num (pos number)) values → new_row schema filled all ≡ drawn_row schema names values drawn
filled_row schema names filled values all drawn number place places drawn_is auto_is listed filled_is all_is = rw (drawn_is, auto_is, listed, filled_is, all_is) refl
