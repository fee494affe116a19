-- The values of a key, and what comes of no values.
use Rattle.std.proofs.Common.{◌≡◌, ℕ, List, [], ◌∷◌, ◌++◌, Option, Some, None, Result, Ok, refl, sym, ap, ◌∙◌}
use Rattle.std.proofs.lemmas.List.{append-nil}
use Rattle.std.specs.Option.{option_to_list}
use Rattle.base_values.specs.declared.value.Value.{Value}
use Rattle.base_values.specs.declared.gho_schema.schema.Schema.{Schema}
use Rattle.server_model.specs.declared.answer.Answer.{Answer}
use Rattle.server_model.specs.Checks.{beside, with_value, wanted_each}
use Rattle.server_prepare.proofs.Fronts.{with_front}

-- a value in front, where there is one
pub with_value_is : (value : Option Value) (key : List Value) → with_value value key ≡ option_to_list value ++ key
with_value_is None key = refl
with_value_is (Some value) key = refl

-- nothing stands beside a place where there are no values
pub none_beside : (place : ℕ) (places : List ℕ) → beside place places [] ≡ None
unfolding beside
none_beside place [] = refl
none_beside place (other ∷ places) = refl

-- nothing more is sought where no values are left
none_wanted : (schema : Schema) (places : List ℕ) → wanted_each schema places [] ≡ Ok []
unfolding wanted_each
none_wanted schema [] = refl
none_wanted schema (place ∷ places) = refl

pub wanted_all : (schema : Schema) (places : List ℕ) (sought rest : List Value) (total : Result (List Value) Answer) → rest ≡ [] → with_front sought (wanted_each schema places rest) ≡ total → Ok sought ≡ total
wanted_all schema places sought rest total none so_far =
    let here : wanted_each schema places rest ≡ Ok [] = ap (wanted_each schema places) none ∙ none_wanted schema places in
    sym (ap (with_front sought) here ∙ ap (λ values. Ok values) (append-nil sought)) ∙ so_far
