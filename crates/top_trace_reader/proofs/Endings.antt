-- The last two of values; and words that are no turn.
use Rattle.std.proofs.Common.{◌≡◌, ℕ, List, [], ◌∷◌, ◌++◌, Some, None, refl, ap, ◌∙◌, append_assoc}
use Rattle.std.proofs.Common.{Bor, arith, length, map}
use Rattle.top_trace_reader.specs.Turns.{turn_in}
use Rattle.std.specs.Option.{option_map}
use Rattle.base_values.specs.declared.value.Value.{Value}
use Rattle.top_trace_reader.specs.Verdicts.{after_value, ended_in}

two_more : (front : List Value) (last_but_one last : Value) → ended_in (front ++ (last_but_one ∷ last ∷ [])) ≡ Some (record { front = front; last_but_one = last_but_one; last = last })
unfolding ended_in
two_more [] last_but_one last = refl
two_more (value ∷ []) last_but_one last = refl
two_more (value ∷ other ∷ []) last_but_one last = refl
two_more (value ∷ other ∷ third ∷ front) last_but_one last = ap (option_map (after_value value)) (two_more (other ∷ third ∷ front) last_but_one last)

-- values with two more, one after the other
pub two_taken : (values longer front : List Value) (last_but_one last : Value) → values ≡ longer ++ (last ∷ []) → longer ≡ front ++ (last_but_one ∷ []) → ended_in values ≡ Some (record { front = front; last_but_one = last_but_one; last = last })
two_taken values longer front last_but_one last whole part =
    let all : values ≡ front ++ (last_but_one ∷ last ∷ []) = whole ∙ ap (λ (xs : List Value). xs ++ (last ∷ [])) part ∙ append_assoc front (last_but_one ∷ []) (last ∷ []) in
    ap ended_in all ∙ two_more front last_but_one last

-- ---- two words

pub two_words : (clients turn : ℕ) (words : List (Bor (List ℕ))) → length words ≡ 2 → turn_in clients turn (map (λ (word : Bor (List ℕ)). word.now) words) ≡ None
unfolding turn_in
two_words clients turn [] two = refl
two_words clients turn (number ∷ []) two = refl
two_words clients turn (number ∷ actor ∷ []) two = refl
two_words clients turn (number ∷ actor ∷ asked ∷ answer) two = absurd (omega arith)
