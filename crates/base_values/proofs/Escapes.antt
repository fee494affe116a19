-- A character is written as its bytes are.
use Rattle.std.proofs.Common.{◌≡◌, ◌≢◌, ℕ, ◌+◌, ◌/◌, ◌%◌, ◌≤◌, Bool, true, false, cond, ltb, List, [], ◌∷◌, ◌++◌, refl, ap, ◌∙◌, arith, inl, inr}
use Rattle.std.specs.List.{flat_map}
use Rattle.std.specs.Prelude.{encode_utf8, encode_utf8_all}
use lib.Utf8.{encode}
use Rattle.std.proofs.lemmas.Bool.{cases_lt, le-ltb}
use Rattle.std.proofs.lemmas.Bool.Decides.{nat_tests}
use Rattle.std.proofs.lemmas.List.{append-nil}
use Rattle.std.proofs.lemmas.List.Concat.{flat_map-append}
use Rattle.std.proofs.lemmas.Str.{encodes-append, encode_ascii}
use Rattle.base_values.specs.Literals.{escaped}

-- one more character's bytes
pub flat_map-one_more : (f : ℕ → List ℕ) (cs : List ℕ) (c : ℕ) → flat_map f (encode_utf8_all (cs ++ c ∷ [])) ≡ flat_map f (encode_utf8_all cs) ++ flat_map f (encode_utf8 c)
flat_map-one_more f cs c =
    ap (flat_map f) (encodes-append cs (c ∷ []) ∙ ap (λ bytes. encode_utf8_all cs ++ bytes) (append-nil (encode_utf8 c))) ∙ flat_map-append f (encode_utf8_all cs) (encode_utf8 c)

-- no escape is written for it
record IsPlain (byte : ℕ) : Type 0 where
  pub plain : escaped byte ≡ byte ∷ []

high_plain : (byte : ℕ) → 128 ≤ byte → IsPlain byte
high_plain byte high = record { plain = grind (arith, nat_tests) }

one : (a : ℕ) → IsPlain a → flat_map escaped (a ∷ []) ≡ a ∷ []
one a p = rw p.plain refl

more : (a : ℕ) (rest : List ℕ) → IsPlain a → flat_map escaped rest ≡ rest → flat_map escaped (a ∷ rest) ≡ a ∷ rest
more a rest p e = rw (p.plain, e) refl

high_encoded : (c : ℕ) → 128 ≤ c → flat_map escaped (encode_utf8 c) ≡ encode_utf8 c
unfolding encode
high_encoded c high = rw (le-ltb _ _ high) (by_length (ltb c 2048) (ltb c 65536))
  where
    by_length : (two three : Bool) → flat_map escaped (cond two ((192 + c / 64) ∷ (128 + c % 64) ∷ []) (cond three ((224 + c / 4096) ∷ (128 + (c / 64) % 64) ∷ (128 + c % 64) ∷ []) ((240 + c / 262144) ∷ (128 + (c / 4096) % 64) ∷ (128 + (c / 64) % 64) ∷ (128 + c % 64) ∷ [])))
        ≡ cond two ((192 + c / 64) ∷ (128 + c % 64) ∷ []) (cond three ((224 + c / 4096) ∷ (128 + (c / 64) % 64) ∷ (128 + c % 64) ∷ []) ((240 + c / 262144) ∷ (128 + (c / 4096) % 64) ∷ (128 + (c / 64) % 64) ∷ (128 + c % 64) ∷ []))
    by_length true three = more _ _ (high_plain _ (omega arith)) (one _ (high_plain _ (omega arith)))
    by_length false true = more _ _ (high_plain _ (omega arith)) (more _ _ (high_plain _ (omega arith)) (one _ (high_plain _ (omega arith))))
    by_length false false = more _ _ (high_plain _ (omega arith)) (more _ _ (high_plain _ (omega arith)) (more _ _ (high_plain _ (omega arith)) (one _ (high_plain _ (omega arith)))))

-- a character for which no escape is written
pub plain_encoded : (c : ℕ) → c ≢ 39 → c ≢ 92 → c ≢ 10 → c ≢ 13 → c ≢ 9 → c ≢ 0 → flat_map escaped (encode_utf8 c) ≡ encode_utf8 c
plain_encoded c quote slash feed return tab nul =
    elim (cases_lt c 128) [
      | inl low ↦ rw (encode_ascii c low) (one c (record { plain = grind (arith, nat_tests) }))
      | inr high ↦ high_encoded c high
    ]
