-- A text has at most four times as many bytes as characters.
use Rattle.std.proofs.Common.{◌≡◌, ℕ, suc, ◌+◌, ◌*◌, ◌/◌, ◌≤◌, Bool, true, false, ◌||◌, cond, List, [], ◌∷◌, ◌++◌, length, refl, ap, ◌∙◌, subst, arith, length-append}
use Rattle.std.specs.Prelude.{count_by, filter, nat_lt, nat_le, encode_utf8_all}
use Rattle.std.specs.Str.{IsUtf8}
use Rattle.std.proofs.lemmas.Bool.Decides.{nat_tests}
use Rattle.std.proofs.lemmas.List.Elements.{filter-append}
use Rattle.std.proofs.lemmas.List.Sums.{length-filter}
use lib.Utf8.{encode, next}
use Rattle.base_values.specs.StoredValues.{character_count}

-- a byte that begins a character
abbrev pub begins : ℕ → Bool
begins byte = nat_lt byte 128 || nat_le 192 byte

pub count-append : (xs ys : List ℕ) → count_by begins (xs ++ ys) ≡ count_by begins xs + count_by begins ys
count-append xs ys =
    let whole : length (filter begins (xs ++ ys)) ≡ count_by begins (xs ++ ys) = length-filter begins (xs ++ ys) in
    let one : length (filter begins xs) ≡ count_by begins xs = length-filter begins xs in
    let other : length (filter begins ys) ≡ count_by begins ys = length-filter begins ys in
    let parts : length (filter begins (xs ++ ys)) ≡ length (filter begins xs) + length (filter begins ys) = ap length (filter-append begins xs ys) ∙ length-append (filter begins xs) (filter begins ys) in
    omega (arith, whole, one, other, parts)

first_counts : (byte : ℕ) (bytes : List ℕ) → begins byte ≡ true → 1 ≤ count_by begins (byte ∷ bytes)
first_counts byte bytes is =
    let same : length (filter begins (byte ∷ bytes)) ≡ count_by begins (byte ∷ bytes) = length-filter begins (byte ∷ bytes) in
    let some : length (filter begins (byte ∷ bytes)) ≡ suc (length (filter begins bytes)) = ap (λ (b : Bool). length (cond b (byte ∷ filter begins bytes) (filter begins bytes))) is in
    omega (arith, same, some)

-- a character is 1 to 4 bytes, of which the first begins it
record IsCharacter (bytes : List ℕ) : Type 0 where
  pub few : length bytes ≤ 4
  pub counts : 1 ≤ count_by begins bytes

high : (a b : ℕ) → 192 ≤ a → begins (a + b) ≡ true
high a b big = grind (arith, nat_tests)

encoded : (c : ℕ) → IsCharacter (encode c)
unfolding encode
encoded c = by (nat_lt c 128) refl (nat_lt c 2048) (nat_lt c 65536) where
  two : List ℕ
  two = (192 + c / 64) ∷ next c ∷ []

  three : List ℕ
  three = (224 + c / 4096) ∷ next (c / 64) ∷ next c ∷ []

  four : List ℕ
  four = (240 + c / 262144) ∷ next (c / 4096) ∷ next (c / 64) ∷ next c ∷ []

  by : (low : Bool) → nat_lt c 128 ≡ low → (middle high : Bool) → IsCharacter (cond low (c ∷ []) (cond middle two (cond high three four)))
  by true low middle above = record { few = omega arith; counts = first_counts c [] (ap (λ (b : Bool). b || nat_le 192 c) low) }
  by false low true above = record { few = omega arith; counts = first_counts (192 + c / 64) (next c ∷ []) (high 192 (c / 64) (omega arith)) }
  by false low false true = record { few = omega arith; counts = first_counts (224 + c / 4096) (next (c / 64) ∷ next c ∷ []) (high 224 (c / 4096) (omega arith)) }
  by false low false false = record { few = omega arith; counts = first_counts (240 + c / 262144) (next (c / 4096) ∷ next (c / 64) ∷ next c ∷ []) (high 240 (c / 262144) (omega arith)) }

all_encoded : (cs : List ℕ) → length (encode_utf8_all cs) ≤ 4 * count_by begins (encode_utf8_all cs)
all_encoded [] = omega arith
all_encoded (c ∷ cs) =
    let first = encoded c in
    let few = first.few in
    let counts = first.counts in
    let others = all_encoded cs in
    let sizes = length-append (encode c) (encode_utf8_all cs) in
    let sums = count-append (encode c) (encode_utf8_all cs) in
    omega (arith, few, counts, others, sizes, sums)

-- a text has at most four times as many bytes as characters
pub bytes_few : (text : List ℕ) → IsUtf8 text → length text ≤ 4 * character_count text
unfolding character_count
bytes_few text is = subst (λ (bytes : List ℕ). length bytes ≤ 4 * count_by begins bytes) is.1.1 (all_encoded is.0)
