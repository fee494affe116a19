-- Values that print alike are one value: what is printed can be read back.
use Rattle.std.proofs.Common.{◌≡◌, ℕ, suc, ◌+◌, ◌*◌, ◌/◌, ◌%◌, ◌^◌, ◌<◌, ◌≤◌, Bool, true, false, cond, eqb, leb, ◌&&◌, ◌||◌, List, [], ◌∷◌, ◌++◌, drop, Option, Some, None, refl, sym, ap, subst, ◌∙◌, arith, lit<}
use Rattle.std.specs.Prelude.{ℤ, pos, negsuc}
use Rattle.std.specs.Char.{digit_value}
use Rattle.std.specs.Fmt.{decimal, signed_decimal}
use Rattle.std.specs.Int.{w128}
use Rattle.std.specs.Int.RustNames.{FitsSigned}
use Rattle.std.specs.List.{flat_map, AllByRecursion}
use Rattle.std.specs.Str.Parse.{AllDigits, digits_value}
use Rattle.std.proofs.lemmas.Bool.{eqb-true, eqb-false, true≢false}
use Rattle.std.proofs.lemmas.Bool.Decides.{nat_tests}
use Rattle.std.proofs.lemmas.Fmt.{decimal_is_IsNumeral_wide}
use Rattle.std.proofs.lemmas.List.{append_cancel_right}
use Rattle.std.proofs.lemmas.Str.{digit_value-digit_char}
use Rattle.std.proofs.lemmas.Str.Parse.{digit_from_value}
use Rattle.base_values.specs.declared.value.Value.{Value}
use Rattle.base_values.specs.declared.value.Value.TheVariants.{Null, Num, Text, Blob}
use Rattle.base_values.specs.Laws.{IsHeld}
use Rattle.base_values.specs.Literals.{escaped, hexadecimal, printed}

-- ---- texts: what a text's escapes mean; `escape` says whether one has begun

meaning : ℕ → ℕ
meaning c = cond (eqb c 110) 10 (cond (eqb c 114) 13 (cond (eqb c 116) 9 (cond (eqb c 48) 0 c)))

read : Bool → List ℕ → List ℕ
read escape [] = []
read true (c ∷ text) = meaning c ∷ read false text
read false (c ∷ text) = cond (eqb c 39) (read true text) (cond (eqb c 92) (read true text) (c ∷ read false text))

read-escaped : (c : ℕ) (rest : List ℕ) → read false (escaped c ++ rest) ≡ c ∷ read false rest
unfolding read meaning
read-escaped c rest = by (eqb c 39) (eqb c 92) (eqb c 10) (eqb c 13) (eqb c 9) (eqb c 0) refl refl refl refl refl refl
  where
    is : (k : ℕ) → eqb c k ≡ true → (let l : List ℕ = k ∷ read false rest in l) ≡ c ∷ read false rest
    is k e = ap (λ b. b ∷ read false rest) (sym (eqb-true c k e))

    by : (q s f r t z : Bool) → eqb c 39 ≡ q → eqb c 92 ≡ s → eqb c 10 ≡ f → eqb c 13 ≡ r → eqb c 9 ≡ t → eqb c 0 ≡ z
        → read false (cond q (39 ∷ 39 ∷ []) (cond s (92 ∷ 92 ∷ []) (cond f (92 ∷ 110 ∷ []) (cond r (92 ∷ 114 ∷ []) (cond t (92 ∷ 116 ∷ []) (cond z (92 ∷ 48 ∷ []) (c ∷ [])))))) ++ rest) ≡ c ∷ read false rest
    by true s f r t z e1 e2 e3 e4 e5 e6 = is 39 e1
    by false true f r t z e1 e2 e3 e4 e5 e6 = is 92 e2
    by false false true r t z e1 e2 e3 e4 e5 e6 = is 10 e3
    by false false false true t z e1 e2 e3 e4 e5 e6 = is 13 e4
    by false false false false true z e1 e2 e3 e4 e5 e6 = is 9 e5
    by false false false false false true e1 e2 e3 e4 e5 e6 = is 0 e6
    by false false false false false false e1 e2 e3 e4 e5 e6 = rw (e1, e2) refl

read-text : (text : List ℕ) → read false (flat_map escaped text) ≡ text
unfolding read
read-text [] = refl
read-text (c ∷ text) = read-escaped c (flat_map escaped text) ∙ ap (λ l. c ∷ l) (read-text text)

-- ---- bytes: two digits each; the first is kept until the second comes

paired : Option ℕ → List ℕ → List ℕ
paired high [] = []
paired None (c ∷ text) = paired (Some (digit_value c)) text
paired (Some high) (c ∷ text) = (16 * high + digit_value c) ∷ paired None text

paired-bytes : (bytes : List ℕ) → AllByRecursion (λ byte. byte < 256) bytes → paired None (flat_map hexadecimal bytes) ≡ bytes
unfolding paired
paired-bytes [] below = refl
paired-bytes (b ∷ bytes) below =
    let small = below.0 in
    let high = digit_value-digit_char (b / 16) (omega arith) in
    let low = digit_value-digit_char (b % 16) (omega arith) in
    let whole : 16 * (b / 16) + b % 16 ≡ b = omega arith in
    rw (high, low, whole) (ap (λ l. b ∷ l) (paired-bytes bytes below.1))

-- ---- numbers

wide : (n : ℕ) → n ≤ 2 ^ 127 → n < 10 ^ 64
wide n h = let big : 2 ^ 127 < 10 ^ 64 = lit< tt in omega arith

decimals : (m n : ℕ) → m ≤ 2 ^ 127 → n ≤ 2 ^ 127 → decimal m ≡ decimal n → m ≡ n
decimals m n p q e = sym (decimal_is_IsNumeral_wide m (wide m p)).1 ∙ ap (digits_value 10) e ∙ (decimal_is_IsNumeral_wide n (wide n q)).1

no_digit : {G : Type 0} (n c : ℕ) (rest : List ℕ) → n ≤ 2 ^ 127 → decimal n ≡ c ∷ rest → (48 ≤ c → c ≤ 57 → ⊥) → G
no_digit n c rest h e out =
    let digit = digit_from_value c (subst (AllDigits 10) e (decimal_is_IsNumeral_wide n (wide n h)).0.1).0 in
    absurd (out digit.0 digit.1)

numbers : (y z : ℤ) → FitsSigned w128 y → FitsSigned w128 z → signed_decimal y ≡ signed_decimal z → y ≡ z
numbers (pos m) (pos n) p q e = ap pos (decimals m n (omega arith) (omega arith) e)
numbers (pos m) (negsuc n) p q e = no_digit m 45 (decimal (suc n)) (omega arith) e (λ low high. omega arith)
numbers (negsuc m) (pos n) p q e = no_digit n 45 (decimal (suc m)) (omega arith) (sym e) (λ low high. omega arith)
numbers (negsuc m) (negsuc n) p q e = ap negsuc (omega (arith, decimals (suc m) (suc n) (omega arith) (omega arith) (ap (drop 1) e)))

-- a number begins with a digit or `-`
abbrev begins : ℕ → Bool
begins c = eqb c 45 || (leb 48 c && leb c 57)

digit_begins : (c : ℕ) → 48 ≤ c → c ≤ 57 → begins c ≡ false → ⊥
digit_begins c low high none = grind (arith, nat_tests)

first_is : (a b : ℕ) (s t : List ℕ) → (let l : List ℕ = a ∷ s in l) ≡ b ∷ t → a ≡ b
first_is a b s t e = cc

not_number : {G : Type 0} (z : ℤ) (c : ℕ) (rest : List ℕ) → FitsSigned w128 z → signed_decimal z ≡ c ∷ rest → begins c ≡ false → G
not_number (pos n) c rest h e none = no_digit n c rest (omega arith) e (λ low high. digit_begins c low high none)
not_number (negsuc n) c rest h e none = absurd (true≢false (subst (λ (b : ℕ). begins b ≡ false) (sym (first_is 45 c (decimal (suc n)) rest e)) none))

differ : {G : Type 0} (a b : ℕ) (s t : List ℕ) → eqb a b ≡ false → (let l : List ℕ = a ∷ s in l) ≡ b ∷ t → G
differ a b s t apart e = absurd (eqb-false a b apart (first_is a b s t e))

texts : (s t : List ℕ) → (39 ∷ flat_map escaped s) ++ (39 ∷ []) ≡ (39 ∷ flat_map escaped t) ++ (39 ∷ []) → s ≡ t
unfolding read
texts s t e =
    let inner = append_cancel_right (39 ∷ flat_map escaped s) (39 ∷ flat_map escaped t) (39 ∷ []) e in
    sym (read-text s) ∙ ap (λ l. read false (drop 1 l)) inner ∙ read-text t

blobs : (s t : List ℕ) → AllByRecursion (λ byte. byte < 256) s → AllByRecursion (λ byte. byte < 256) t → (120 ∷ 39 ∷ flat_map hexadecimal s) ++ (39 ∷ []) ≡ (120 ∷ 39 ∷ flat_map hexadecimal t) ++ (39 ∷ []) → s ≡ t
unfolding paired
blobs s t p q e =
    let inner = append_cancel_right (120 ∷ 39 ∷ flat_map hexadecimal s) (120 ∷ 39 ∷ flat_map hexadecimal t) (39 ∷ []) e in
    sym (paired-bytes s p) ∙ ap (λ l. paired None (drop 2 l)) inner ∙ paired-bytes t q

pub printed_apart : (a b : Value) → IsHeld a → IsHeld b → printed a ≡ printed b → a ≡ b
unfolding printed
printed_apart Null Null p q e = refl
printed_apart (Num m) (Num n) p q e = ap Num (numbers m n p q e)
printed_apart (Text s) (Text t) p q e = ap Text (texts s t e)
printed_apart (Blob s) (Blob t) p q e = ap Blob (blobs s t p q e)
printed_apart Null (Num n) p q e = not_number n 78 _ q (sym e) refl
printed_apart (Num m) Null p q e = not_number m 78 _ p e refl
printed_apart (Text s) (Num n) p q e = not_number n 39 _ q (sym e) refl
printed_apart (Num m) (Text t) p q e = not_number m 39 _ p e refl
printed_apart (Blob s) (Num n) p q e = not_number n 120 _ q (sym e) refl
printed_apart (Num m) (Blob t) p q e = not_number m 120 _ p e refl
printed_apart Null (Text t) p q e = differ 78 39 _ _ refl e
printed_apart (Text s) Null p q e = differ 39 78 _ _ refl e
printed_apart Null (Blob t) p q e = differ 78 120 _ _ refl e
printed_apart (Blob s) Null p q e = differ 120 78 _ _ refl e
printed_apart (Text s) (Blob t) p q e = differ 39 120 _ _ refl e
printed_apart (Blob s) (Text t) p q e = differ 120 39 _ _ refl e
