-- What stands between quotes, piece by piece, as the loops read it.
use Rattle.std.proofs.Common.{◌≡◌, ℕ, suc, ◌+◌, ◌*◌, ◌<◌, ◌≤◌, Bool, true, false, cond, nat_eq, ◌&&◌, List, [], ◌∷◌, length, get_or, drop, Option, Some, None, refl, sym, ap, ◌∙◌, arith, add-zero, drop-cons, eq-eqb}
use Rattle.std.proofs.lemmas.List.{drop-drop, get_or-drop}
use Rattle.std.proofs.lemmas.Bool.{ne_eqb}
use Rattle.std.proofs.Math.Bool.{and-false}
use Rattle.std.proofs.Math.ListN.{drop_of_length-le}
use Rattle.std.specs.Option.{option_map}
use Rattle.std.specs.Char.{is_ascii_hexdigit, digit_value}
use Rattle.sql_words.specs.Characters.{begins_with}
use Rattle.sql_words.specs.Quoted.{Piece, length_of, closing, and_then, escaped, text_inside, bytes_inside}

-- the same, this many bytes further
abbrev pub further : ℕ → Option ℕ → Option ℕ
further n length = option_map (λ k. n + k) length

pub further-further : (m n : ℕ) (o : Option ℕ) → further m (further n o) ≡ further (m + n) o
further-further m n None = refl
further-further m n (Some k) = ap (λ i. Some i) (omega arith)

length_of-and_then : (value : List ℕ) (n : ℕ) (o : Option Piece) → length_of (and_then (record { value = value; length = n }) o) ≡ further n (length_of o)
length_of-and_then value n None = refl
length_of-and_then value n (Some p) = refl

length_of-closing : (b : Bool) → length_of (cond b (Some closing) None) ≡ cond b (Some 1) None
length_of-closing true = refl
length_of-closing false = refl

-- a text by its first bytes b and c, and whether c is its quote: what stands behind both, and behind the first
abbrev pub text_step : (quote b c : ℕ) (same both slash : Bool) → Option Piece → Option Piece → Option Piece
text_step quote b c same both slash two one = cond same (cond both (and_then (record { value = quote ∷ []; length = 2 }) two) (Some closing)) (cond slash (and_then (record { value = escaped c; length = 2 }) two) (and_then (record { value = b ∷ []; length = 1 }) one))

step_at_end : (quote b c : ℕ) (same slash : Bool) → cond same (Some closing) None ≡ text_step quote b c same false slash None None
step_at_end quote b c true slash = refl
step_at_end quote b c false true = refl
step_at_end quote b c false false = refl

step_inside : (same both slash : Bool) (p q r s : Option Piece) → cond (same && both) p (cond same q (cond slash r s)) ≡ cond same (cond both p q) (cond slash r s)
step_inside true true slash p q r s = refl
step_inside true false slash p q r s = refl
step_inside false both slash p q r s = refl

pub text_inside-step : (quote b : ℕ) (rest : List ℕ) → text_inside quote (b ∷ rest) ≡ text_step quote b (get_or rest 0 0) (nat_eq b quote) (begins_with quote rest) (nat_eq b 92) (text_inside quote (drop 1 rest)) (text_inside quote rest)
unfolding text_inside
text_inside-step quote b [] = step_at_end quote b 0 (nat_eq b quote) (nat_eq b 92)
text_inside-step quote b (c ∷ rest) = step_inside (nat_eq b quote) (nat_eq c quote) (nat_eq b 92) _ _ _ _

-- its length alone
abbrev pub step : (same both slash : Bool) → Option ℕ → Option ℕ → Option ℕ
step same both slash after_two after_one = cond same (cond both (further 2 after_two) (Some 1)) (cond slash (further 2 after_two) (further 1 after_one))

length_of-text_step : (quote b c : ℕ) (same both slash : Bool) (two one : Option Piece) → length_of (text_step quote b c same both slash two one) ≡ step same both slash (length_of two) (length_of one)
length_of-text_step quote b c true true slash two one = length_of-and_then (quote ∷ []) 2 two
length_of-text_step quote b c true false slash two one = refl
length_of-text_step quote b c false both true two one = length_of-and_then (escaped c) 2 two
length_of-text_step quote b c false both false two one = length_of-and_then (b ∷ []) 1 one

pub text_length-step : (quote b : ℕ) (rest : List ℕ) → length_of (text_inside quote (b ∷ rest)) ≡ step (nat_eq b quote) (begins_with quote rest) (nat_eq b 92) (length_of (text_inside quote (drop 1 rest))) (length_of (text_inside quote rest))
text_length-step quote b rest = ap length_of (text_inside-step quote b rest) ∙ length_of-text_step quote b (get_or rest 0 0) (nat_eq b quote) (begins_with quote rest) (nat_eq b 92) (text_inside quote (drop 1 rest)) (text_inside quote rest)

-- the same at an index
text_length-at : (quote i : ℕ) (bytes : List ℕ) → i < length bytes → length_of (text_inside quote (drop i bytes)) ≡ step (nat_eq (get_or bytes i 0) quote) (begins_with quote (drop (i + 1) bytes)) (nat_eq (get_or bytes i 0) 92) (length_of (text_inside quote (drop (i + 2) bytes))) (length_of (text_inside quote (drop (i + 1) bytes)))
text_length-at quote i bytes lt =
    let one : i + 1 ≡ suc i = omega arith in
    let two : i + 2 ≡ suc i + 1 = omega arith in
    rw (two, one, drop-cons bytes i 0 lt, ← drop-drop 1 (suc i) bytes) (text_length-step quote (get_or bytes i 0) (drop (suc i) bytes))

-- The text so far, whose whole length is known, and the next piece.
module _ (quote i : ℕ) (bytes : List ℕ) (whole : Option ℕ) (so_far : further i (length_of (text_inside quote (drop i bytes))) ≡ whole) where
  pub text-doubled : i < length bytes → get_or bytes i 0 ≡ quote → begins_with quote (drop (i + 1) bytes) ≡ true → further (i + 2) (length_of (text_inside quote (drop (i + 2) bytes))) ≡ whole
  text-doubled lt same both =
      let t : nat_eq (get_or bytes i 0) quote ≡ true = eq-eqb _ _ same in
      sym (further-further i 2 _) ∙ ap (further i) (sym (rw (text_length-at quote i bytes lt, t, both) refl)) ∙ so_far

  pub text-closed : i < length bytes → get_or bytes i 0 ≡ quote → begins_with quote (drop (i + 1) bytes) ≡ false → Some (i + 1) ≡ whole
  text-closed lt same both =
      let t : nat_eq (get_or bytes i 0) quote ≡ true = eq-eqb _ _ same in
      let e : length_of (text_inside quote (drop i bytes)) ≡ Some 1 = rw (text_length-at quote i bytes lt, t, both) refl in
      ap (further i) (sym e) ∙ so_far

  pub text-escape : i < length bytes → (get_or bytes i 0 ≡ quote → ⊥) → get_or bytes i 0 ≡ 92 → further (i + 2) (length_of (text_inside quote (drop (i + 2) bytes))) ≡ whole
  text-escape lt other slash =
      let t : nat_eq (get_or bytes i 0) quote ≡ false = ne_eqb _ _ other in
      let s : nat_eq (get_or bytes i 0) 92 ≡ true = eq-eqb _ _ slash in
      sym (further-further i 2 _) ∙ ap (further i) (sym (rw (text_length-at quote i bytes lt, t, s) refl)) ∙ so_far

  pub text-plain : i < length bytes → (get_or bytes i 0 ≡ quote → ⊥) → (get_or bytes i 0 ≡ 92 → ⊥) → further (i + 1) (length_of (text_inside quote (drop (i + 1) bytes))) ≡ whole
  text-plain lt other slash =
      let t : nat_eq (get_or bytes i 0) quote ≡ false = ne_eqb _ _ other in
      let s : nat_eq (get_or bytes i 0) 92 ≡ false = ne_eqb _ _ slash in
      sym (further-further i 1 _) ∙ ap (further i) (sym (rw (text_length-at quote i bytes lt, t, s) refl)) ∙ so_far

  pub text-unclosed : length bytes ≤ i → None ≡ whole
  unfolding text_inside
  text-unclosed le = ap (λ b. further i (length_of (text_inside quote b))) (sym (drop_of_length-le bytes le)) ∙ so_far

-- whether two digits stand at the front
abbrev pub is_pair : List ℕ → Bool
is_pair bytes = is_ascii_hexdigit (get_or bytes 0 0) && is_ascii_hexdigit (get_or bytes 1 0)

pub is_pair-at : (i : ℕ) (bytes : List ℕ) → is_pair (drop i bytes) ≡ (is_ascii_hexdigit (get_or bytes i 0) && is_ascii_hexdigit (get_or bytes (i + 1) 0))
is_pair-at i bytes = simp (get_or-drop, add-zero)

-- bytes with a pair of digits at the front, and with none
pub bytes_inside-pair : (bytes : List ℕ) → is_pair bytes ≡ true → bytes_inside bytes ≡ and_then (record { value = (16 * digit_value (get_or bytes 0 0) + digit_value (get_or bytes 1 0)) ∷ []; length = 2 }) (bytes_inside (drop 2 bytes))
unfolding bytes_inside
bytes_inside-pair [] pair = absurd cc
bytes_inside-pair (b ∷ []) pair = let none : (is_ascii_hexdigit b && false) ≡ false = and-false (is_ascii_hexdigit b) in absurd cc
bytes_inside-pair (b ∷ c ∷ rest) pair = rw pair refl

pub bytes_inside-end : (bytes : List ℕ) → is_pair bytes ≡ false → bytes_inside bytes ≡ cond (begins_with 39 bytes) (Some closing) None
unfolding bytes_inside
bytes_inside-end [] pair = refl
bytes_inside-end (b ∷ []) pair = refl
bytes_inside-end (b ∷ c ∷ rest) pair = rw pair refl

pub bytes_length-pair : (bytes : List ℕ) → is_pair bytes ≡ true → length_of (bytes_inside bytes) ≡ further 2 (length_of (bytes_inside (drop 2 bytes)))
bytes_length-pair bytes pair = ap length_of (bytes_inside-pair bytes pair) ∙ length_of-and_then ((16 * digit_value (get_or bytes 0 0) + digit_value (get_or bytes 1 0)) ∷ []) 2 (bytes_inside (drop 2 bytes))

pub bytes_length-end : (bytes : List ℕ) → is_pair bytes ≡ false → length_of (bytes_inside bytes) ≡ cond (begins_with 39 bytes) (Some 1) None
bytes_length-end bytes pair = ap length_of (bytes_inside-end bytes pair) ∙ length_of-closing (begins_with 39 bytes)

-- The bytes so far, whose whole length is known, and the next pair.
module _ (i : ℕ) (bytes : List ℕ) (whole : Option ℕ) (so_far : further i (length_of (bytes_inside (drop i bytes))) ≡ whole) where
  pub bytes-pair : (is_ascii_hexdigit (get_or bytes i 0) && is_ascii_hexdigit (get_or bytes (i + 1) 0)) ≡ true → further (i + 2) (length_of (bytes_inside (drop (i + 2) bytes))) ≡ whole
  bytes-pair test = let pair = is_pair-at i bytes ∙ test in sym (further-further i 2 _) ∙ ap (λ b. further i (further 2 (length_of (bytes_inside b)))) (sym (drop-drop 2 i bytes)) ∙ ap (further i) (sym (bytes_length-pair (drop i bytes) pair)) ∙ so_far

  no_pair : (is_ascii_hexdigit (get_or bytes i 0) && is_ascii_hexdigit (get_or bytes (i + 1) 0)) ≡ false → length_of (bytes_inside (drop i bytes)) ≡ cond (begins_with 39 (drop i bytes)) (Some 1) None
  no_pair test = bytes_length-end (drop i bytes) (is_pair-at i bytes ∙ test)

  pub bytes-closed : (is_ascii_hexdigit (get_or bytes i 0) && is_ascii_hexdigit (get_or bytes (i + 1) 0)) ≡ false → begins_with 39 (drop i bytes) ≡ true → Some (i + 1) ≡ whole
  bytes-closed test quote =
      let e : length_of (bytes_inside (drop i bytes)) ≡ Some 1 = no_pair test ∙ rw quote refl in
      ap (further i) (sym e) ∙ so_far

  pub bytes-unclosed : (is_ascii_hexdigit (get_or bytes i 0) && is_ascii_hexdigit (get_or bytes (i + 1) 0)) ≡ false → begins_with 39 (drop i bytes) ≡ false → None ≡ whole
  bytes-unclosed test quote =
      let e : length_of (bytes_inside (drop i bytes)) ≡ None = no_pair test ∙ rw quote refl in
      ap (further i) (sym e) ∙ so_far
