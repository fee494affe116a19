-- What quoted words stand for, as the loops gather it.
use Rattle.std.proofs.Common.{◌≡◌, ℕ, zero, suc, ◌+◌, ◌*◌, ◌<◌, ◌≤◌, ◌⊎◌, inl, inr, Bool, true, false, cond, nat_eq, nat_lt, ◌&&◌, List, [], ◌∷◌, ◌++◌, length, get_or, take, drop, Option, Some, None, IsUtf8, refl, sym, ap, ◌∙◌, subst, arith, add-zero, append_assoc, length-drop, eq-eqb, ⊎_elim}
use Rattle.std.specs.Option.{option_map}
use Rattle.std.specs.List.{prefix_len}
use Rattle.std.specs.Char.{is_ascii_hexdigit, digit_value}
use Rattle.std.specs.Str.{IsCharBoundary}
use Rattle.std.proofs.lemmas.Str.{IsUtf8-drop, IsCharBoundary-after_ascii, IsCharBoundary-before_ascii}
use Rattle.std.proofs.lemmas.List.{append-nil, drop-drop, get_or-drop, nil_from_length}
use Rattle.std.proofs.lemmas.List.Sums.{prefix_len_stops, prefix_len-le-length}
use Rattle.std.proofs.lemmas.Bool.{ne_eqb, eqb-true, ltb-true, ltb-false}
use Rattle.std.proofs.lemmas.Bool.Decides.{nat_tests}
use Rattle.sql_words.specs.Characters.{begins_with, is_plain}
use Rattle.sql_words.specs.Quoted.{Piece, value_of, closing, and_then, escaped, text_inside, bytes_inside}
use Rattle.sql_words.proofs.Inside.{text_step, text_inside-step, is_pair-at, bytes_inside-pair, bytes_inside-end}

-- the value behind a front that is gathered already
abbrev pub in_front : List ℕ → Option (List ℕ) → Option (List ℕ)
in_front front value = option_map (λ v. front ++ v) value

in_front-nil : (o : Option (List ℕ)) → in_front [] o ≡ o
in_front-nil None = refl
in_front-nil (Some v) = refl

in_front-in_front : (f g : List ℕ) (o : Option (List ℕ)) → in_front f (in_front g o) ≡ in_front (f ++ g) o
in_front-in_front f g None = refl
in_front-in_front f g (Some v) = ap (λ x. Some x) (simp append_assoc)

value_of-and_then : (value : List ℕ) (n : ℕ) (o : Option Piece) → value_of (and_then (record { value = value; length = n }) o) ≡ in_front value (value_of o)
value_of-and_then value n None = refl
value_of-and_then value n (Some p) = refl

-- ---- bytes

module _ (i : ℕ) (bytes value : List ℕ) (whole : Option (List ℕ)) (so_far : in_front value (value_of (bytes_inside (drop i bytes))) ≡ whole) where
  first_digit : get_or (drop i bytes) 0 0 ≡ get_or bytes i 0
  first_digit = get_or-drop i bytes 0 0 ∙ ap (λ k. get_or bytes k 0) (add-zero i)

  pub unhexed-pair : (is_ascii_hexdigit (get_or bytes i 0) && is_ascii_hexdigit (get_or bytes (i + 1) 0)) ≡ true → in_front (value ++ (16 * digit_value (get_or bytes i 0) + digit_value (get_or bytes (i + 1) 0)) ∷ []) (value_of (bytes_inside (drop (i + 2) bytes))) ≡ whole
  unhexed-pair test =
      let byte : List ℕ = (16 * digit_value (get_or (drop i bytes) 0 0) + digit_value (get_or (drop i bytes) 1 0)) ∷ [] in
      let same : byte ≡ (16 * digit_value (get_or bytes i 0) + digit_value (get_or bytes (i + 1) 0)) ∷ [] = rw (first_digit, get_or-drop i bytes 1 0) refl in
      let one : value_of (bytes_inside (drop i bytes)) ≡ in_front byte (value_of (bytes_inside (drop 2 (drop i bytes)))) = ap value_of (bytes_inside-pair (drop i bytes) (is_pair-at i bytes ∙ test)) ∙ value_of-and_then byte 2 (bytes_inside (drop 2 (drop i bytes))) in
      ap (λ b. in_front (value ++ b) (value_of (bytes_inside (drop (i + 2) bytes)))) (sym same) ∙ ap (λ r. in_front (value ++ byte) (value_of (bytes_inside r))) (sym (drop-drop 2 i bytes)) ∙ sym (in_front-in_front value byte _) ∙ ap (in_front value) (sym one) ∙ so_far

  at_end : (is_ascii_hexdigit (get_or bytes i 0) && is_ascii_hexdigit (get_or bytes (i + 1) 0)) ≡ false → in_front value (value_of (cond (begins_with 39 (drop i bytes)) (Some closing) None)) ≡ whole
  at_end test = ap (λ p. in_front value (value_of p)) (sym (bytes_inside-end (drop i bytes) (is_pair-at i bytes ∙ test))) ∙ so_far

  pub unhexed-closed : (is_ascii_hexdigit (get_or bytes i 0) && is_ascii_hexdigit (get_or bytes (i + 1) 0)) ≡ false → begins_with 39 (drop i bytes) ≡ true → Some value ≡ whole
  unhexed-closed test quote =
      let e = at_end test in
      ap (λ v. Some v) (sym (append-nil value)) ∙ ap (λ b. in_front value (value_of (cond b (Some closing) None))) (sym quote) ∙ e

  pub unhexed-unclosed : (is_ascii_hexdigit (get_or bytes i 0) && is_ascii_hexdigit (get_or bytes (i + 1) 0)) ≡ false → begins_with 39 (drop i bytes) ≡ false → None ≡ whole
  unhexed-unclosed test quote =
      let e = at_end test in
      ap (λ b. in_front value (value_of (cond b (Some closing) None))) (sym quote) ∙ e

-- ---- texts

-- what a text stands for by its first bytes
value_step : (quote b c : ℕ) (same both slash : Bool) → Option (List ℕ) → Option (List ℕ) → Option (List ℕ)
value_step quote b c same both slash two one = cond same (cond both (in_front (quote ∷ []) two) (Some [])) (cond slash (in_front (escaped c) two) (in_front (b ∷ []) one))

value_of-text_step : (quote b c : ℕ) (same both slash : Bool) (two one : Option Piece) → value_of (text_step quote b c same both slash two one) ≡ value_step quote b c same both slash (value_of two) (value_of one)
unfolding value_step
value_of-text_step quote b c true true slash two one = value_of-and_then (quote ∷ []) 2 two
value_of-text_step quote b c true false slash two one = refl
value_of-text_step quote b c false both true two one = value_of-and_then (escaped c) 2 two
value_of-text_step quote b c false both false two one = value_of-and_then (b ∷ []) 1 one

abbrev value_inside : ℕ → List ℕ → Option (List ℕ)
value_inside quote bytes = value_of (text_inside quote bytes)

value_inside-step : (quote b : ℕ) (rest : List ℕ) → value_inside quote (b ∷ rest) ≡ value_step quote b (get_or rest 0 0) (nat_eq b quote) (begins_with quote rest) (nat_eq b 92) (value_inside quote (drop 1 rest)) (value_inside quote rest)
value_inside-step quote b rest = ap value_of (text_inside-step quote b rest) ∙ value_of-text_step quote b (get_or rest 0 0) (nat_eq b quote) (begins_with quote rest) (nat_eq b 92) (text_inside quote (drop 1 rest)) (text_inside quote rest)

-- the five ways on
module _ (quote b : ℕ) (rest : List ℕ) where
  value-plain : nat_eq b quote ≡ false → nat_eq b 92 ≡ false → value_inside quote (b ∷ rest) ≡ in_front (b ∷ []) (value_inside quote rest)
  unfolding value_step
  value-plain s t = value_inside-step quote b rest ∙ rw (s, t) refl

  value-closed : nat_eq b quote ≡ true → begins_with quote rest ≡ false → value_inside quote (b ∷ rest) ≡ Some []
  unfolding value_step
  value-closed s t = value_inside-step quote b rest ∙ rw (s, t) refl

  value-doubled : nat_eq b quote ≡ true → begins_with quote rest ≡ true → value_inside quote (b ∷ rest) ≡ in_front (quote ∷ []) (value_inside quote (drop 1 rest))
  unfolding value_step
  value-doubled s t = value_inside-step quote b rest ∙ rw (s, t) refl

  value-escaped : nat_eq b quote ≡ false → nat_eq b 92 ≡ true → value_inside quote (b ∷ rest) ≡ in_front (escaped (get_or rest 0 0)) (value_inside quote (drop 1 rest))
  unfolding value_step
  value-escaped s t = value_inside-step quote b rest ∙ rw (s, t) refl

value-nil : (quote : ℕ) → value_inside quote [] ≡ None
unfolding text_inside
value-nil quote = refl

not_quote : (quote b : ℕ) → is_plain quote b ≡ true → nat_eq b quote ≡ false
not_quote quote b h = grind (arith, nat_tests, h)

not_backslash : (quote b : ℕ) → is_plain quote b ≡ true → nat_eq b 92 ≡ false
not_backslash quote b h = grind (arith, nat_tests, h)

value-run-by : (quote b : ℕ) (rest : List ℕ) (t : Bool) → is_plain quote b ≡ t → value_inside quote rest ≡ in_front (take (prefix_len (is_plain quote) rest) rest) (value_inside quote (drop (prefix_len (is_plain quote) rest) rest)) → value_inside quote (b ∷ rest) ≡ in_front (take (prefix_len (is_plain quote) (b ∷ rest)) (b ∷ rest)) (value_inside quote (drop (prefix_len (is_plain quote) (b ∷ rest)) (b ∷ rest)))
value-run-by quote b rest true t following =
    let n = prefix_len (is_plain quote) rest in
    let more : prefix_len (is_plain quote) (b ∷ rest) ≡ suc n = rw t (omega arith) in
    rw more (value-plain quote b rest (not_quote quote b t) (not_backslash quote b t) ∙ ap (in_front (b ∷ [])) following ∙ in_front-in_front (b ∷ []) (take n rest) (value_inside quote (drop n rest)))
value-run-by quote b rest false t following =
    let none : prefix_len (is_plain quote) (b ∷ rest) ≡ 0 = rw t refl in
    rw none (sym (in_front-nil (value_inside quote (b ∷ rest))))

-- the bytes that stand for themselves, and what is behind them
value-run : (quote : ℕ) (bytes : List ℕ) → value_inside quote bytes ≡ in_front (take (prefix_len (is_plain quote) bytes) bytes) (value_inside quote (drop (prefix_len (is_plain quote) bytes) bytes))
value-run quote [] = sym (in_front-nil (value_inside quote []))
value-run quote (b ∷ rest) = value-run-by quote b rest (is_plain quote b) refl (value-run quote rest)

-- ---- the loop

-- Between two steps: what is gathered, and the rest of the text.
pub record Unquoting (quote : ℕ) (text value rest : List ℕ) : Type 0 where
  pub utf8 : IsUtf8 rest
  pub so_far : in_front value (value_of (text_inside quote rest)) ≡ value_of (text_inside quote text)

pub Unquoting-end : (quote : ℕ) (text value rest : List ℕ) → Unquoting quote text value rest → length rest ≡ 0 → None ≡ value_of (text_inside quote text)
Unquoting-end quote text value rest so none =
    let empty = nil_from_length rest none in
    ap (in_front value) (sym (ap (value_inside quote) empty ∙ value-nil quote)) ∙ so.so_far

special_ascii : (quote b : ℕ) → quote < 128 → is_plain quote b ≡ false → b < 128
special_ascii quote b ascii h = grind (arith, nat_tests, h)

pub special_is : (quote b : ℕ) → is_plain quote b ≡ false → (b ≡ quote → ⊥) → b ≡ 92
special_is quote b h other = let t = ne_eqb b quote other in grind (arith, nat_tests, h, t)

-- where the run of plain bytes ends
pub run_boundary : (quote : ℕ) (rest : List ℕ) → quote < 128 → IsCharBoundary rest (prefix_len (is_plain quote) rest)
run_boundary quote rest ascii =
    let n = prefix_len (is_plain quote) rest in
    (prefix_len-le-length (is_plain quote) rest, λ lt. (IsCharBoundary-before_ascii rest n lt (special_ascii quote (get_or rest n 0) ascii (prefix_len_stops (is_plain quote) rest 0 lt))).1 lt)

-- Behind a run of plain bytes: what is gathered, and what follows the run.
pub record AfterRun (quote : ℕ) (text value after : List ℕ) : Type 0 where
  pub utf8 : IsUtf8 after
  pub so_far : in_front value (value_of (text_inside quote after)) ≡ value_of (text_inside quote text)
  pub special : 0 < length after → is_plain quote (get_or after 0 0) ≡ false

pub AfterRun-run : (quote : ℕ) (text value rest : List ℕ) → quote < 128 → Unquoting quote text value rest → AfterRun quote text (value ++ take (prefix_len (is_plain quote) rest) rest) (drop (prefix_len (is_plain quote) rest) rest)
AfterRun-run quote text value rest ascii so =
    let n = prefix_len (is_plain quote) rest in
    record {
      utf8 = IsUtf8-drop rest n so.utf8 (run_boundary quote rest ascii);
      so_far = sym (in_front-in_front value (take n rest) (value_inside quote (drop n rest))) ∙ ap (in_front value) (sym (value-run quote rest)) ∙ so.so_far;
      special = λ some.
          let here : get_or (drop n rest) 0 0 ≡ get_or rest n 0 = get_or-drop n rest 0 0 ∙ ap (λ k. get_or rest k 0) (add-zero n) in
          ap (is_plain quote) here ∙ prefix_len_stops (is_plain quote) rest 0 (omega (arith, length-drop n rest));
    }

-- this byte stands at this index
pub stands-at : (byte i : ℕ) (bytes : List ℕ) → begins_with byte (drop i bytes) ≡ true → (i < length bytes) × (get_or bytes i 0 ≡ byte)
stands-at byte zero [] e = absurd cc
stands-at byte zero (b ∷ rest) e = (omega arith, eqb-true b byte e)
stands-at byte (suc i) [] e = absurd cc
stands-at byte (suc i) (b ∷ rest) e = let more = stands-at byte i rest e in (omega (arith, more.0), more.1)

-- what the test for an ASCII byte at an index says
pub ascii_at : (i len b : ℕ) (x y : Bool) → nat_lt i len ≡ x → nat_lt b 128 ≡ y → (x && y) ≡ true → (i < len) × (b < 128)
ascii_at i len b true true p q e = (ltb-true i len p, ltb-true b 128 q)
ascii_at i len b true false p q e = absurd cc
ascii_at i len b false y p q e = absurd cc

pub wide_at : (i len b : ℕ) (x y : Bool) → nat_lt i len ≡ x → nat_lt b 128 ≡ y → (x && y) ≡ false → ((len ≤ i) ⊎ (128 ≤ b))
wide_at i len b true true p q e = absurd cc
wide_at i len b true false p q e = inr (ltb-false b 128 q)
wide_at i len b false y p q e = inl (ltb-false i len p)

-- the same of what a step of the loop has in hand
pub AfterRun-of : (quote n : ℕ) (text value rest plain after more : List ℕ) → quote < 128 → Unquoting quote text value rest → n ≡ prefix_len (is_plain quote) rest → plain ≡ take n rest → after ≡ drop n rest → more ≡ value ++ plain → AfterRun quote text more after
AfterRun-of quote n text value rest plain after more ascii so n-is plain-is after-is more-is =
    let m = prefix_len (is_plain quote) rest in
    let one : after ≡ drop m rest = after-is ∙ ap (λ k. drop k rest) n-is in
    let two : more ≡ value ++ take m rest = more-is ∙ ap (λ t. value ++ t) (plain-is ∙ ap (λ k. take k rest) n-is) in
    subst (λ a. AfterRun quote text more a) (sym one) (subst (λ v. AfterRun quote text v (drop m rest)) (sym two) (AfterRun-run quote text value rest ascii so))

pub AfterRun-end : (quote : ℕ) (text value after : List ℕ) → AfterRun quote text value after → length after ≡ 0 → None ≡ value_of (text_inside quote text)
AfterRun-end quote text value after so none = Unquoting-end quote text value after (record { utf8 = so.utf8; so_far = so.so_far }) none

-- what an ASCII byte is followed by is text
behind_ascii : (bytes : List ℕ) (i : ℕ) → IsUtf8 bytes → i < length bytes → get_or bytes i 0 < 128 → IsUtf8 (drop (i + 1) bytes)
behind_ascii bytes i utf8 lt ascii = IsUtf8-drop bytes (i + 1) utf8 (IsCharBoundary-after_ascii bytes i utf8 lt ascii)

not_equal : (c n : ℕ) → n < 128 → 128 ≤ c → nat_eq c n ≡ false
not_equal c n low high = ne_eqb c n (λ e. omega (arith, e))

escaped-wide : (c : ℕ) → 128 ≤ c → escaped c ≡ c ∷ []
escaped-wide c high = rw (not_equal c 48 (omega arith) high, not_equal c 98 (omega arith) high, not_equal c 110 (omega arith) high, not_equal c 114 (omega arith) high, not_equal c 116 (omega arith) high, not_equal c 90 (omega arith) high, not_equal c 37 (omega arith) high, not_equal c 95 (omega arith) high) refl

bare : (quote b : ℕ) (rest : List ℕ) → quote < 128 → nat_eq b quote ≡ false → nat_eq b 92 ≡ true → ((length rest ≡ 0) ⊎ (128 ≤ get_or rest 0 0)) → value_inside quote (b ∷ rest) ≡ value_inside quote rest
bare quote b [] ascii s t wide = value-escaped quote b [] s t ∙ ap (in_front (escaped 0)) (value-nil quote) ∙ sym (value-nil quote)
bare quote b (c ∷ rest) ascii s t wide =
    let high : 128 ≤ c = ⊎_elim (λ none. absurd (omega (arith, none))) (λ w. w) wide in
    value-escaped quote b (c ∷ rest) s t ∙ ap (λ v. in_front v (value_inside quote rest)) (escaped-wide c high) ∙ sym (value-plain quote c rest (not_equal c quote ascii high) (not_equal c 92 (omega arith) high))

module _ (quote : ℕ) (text value : List ℕ) (ascii : quote < 128) where
  pub AfterRun-closed : (after : List ℕ) → AfterRun quote text value after → 0 < length after → get_or after 0 0 ≡ quote → begins_with quote (drop 1 after) ≡ false → Some value ≡ value_of (text_inside quote text)
  AfterRun-closed [] so some same single = absurd (omega arith)
  AfterRun-closed (b ∷ rest) so some same single = ap (λ v. Some v) (sym (append-nil value)) ∙ ap (in_front value) (sym (value-closed quote b rest (eq-eqb b quote same) single)) ∙ so.so_far

  pub AfterRun-doubled : (after : List ℕ) → AfterRun quote text value after → 0 < length after → get_or after 0 0 ≡ quote → begins_with quote (drop 1 after) ≡ true → Unquoting quote text (value ++ quote ∷ []) (drop 2 after)
  AfterRun-doubled [] so some same both = absurd (omega arith)
  AfterRun-doubled (b ∷ []) so some same both = absurd cc
  AfterRun-doubled (b ∷ c ∷ rest) so some same both = record {
    utf8 = behind_ascii (b ∷ c ∷ rest) 1 so.utf8 (omega arith) (omega (arith, eqb-true c quote both));
    so_far = sym (in_front-in_front value (quote ∷ []) (value_inside quote rest)) ∙ ap (in_front value) (sym (value-doubled quote b (c ∷ rest) (eq-eqb b quote same) both)) ∙ so.so_far;
  }

  pub AfterRun-escaped : (after : List ℕ) → AfterRun quote text value after → 1 < length after → (get_or after 0 0 ≡ quote → ⊥) → get_or after 1 0 < 128 → Unquoting quote text (value ++ escaped (get_or after 1 0)) (drop 2 after)
  AfterRun-escaped [] so some other low = absurd (omega arith)
  AfterRun-escaped (b ∷ []) so some other low = absurd (omega arith)
  AfterRun-escaped (b ∷ c ∷ rest) so some other low = record {
    utf8 = behind_ascii (b ∷ c ∷ rest) 1 so.utf8 (omega arith) low;
    so_far = sym (in_front-in_front value (escaped c) (value_inside quote rest)) ∙ ap (in_front value) (sym (value-escaped quote b (c ∷ rest) (ne_eqb b quote other) (eq-eqb b 92 (special_is quote b (so.special (omega arith)) other)))) ∙ so.so_far;
  }

  pub AfterRun-bare : (after : List ℕ) → AfterRun quote text value after → 0 < length after → (get_or after 0 0 ≡ quote → ⊥) → ((length after ≤ 1) ⊎ (128 ≤ get_or after 1 0)) → Unquoting quote text value (drop 1 after)
  AfterRun-bare [] so some other wide = absurd (omega arith)
  AfterRun-bare (b ∷ rest) so some other wide =
      let slash : b ≡ 92 = special_is quote b (so.special some) other in
      let after_slash : (length rest ≡ 0) ⊎ (128 ≤ get_or rest 0 0) = ⊎_elim (λ le. inl (omega arith)) (λ w. inr w) wide in
      record {
        utf8 = behind_ascii (b ∷ rest) 0 so.utf8 some (omega arith);
        so_far = ap (in_front value) (sym (bare quote b rest ascii (ne_eqb b quote other) (eq-eqb b 92 slash) after_slash)) ∙ so.so_far;
      }
