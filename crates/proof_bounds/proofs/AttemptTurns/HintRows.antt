-- The hint row of an attempt is stored, where no row of the changelog has its number.
use Rattle.std.proofs.Common.{◌≡◌, ◌≤◌, ℕ, ◌+◌, pos, Bool, true, false, cond, codes, ◌||◌, List, [], ◌∷◌, length, None, Result, Ok, Err, refl, sym, ap, ◌∙◌, arith}
use Rattle.std.specs.Prelude.{nat_le, nat_lt, int_le}
use Rattle.std.specs.Fmt.{signed_decimal}
use Rattle.std.specs.List.{list_any}
use Rattle.std.specs.Ordering.{is_eq, match_ordering}
use Rattle.std.specs.declared.cmp.Ordering.{Ordering}
use Rattle.std.specs.declared.cmp.Ordering.TheVariants.{Less, Equal, Greater}
use Rattle.std.proofs.lemmas.Bool.{true≢false, false≢true, and_parts, and_from, or_from, or_right}
use Rattle.std.proofs.lemmas.Bool.Decides.{nat_tests}
use Rattle.std.proofs.lemmas.Fmt.{length_signed_le}
use Rattle.std.proofs.lemmas.List.Sums.{count_by-le-length}
use Rattle.base_values.specs.declared.unfit.Unfit.{Unfit}
use Rattle.base_values.specs.declared.unfit.Unfit.TheVariants as unfit
use Rattle.base_values.specs.declared.value.Value.{Value}
use Rattle.base_values.specs.declared.value.Value.TheVariants.{Num, Text}
use Rattle.base_values.specs.KeyOrder.{compare_keys}
use Rattle.base_values.specs.GhoSchema.Rows.{key_of, with_row}
use Rattle.base_values.specs.GhoSchema.Tables.{clash}
use Rattle.base_values.specs.StoredValues.{character_count, half, highest, in_range, stores, text_within}
use Rattle.base_values.proofs.Orders.{tied_keys}
use Rattle.server_model.specs.Checks.{◌>>=◌, beside, new_row, row_from, value_at}
use Rattle.server_model.specs.declared.answer.Answer.{Answer}
use Rattle.tool_changelog.specs.Hints.{hint_row}
use Rattle.tool_changelog.specs.ToolTables.{first_is_primary, log_schema}
use Rattle.proof_journals.specs.Ghost.Rows.Counts.{all_keys}
use Rattle.proof_bounds.specs.AttemptTurns.Attempts.{most_tries}
use Rattle.table_store.proofs.Orders.{is_Equal}

-- IT FITS

number_fits : (n : ℕ) → n ≤ most_tries → in_range 8 false (pos n) ≡ Ok (Num (pos n))
unfolding in_range half
number_fits n few = ap (λ (b : Bool). cond b (Ok (Num (pos n))) (Err unfit.Range)) less where
  less : int_le (pos n) (highest 8 false) ≡ true
  less = grind (arith, nat_tests, few)

hint_fits : text_within 64 (codes "cut-over") ≡ Ok (Text (codes "cut-over"))
unfolding text_within character_count
hint_fits = refl

pub text_fits : (n : ℕ) → n ≤ most_tries → text_within 255 (signed_decimal (pos n)) ≡ Ok (Text (signed_decimal (pos n)))
unfolding text_within character_count
text_fits n few = ap (λ (b : Bool). cond b (Ok (Text (signed_decimal (pos n)))) (Err unfit.Length)) short where
  digits : length (signed_decimal (pos n)) ≤ 4 + 1
  digits = length_signed_le 4 (pos n) (omega (arith, few)) (omega (arith, few))

  short : nat_le (character_count (signed_decimal (pos n))) 255 ≡ true
  short = let most = count_by-le-length (λ (byte : ℕ). nat_lt byte 128 || nat_le 192 byte) (signed_decimal (pos n)) in grind (arith, nat_tests, most, digits)

abbrev pub with_first : ℕ → Result Value Unfit → Result (List Value) Answer → Result (List Value) Answer
with_first place stored others = value_at place stored >>= (λ value. others >>= (λ more. Ok (value ∷ more)))

pub joined : (place : ℕ) (stored : Result Value Unfit) (own : Value) (others : Result (List Value) Answer) (rest : List Value) → stored ≡ Ok own → others ≡ Ok rest → with_first place stored others ≡ Ok (own ∷ rest)
joined place stored own others rest one more = rw (one, more) refl

-- *The row that is made*
pub hint_made : (t : List ℕ) (n : ℕ) → n ≤ most_tries → new_row (log_schema t) None (hint_row n) ≡ Ok (hint_row n)
unfolding new_row row_from beside stores log_schema hint_row
hint_made t n few =
    joined 0 (in_range 8 false (pos n)) (Num (pos n)) _ (Text (codes "cut-over") ∷ Text (signed_decimal (pos n)) ∷ []) (number_fits n few)
    (joined 1 (text_within 64 (codes "cut-over")) (Text (codes "cut-over")) _ (Text (signed_decimal (pos n)) ∷ []) hint_fits (joined 2 (text_within 255 (signed_decimal (pos n))) (Text (signed_decimal (pos n))) (Ok []) [] (text_fits n few) refl))

-- ITS NUMBER IS NEW

-- the key is a number below this one, or a heartbeat's: those are above a million
abbrev pub is_below : ℕ → List Value → Bool
is_below most (Num (pos k) ∷ []) = nat_lt k most || nat_lt 1000000 k
is_below most key = false

-- the rows' numbers are
abbrev pub AllBelow : ℕ → List (List Value) → Type 0
AllBelow most rows = all_keys (is_below most) (0 ∷ []) rows ≡ true

key_below : (most more : ℕ) (key : List Value) → most ≤ more → is_below most key ≡ true → is_below more key ≡ true
key_below most more (Num (pos k) ∷ []) less below = by (nat_lt k most) refl below where
  by : (b : Bool) → nat_lt k most ≡ b → (b || nat_lt 1000000 k) ≡ true → (nat_lt k more || nat_lt 1000000 k) ≡ true
  by true under one = ap (λ (b : Bool). b || nat_lt 1000000 k) (up under) where
    up : nat_lt k most ≡ true → nat_lt k more ≡ true
    up under = grind (arith, nat_tests, less, under)
  by false over one = or_right (nat_lt k more) (nat_lt 1000000 k) one
key_below most more key less below = absurd (false≢true below)

pub more_below : (most more : ℕ) (rows : List (List Value)) → most ≤ more → AllBelow most rows → AllBelow more rows
more_below most more [] less all = refl
more_below most more (row ∷ rows) less all =
    let parts = and_parts (is_below most (key_of (0 ∷ []) row)) (all_keys (is_below most) (0 ∷ []) rows) all in
    and_from (is_below more (key_of (0 ∷ []) row)) (all_keys (is_below more) (0 ∷ []) rows) (key_below most more (key_of (0 ∷ []) row) less parts.0) (more_below most more rows less parts.1)

itself_not : (n : ℕ) → n ≤ most_tries → (nat_lt n n || nat_lt 1000000 n) ≡ true → ⊥
itself_not n few is = true≢false (sym is ∙ or_from (nat_lt n n) (nat_lt 1000000 n) same far) where
  same : nat_lt n n ≡ false
  same = grind (arith, nat_tests)

  far : nat_lt 1000000 n ≡ false
  far = grind (arith, nat_tests, few)

differs : (n : ℕ) (key : List Value) → n ≤ most_tries → is_below n key ≡ true → is_eq (compare_keys (Num (pos n) ∷ []) key) ≡ false
differs n key few below = by (is_eq (compare_keys (Num (pos n) ∷ []) key)) refl where
  by : (b : Bool) → is_eq (compare_keys (Num (pos n) ∷ []) key) ≡ b → b ≡ false
  by false off = refl
  by true same = absurd (itself_not n few (ap (is_below n) (tied_keys (Num (pos n) ∷ []) key (is_Equal (compare_keys (Num (pos n) ∷ []) key) same)) ∙ below))

-- *It clashes with none*
pub hint_new : (n : ℕ) (rows : List (List Value)) → n ≤ most_tries → AllBelow n rows → list_any (clash first_is_primary (hint_row n)) rows ≡ false
unfolding key_of hint_row
hint_new n [] few all = refl
hint_new n (row ∷ rows) few all = rw (differs n (key_of (0 ∷ []) row) few parts.0) (hint_new n rows few parts.1) where
  parts : (is_below n (key_of (0 ∷ []) row) ≡ true) × (AllBelow n rows)
  parts = and_parts (is_below n (key_of (0 ∷ []) row)) (all_keys (is_below n) (0 ∷ []) rows) all

-- with it the numbers are below the next one
own_below : (n : ℕ) → is_below (n + 1) (key_of (0 ∷ []) (hint_row n)) ≡ true
unfolding key_of hint_row
own_below n = ap (λ (b : Bool). b || nat_lt 1000000 n) under where
  under : nat_lt n (n + 1) ≡ true
  under = grind (arith, nat_tests)

pub row_below : (n : ℕ) (rows : List (List Value)) → AllBelow (n + 1) rows → AllBelow (n + 1) (with_row (0 ∷ []) (hint_row n) rows)
unfolding with_row
row_below n [] all = and_from (is_below (n + 1) (key_of (0 ∷ []) (hint_row n))) true (own_below n) refl
row_below n (first ∷ rows) all = by (compare_keys (key_of (0 ∷ []) (hint_row n)) (key_of (0 ∷ []) first)) (row_below n rows parts.1) where
  parts : (is_below (n + 1) (key_of (0 ∷ []) first) ≡ true) × (AllBelow (n + 1) rows)
  parts = and_parts (is_below (n + 1) (key_of (0 ∷ []) first)) (all_keys (is_below (n + 1)) (0 ∷ []) rows) all

  by : (o : Ordering) → AllBelow (n + 1) (with_row (0 ∷ []) (hint_row n) rows) → AllBelow (n + 1) (match_ordering o (hint_row n ∷ first ∷ rows) (hint_row n ∷ first ∷ rows) (first ∷ with_row (0 ∷ []) (hint_row n) rows))
  by Less later = and_from (is_below (n + 1) (key_of (0 ∷ []) (hint_row n))) (all_keys (is_below (n + 1)) (0 ∷ []) (first ∷ rows)) (own_below n) all
  by Equal later = and_from (is_below (n + 1) (key_of (0 ∷ []) (hint_row n))) (all_keys (is_below (n + 1)) (0 ∷ []) (first ∷ rows)) (own_below n) all
  by Greater later = and_from (is_below (n + 1) (key_of (0 ∷ []) first)) (all_keys (is_below (n + 1)) (0 ∷ []) (with_row (0 ∷ []) (hint_row n) rows)) parts.0 later
