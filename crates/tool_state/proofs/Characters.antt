-- How many characters are printed, counted up to a limit.
use Rattle.std.proofs.Common.{◌≡◌, ℕ, suc, ◌+◌, ◌-◌, ◌<◌, ◌≤◌, Bool, true, false, List, [], ◌∷◌, ◌++◌, length, take, drop, refl, sym, ap, ◌∙◌, arith}
use Rattle.std.specs.Prelude.{min, codes, ℤ, pos, nat_le, is_some, if◌then◌else◌, slice_index_or, Some, None}
use Rattle.std.specs.Fmt.{signed_decimal}
use Rattle.std.specs.List.{flat_map}
use Rattle.std.proofs.lemmas.Bool.Decides.{nat_tests}
use Rattle.std.proofs.Math.Seq.{take-length}
use Rattle.std.proofs.lemmas.List.{take_more}
use Rattle.std.proofs.lemmas.List.Sums.{sum_by-append}
use Rattle.std.proofs.lemmas.List.Concat.{flat_map-cons}
use Rattle.std.proofs.lemmas.Grind.{flat_map-append}
use Rattle.base_values.specs.declared.value.Value.{Value}
use Rattle.base_values.specs.declared.value.Value.TheVariants.{Null, Num, Text, Blob}
use Rattle.base_values.specs.Literals.{escaped, hexadecimal, printed, listed, printed_row}
use Rattle.base_values.specs.StoredValues.{character_count}
use Rattle.tool_changelog.specs.declared.checkpoint.Reach.{Reach}
use Rattle.tool_changelog.specs.Checkpoints.{reach_text, checkpoint_text, short_text, checkpoint_value}

-- COUNTS

pub count-append : (a b : List ℕ) → character_count (a ++ b) ≡ character_count a + character_count b
unfolding character_count
count-append a b = sum_by-append _ a b

no_characters : character_count [] ≡ 0
unfolding character_count
no_characters = refl

-- a byte's two hexadecimal digits
pub hexadecimal_count : (byte : ℕ) → byte < 256 → character_count (hexadecimal byte) ≡ 2
unfolding character_count
hexadecimal_count byte small = grind (arith, nat_tests)

pub number_printed : (number : ℤ) → printed (Num number) ≡ signed_decimal number
unfolding printed
number_printed number = refl

pub null_count : character_count (printed Null) ≡ 4
unfolding printed character_count
null_count = refl

quote : character_count (codes "'") ≡ 1
unfolding character_count
quote = refl

blob_front : character_count (codes "x'") ≡ 2
unfolding character_count
blob_front = refl

pub text_count : (text : List ℕ) → character_count (printed (Text text)) ≡ character_count (flat_map escaped text) + 2
unfolding printed
text_count text = omega (arith, count-append (codes "'") (flat_map escaped text ++ codes "'"), count-append (flat_map escaped text) (codes "'"), quote)

pub blob_count : (blob : List ℕ) → character_count (printed (Blob blob)) ≡ character_count (flat_map hexadecimal blob) + 3
unfolding printed
blob_count blob = omega (arith, count-append (codes "x'") (flat_map hexadecimal blob ++ codes "'"), count-append (flat_map hexadecimal blob) (codes "'"), quote, blob_front)

comma : character_count (codes ", ") ≡ 2
unfolding character_count
comma = refl

pub following_count : (value : Value) → character_count (codes ", " ++ printed value) ≡ character_count (printed value) + 2
following_count value = omega (arith, count-append (codes ", ") (printed value), comma)

pub listed_count : (first : Value) (rest : List Value) → character_count (listed (first ∷ rest)) ≡ character_count (printed first) + character_count (flat_map (λ next. codes ", " ++ printed next) rest)
unfolding listed
listed_count first rest = count-append (printed first) (flat_map (λ next. codes ", " ++ printed next) rest)

opens : character_count (codes "(") ≡ 1
unfolding character_count
opens = refl

closes : character_count (codes ")") ≡ 1
unfolding character_count
closes = refl

pub row_count : (row : List Value) → character_count (printed_row row) ≡ character_count (listed row) + 2
unfolding printed_row
row_count row = omega (arith, count-append (codes "(") (listed row ++ codes ")"), count-append (listed row) (codes ")"), opens, closes)

blank : character_count (codes " ") ≡ 1
unfolding character_count
blank = refl

pub checkpoint_count : (position : ℕ) (reach : Reach) → character_count (checkpoint_text position reach) ≡ character_count (signed_decimal (pos position)) + 1 + character_count (reach_text reach)
checkpoint_count position reach =
    omega (arith, count-append (signed_decimal (pos position) ++ codes " ") (reach_text reach), count-append (signed_decimal (pos position)) (codes " "), blank)

pub dash : character_count (codes "-") ≡ 1
unfolding character_count
dash = refl

pub star : character_count (codes "*") ≡ 1
unfolding character_count
star = refl

-- SUMS UP TO A LIMIT

pub none : (most : ℕ) → 0 ≡ min (character_count []) most
none most = let none : character_count [] ≡ 0 = no_characters in grind (arith)

-- the count so far is exact or at the limit; so it is with an exact number more
pub added : (count exact more total most : ℕ) → count ≡ min exact most → total ≡ exact + more → min (count + more) most ≡ min total most
added count exact more total most is same = grind (arith)

-- and with another count
pub joined : (count exact other next total most : ℕ) → count ≡ min exact most → other ≡ min next most → total ≡ exact + next → min (count + other) most ≡ min total most
joined count exact other next total most is next_is same = grind (arith)

one_more : {A : Type 0} (f : A → List ℕ) (items : List A) (i : ℕ) (d : A) → i < length items → character_count (flat_map f (take (i + 1) items)) ≡ character_count (flat_map f (take i items)) + character_count (f (slice_index_or items i d))
one_more f items i d inside =
    let item = slice_index_or items i d in
    let last : character_count (flat_map f (item ∷ [])) ≡ character_count (f item) = ap character_count (flat_map-cons f item []) ∙ omega (arith, count-append (f item) (flat_map f []), no_characters) in
    ap (λ some. character_count (flat_map f some)) (take_more items i d inside) ∙ ap character_count (flat_map-append f (take i items) (item ∷ [])) ∙ omega (arith, count-append (flat_map f (take i items)) (flat_map f (item ∷ [])), last)

-- one item more of a walk
pub walked : {A : Type 0} (f : A → List ℕ) (items : List A) (i : ℕ) (d : A) (count more most : ℕ) → i < length items → count ≡ min (character_count (flat_map f (take i items))) most → more ≡ character_count (f (slice_index_or items i d)) → min (count + more) most ≡ min (character_count (flat_map f (take (i + 1) items))) most
walked f items i d count more most inside is more_is = added count _ more _ most is (one_more f items i d inside ∙ ap (λ n. character_count (flat_map f (take i items)) + n) (sym more_is))

pub walked_far : {A : Type 0} (f : A → List ℕ) (items : List A) (i : ℕ) (d : A) (count other most : ℕ) → i < length items → count ≡ min (character_count (flat_map f (take i items))) most → other ≡ min (character_count (f (slice_index_or items i d))) most → min (count + other) most ≡ min (character_count (flat_map f (take (i + 1) items))) most
walked_far f items i d count other most inside is other_is = joined count _ other _ _ most is other_is (one_more f items i d inside)

less_one : (n : ℕ) → suc n - 1 ≡ n
less_one n = omega arith

-- a row's first value and the others
pub first_and_rest : {A : Type 0} (items : List A) (first : A) → 1 ≤ length items → first ≡ slice_index_or items 0 first → items ≡ first ∷ take (length items - 1) (drop 1 items)
first_and_rest [] first some is = absurd (omega (arith, some))
first_and_rest (item ∷ items) first some is = ap (λ head. head ∷ items) (sym is) ∙ ap (λ rest. first ∷ rest) (sym (ap (λ (n : ℕ). take n items) (less_one (length items)) ∙ take-length items))

-- THE CHECKPOINT

short_some : (text : List ℕ) → is_some (short_text text) ≡ nat_le (character_count text) 255
short_some text = by (nat_le (character_count text) 255)
  where
    by : (short : Bool) → is_some (if short then Some (Text text) else None) ≡ short
    by true = refl
    by false = refl

pub short_is : (position : ℕ) (reach : Reach) (count most : ℕ) → 255 < most → count ≡ min (character_count (checkpoint_text position reach)) most → nat_le count 255 ≡ is_some (checkpoint_value position reach)
short_is position reach count most wide is = ap (λ n. nat_le n 255) is ∙ at (character_count (checkpoint_text position reach)) ∙ sym (short_some (checkpoint_text position reach))
  where
    at : (exact : ℕ) → nat_le (min exact most) 255 ≡ nat_le exact 255
    at exact = grind (arith, nat_tests, wide)
