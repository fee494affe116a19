-- How rows in order of their keys stand to a key and to the ends of a span.
use Rattle.std.proofs.Common.{◌≡◌, ℕ, Bool, true, false, not, List, [], ◌∷◌, Ordering, Less, Equal, Greater, refl, sym, ap, ◌∙◌}
use Rattle.std.specs.Ordering.{is_eq, is_gt, is_lt, is_le, ordering_reverse}
use Rattle.std.specs.List.{AllByRecursion}
use Rattle.std.proofs.lemmas.Bool.{not-false}
use Rattle.base_values.specs.declared.value.Value.{Value}
use Rattle.base_values.specs.declared.span.Bound.{Bound}
use Rattle.base_values.specs.declared.span.Bound.TheVariants.{Open, Closed, Free}
use Rattle.base_values.specs.KeyOrder.{compare_keys}
use Rattle.base_values.specs.Spans.{above, below}
use Rattle.base_values.proofs.Orders.{keys_total, tied_keys}
use Rattle.base_values.specs.GhoSchema.Rows.{key_of}
use Rattle.base_values.specs.GhoSchema.Tables.{Ascends}

abbrev pub Row : Type 0
Row = List Value

pub is_Equal : (o : Ordering) → is_eq o ≡ true → o ≡ Equal
is_Equal Less is = absurd cc
is_Equal Equal is = refl
is_Equal Greater is = absurd cc

-- two keys compare the other way about
pub turned : (a b : List Value) → compare_keys a b ≡ ordering_reverse (compare_keys b a)
turned a b = keys_total.antisymm a b

-- what is known of a test of keys once it fails: it fails for greater keys
abbrev pub FailsAbove : (List Value → Bool) → Type 0
FailsAbove test = (a b : List Value) → compare_keys a b ≡ Less → test a ≡ false → test b ≡ false

-- the test fails from the first row on for which it fails
abbrev pub FailsOn : (Row → Bool) → List Row → Type 0
FailsOn test [] = Unit {0}
FailsOn test (row ∷ rows) = (test row ≡ false → AllByRecursion (λ other. test other ≡ false) rows) × FailsOn test rows

fails_after : (test : List Value → Bool) (places : List ℕ) (row : Row) (rows : List Row) → FailsAbove test → AllByRecursion (λ other. compare_keys (key_of places row) (key_of places other) ≡ Less) rows
    → test (key_of places row) ≡ false → AllByRecursion (λ other. test (key_of places other) ≡ false) rows
fails_after test places row [] above less fails = tt
fails_after test places row (other ∷ rows) above less fails =
    (above (key_of places row) (key_of places other) less.0 fails, fails_after test places row rows above less.1 fails)

pub fails_on : (test : List Value → Bool) (places : List ℕ) (rows : List Row) → FailsAbove test → Ascends places rows → FailsOn (λ row. test (key_of places row)) rows
fails_on test places [] above ascends = tt
fails_on test places (row ∷ rows) above ascends = (λ fails. fails_after test places row rows above ascends.0 fails, fails_on test places rows above ascends.1)

-- a key that isn't greater than one is less than a greater one
pub not_greater : (key a b : List Value) (o : Ordering) → compare_keys key a ≡ o → is_gt o ≡ false → compare_keys a b ≡ Less → compare_keys key b ≡ Less
not_greater key a b Less is fails less = keys_total.trans key a b is less
not_greater key a b Equal is fails less = ap (λ (k : List Value). compare_keys k b) (tied_keys key a is) ∙ less
not_greater key a b Greater is fails less = absurd cc

pub before_fails : (key : List Value) → FailsAbove (λ other. is_gt (compare_keys key other))
before_fails key a b less fails = rw (not_greater key a b (compare_keys key a) refl fails less) refl

-- a key at or above a lower end is below the keys behind it
pub le_not_greater : (o : Ordering) → is_le o ≡ true → is_gt o ≡ false
le_not_greater Less is = refl
le_not_greater Equal is = refl
le_not_greater Greater is = absurd cc

lt_not_greater : (o : Ordering) → is_lt o ≡ true → is_gt o ≡ false
lt_not_greater Less is = refl
lt_not_greater Equal is = absurd cc
lt_not_greater Greater is = absurd cc

pub under_fails : (low : Bound) → FailsAbove (λ key. not (above low key))
under_fails (Open end) a b less fails = rw (not_greater end a b (compare_keys end a) refl (lt_not_greater (compare_keys end a) (not-false _ fails)) less) refl
under_fails (Closed end) a b less fails = rw (not_greater end a b (compare_keys end a) refl (le_not_greater (compare_keys end a) (not-false _ fails)) less) refl
under_fails Free a b less fails = refl

-- what is before an upper end has what is less before it too
open_fails : (end a b : List Value) (o : Ordering) → compare_keys b end ≡ o → compare_keys a b ≡ Less → is_lt (compare_keys a end) ≡ false → is_lt o ≡ false
open_fails end a b Less is less fails = let further : compare_keys a end ≡ Less = keys_total.trans a b end less is in absurd (cc (ap is_lt further))
open_fails end a b Equal is less fails = refl
open_fails end a b Greater is less fails = refl

closed_fails : (end a b : List Value) (o : Ordering) → compare_keys b end ≡ o → compare_keys a b ≡ Less → is_le (compare_keys a end) ≡ false → is_le o ≡ false
closed_fails end a b Less is less fails = let further : compare_keys a end ≡ Less = keys_total.trans a b end less is in absurd (cc (ap is_le further))
closed_fails end a b Equal is less fails =
    let further : compare_keys a end ≡ Less = ap (λ (k : List Value). compare_keys a k) (sym (tied_keys b end is)) ∙ less in
    absurd (cc (ap is_le further))
closed_fails end a b Greater is less fails = refl

pub below_fails : (high : Bound) → FailsAbove (λ key. below high key)
below_fails (Open end) a b less fails = open_fails end a b (compare_keys b end) refl less fails
below_fails (Closed end) a b less fails = closed_fails end a b (compare_keys b end) refl less fails
below_fails Free a b less fails = absurd cc
