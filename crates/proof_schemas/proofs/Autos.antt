-- How many columns have AUTO_INCREMENT, and where the first is.
use Rattle.std.proofs.Common.{◌≡◌, ℕ, zero, suc, ◌+◌, ◌≤◌, ◌≢◌, Bool, true, false, cond, eqb, List, [], ◌∷◌, Option, Some, None, refl, sym, ap, ◌∙◌, arith, eqb-true, false-eqb}
use Rattle.std.specs.Prelude.{slice_set, position, count_by}
use Rattle.std.specs.List.{insert, remove, list_any, slice_get}
use Rattle.std.proofs.lemmas.Bool.{or_parts}
use Rattle.std.proofs.lemmas.List.Sums.{sum_by-cons}
use Rattle.std.proofs.lemmas.Map.Keys.{any_passes_from_place}
use Rattle.base_values.specs.declared.gho_schema.schema.Column.{Column}
use Rattle.base_values.proofs.SchemaRules.Lists.{position-found, position-some}
use Rattle.sql_grammar.specs.Versions.{has_counters}
use Rattle.proof_schemas.specs.Printed.Laws.{MayCountIn}

abbrev pub is_auto : Column → Bool
is_auto column = column.auto

abbrev pub count : List Column → ℕ
count columns = count_by is_auto columns

abbrev one_if : Bool → ℕ
one_if on = cond on 1 0

abbrev weight : Column → ℕ
weight column = one_if column.auto

count-cons : (x : Column) (xs : List Column) → count (x ∷ xs) ≡ weight x + count xs
count-cons x xs = sum_by-cons weight x xs

on-weight : (b : Bool) → b ≡ true → one_if b ≡ 1
on-weight true e = refl
on-weight false e = absurd cc

off-weight : (b : Bool) → b ≡ false → one_if b ≡ 0
off-weight true e = absurd cc
off-weight false e = refl

-- ---- changes

pub count-insert : (xs : List Column) (i : ℕ) (v : Column) → count (insert xs i v) ≡ weight v + count xs
count-insert xs zero v = count-cons v xs
count-insert [] (suc i) v = count-cons v []
count-insert (x ∷ xs) (suc i) v = omega (arith, count-cons x (insert xs i v), count-cons x xs, count-insert xs i v)

pub count-less : (xs : List Column) (i : ℕ) → count (remove xs i) ≤ count xs
count-less [] zero = omega arith
count-less [] (suc i) = omega arith
count-less (x ∷ xs) zero = omega (arith, count-cons x xs)
count-less (x ∷ xs) (suc i) = let rest = count-less xs i in omega (arith, rest, count-cons x (remove xs i), count-cons x xs)

pub count-remove : (xs : List Column) (i : ℕ) (v : Column) → slice_get xs i ≡ Some v → weight v + count (remove xs i) ≡ count xs
count-remove [] i v at = absurd cc
count-remove (x ∷ xs) zero v at =
    let is : x ≡ v = cc in
    ap (λ (c : Column). weight c + count xs) (sym is) ∙ sym (count-cons x xs)
count-remove (x ∷ xs) (suc i) v at = omega (arith, count-remove xs i v at, count-cons x (remove xs i), count-cons x xs)

pub count-set : (xs : List Column) (i : ℕ) (old new : Column) → slice_get xs i ≡ Some old → new.auto ≡ old.auto → count (slice_set xs i new) ≡ count xs
count-set [] i old new at same = absurd cc
count-set (x ∷ xs) zero old new at same =
    let is : x ≡ old = cc in
    count-cons new xs ∙ ap (λ (b : Bool). one_if b + count xs) (same ∙ ap (λ (c : Column). c.auto) (sym is)) ∙ sym (count-cons x xs)
count-set (x ∷ xs) (suc i) old new at same = omega (arith, count-set xs i old new at same, count-cons x (slice_set xs i new), count-cons x xs)

-- an added column hasn't it
pub count-added : (xs : List Column) (i : ℕ) (v : Column) → v.auto ≡ false → count (insert xs i v) ≡ count xs
count-added xs i v none = omega (arith, count-insert xs i v, off-weight v.auto none)

-- a moved column has it as before
pub count-moved : (xs : List Column) (from to : ℕ) (old new : Column) → slice_get xs from ≡ Some old → new.auto ≡ old.auto → count (insert (remove xs from) to new) ≡ count xs
count-moved xs from to old new at same =
    count-insert (remove xs from) to new ∙ ap (λ (b : Bool). one_if b + count (remove xs from)) same ∙ count-remove xs from old at

-- ---- one and none

one-count : (xs : List Column) (k : ℕ) (c : Column) → slice_get xs k ≡ Some c → c.auto ≡ true → 1 ≤ count xs
one-count [] k c at on = absurd cc
one-count (x ∷ xs) zero c at on =
    let is : x ≡ c = cc in
    let own = on-weight x.auto (ap (λ (v : Column). v.auto) is ∙ on) in
    omega (arith, count-cons x xs, own)
one-count (x ∷ xs) (suc k) c at on = let rest = one-count xs k c at on in omega (arith, rest, count-cons x xs)

two-count : (xs : List Column) (k q : ℕ) (a c : Column) → slice_get xs k ≡ Some a → slice_get xs q ≡ Some c → a.auto ≡ true → c.auto ≡ true → k ≢ q → 2 ≤ count xs
two-count [] k q a c at there on also ne = absurd cc
two-count (x ∷ xs) zero zero a c at there on also ne = absurd (ne refl)
two-count (x ∷ xs) zero (suc q) a c at there on also ne =
    let is : x ≡ a = cc in
    let own = on-weight x.auto (ap (λ (v : Column). v.auto) is ∙ on) in
    let rest = one-count xs q c there also in
    omega (arith, rest, count-cons x xs, own)
two-count (x ∷ xs) (suc k) zero a c at there on also ne =
    let is : x ≡ c = cc in
    let own = on-weight x.auto (ap (λ (v : Column). v.auto) is ∙ also) in
    let rest = one-count xs k a at on in
    omega (arith, rest, count-cons x xs, own)
two-count (x ∷ xs) (suc k) (suc q) a c at there on also ne =
    let rest = two-count xs k q a c at there on also (λ e. ne (ap suc e)) in
    omega (arith, rest, count-cons x xs)

none-count : (xs : List Column) → list_any is_auto xs ≡ false → count xs ≡ 0
none-count [] e = refl
none-count (x ∷ xs) e =
    let n = or_parts x.auto (list_any is_auto xs) e in
    omega (arith, count-cons x xs, off-weight x.auto n.0, none-count xs n.1)

-- ---- the place

same-place : (xs : List Column) (k q : ℕ) (a c : Column) (b : Bool) → eqb k q ≡ b → slice_get xs k ≡ Some a → slice_get xs q ≡ Some c → a.auto ≡ true → c.auto ≡ true → count xs ≤ 1 → k ≡ q
same-place xs k q a c true e at there on also few = eqb-true k q e
same-place xs k q a c false e at there on also few = let two = two-count xs k q a c at there on also (false-eqb k q (sym e)) in absurd (omega (arith, two, few))

not-both : (place : ℕ) (o : Option ℕ) → o ≡ Some place → o ≡ None → ⊥
not-both place None e f = absurd cc
not-both place (Some p) e f = absurd cc

only-by : (xs : List Column) (q : ℕ) (c : Column) (o : Option ℕ) → position is_auto xs ≡ o → slice_get xs q ≡ Some c → c.auto ≡ true → count xs ≤ 1 → o ≡ Some q
only-by xs q c None is there on few = absurd (not-both _ (position is_auto xs) (position-some is_auto xs (any_passes_from_place is_auto xs q c there on)) is)
only-by xs q c (Some k) is there on few =
    let found = position-found is_auto xs k is in
    ap (λ (n : ℕ). Some n) (same-place xs k q found.item c (eqb k q) refl found.is there found.passes on few)

-- where one column at most has it, a column that has it is the one
pub only-place : (xs : List Column) (q : ℕ) (c : Column) → slice_get xs q ≡ Some c → c.auto ≡ true → count xs ≤ 1 → position is_auto xs ≡ Some q
only-place xs q c there on few = only-by xs q c (position is_auto xs) refl there on few

no-place-by : (xs : List Column) (o : Option ℕ) → position is_auto xs ≡ o → count xs ≡ 0 → o ≡ None
no-place-by xs None is none = refl
no-place-by xs (Some k) is none =
    let found = position-found is_auto xs k is in
    let one = one-count xs k found.item found.is found.passes in
    absurd (omega (arith, one, none))

pub no-place : (xs : List Column) → count xs ≡ 0 → position is_auto xs ≡ None
no-place xs none = no-place-by xs (position is_auto xs) refl none

none-by : (xs : List Column) (b : Bool) → list_any is_auto xs ≡ b → position is_auto xs ≡ None → count xs ≡ 0
none-by xs true any none = absurd (not-both _ (position is_auto xs) (position-some is_auto xs any) none)
none-by xs false any none = none-count xs any

pub no-count : (xs : List Column) → position is_auto xs ≡ None → count xs ≡ 0
no-count xs none = none-by xs (list_any is_auto xs) refl none

-- where none has it, no column has it
pub none-on : (xs : List Column) (k : ℕ) (c : Column) → slice_get xs k ≡ Some c → c.auto ≡ true → count xs ≡ 0 → ⊥
none-on xs k c at on none = let one = one-count xs k c at on in absurd (omega (arith, one, none))

-- a column more of a version that has no AUTO_INCREMENT
pub plain-cons : (version : ℕ) (x : Column) (xs : List Column) (b : Bool) → x.auto ≡ b → has_counters version ≡ false → MayCountIn version b → count xs ≡ 0 → count (x ∷ xs) ≡ 0
plain-cons version x xs true is none may rest = let on = may refl in let no : false ≡ true = sym none ∙ on in absurd cc
plain-cons version x xs false is none may rest = omega (arith, count-cons x xs, off-weight x.auto is, rest)
