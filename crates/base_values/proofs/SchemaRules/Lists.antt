-- Lists all of whose items have a property, and where a test finds an item.
use Rattle.std.proofs.Common.{◌≡◌, ℕ, zero, suc, ◌+◌, ◌<◌, Bool, true, false, not, ◌||◌, cond, ltb, List, [], ◌∷◌, ◌++◌, length, take, drop, Option, Some, None, refl, ap, subst, map, arith}
use Rattle.std.specs.Prelude.{filter, fold, position}
use Rattle.std.specs.List.{cons_option, filter_map, list_all, list_any, slice_get, position_or_len, remove, AllByRecursion}
use Rattle.std.proofs.lemmas.Bool.{ltb-true, lt-ltb, and_parts, or_left, or_right}
use Rattle.std.proofs.lemmas.Option.{cond_some}

module _ {X Y : Type 0} (P : X → Type 0) (Q : Y → Type 0) where
  pub All-map : (f : X → Y) → ((x : X) → P x → Q (f x)) → (xs : List X) → AllByRecursion P xs → AllByRecursion Q (map f xs)
  All-map f each [] all = tt
  All-map f each (x ∷ xs) all = (each x all.0, All-map f each xs all.1)

  All-cons_option : (h : X → Option Y) → ((x : X) (y : Y) → P x → h x ≡ Some y → Q y) → (x : X) (o : Option Y) (ys : List Y) → h x ≡ o → P x → AllByRecursion Q ys → AllByRecursion Q (cons_option o ys)
  All-cons_option h each x (Some y) ys e p all = (each x y p e, all)
  All-cons_option h each x None ys e p all = all

  pub All-filter_map : (h : X → Option Y) → ((x : X) (y : Y) → P x → h x ≡ Some y → Q y) → (xs : List X) → AllByRecursion P xs → AllByRecursion Q (filter_map h xs)
  All-filter_map h each [] all = tt
  All-filter_map h each (x ∷ xs) all = All-cons_option h each x (h x) (filter_map h xs) refl all.0 (All-filter_map h each xs all.1)

module _ {X : Type 0} (P : X → Type 0) where
  All-filter-by : (b : Bool) (x : X) (xs : List X) → P x → AllByRecursion P xs → AllByRecursion P (cond b (x ∷ xs) xs)
  All-filter-by true x xs p all = (p, all)
  All-filter-by false x xs p all = all

  pub All-filter : (test : X → Bool) (xs : List X) → AllByRecursion P xs → AllByRecursion P (filter test xs)
  All-filter test [] all = tt
  All-filter test (x ∷ xs) all = All-filter-by (test x) x (filter test xs) all.0 (All-filter test xs all.1)

  pub All-append : (xs ys : List X) → AllByRecursion P xs → AllByRecursion P ys → AllByRecursion P (xs ++ ys)
  All-append [] ys all others = others
  All-append (x ∷ xs) ys all others = (all.0, All-append xs ys all.1 others)

  All-take : (n : ℕ) (xs : List X) → AllByRecursion P xs → AllByRecursion P (take n xs)
  All-take zero xs all = tt
  All-take (suc n) [] all = tt
  All-take (suc n) (x ∷ xs) all = (all.0, All-take n xs all.1)

  All-drop : (n : ℕ) (xs : List X) → AllByRecursion P xs → AllByRecursion P (drop n xs)
  All-drop zero xs all = all
  All-drop (suc n) [] all = tt
  All-drop (suc n) (x ∷ xs) all = All-drop n xs all.1

  pub All-remove : (xs : List X) (i : ℕ) → AllByRecursion P xs → AllByRecursion P (remove xs i)
  All-remove xs i all = All-append (take i xs) (drop (suc i) xs) (All-take i xs all) (All-drop (suc i) xs all)

  pub All-anything : ((x : X) → P x) → (xs : List X) → AllByRecursion P xs
  All-anything each [] = tt
  All-anything each (x ∷ xs) = (each x, All-anything each xs)

  -- the item at a place
  pub All-at : (xs : List X) (i : ℕ) (x : X) → AllByRecursion P xs → slice_get xs i ≡ Some x → P x
  All-at [] i x all e = absurd cc
  All-at (y ∷ xs) zero x all e = let same : y ≡ x = cc in subst P same all.0
  All-at (y ∷ xs) (suc i) x all e = All-at xs i x all.1 e

module _ {X : Type 0} (P Q : X → Type 0) where
  pub All-weaker : ((x : X) → P x → Q x) → (xs : List X) → AllByRecursion P xs → AllByRecursion Q xs
  All-weaker each [] all = tt
  All-weaker each (x ∷ xs) all = (each x all.0, All-weaker each xs all.1)

  pub All-both : (xs : List X) → AllByRecursion P xs → AllByRecursion Q xs → AllByRecursion (λ x. P x × Q x) xs
  All-both [] ps qs = tt
  All-both (x ∷ xs) ps qs = ((ps.0, qs.0), All-both xs ps.1 qs.1)

-- what a step keeps holds of the whole fold
pub fold-keeps : {A X : Type 0} (I : A → Type 0) (P : X → Type 0) (f : A → X → A) → ((a : A) (x : X) → I a → P x → I (f a x)) → (a : A) (xs : List X) → I a → AllByRecursion P xs → I (fold f a xs)
fold-keeps I P f keeps a [] i all = i
fold-keeps I P f keeps a (x ∷ xs) i all = fold-keeps I P f keeps (f a x) xs (keeps a x i all.0) all.1

-- ---- tests of all and of some

pub list_all-All : {X : Type 0} (test : X → Bool) (xs : List X) → list_all test xs ≡ true → AllByRecursion (λ x. test x ≡ true) xs
list_all-All test [] e = tt
list_all-All test (x ∷ xs) e = let p = and_parts (test x) (list_all test xs) e in (p.0, list_all-All test xs p.1)

pub All-list_all : {X : Type 0} (test : X → Bool) (xs : List X) → AllByRecursion (λ x. test x ≡ true) xs → list_all test xs ≡ true
All-list_all test [] all = refl
All-list_all test (x ∷ xs) all = rw (all.0, All-list_all test xs all.1) refl

-- each item that passes is one that some test finds
pub each-any : {N X : Type 0} (test : N → X → Bool) (xs : List X) → AllByRecursion (λ x. (n : N) → test n x ≡ true → list_any (test n) xs ≡ true) xs
each-any {N} {X} test [] = tt
each-any {N} {X} test (x ∷ xs) = (
  (λ n e. or_left (test n x) (list_any (test n) xs) e),
  All-weaker (λ (y : X). (n : N) → test n y ≡ true → list_any (test n) xs ≡ true) (λ (y : X). (n : N) → test n y ≡ true → list_any (test n) (x ∷ xs) ≡ true) (λ y here n e. or_right (test n x) (list_any (test n) xs) (here n e)) xs (each-any test xs),
)

-- ---- places

-- where some item passes, the place is within
any-within-by : {X : Type 0} (test : X → Bool) (xs : List X) (b : Bool) → (list_any test xs ≡ true → position_or_len test xs < length xs) → (b || list_any test xs) ≡ true → cond (not b) (1 + position_or_len test xs) 0 < suc (length xs)
any-within-by test xs true rest e = omega arith
any-within-by test xs false rest e = let less : position_or_len test xs < length xs = rest e in omega arith

any-within : {X : Type 0} (test : X → Bool) (xs : List X) → list_any test xs ≡ true → position_or_len test xs < length xs
any-within test [] e = absurd cc
any-within test (x ∷ xs) e = any-within-by test xs (test x) (any-within test xs) e

-- some item has a first place
pub position-some : {X : Type 0} (test : X → Bool) (xs : List X) → list_any test xs ≡ true → position test xs ≡ Some (position_or_len test xs)
position-some test xs e = rw (lt-ltb _ _ (any-within test xs e)) refl

-- where an item was found there is one
pub position-within : {X : Type 0} (test : X → Bool) (xs : List X) (place : ℕ) → position test xs ≡ Some place → place < length xs
position-within test xs place e =
    let found = cond_some (ltb (position_or_len test xs) (length xs)) (position_or_len test xs) place e in
    subst (λ (n : ℕ). n < length xs) found.1 (ltb-true _ _ found.0)

-- the item that was found
pub record Found {X : Type 0} (test : X → Bool) (xs : List X) (place : ℕ) : Type 0 where
  pub item : X
  pub is : slice_get xs place ≡ Some item
  pub passes : test item ≡ true
  pub within : place < length xs

found-cons : {X : Type 0} (test : X → Bool) (x : X) (xs : List X) (b : Bool) → test x ≡ b → (position_or_len test xs < length xs → Found test xs (position_or_len test xs)) → cond (not b) (1 + position_or_len test xs) 0 < suc (length xs) → Found test (x ∷ xs) (cond (not b) (1 + position_or_len test xs) 0)
found-cons test x xs true h rest lt = record { item = x; is = refl; passes = h; within = omega arith }
found-cons test x xs false h rest lt =
    let further = rest (omega arith) in
    let one : 1 + position_or_len test xs ≡ suc (position_or_len test xs) = omega arith in
    rw one (record { item = further.item; is = further.is; passes = further.passes; within = omega (arith, further.within) })

found-first : {X : Type 0} (test : X → Bool) (xs : List X) → position_or_len test xs < length xs → Found test xs (position_or_len test xs)
found-first test [] lt = absurd (omega arith)
found-first test (x ∷ xs) lt = found-cons test x xs (test x) refl (found-first test xs) lt

pub position-found : {X : Type 0} (test : X → Bool) (xs : List X) (place : ℕ) → position test xs ≡ Some place → Found test xs place
position-found test xs place e =
    let is = cond_some (ltb (position_or_len test xs) (length xs)) (position_or_len test xs) place e in
    subst (Found test xs) is.1 (found-first test xs (ltb-true _ _ is.0))

pub slice_get-map-some : {X Y : Type 0} (f : X → Y) (xs : List X) (i : ℕ) (x : X) → slice_get xs i ≡ Some x → slice_get (map f xs) i ≡ Some (f x)
slice_get-map-some f [] i x e = absurd cc
slice_get-map-some {X} {Y} f (y ∷ xs) zero x e = let same : y ≡ x = cc in ap (λ (z : X). Some (f z)) same
slice_get-map-some f (y ∷ xs) (suc i) x e = slice_get-map-some f xs i x e

pub slice_get-within-some : {X : Type 0} (xs : List X) (i : ℕ) → i < length xs → (x : X) × (slice_get xs i ≡ Some x)
slice_get-within-some [] i lt = absurd (omega arith)
slice_get-within-some (x ∷ xs) zero lt = (x, refl)
slice_get-within-some (x ∷ xs) (suc i) lt = slice_get-within-some xs i (omega arith)
