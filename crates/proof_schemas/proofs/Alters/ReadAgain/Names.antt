-- Keys of which some are left out: what holds of all still does.
use Rattle.std.proofs.Common.{◌≡◌, ℕ, zero, suc, ◌≤◌, Bool, true, false, cond, List, [], ◌∷◌, ◌++◌, length, Option, Some, None, refl, ap, arith}
use Rattle.std.specs.Prelude.{filter}
use Rattle.std.specs.List.{cons_option, remove, AllByRecursion}
use Rattle.base_values.specs.declared.gho_schema.schema.Index.{Index}
use Rattle.base_values.specs.GhoSchema.Names.{same_name}
use Rattle.sql_change.specs.declared.places.PlaceChange.{PlaceChange}
use Rattle.sql_change.specs.Places.{index_after, keys_after}
use Rattle.proof_schemas.specs.ReadAgain.{HasName, PrimaryStandsFirst, key_names}
use Rattle.proof_schemas.proofs.ReadAgain.Differ.{Differ}

-- the first list, in its order, is the second without some
pub data Left (X : Type 0) : List X → List X → Type 0 where
  done : Left X [] []
  out : {y : X} {xs ys : List X} → Left X xs ys → Left X xs (y ∷ ys)
  kept : {y : X} {xs ys : List X} → Left X xs ys → Left X (y ∷ xs) (y ∷ ys)

pub left-own : {X : Type 0} (xs : List X) → Left X xs xs
left-own [] = done
left-own (x ∷ xs) = kept (left-own xs)

left-choice : {X : Type 0} (b : Bool) (x : X) (xs ys : List X) → Left X xs ys → Left X (cond b (x ∷ xs) xs) (x ∷ ys)
left-choice true x xs ys left = kept left
left-choice false x xs ys left = out left

pub left-filter : {X : Type 0} (test : X → Bool) (xs : List X) → Left X (filter test xs) xs
left-filter test [] = done
left-filter test (x ∷ xs) = left-choice (test x) x (filter test xs) xs (left-filter test xs)

pub left-remove : {X : Type 0} (xs : List X) (place : ℕ) → Left X (remove xs place) xs
left-remove [] zero = done
left-remove [] (suc place) = done
left-remove (x ∷ xs) zero = out (left-own xs)
left-remove (x ∷ xs) (suc place) = kept (left-remove xs place)

pub left-both : {X : Type 0} {a b c d : List X} → Left X a b → Left X c d → Left X (a ++ c) (b ++ d)
left-both done second = second
left-both (out left) second = out (left-both left second)
left-both (kept left) second = kept (left-both left second)

pub left-length : {X : Type 0} {xs ys : List X} → Left X xs ys → length xs ≤ length ys
left-length done = omega arith
left-length (out left) = let rest = left-length left in omega (arith, rest)
left-length (kept left) = let rest = left-length left in omega (arith, rest)

pub left-all : {X : Type 0} (P : X → Type 0) {xs ys : List X} → Left X xs ys → AllByRecursion P ys → AllByRecursion P xs
left-all P done all = tt
left-all P (out left) all = left-all P left all.1
left-all P (kept left) all = (all.0, left-all P left all.1)

pub left-differ : {xs ys : List (List ℕ)} → Left (List ℕ) xs ys → Differ ys → Differ xs
left-differ done differ = tt
left-differ (out left) differ = left-differ left differ.1
left-differ (kept {y = y} left) differ = (left-all (λ other. same_name y other ≡ false) left differ.0, left-differ left differ.1)

-- ---- names of keys

out-name : (name : Option (List ℕ)) (xs ys : List (List ℕ)) → Left (List ℕ) xs ys → Left (List ℕ) xs (cons_option name ys)
out-name None xs ys left = left
out-name (Some name) xs ys left = out left

kept-name : (name : Option (List ℕ)) (xs ys : List (List ℕ)) → Left (List ℕ) xs ys → Left (List ℕ) (cons_option name xs) (cons_option name ys)
kept-name None xs ys left = left
kept-name (Some name) xs ys left = kept left

pub left-names : {xs ys : List Index} → Left Index xs ys → Left (List ℕ) (key_names xs) (key_names ys)
left-names done = done
left-names (out {y = y} left) = out-name y.name _ _ (left-names left)
left-names (kept {y = y} left) = kept-name y.name _ _ (left-names left)

-- keys whose places have changed have their names
pub after-names : (change : PlaceChange) (indexes : List Index) → key_names (keys_after change indexes) ≡ key_names indexes
unfolding index_after
after-names change [] = refl
after-names change (index ∷ indexes) = ap (λ (names : List (List ℕ)). cons_option index.name names) (after-names change indexes)

pub after-all : (P : Option (List ℕ) → Type 0) (change : PlaceChange) (indexes : List Index) → AllByRecursion (λ index. P index.name) indexes → AllByRecursion (λ index. P index.name) (keys_after change indexes)
unfolding index_after
after-all P change [] all = tt
after-all P change (index ∷ indexes) all = (all.0, after-all P change indexes all.1)

-- ---- the PRIMARY KEY in front

pub first-of : (indexes : List Index) → AllByRecursion HasName indexes → PrimaryStandsFirst indexes
first-of [] all = tt
first-of (index ∷ indexes) all = all.1

pub left-first : {xs ys : List Index} → Left Index xs ys → PrimaryStandsFirst ys → PrimaryStandsFirst xs
left-first done first = tt
left-first (out {xs = xs} left) first = first-of xs (left-all HasName left first)
left-first (kept left) first = left-all HasName left first
