-- The places of keys are places of columns after a change as before.
use Rattle.std.proofs.Common.{◌≡◌, ℕ, ◌+◌, ◌-◌, ◌<◌, ◌≤◌, Bool, true, false, cond, eqb, ltb, List, Some, None, ◌≢◌, refl, sym, subst, arith, false-eqb}
use Rattle.std.specs.List.{AllByRecursion}
use Rattle.std.proofs.lemmas.Bool.{ltb-true, ltb-false}
use Rattle.base_values.specs.declared.gho_schema.schema.Index.{Index}
use Rattle.sql_change.specs.declared.places.PlaceChange.{PlaceChange}
use Rattle.sql_change.specs.declared.places.PlaceChange.TheVariants.{Added, Dropped, Moved}
use Rattle.base_values.proofs.SchemaRules.Lists.{All-filter_map, All-map, All-filter}
use Rattle.base_values.proofs.SchemaRules.Steps.{some_is}
use Rattle.sql_change.specs.Places.{opened, closed, place_after, index_after, has_places, keys_after, indexes_after, ArePlaces, IsChangeOf}

opened-within : (at place count : ℕ) (b : Bool) → place < count → cond b place (place + 1) < count + 1
opened-within at place count true lt = omega arith
opened-within at place count false lt = omega arith

closed-within : (at place count : ℕ) (b : Bool) → ltb at place ≡ b → at < count → place < count → eqb place at ≡ false → cond b (place - 1) place + 1 < count
closed-within at place count true e within lt other = let less : at < place = ltb-true at place e in omega arith
closed-within at place count false e within lt other =
    let le : place ≤ at = ltb-false at place e in
    let ne : place ≢ at = false-eqb place at (sym other) in
    omega arith

-- how many columns there are after the change
abbrev pub count_after : PlaceChange → ℕ → ℕ
count_after (Added at) count = count + 1
count_after (Dropped at) count = count - 1
count_after (Moved from to) count = count

dropped-within : (at place count after : ℕ) (b : Bool) → eqb place at ≡ b → at < count → place < count → cond b None (Some (closed at place)) ≡ Some after → after < count - 1
dropped-within at place count after true e within lt h = absurd cc
dropped-within at place count after false e within lt h =
    let is : closed at place ≡ after = some_is (closed at place) after h in
    let less : closed at place + 1 < count = closed-within at place count (ltb at place) refl within lt e in
    omega arith

moved-within : (from to place count : ℕ) (b : Bool) → eqb place from ≡ b → from < count → to < count → place < count → cond b to (opened to (closed from place)) < count
moved-within from to place count true e from_within to_within lt = to_within
moved-within from to place count false e from_within to_within lt =
    let less : closed from place + 1 < count = closed-within from place count (ltb from place) refl from_within lt e in
    let more : opened to (closed from place) < closed from place + 1 + 1 = opened-within to (closed from place) (closed from place + 1) (ltb (closed from place) to) (omega arith) in
    omega arith

-- a place of columns is one of them after the change, where it stands then
pub place_after-within : (change : PlaceChange) (count place after : ℕ) → IsChangeOf count change → place < count → place_after change place ≡ Some after → after < count_after change count
unfolding place_after
place_after-within (Added at) count place after within lt e = let is = some_is (opened at place) after e in subst (λ (n : ℕ). n < count + 1) is (opened-within at place count (ltb place at) lt)
place_after-within (Dropped at) count place after within lt e = dropped-within at place count after (eqb place at) refl within lt e
place_after-within (Moved from to) count place after within lt e = let is = some_is (cond (eqb place from) to (opened to (closed from place))) after e in subst (λ (n : ℕ). n < count) is (moved-within from to place count (eqb place from) refl within.0 within.1 lt)

index_after-within : (change : PlaceChange) (count : ℕ) (index : Index) → IsChangeOf count change → AllByRecursion (λ place. place < count) index.places → AllByRecursion (λ place. place < count_after change count) (index_after change index).places
unfolding index_after
index_after-within change count index within all = All-filter_map (λ (place : ℕ). place < count) (λ (place : ℕ). place < count_after change count) (place_after change) (λ place after lt e. place_after-within change count place after within lt e) index.places all

pub keys_after-within : (change : PlaceChange) (count : ℕ) (indexes : List Index) → IsChangeOf count change → ArePlaces count indexes → ArePlaces (count_after change count) (keys_after change indexes)
keys_after-within change count indexes within all =
    All-map (λ (index : Index). AllByRecursion (λ place. place < count) index.places) (λ (index : Index). AllByRecursion (λ place. place < count_after change count) index.places) (index_after change) (λ index one. index_after-within change count index within one) indexes all

pub indexes_after-within : (change : PlaceChange) (count : ℕ) (indexes : List Index) → IsChangeOf count change → ArePlaces count indexes → ArePlaces (count_after change count) (indexes_after change indexes)
indexes_after-within change count indexes within all =
    All-filter (λ (index : Index). AllByRecursion (λ place. place < count_after change count) index.places) has_places (keys_after change indexes) (keys_after-within change count indexes within all)
