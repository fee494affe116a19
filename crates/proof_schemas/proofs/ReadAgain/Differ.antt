-- Names that differ: each is found at its own place.
use Rattle.std.proofs.Common.{◌≡◌, ℕ, zero, suc, ◌+◌, ◌<◌, true, false, not, ◌||◌, List, [], ◌∷◌, ◌++◌, length, Some, refl, sym, ap, subst, ◌∙◌, arith}
use Rattle.std.specs.List.{list_any, slice_get, position_or_len, AllByRecursion}
use Rattle.std.proofs.lemmas.Bool.{not-true, lt-ltb, and_parts, or_left, or_parts, or_right}
use Rattle.std.proofs.lemmas.List.Folds.{list_any-append}
use Rattle.std.proofs.lemmas.Option.{slice_get_within}
use Rattle.base_values.specs.GhoSchema.Names.{same_name}
use Rattle.base_values.specs.SchemaRules.Names.{is_among, differ_from, names_differ, place_of}
use Rattle.base_values.proofs.SchemaRules.Lists.{All-at, All-weaker}
use Rattle.base_values.proofs.SchemaRules.SameNames.{same_name-own, other_name-turned}

-- ---- pairs of names

-- each name differs from those behind it
abbrev pub Differ : List (List ℕ) → Type 0
Differ [] = Unit {0}
Differ (name ∷ names) = AllByRecursion (λ other. same_name name other ≡ false) names × Differ names

-- a name that is none of these and one more is none of these, and not that one
none-more : (before : List (List ℕ)) (name other : List ℕ) → is_among (before ++ name ∷ []) other ≡ false → (is_among before other ≡ false) × (same_name name other ≡ false)
unfolding is_among
none-more before name other e =
    let apart = sym (list_any-append (λ (known : List ℕ). same_name known other) before (name ∷ [])) ∙ e in
    let two = or_parts (list_any (λ (known : List ℕ). same_name known other) before) (same_name name other || false) apart in
    (two.0, (or_parts (same_name name other) false two.1).0)

more-none : (before : List (List ℕ)) (name other : List ℕ) → is_among before other ≡ false → same_name name other ≡ false → is_among (before ++ name ∷ []) other ≡ false
unfolding is_among
more-none before name other none differs =
    list_any-append (λ (known : List ℕ). same_name known other) before (name ∷ []) ∙ rw (none, differs) refl

record Parted (before names : List (List ℕ)) : Type 0 where
  pub others : AllByRecursion (λ name. is_among before name ≡ false) names
  pub differ : Differ names

differ_from-parted : (before names : List (List ℕ)) → differ_from before names ≡ true → Parted before names
unfolding differ_from
differ_from-parted before [] e = record { others = tt; differ = tt }
differ_from-parted before (name ∷ names) e =
    let two = and_parts (not (is_among before name)) (differ_from (before ++ name ∷ []) names) e in
    let rest = differ_from-parted (before ++ name ∷ []) names two.1 in
    record {
      others = (not-true (is_among before name) two.0, All-weaker (λ (other : List ℕ). is_among (before ++ name ∷ []) other ≡ false) (λ (other : List ℕ). is_among before other ≡ false) (λ other no. (none-more before name other no).0) names rest.others);
      differ = (All-weaker (λ (other : List ℕ). is_among (before ++ name ∷ []) other ≡ false) (λ (other : List ℕ). same_name name other ≡ false) (λ other no. (none-more before name other no).1) names rest.others, rest.differ);
    }

pub differ-parts : (names : List (List ℕ)) → names_differ names ≡ true → Differ names
differ-parts names e = (differ_from-parted [] names e).differ

-- ---- places

pub other-place : (names : List (List ℕ)) (i j : ℕ) (a b : List ℕ) → Differ names → slice_get names i ≡ Some a → slice_get names j ≡ Some b → (i ≡ j → ⊥) → same_name a b ≡ false
other-place [] i j a b differ at other ne = absurd cc
other-place (name ∷ names) zero zero a b differ at other ne = absurd (ne refl)
other-place (name ∷ names) zero (suc j) a b differ at other ne =
    let same : name ≡ a = cc in
    subst (λ (n : List ℕ). same_name n b ≡ false) same (All-at (λ (n : List ℕ). same_name name n ≡ false) names j b differ.0 other)
other-place (name ∷ names) (suc i) zero a b differ at other ne =
    let same : name ≡ b = cc in
    other_name-turned b a (subst (λ (n : List ℕ). same_name n a ≡ false) same (All-at (λ (n : List ℕ). same_name name n ≡ false) names i a differ.0 at))
other-place (name ∷ names) (suc i) (suc j) a b differ at other ne = other-place names i j a b differ.1 at other (λ e. ne (ap suc e))

first-place : (names : List (List ℕ)) (place : ℕ) (name : List ℕ) → Differ names → slice_get names place ≡ Some name → position_or_len (λ known. same_name known name) names ≡ place
first-place [] place name differ at = absurd cc
first-place (known ∷ names) zero name differ at =
    let same : known ≡ name = cc in
    let own : same_name known name ≡ true = subst (λ (n : List ℕ). same_name known n ≡ true) same (same_name-own known) in
    rw own refl
first-place (known ∷ names) (suc place) name differ at =
    let other : same_name known name ≡ false = All-at (λ (n : List ℕ). same_name known n ≡ false) names place name differ.0 at in
    let rest = first-place names place name differ.1 at in
    let one : 1 + place ≡ suc place = omega arith in
    rw (other, rest) one

pub place-own : (names : List (List ℕ)) (place : ℕ) (name : List ℕ) → Differ names → slice_get names place ≡ Some name → place_of names name ≡ Some place
unfolding place_of
place-own names place name differ at =
    let first = first-place names place name differ at in
    let less : position_or_len (λ known. same_name known name) names < length names = let here = slice_get_within names place name at in omega (arith, here, first) in
    rw (lt-ltb _ _ less) (ap (λ (n : ℕ). Some n) first)

-- a name that stands is among the names
pub among-own : (names : List (List ℕ)) (place : ℕ) (name : List ℕ) → slice_get names place ≡ Some name → is_among names name ≡ true
unfolding is_among
among-own [] place name at = absurd cc
among-own (known ∷ names) zero name at =
    let same : known ≡ name = cc in
    or_left (same_name known name) (list_any (λ known. same_name known name) names) (subst (λ (n : List ℕ). same_name known n ≡ true) same (same_name-own known))
among-own (known ∷ names) (suc place) name at = or_right (same_name known name) (list_any (λ known. same_name known name) names) (among-own names place name at)

-- ---- taken together again

both-none : (before : List (List ℕ)) (name : List ℕ) (names : List (List ℕ)) → AllByRecursion (λ other. is_among before other ≡ false) names → AllByRecursion (λ other. same_name name other ≡ false) names → AllByRecursion (λ other. is_among (before ++ name ∷ []) other ≡ false) names
both-none before name [] none differ = tt
both-none before name (other ∷ names) none differ = (more-none before name other none.0 differ.0, both-none before name names none.1 differ.1)

none-among : (names : List (List ℕ)) → AllByRecursion (λ name. is_among [] name ≡ false) names
unfolding is_among
none-among [] = tt
none-among (name ∷ names) = (refl, none-among names)

differ_from-is : (before names : List (List ℕ)) → AllByRecursion (λ name. is_among before name ≡ false) names → Differ names → differ_from before names ≡ true
unfolding differ_from
differ_from-is before [] others differ = refl
differ_from-is before (name ∷ names) others differ =
    let both_fail = both-none before name names others.1 differ.0 in
    rw (others.0, differ_from-is (before ++ name ∷ []) names both_fail differ.1) refl

pub differ-whole : (names : List (List ℕ)) → Differ names → names_differ names ≡ true
differ-whole names differ = differ_from-is [] names (none-among names) differ
