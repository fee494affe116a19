-- What a condition by key names: each place of a key once. Tests and facts of all places are those of the places that are named.
use Rattle.std.proofs.Common.{◌≡◌, ℕ, ◌+◌, ◌==◌, Bool, true, false, not, ◌&&◌, ◌||◌, cond, ltb, List, [], ◌∷◌, length, Some, None, refl, sym, ap, subst, ◌∙◌}
use Rattle.std.specs.Prelude.{position}
use Rattle.std.specs.List.{AllByRecursion, list_all, list_any, position_or_len}
use Rattle.std.proofs.lemmas.Bool.{and_parts, false≢true, or_right}
use Rattle.base_values.specs.declared.gho_schema.schema.Index.{Index}
use Rattle.server_model.specs.Checks.{are_distinct, has_columns}
use Rattle.server_model.proofs.LockedRows.Tests.{are_one, same_number}
use Rattle.tool_program.specs.EventApplier.Appliers.{each_once}

-- a place is named exactly where it is one of all
pub is_named : (place : ℕ) (places : List ℕ) → list_any (λ other. place == other) (each_once places) ≡ list_any (λ other. place == other) places
is_named place [] = refl
is_named place (first ∷ places) = by (list_any (λ other. first == other) places) refl (place == first) refl (is_named place places)
  where
    by : (again : Bool) → list_any (λ other. first == other) places ≡ again → (same : Bool) → (place == first) ≡ same → list_any (λ other. place == other) (each_once places) ≡ list_any (λ other. place == other) places
        → list_any (λ other. place == other) (cond (list_any (λ other. first == other) places) (each_once places) (first ∷ each_once places)) ≡ ((place == first) || list_any (λ other. place == other) places)
    by true twice true same rest =
        let among : list_any (λ other. place == other) places ≡ true = subst (λ (n : ℕ). list_any (λ other. n == other) places ≡ true) (sym (are_one place first same)) twice in
        rw (twice, same) (rest ∙ among)
    by true twice false same rest = rw (twice, same) rest
    by false one true same rest = rw (one, same) refl
    by false one false same rest = rw (one, same) rest

-- no place is named twice
pub named_once : (places : List ℕ) → are_distinct (each_once places) ≡ true
unfolding are_distinct
named_once [] = refl
named_once (first ∷ places) = by (list_any (λ other. first == other) places) refl (named_once places)
  where
    by : (again : Bool) → list_any (λ other. first == other) places ≡ again → are_distinct (each_once places) ≡ true → are_distinct (cond (list_any (λ other. first == other) places) (each_once places) (first ∷ each_once places)) ≡ true
    by true twice rest = rw twice rest
    by false one rest = let gone : list_any (λ other. first == other) (each_once places) ≡ false = is_named first places ∙ one in rw one (rw (gone, rest) refl)

-- what holds of all places holds of those that are named
pub all_named : (P : ℕ → Type 0) (places : List ℕ) → AllByRecursion P places → AllByRecursion P (each_once places)
all_named P [] all = tt
all_named P (first ∷ places) all = by (list_any (λ other. first == other) places) refl (all_named P places all.1)
  where
    by : (again : Bool) → list_any (λ other. first == other) places ≡ again → AllByRecursion P (each_once places) → AllByRecursion P (cond (list_any (λ other. first == other) places) (each_once places) (first ∷ each_once places))
    by true twice rest = subst (λ (b : Bool). AllByRecursion P (cond b (each_once places) (first ∷ each_once places))) (sym twice) rest
    by false one rest = subst (λ (b : Bool). AllByRecursion P (cond b (each_once places) (first ∷ each_once places))) (sym one) (all.0, rest)

-- each of these places is named, where each is one of all
each_named : (all places : List ℕ) → ((place : ℕ) → list_any (λ other. place == other) places ≡ true → list_any (λ other. place == other) all ≡ true) → AllByRecursion (λ place. list_any (λ other. place == other) (each_once all) ≡ true) places
each_named all [] within = tt
each_named all (first ∷ places) within =
    let here : ((first == first) || list_any (λ other. first == other) places) ≡ true = rw (same_number first) refl in
    (is_named first all ∙ within first here, each_named all places (λ place is. within place (or_right (place == first) (list_any (λ other. place == other) places) is)))

pub own_named : (places : List ℕ) → AllByRecursion (λ place. list_any (λ other. place == other) (each_once places) ≡ true) places
own_named places = each_named places places (λ place is. is)

-- a test that all places pass, one of them passes
member_passes : (test : ℕ → Bool) (place : ℕ) (places : List ℕ) → list_any (λ other. place == other) places ≡ true → list_all test places ≡ true → test place ≡ true
member_passes test place [] is all = absurd (false≢true is)
member_passes test place (first ∷ places) is all = by (place == first) refl is (member_passes test place places)
  where
    by : (same : Bool) → (place == first) ≡ same → (same || list_any (λ other. place == other) places) ≡ true → (list_any (λ other. place == other) places ≡ true → list_all test places ≡ true → test place ≡ true) → test place ≡ true
    by true same any rest = ap test (are_one place first same) ∙ (and_parts (test first) (list_all test places) all).0
    by false same any rest = rest any (and_parts (test first) (list_all test places) all).1

and_false : (b : Bool) → (b && false) ≡ false
and_false true = refl
and_false false = refl

-- a test passes all places exactly where it passes those that are named
pub all_pass : (test : ℕ → Bool) (places : List ℕ) → list_all test (each_once places) ≡ list_all test places
all_pass test [] = refl
all_pass test (first ∷ places) = by (list_any (λ other. first == other) places) refl (list_all test places) refl (all_pass test places)
  where
    by : (again : Bool) → list_any (λ other. first == other) places ≡ again → (pass : Bool) → list_all test places ≡ pass → list_all test (each_once places) ≡ list_all test places
        → list_all test (cond (list_any (λ other. first == other) places) (each_once places) (first ∷ each_once places)) ≡ (test first && list_all test places)
    by true twice true pass rest = rw twice (rest ∙ pass ∙ sym (let one : test first ≡ true = member_passes test first places twice pass in rw (one, pass) refl))
    by true twice false pass rest = rw twice (rest ∙ pass ∙ sym (ap (λ (b : Bool). test first && b) pass ∙ and_false (test first)))
    by false one pass is rest = rw one (ap (λ (b : Bool). test first && b) rest)

all_alike : (test other : ℕ → Bool) → ((place : ℕ) → test place ≡ other place) → (places : List ℕ) → list_all test places ≡ list_all other places
all_alike test other alike [] = refl
all_alike test other alike (place ∷ places) = ap (λ (b : Bool). b && list_all test places) (alike place) ∙ ap (λ (b : Bool). other place && b) (all_alike test other alike places)

-- a key has just the columns at all places where it has just those that are named
pub same_columns : (places : List ℕ) (index : Index) → has_columns (each_once places) index ≡ has_columns places index
same_columns places index =
    ap (λ (b : Bool). b && list_all (λ place. list_any (λ other. place == other) index.places) (each_once places)) (all_alike (λ place. list_any (λ other. place == other) (each_once places)) (λ place. list_any (λ other. place == other) places) (λ place. is_named place places) index.places)
    ∙ ap (λ (b : Bool). list_all (λ place. list_any (λ other. place == other) places) index.places && b) (all_pass (λ place. list_any (λ other. place == other) index.places) places)

first_alike : {X : Type 0} (test other : X → Bool) → ((x : X) → test x ≡ other x) → (xs : List X) → position_or_len test xs ≡ position_or_len other xs
first_alike test other alike [] = refl
first_alike test other alike (x ∷ xs) = ap (λ (b : Bool). cond (not b) (1 + position_or_len test xs) 0) (alike x) ∙ ap (λ (n : ℕ). cond (not (other x)) (1 + n) 0) (first_alike test other alike xs)

-- two tests that agree find the same place
pub same_position : {X : Type 0} (test other : X → Bool) → ((x : X) → test x ≡ other x) → (xs : List X) → position test xs ≡ position other xs
same_position test other alike xs = ap (λ (n : ℕ). cond (ltb n (length xs)) (Some n) None) (first_alike test other alike xs)
