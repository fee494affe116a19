-- The first place of a list at which a test passes, by cases on the list.
use Rattle.std.proofs.Common.{◌≡◌, ℕ, zero, suc, ◌+◌, arith, Bool, true, false, List, ◌∷◌, length, Option, Some, None, cond, refl, ap, ◌∙◌, position}
use Rattle.std.proofs.lemmas.Bool.{lt-ltb, le-ltb, ltb-true, ltb-false}
use Rattle.std.specs.Prelude.{nat_lt}
use Rattle.std.specs.List.{position_or_len}
use Rattle.std.specs.Option.{option_map}

-- the first place of a list with one more item in front
later_at : (b : Bool) (m n : ℕ) → nat_lt m n ≡ b → cond (nat_lt (1 + m) (suc n)) (Some (1 + m)) None ≡ option_map (λ k. k + 1) (cond b (Some m) None)
later_at true m n is =
    let less : nat_lt (1 + m) (suc n) ≡ true = lt-ltb (1 + m) (suc n) (omega (arith, ltb-true m n is)) in
    let same : 1 + m ≡ m + 1 = omega arith in
    rw less (ap (λ k. Some k) same)
later_at false m n is =
    let not : nat_lt (1 + m) (suc n) ≡ false = le-ltb (1 + m) (suc n) (omega (arith, ltb-false m n is)) in
    rw not refl

first_at : {X : Type 0} (test : X → Bool) (x : X) (xs : List X) (b : Bool) → test x ≡ b → position test (x ∷ xs) ≡ cond b (Some zero) (option_map (λ k. k + 1) (position test xs))
first_at test x xs true is = let some : nat_lt 0 (suc (length xs)) ≡ true = lt-ltb 0 (suc (length xs)) (omega arith) in rw is (rw some refl)
first_at test x xs false is = rw is (later_at (nat_lt (position_or_len test xs) (length xs)) (position_or_len test xs) (length xs) refl)

pub first_place : {X : Type 0} (test : X → Bool) (x : X) (xs : List X) → position test (x ∷ xs) ≡ cond (test x) (Some zero) (option_map (λ k. k + 1) (position test xs))
first_place test x xs = first_at test x xs (test x) refl

pub some_place : (b : Bool) (more : Option ℕ) (place : ℕ) (P : Type 0) → cond b (Some zero) (option_map (λ k. k + 1) more) ≡ Some place → (b ≡ true → place ≡ zero → P) → (b ≡ false → (n : ℕ) → more ≡ Some n → place ≡ suc n → P) → P
some_place true more place P is here there = let e : place ≡ zero = cc in here refl e
some_place false None place P is here there = absurd (cc)
some_place false (Some n) place P is here there = let e : place ≡ n + 1 = cc in there refl n refl (e ∙ omega arith)

pub none_place : (b : Bool) (more : Option ℕ) (P : Type 0) → cond b (Some zero) (option_map (λ k. k + 1) more) ≡ None → (b ≡ false → more ≡ None → P) → P
none_place true more P is so = absurd (cc)
none_place false None P is so = so refl refl
none_place false (Some n) P is so = absurd (cc)
