-- The least of some turns.
use Rattle.std.proofs.Common.{◌≡◌, ℕ, List, [], ◌∷◌, ◌++◌, Option, Some, None, refl, sym, ap, ◌∙◌, append-nil, arith}
use Rattle.std.specs.Prelude.{min, option_to_list}
use Rattle.run_audit.specs.Audits.{least, least_with}
use Rattle.run_judge.specs.Leasts.{lesser}

min_swap : (a b c : ℕ) → min a (min b c) ≡ min b (min a c)
min_swap a b c = omega arith

min_turn : (a b : ℕ) → min a b ≡ min b a
min_turn a b = omega arith

min_group : (a b c : ℕ) → min a (min b c) ≡ min (min a b) c
min_group a b c = omega arith

swap : (a b : ℕ) (other : Option ℕ) → least_with a (least_with b other) ≡ least_with b (least_with a other)
swap a b None = ap (λ (n : ℕ). Some n) (min_turn a b)
swap a b (Some c) = ap (λ (n : ℕ). Some n) (min_swap a b c)

-- one of them may as well come last
pub least-moved : (turn : ℕ) (turns : List ℕ) (last : Option ℕ) → least_with turn (least (turns ++ option_to_list last)) ≡ least (turns ++ option_to_list (least_with turn last))
unfolding least
least-moved turn [] None = refl
least-moved turn [] (Some other) = refl
least-moved turn (first ∷ turns) last = swap turn first (least (turns ++ option_to_list last)) ∙ ap (least_with first) (least-moved turn turns last)

-- ---- the lesser of two

pub lesser-swap : (a b : Option ℕ) → lesser a b ≡ lesser b a
lesser-swap None None = refl
lesser-swap None (Some y) = refl
lesser-swap (Some x) None = refl
lesser-swap (Some x) (Some y) = ap (λ (n : ℕ). Some n) (min_turn x y)

least_lesser : (x : ℕ) (a b : Option ℕ) → least_with x (lesser a b) ≡ lesser (least_with x a) b
least_lesser x None b = refl
least_lesser x (Some y) None = refl
least_lesser x (Some y) (Some z) = ap (λ (n : ℕ). Some n) (min_group x y z)

pub lesser-group : (a b c : Option ℕ) → lesser (lesser a b) c ≡ lesser a (lesser b c)
lesser-group None b c = refl
lesser-group (Some x) b c = sym (least_lesser x b c)

-- the least of two lists
pub least-append : (xs ys : List ℕ) → least (xs ++ ys) ≡ lesser (least xs) (least ys)
unfolding least
least-append [] ys = refl
least-append (x ∷ xs) ys = ap (least_with x) (least-append xs ys) ∙ least_lesser x (least xs) (least ys)

pub least-option : (a : Option ℕ) → least (option_to_list a) ≡ a
unfolding least
least-option None = refl
least-option (Some x) = refl

pub least-one : (turn : ℕ) → least (turn ∷ []) ≡ Some turn
unfolding least
least-one turn = refl

pub least-nil : least [] ≡ None
unfolding least
least-nil = refl

-- those that come later may as well come first
pub least_turned : (xs ys : List ℕ) → least (xs ++ (ys ++ [])) ≡ least (ys ++ option_to_list (least xs))
least_turned xs ys =
    ap (λ (all : List ℕ). least (xs ++ all)) (append-nil ys) ∙ least-append xs ys ∙ lesser-swap (least xs) (least ys) ∙ ap (lesser (least ys)) (sym (least-option (least xs))) ∙ sym (least-append ys (option_to_list (least xs)))

pub least_more : (xs : List ℕ) (turn : ℕ) → least (xs ++ turn ∷ []) ≡ least_with turn (least xs)
least_more xs turn = least-append xs (turn ∷ []) ∙ lesser-swap (least xs) (least (turn ∷ [])) ∙ ap (λ (one : Option ℕ). lesser one (least xs)) (least-one turn)
