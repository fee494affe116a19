-- What holds of the items of a list so far.
use Rattle.std.proofs.Common.{◌≡◌, ℕ, zero, suc, ◌+◌, ◌<◌, ◌≤◌, List, [], ◌∷◌, ◌++◌, length, take, get_or, subst, sym, ap, ◌∙◌, arith, append_assoc}
use Rattle.std.specs.List.{AllByRecursion}
use Rattle.std.proofs.lemmas.List.{take_all, take_more}
use Rattle.base_values.proofs.SchemaRules.Lists.{All-append}

-- of one more
pub all_more : {X : Type 0} (P : X → Type 0) (xs : List X) (i : ℕ) (x : X) → i < length xs → x ≡ get_or xs i x → AllByRecursion P (take i xs) → P x → AllByRecursion P (take (i + 1) xs)
all_more {X} P xs i x within is so here = subst (λ (all : List X). AllByRecursion P all) (sym (take_more xs i x within ∙ ap (λ (one : X). take i xs ++ one ∷ []) (sym is))) (All-append P (take i xs) (x ∷ []) so (here, tt))

-- a list with the items of another so far, with one more
pub pushed_more : {X : Type 0} (front so : List X) (xs : List X) (i : ℕ) (x : X) → i < length xs → x ≡ get_or xs i x → so ≡ front ++ take i xs → so ++ x ∷ [] ≡ front ++ take (i + 1) xs
pushed_more {X} front so xs i x within is far =
    ap (λ (list : List X). list ++ x ∷ []) far
    ∙ append_assoc front (take i xs) (x ∷ [])
    ∙ ap (λ (one : X). front ++ (take i xs ++ one ∷ [])) is
    ∙ ap (λ (list : List X). front ++ list) (sym (take_more xs i x within))

-- ... with all of them
pub taken_whole : {X : Type 0} (front : List X) (xs : List X) (i : ℕ) → length xs ≤ i → front ++ take i xs ≡ front ++ xs
taken_whole {X} front xs i past = ap (λ (list : List X). front ++ list) (take_all i xs past)

-- of one of all
pub all_at : {X : Type 0} (P : X → Type 0) (xs : List X) (i : ℕ) (x : X) → i < length xs → x ≡ get_or xs i x → AllByRecursion P xs → P x
all_at P [] i x within is all = absurd (omega arith)
all_at P (first ∷ xs) zero x within is all = subst P (sym is) all.0
all_at P (first ∷ xs) (suc i) x within is all = all_at P xs i x (omega arith) is all.1

-- of all
pub all_whole : {X : Type 0} (P : X → Type 0) (xs : List X) (i : ℕ) → length xs ≤ i → AllByRecursion P (take i xs) → AllByRecursion P xs
all_whole {X} P xs i past so = subst (λ (all : List X). AllByRecursion P all) (take_all i xs past) so
