-- What holds of all items holds of two lists in one, and of those that are kept.
use Rattle.std.proofs.Common.{Bool, true, false, cond, List, [], ◌∷◌, ◌++◌, filter}
use Rattle.std.specs.List.{AllByRecursion}

pub both : {X : Type 0} (P : X → Type 0) (xs ys : List X) → AllByRecursion P xs → AllByRecursion P ys → AllByRecursion P (xs ++ ys)
both P [] ys p q = q
both P (x ∷ xs) ys p q = (p.0, both P xs ys p.1 q)

kept_if : {X : Type 0} (P : X → Type 0) (passes : Bool) (x : X) (xs : List X) → P x → AllByRecursion P xs → AllByRecursion P (cond passes (x ∷ xs) xs)
kept_if P true x xs p ps = (p, ps)
kept_if P false x xs p ps = ps

pub kept : {X : Type 0} (P : X → Type 0) (passes : X → Bool) (xs : List X) → AllByRecursion P xs → AllByRecursion P (filter passes xs)
kept P passes [] p = tt
kept P passes (x ∷ xs) p = kept_if P (passes x) x (filter passes xs) p.0 (kept P passes xs p.1)
