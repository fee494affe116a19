-- Answers of earlier turns stay where the journal grows.
use Rattle.std.proofs.Common.{◌≡◌, ℕ, zero, suc, ◌+◌, ◌-◌, List, [], ◌∷◌, ◌++◌, length, Option, Some, None, refl, ap, ◌∙◌, arith}
use Rattle.std.specs.List.{slice_get}
use Rattle.server_model.specs.declared.answer.Answer.{Answer}
use Rattle.server_model.specs.declared.entry.Entry.{Entry}
use Rattle.server_model.specs.Entries.{answer_at, answer_of}

slice_more : {A : Type 0} (xs ys : List A) (i : ℕ) (x : A) → slice_get xs i ≡ Some x → slice_get (xs ++ ys) i ≡ Some x
slice_more [] ys i x e = absurd cc
slice_more (a ∷ xs) ys zero x e = e
slice_more (a ∷ xs) ys (suc i) x e = slice_more xs ys i x e

slice_here : {A : Type 0} (xs : List A) (x : A) → slice_get (xs ++ x ∷ []) (length xs) ≡ Some x
slice_here [] x = refl
slice_here (a ∷ xs) x = slice_here xs x

-- an answer stays
pub answer_more : (journal more : List Entry) (turn : ℕ) (answer : Answer) → answer_at journal turn ≡ Some answer → answer_at (journal ++ more) turn ≡ Some answer
unfolding answer_at
answer_more journal more turn answer e = by (slice_get journal (turn - 1)) refl e
  where
    by : (o : Option Entry) → slice_get journal (turn - 1) ≡ o → answer_of o ≡ Some answer → answer_of (slice_get (journal ++ more) (turn - 1)) ≡ Some answer
    by (Some entry) is reported = ap answer_of (slice_more journal more (turn - 1) entry is) ∙ reported
    by None is reported = absurd cc

-- the last turn's answer
pub answer_here : (journal : List Entry) (entry : Entry) → answer_at (journal ++ entry ∷ []) (length journal + 1) ≡ Some entry.answer
unfolding answer_at
answer_here journal entry = ap (λ (n : ℕ). answer_of (slice_get (journal ++ entry ∷ []) n)) (let e : (length journal + 1) - 1 ≡ length journal = omega arith in e) ∙ ap answer_of (slice_here journal entry)
