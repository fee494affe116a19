-- Dealing a pass to each worker, one after another.
use Rattle.std.proofs.Common.{◌≡◌, ℕ, zero, suc, ◌+◌, ◌-◌, ◌<◌, ◌≤◌, List, [], ◌∷◌, ◌++◌, length, map, All, refl, sym, ap, ◌∙◌, arith, append_assoc}
use Rattle.std.proofs.lemmas.List.{length-map}
use Rattle.std.proofs.lemmas.List.Elements.{All-map}
use Rattle.run_desk.specs.declared.hand.Stage.TheVariants.{Rests}
use Rattle.run_desk.specs.declared.hand.Hand.{Hand}
use Rattle.run_desk.specs.Rule.{newcomer}
use Rattle.run_desk.specs.Turns.{TurnQueueView, PassView, numbers_from, first_pass, first_passes, IsPassOf}
use Rattle.run_desk.specs.Views.{worker_view, next, others}

-- the numbers from one on that is below the last
pub numbers_more : (first last : ℕ) → first < last → numbers_from first (last - first) ≡ first ∷ numbers_from (first + 1) (last - (first + 1))
numbers_more first last below = let e : last - first ≡ suc (last - (first + 1)) = omega arith in ap (numbers_from first) e

pub numbers_none : (first last : ℕ) → last ≤ first → numbers_from first (last - first) ≡ []
numbers_none first last past = let e : last - first ≡ 0 = omega arith in ap (numbers_from first) e

length-numbers_from : (first count : ℕ) → length (numbers_from first count) ≡ count
length-numbers_from first zero = refl
length-numbers_from first (suc count) = let e = length-numbers_from (first + 1) count in omega arith

module _ {O E : Type 0} where
  -- the seat that is dealt, and the seat that is left
  pub dealt_next : (o : O) (first last : ℕ) (view : List (Hand O E)) → first < last → view ≡ map (newcomer o) (numbers_from first (last - first)) → next view ≡ worker_view o [] first [] Rests
  dealt_next o first last view below is = ap next (is ∙ ap (map (newcomer o)) (numbers_more first last below))

  pub dealt_others : (o : O) (first last : ℕ) (view : List (Hand O E)) → first < last → view ≡ map (newcomer o) (numbers_from first (last - first)) → others view ≡ map (newcomer o) (numbers_from (first + 1) (last - (first + 1)))
  dealt_others o first last view below is = ap others (is ∙ ap (map (newcomer o)) (numbers_more first last below))

  -- the passes so far, with one more
  pub dealt_more : (turn_queue : TurnQueueView O) (first last : ℕ) (passes after : List (PassView O E)) (pass : PassView O E) → first < last → pass ≡ first_pass turn_queue first → after ≡ passes ++ pass ∷ []
      → passes ++ map (first_pass turn_queue) (numbers_from first (last - first)) ≡ first_passes turn_queue
      → after ++ map (first_pass turn_queue) (numbers_from (first + 1) (last - (first + 1))) ≡ first_passes turn_queue
  dealt_more turn_queue first last passes after pass below is more before =
      let rest = map (first_pass turn_queue) (numbers_from (first + 1) (last - (first + 1))) in
      ap (λ (l : List (PassView O E)). l ++ rest) more
      ∙ append_assoc passes (pass ∷ []) rest
      ∙ ap (λ (p : PassView O E). passes ++ p ∷ rest) is
      ∙ ap (λ (l : List ℕ). passes ++ map (first_pass turn_queue) l) (sym (numbers_more first last below))
      ∙ before

-- the first passes are as many as the workers, and each is the desk's
pub length-first_passes : {O : Type 0} (E : Type 0) (turn_queue : TurnQueueView O) → length (first_passes {O = O} {E = E} turn_queue) ≡ turn_queue.workers
length-first_passes {O} E turn_queue = length-map (numbers_from 0 turn_queue.workers) (first_pass {O = O} {E = E} turn_queue) ∙ length-numbers_from 0 turn_queue.workers

pub first_passes_ours : {O : Type 0} (E : Type 0) (turn_queue : TurnQueueView O) → All (IsPassOf {O = O} {E = E} turn_queue) (first_passes turn_queue)
first_passes_ours {O} E turn_queue = All-map (IsPassOf {O = O} {E = E} turn_queue) (first_pass turn_queue) (numbers_from 0 turn_queue.workers) (λ k d inside. (refl, refl))
