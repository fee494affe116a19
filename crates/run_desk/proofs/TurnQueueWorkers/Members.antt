-- The workers of a desk's passes, and of the turns in its list.
use Rattle.std.proofs.Common.{◌≡◌, ◌<◌, ℕ, zero, suc, ◌+◌, List, [], ◌∷◌, ◌++◌, length, map, get_or, refl, sym, ap, ◌∙◌, subst, arith}
use Rattle.std.specs.Prelude.{Bool, true}
use Rattle.std.specs.List.{All, Any, Contains}
use Rattle.std.proofs.lemmas.List.{get_or-map, length-map}
use Rattle.std.proofs.lemmas.List.Elements.{All-nil, All-cons, All-map, All-contains, All-weaker, All-get_or}
use Rattle.run_desk.specs.declared.shared_state.Entry.{Entry}
use Rattle.run_desk.specs.Turns.{StartsWith, numbers_from, TurnQueueView, PassView, IsPassOf, first_pass, first_passes, TurnQueueList}
use Rattle.run_desk.specs.TurnQueueWorkers.Members.{HasStopped, IsMember}

module _ {O E : Type 0} where
  numbered : (turn_queue : TurnQueueView O) (first count : ℕ) → (first + count ≡ turn_queue.workers) → All (IsMember {O = O} {E = E} turn_queue) (map (first_pass turn_queue) (numbers_from first count))
  numbered turn_queue first zero sum = All-nil (IsMember turn_queue)
  numbered turn_queue first (suc count) sum =
      let less : first < turn_queue.workers = omega (arith, sum) in
      let rest : first + 1 + count ≡ turn_queue.workers = omega (arith, sum) in
      All-cons (IsMember turn_queue) (first_pass turn_queue first) (map (first_pass turn_queue) (numbers_from (first + 1) count)) ((refl, refl), less) (numbered turn_queue (first + 1) count rest)

  -- the passes that a desk gives are its workers'
  pub first_members : (turn_queue : TurnQueueView O) (passes : List (PassView O E)) → passes ≡ first_passes turn_queue → All (IsMember turn_queue) passes
  first_members turn_queue passes are = let sum : 0 + turn_queue.workers ≡ turn_queue.workers = omega arith in subst (All (IsMember turn_queue)) (sym are) (numbered turn_queue 0 turn_queue.workers sum)

  -- each turn of its list is one of theirs
  pub turns_below : (turn_queue : TurnQueueView O) (entries : List (Entry E)) (passes : List (PassView O E)) → All (IsMember turn_queue) passes → TurnQueueList entries passes → All (λ entry. entry.worker < turn_queue.workers) entries
  turns_below turn_queue entries passes members list =
      let below : All (λ (worker : ℕ). worker < turn_queue.workers) (map (λ (pass : PassView O E). pass.worker) passes) =
      All-map (λ (worker : ℕ). worker < turn_queue.workers) (λ (pass : PassView O E). pass.worker) passes (All-weaker (IsMember turn_queue) (λ (pass : PassView O E). pass.worker < turn_queue.workers) (λ pass is. is.1) passes members) in
      All-weaker (λ (entry : Entry E). Contains (map (λ (pass : PassView O E). pass.worker) passes) entry.worker) (λ (entry : Entry E). entry.worker < turn_queue.workers)
      (λ entry is. All-contains (λ (worker : ℕ). worker < turn_queue.workers) (map (λ (pass : PassView O E). pass.worker) passes) entry.worker below is) entries list.no_others

  module _ {W : Type 0} (pass_in : W → PassView O E) where
    -- what holds of the passes holds of the workers who have them
    pub of_workers : (P : PassView O E → Type 0) (workers : List W) (passes : List (PassView O E)) → map pass_in workers ≡ passes → All P passes → All (λ worker. P (pass_in worker)) workers
    of_workers P workers passes are all = λ k d below.
        let inside : k < length (map pass_in workers) = let e = length-map workers pass_in in omega (arith, e, below) in
        subst P (get_or-map pass_in workers k d (pass_in d) below) (All-get_or P (map pass_in workers) k (pass_in d) inside (subst (All P) (sym are) all))

    -- where a worker found the book over, it is over at the end
    pub over_found : (is_over : List (Entry E) → Type 0) (stays : (before after : List (Entry E)) → is_over before → is_over (before ++ after)) (finds_end : W → Bool) (workers : List W) (passes : List (PassView O E)) (entries : List (Entry E)) → passes ≡ map pass_in workers
        → All (λ worker. HasStopped is_over (finds_end worker) (pass_in worker)) workers → TurnQueueList entries passes → Any (λ worker. finds_end worker ≡ true) workers → is_over entries
    over_found is_over stays finds_end workers passes entries are stopped list found =
        let k = found.0 in
        let worker = found.1 in
        let below = found.2 in
        let at = found.3 in
        let over = found.4 in
        let has : HasStopped is_over (finds_end worker) (pass_in worker) = subst (λ (one : W). HasStopped is_over (finds_end one) (pass_in one)) at (stopped k worker below) in
        let was : is_over (pass_in worker).seen = subst (λ (found : Bool). HasStopped is_over found (pass_in worker)) over has in
        let front : StartsWith entries (pass_in worker).seen = subst (λ (one : W). StartsWith entries (pass_in one).seen) at (of_workers (λ (pass : PassView O E). StartsWith entries pass.seen) workers passes (sym are) list.seen k worker below) in
        subst is_over (sym front.1) (stays (pass_in worker).seen front.0 was)
