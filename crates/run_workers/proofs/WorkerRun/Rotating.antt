-- From which place a worker's rotation goes on behind a turn.
use Rattle.std.proofs.Common.{◌≡◌, ◌≢◌, ◌<◌, ◌≤◌, ℕ, ◌+◌, ◌==◌, ◌%◌, Bool, true, false, ◌&&◌, not, List, [], ◌∷◌, ◌++◌, drop, length, set, replicate, cond, Option, Some, None, refl, sym, ap, ◌∙◌, subst, arith}
use Rattle.std.specs.Prelude.{slice_index, nat_lt}
use Rattle.std.specs.List.{slice_get}
use Rattle.std.proofs.lemmas.Bool.{true≢false}
use Rattle.std.proofs.Math.Seq.{drop-length}
use Rattle.std.proofs.lemmas.Bool.Decides.{nat_tests}
use Rattle.std.proofs.lemmas.Nat.{mod_below}
use Rattle.std.proofs.lemmas.List.{get_or-set_same, get_or-set_other, get_or-replicate, get_or_past, length-replicate, length-set}
use Rattle.std.proofs.lemmas.List.Sums.{fold-append}
use Rattle.base_script.specs.declared.actor.Actor.{Actor}
use Rattle.server_model.specs.Entries.{is_cut}
use Rattle.plan_data.specs.PlanData.{PlanData}
use Rattle.server_model.proofs.LockedRows.Tests.{same_number, are_one}
use Rattle.tool_program.specs.Orders.{actors, owned_from, owned, is_among, following, Paired, taken_after, last_taken}
use Rattle.run_workers.specs.declared.worker_run.members.Member.{Member}
use Rattle.run_workers.specs.WorkerRun.Workers.{GoesOnFrom, places_after}
use Rattle.run_workers.proofs.WorkerRun.ActorStates.{actors_apart}
use Rattle.run_workers.proofs.WorkerRun.Owning.{after_place}
use Rattle.run_workers.proofs.WorkerRun.Waiting.{owned_place}

-- what is taken last behind one turn more
pub last_more : (worker : ℕ) (own : List Actor) (pairs : List Paired) (pair : Paired) → last_taken worker own (pairs ++ pair ∷ []) ≡ taken_after worker own (last_taken worker own pairs) pair
unfolding last_taken
last_more worker own pairs pair = fold-append (taken_after worker own) None pairs (pair ∷ [])

-- BEFORE ANY TURN

none_taken : (worker : ℕ) (own : List Actor) → last_taken worker own [] ≡ None
unfolding last_taken
none_taken worker own = refl

none_owned_of : (count worker place : ℕ) → owned_from count worker place [] ≡ []
unfolding owned_from
none_owned_of count worker place = refl

none_after : (actor : Actor) → following actor [] ≡ []
unfolding following
none_after actor = refl

-- a worker beyond those that there are owns nobody
no_own : (count worker place : ℕ) (all : List Actor) → 0 < count → count ≤ worker → owned_from count worker place all ≡ []
unfolding owned_from
no_own count worker place [] some beyond = refl
no_own count worker place (first ∷ all) some beyond = by (place % count == worker) refl (no_own count worker (place + 1) all some beyond)
  where
    by : (b : Bool) → (place % count == worker) ≡ b → owned_from count worker (place + 1) all ≡ [] → cond b (first ∷ owned_from count worker (place + 1) all) (owned_from count worker (place + 1) all) ≡ []
    by true same none = let one : place % count ≡ worker = are_one (place % count) worker same in let less : place % count < count = mod_below place count some in absurd (omega (arith, one, less, beyond))
    by false differ none = none

stranger : (plan : PlanData) (count worker : ℕ) (last : Option Actor) → 0 < count → count ≤ worker → GoesOnFrom plan count worker 0 last
stranger plan count worker None some beyond = sym (no_own count worker 0 (actors plan) some beyond)
stranger plan count worker (Some actor) some beyond = let none : owned plan count worker ≡ [] = no_own count worker 0 (actors plan) some beyond in ap (following actor) none ∙ none_after actor ∙ sym none

at_end : (plan : PlanData) (count worker place : ℕ) (last : Option Actor) → last ≡ None → place ≡ length (actors plan) → GoesOnFrom plan count worker place last
at_end plan count worker place None none is = sym (ap (λ (n : ℕ). owned_from count worker place (drop n (actors plan))) is ∙ ap (owned_from count worker place) (drop-length (actors plan)) ∙ none_owned_of count worker place)
at_end plan count worker place (Some actor) none is = absurd (cc)

-- each rotation begins with the first
pub begins_at : (plan : PlanData) (count worker : ℕ) (places : List ℕ) → 0 < count → places ≡ replicate count (length (actors plan)) → GoesOnFrom plan count worker (slice_index places worker) (last_taken worker (owned plan count worker) [])
begins_at plan count worker places some are = subst (λ (all : List ℕ). GoesOnFrom plan count worker (slice_index all worker) (last_taken worker (owned plan count worker) [])) (sym are) (by (nat_lt worker count) refl)
  where
    end : ℕ
    end = length (actors plan)

    by : (b : Bool) → nat_lt worker count ≡ b → GoesOnFrom plan count worker (slice_index (replicate count end) worker) (last_taken worker (owned plan count worker) [])
    by true less =
        let within : worker < count = grind (arith, nat_tests, less) in at_end plan count worker (slice_index (replicate count end) worker) (last_taken worker (owned plan count worker) []) (none_taken worker (owned plan count worker)) (get_or-replicate count worker end 0 within)
    by false more =
        let beyond : count ≤ worker = grind (arith, nat_tests, more) in
        let same : length (replicate count end) ≡ count = length-replicate count end in
        let past : length (replicate count end) ≤ worker = omega (arith, same, beyond) in
        subst (λ (n : ℕ). GoesOnFrom plan count worker n (last_taken worker (owned plan count worker) [])) (sym (get_or_past (replicate count end) worker 0 past)) (stranger plan count worker (last_taken worker (owned plan count worker) []) some beyond)

-- BEHIND A TURN

-- the workers' places are as many as they were
pub length-places_after : (places : List ℕ) (member : Member) (place : ℕ) (cut : Bool) → length (places_after places member place cut) ≡ length places
length-places_after places member place true = refl
length-places_after places member place false = own (place % member.workers == member.worker)
  where
    own : (b : Bool) → length (cond b (set places member.worker (place + 1)) places) ≡ length places
    own true = length-set places member.worker (place + 1)
    own false = refl

module _ (plan : PlanData) (count taker place : ℕ) (actor : Actor) (places : List ℕ) (is : slice_get (actors plan) place ≡ Some actor) (there : (place % count == taker) ≡ true → taker < length places) where
  abbrev member : Member
  member = record { workers = count; worker = taker }

  -- behind an own turn
  own_after : (place % count == taker) ≡ true → GoesOnFrom plan count taker (slice_index (set places taker (place + 1)) taker) (Some actor)
  own_after own =
      let same : 0 + place ≡ place = omega arith in
      after_place count taker 0 place actor (actors plan) (actors_apart plan) is (ap (λ (n : ℕ). n % count == taker) same ∙ own)
      ∙ ap (λ (n : ℕ). owned_from count taker (n + 1) (drop (place + 1) (actors plan))) same
      ∙ sym (ap (λ (n : ℕ). owned_from count taker n (drop n (actors plan))) (get_or-set_same places taker (place + 1) 0 (there own)))

  own_turn : (last : Option Actor) (other : Actor) → other ≡ actor → GoesOnFrom plan count taker (slice_index places taker) last
      → GoesOnFrom plan count taker (slice_index (places_after places member place false) taker) (cond (is_among other (owned plan count taker)) (Some other) last)
  own_turn last other same old = by (place % count == taker) refl (ap (λ (a : Actor). is_among a (owned plan count taker)) same ∙ owned_place plan count taker place actor is)
    where
      by : (own : Bool) → (place % count == taker) ≡ own → is_among other (owned plan count taker) ≡ (place % count == taker)
          → GoesOnFrom plan count taker (slice_index (cond own (set places taker (place + 1)) places) taker) (cond (is_among other (owned plan count taker)) (Some other) last)
      by true own among =
          subst (λ (b : Bool). GoesOnFrom plan count taker (slice_index (set places taker (place + 1)) taker) (cond b (Some other) last)) (sym (among ∙ own))
          (subst (λ (a : Actor). GoesOnFrom plan count taker (slice_index (set places taker (place + 1)) taker) (Some a)) (sym same) (own_after own))
      by false none among = subst (λ (b : Bool). GoesOnFrom plan count taker (slice_index places taker) (cond b (Some other) last)) (sym (among ∙ none)) old

  -- other workers' rotations stay
  others_stay : (worker : ℕ) → worker ≢ taker → slice_index (places_after places member place false) worker ≡ slice_index places worker
  others_stay worker differ = by (place % count == taker)
    where
      by : (own : Bool) → slice_index (cond own (set places taker (place + 1)) places) worker ≡ slice_index places worker
      by true = get_or-set_other places taker worker (place + 1) 0 differ
      by false = refl

  and_none : (a : Bool) (c : Bool) → (a && not true && c) ≡ false
  and_none true c = refl
  and_none false c = refl

  and_some : (c : Bool) → (true && not false && c) ≡ c
  and_some c = refl

  -- *Rotated*: behind the turn each worker's rotation goes on from its place
  pub rotated : (worker : ℕ) (last : Option Actor) (pair : Paired) (cut : Bool) → pair.0.worker ≡ taker → is_cut pair.1.asked ≡ cut → (cut ≡ false → pair.0.actor ≡ actor) → GoesOnFrom plan count worker (slice_index places worker) last
      → GoesOnFrom plan count worker (slice_index (places_after places member place cut) worker) (taken_after worker (owned plan count worker) last pair)
  rotated worker last pair true took cuts own old =
      subst (λ (b : Bool). GoesOnFrom plan count worker (slice_index places worker) (cond b (Some pair.0.actor) last))
      (sym (ap (λ (c : Bool). pair.0.worker == worker && not c && is_among pair.0.actor (owned plan count worker)) cuts ∙ and_none (pair.0.worker == worker) (is_among pair.0.actor (owned plan count worker)))) old
  rotated worker last pair false took uncut own old = by (taker == worker) refl
    where
      test : (b : Bool) → (taker == worker) ≡ b → (pair.0.worker == worker && not (is_cut pair.1.asked) && is_among pair.0.actor (owned plan count worker)) ≡ (b && not false && is_among pair.0.actor (owned plan count worker))
      test b same = ap (λ (c : Bool). pair.0.worker == worker && not c && is_among pair.0.actor (owned plan count worker)) uncut ∙ ap (λ (c : Bool). c && not false && is_among pair.0.actor (owned plan count worker)) (ap (λ (n : ℕ). n == worker) took ∙ same)

      mine : taker ≡ worker → GoesOnFrom plan count worker (slice_index (places_after places member place false) worker) (cond (is_among pair.0.actor (owned plan count worker)) (Some pair.0.actor) last)
      mine same =
          subst (λ (n : ℕ). GoesOnFrom plan count n (slice_index (places_after places member place false) n) (cond (is_among pair.0.actor (owned plan count n)) (Some pair.0.actor) last)) same
          (own_turn last pair.0.actor (own refl) (subst (λ (n : ℕ). GoesOnFrom plan count n (slice_index places n) last) (sym same) old))

      apart : (taker == worker) ≡ false → worker ≢ taker
      apart differ same = true≢false (sym (same_number taker) ∙ ap (λ (n : ℕ). taker == n) (sym same) ∙ differ)

      by : (b : Bool) → (taker == worker) ≡ b → GoesOnFrom plan count worker (slice_index (places_after places member place false) worker) (taken_after worker (owned plan count worker) last pair)
      by true same =
          subst (λ (c : Bool). GoesOnFrom plan count worker (slice_index (places_after places member place false) worker) (cond c (Some pair.0.actor) last)) (sym (test true same ∙ and_some (is_among pair.0.actor (owned plan count worker))))
          (mine (are_one taker worker same))
      by false differ =
          subst (λ (c : Bool). GoesOnFrom plan count worker (slice_index (places_after places member place false) worker) (cond c (Some pair.0.actor) last)) (sym (test false differ))
          (subst (λ (n : ℕ). GoesOnFrom plan count worker n last) (sym (others_stay worker (apart differ))) old)
