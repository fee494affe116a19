-- Which actors are a worker's own, by their places.
use Rattle.std.proofs.Common.{◌≡◌, ℕ, zero, suc, ◌+◌, ◌==◌, ◌%◌, Bool, true, false, ◌&&◌, ◌||◌, List, [], ◌∷◌, drop, cond, Some, refl, sym, ap, ◌∙◌, arith}
use Rattle.std.specs.List.{slice_get, find}
use Rattle.std.proofs.lemmas.Bool.{true≢false}
use Rattle.base_script.specs.declared.actor.Actor.{Actor}
use Rattle.server_model.specs.Entries.{same_actor}
use Rattle.proof_journals.proofs.Actors.{same_actor_is, same_actor_itself}
use Rattle.tool_program.specs.Orders.{owned_from, is_among, following}
use Rattle.run_workers.proofs.WorkerRun.ActorStates.{Apart}

-- an actor that isn't among others is none of them
is_other : (one other : Actor) (others : List Actor) (i : ℕ) → is_among one others ≡ false → slice_get others i ≡ Some other → same_actor one other ≡ false
is_other one other [] zero none is = absurd (cc)
is_other one other [] (suc i) none is = absurd (cc)
is_other one other (first ∷ others) zero none is = by (same_actor one first) refl none
  where
    same : first ≡ other
    same = cc

    by : (b : Bool) → same_actor one first ≡ b → (b || is_among one others) ≡ false → same_actor one other ≡ false
    by true so none = absurd (true≢false none)
    by false so none = ap (same_actor one) (sym same) ∙ so
is_other one other (first ∷ others) (suc i) none is = by (same_actor one first) none (λ none. is_other one other others i none is)
  where
    by : (b : Bool) → (b || is_among one others) ≡ false → (is_among one others ≡ false → same_actor one other ≡ false) → same_actor one other ≡ false
    by true none rest = absurd (true≢false none)
    by false none rest = rest none

-- the other way round
turned_round : (one other : Actor) → same_actor one other ≡ false → same_actor other one ≡ false
turned_round one other differ = by (same_actor other one) refl
  where
    by : (b : Bool) → same_actor other one ≡ b → same_actor other one ≡ false
    by true same = let is : other ≡ one = same_actor_is other one same in absurd (true≢false (sym (same_actor_itself one) ∙ ap (same_actor one) (sym is) ∙ differ))
    by false so = so

none_owned : (actor : Actor) (count worker place : ℕ) (all : List Actor) → is_among actor all ≡ false → is_among actor (owned_from count worker place all) ≡ false
unfolding owned_from
none_owned actor count worker place [] none = refl
none_owned actor count worker place (first ∷ all) none = by (same_actor actor first) refl none (none_owned actor count worker (place + 1) all)
  where
    at : same_actor actor first ≡ false → is_among actor (owned_from count worker (place + 1) all) ≡ false → (b : Bool) → is_among actor (cond b (first ∷ owned_from count worker (place + 1) all) (owned_from count worker (place + 1) all)) ≡ false
    at differ none true = rw differ none
    at differ none false = none

    by : (b : Bool) → same_actor actor first ≡ b → (b || is_among actor all) ≡ false → (is_among actor all ≡ false → is_among actor (owned_from count worker (place + 1) all) ≡ false)
        → is_among actor (cond (place % count == worker) (first ∷ owned_from count worker (place + 1) all) (owned_from count worker (place + 1) all)) ≡ false
    by true so none rest = absurd (true≢false none)
    by false differ none rest = at differ (rest none) (place % count == worker)

-- an actor at a place is among a worker's own exactly where that place is the worker's
pub among_place : (count worker place i : ℕ) (actor : Actor) (all : List Actor) → Apart all → slice_get all i ≡ Some actor → is_among actor (owned_from count worker place all) ≡ ((place + i) % count == worker)
unfolding owned_from
among_place count worker place zero actor [] apart is = absurd (cc)
among_place count worker place (suc i) actor [] apart is = absurd (cc)
among_place count worker place zero actor (first ∷ all) apart is = by (place % count == worker) ∙ ap (λ (n : ℕ). n % count == worker) sum
  where
    sum : place ≡ place + zero
    sum = omega arith

    one : first ≡ actor
    one = cc

    own : same_actor actor first ≡ true
    own = ap (same_actor actor) one ∙ same_actor_itself actor

    none : is_among actor (owned_from count worker (place + 1) all) ≡ false
    none = none_owned actor count worker (place + 1) all (ap (λ (a : Actor). is_among a all) (sym one) ∙ apart.0)

    by : (b : Bool) → is_among actor (cond b (first ∷ owned_from count worker (place + 1) all) (owned_from count worker (place + 1) all)) ≡ b
    by true = rw own refl
    by false = none
among_place count worker place (suc i) actor (first ∷ all) apart is = by (place % count == worker) ∙ among_place count worker (place + 1) i actor all apart.1 is ∙ ap (λ (n : ℕ). n % count == worker) sum
  where
    sum : place + 1 + i ≡ place + suc i
    sum = omega arith

    differ : same_actor actor first ≡ false
    differ = turned_round first actor (is_other first actor all i apart.0 is)

    by : (b : Bool) → is_among actor (cond b (first ∷ owned_from count worker (place + 1) all) (owned_from count worker (place + 1) all)) ≡ is_among actor (owned_from count worker (place + 1) all)
    by true = rw differ refl
    by false = refl

-- behind an own actor come the own ones from the next place on
pub after_place : (count worker place i : ℕ) (actor : Actor) (all : List Actor) → Apart all → slice_get all i ≡ Some actor → ((place + i) % count == worker) ≡ true → following actor (owned_from count worker place all) ≡ owned_from count worker (place + i + 1) (drop (i + 1) all)
unfolding owned_from following
after_place count worker place zero actor [] apart is own = absurd (cc)
after_place count worker place (suc i) actor [] apart is own = absurd (cc)
after_place count worker place zero actor (first ∷ all) apart is own = by (place % count == worker) here ∙ ap (λ (n : ℕ). owned_from count worker n all) next
  where
    sum : place ≡ place + zero
    sum = omega arith

    next : place + 1 ≡ place + zero + 1
    next = omega arith

    here : (place % count == worker) ≡ true
    here = ap (λ (n : ℕ). n % count == worker) sum ∙ own

    one : first ≡ actor
    one = cc

    itself : same_actor first actor ≡ true
    itself = ap (same_actor first) (sym one) ∙ same_actor_itself first

    by : (b : Bool) → b ≡ true → following actor (cond b (first ∷ owned_from count worker (place + 1) all) (owned_from count worker (place + 1) all)) ≡ owned_from count worker (place + 1) all
    by true is = rw itself refl
    by false is = absurd (true≢false (sym is))
after_place count worker place (suc i) actor (first ∷ all) apart is own =
    by (place % count == worker) ∙ after_place count worker (place + 1) i actor all apart.1 is (ap (λ (n : ℕ). n % count == worker) sum ∙ own)
    ∙ ap (λ (n : ℕ). owned_from count worker n (drop (i + 1) all)) next ∙ ap (λ (n : ℕ). owned_from count worker (place + suc i + 1) (drop n (first ∷ all))) dropped
  where
    sum : place + 1 + i ≡ place + suc i
    sum = omega arith

    next : place + 1 + i + 1 ≡ place + suc i + 1
    next = omega arith

    dropped : suc (i + 1) ≡ suc i + 1
    dropped = omega arith

    differ : same_actor first actor ≡ false
    differ = is_other first actor all i apart.0 is

    by : (b : Bool) → following actor (cond b (first ∷ owned_from count worker (place + 1) all) (owned_from count worker (place + 1) all)) ≡ following actor (owned_from count worker (place + 1) all)
    by true = rw differ refl
    by false = refl

-- to look for a ready one among a worker's own is to look for an own one that is ready
pub find_owned : (ready own : Actor → Bool) (count worker place : ℕ) (all : List Actor) → ((i : ℕ) (actor : Actor) → slice_get all i ≡ Some actor → own actor ≡ ((place + i) % count == worker)) → find ready (owned_from count worker place all) ≡ find (λ actor. own actor && ready actor) all
unfolding owned_from
find_owned ready own count worker place [] are = refl
find_owned ready own count worker place (first ∷ all) are =
    by (place % count == worker) (are zero first refl ∙ ap (λ (n : ℕ). n % count == worker) sum)
    (find_owned ready own count worker (place + 1) all (λ i actor is. are (suc i) actor is ∙ (let next : place + suc i ≡ place + 1 + i = omega arith in ap (λ (n : ℕ). n % count == worker) next)))
  where
    sum : place + zero ≡ place
    sum = omega arith

    at : find ready (owned_from count worker (place + 1) all) ≡ find (λ actor. own actor && ready actor) all → (b : Bool) → cond b (Some first) (find ready (owned_from count worker (place + 1) all)) ≡ cond b (Some first) (find (λ actor. own actor && ready actor) all)
    at rest true = refl
    at rest false = rest

    by : (b : Bool) → own first ≡ b → find ready (owned_from count worker (place + 1) all) ≡ find (λ actor. own actor && ready actor) all
        → find ready (cond b (first ∷ owned_from count worker (place + 1) all) (owned_from count worker (place + 1) all)) ≡ find (λ actor. own actor && ready actor) (first ∷ all)
    by true is rest = rw is (at rest (ready first))
    by false is rest = rw is rest
