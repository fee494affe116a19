-- The printed order.
use Rattle.std.proofs.Common.{◌≡◌, ◌∙◌, ℕ, suc, ◌+◌, ◌<◌, ◌≤◌, ◌^◌, Bool, true, false, not, List, [], ◌∷◌, ◌++◌, length, map, filter, Ok, refl, ap, arith, append-nil, codes}
use Rattle.std.specs.List.{AllByRecursion, flat_map, repeat, slice_split}
use Rattle.base_script.specs.declared.actor.Actor.{Actor}
use Rattle.server_model.specs.Entries.{same_actor}
use Rattle.plan_data.specs.PlanData.{turns_in}
use Rattle.plan_data.specs.declared.runs.ActorRun.{ActorRun}
use Rattle.plan_orders.specs.Words.{is_empty, is_space, spaced_words}
use Rattle.plan_orders.specs.TurnOrder.Turns.{next_word, runs_from, turns_of}
use Rattle.top_report.specs.Turns.{joined, order_text, run_text, runs_of}
use Rattle.run_actors.proofs.SameActors.{same_is}
use Rattle.law_texts.specs.TurnOrders.{IsOf}
use Rattle.law_texts.proofs.TurnOrders.Words.{IsRun, dark_run, first_part, long_run, one_part, run_read}

abbrev run : Actor → ℕ → ActorRun
run actor times = record { actor = actor; times = times }

-- ---- the runs that are printed

-- each is of an actor of the plan, and short
abbrev AreRuns : ℕ → ℕ → List ActorRun → Type 0
AreRuns clients most runs = AllByRecursion (λ run. (0 < run.times) × (run.times ≤ most) × IsOf clients run.actor) runs

any_more : (clients least most : ℕ) (runs : List ActorRun) → least ≤ most → AreRuns clients least runs → AreRuns clients most runs
any_more clients least most [] within are = tt
any_more clients least most (first ∷ runs) within are = ((are.0.0, let few : first.times ≤ least = are.0.1 in omega (arith, few, within), are.0.2), any_more clients least most runs within are.1)

more : (clients most : ℕ) (runs : List ActorRun) → AreRuns clients most runs → AreRuns clients (most + 1) runs
more clients most runs are = any_more clients most (most + 1) runs (omega arith) are

joined_run : (clients most : ℕ) (actor : Actor) (first : ActorRun) (runs : List ActorRun) (b : Bool) → same_actor actor first.actor ≡ b → IsOf clients actor → AreRuns clients most (first ∷ runs) → AreRuns clients (most + 1) (joined actor 1 (first ∷ runs))
unfolding joined
joined_run clients most actor first runs true same is are = rw same ((omega arith, let few : first.times ≤ most = are.0.1 in omega (arith, few), is), more clients most runs are.1)
joined_run clients most actor first runs false same is are = rw same ((omega arith, omega arith, is), more clients most (first ∷ runs) are)

joined_runs : (clients most : ℕ) (actor : Actor) (runs : List ActorRun) → IsOf clients actor → AreRuns clients most runs → AreRuns clients (most + 1) (joined actor 1 runs)
unfolding joined
joined_runs clients most actor [] is are = ((omega arith, omega arith, is), tt)
joined_runs clients most actor (first ∷ runs) is are = joined_run clients most actor first runs (same_actor actor first.actor) refl is are

runs_are : (clients : ℕ) (actors : List Actor) → AllByRecursion (IsOf clients) actors → AreRuns clients (length actors) (runs_of actors)
unfolding runs_of
runs_are clients [] are = tt
runs_are clients (actor ∷ actors) are =
    any_more clients (length actors + 1) (suc (length actors)) (joined actor 1 (runs_of actors)) (omega arith) (joined_runs clients (length actors) actor (runs_of actors) are.0 (runs_are clients actors are.1))

can_print : (clients most : ℕ) (runs : List ActorRun) → most < 2 ^ 32 → AreRuns clients most runs → AllByRecursion (IsRun clients) runs
can_print clients most [] small are = tt
can_print clients most (first ∷ runs) small are =
    (record { some = are.0.0; few = (let few : first.times ≤ most = are.0.1 in omega (arith, few, small)); its = are.0.2 }, can_print clients most runs small are.1)

-- ---- its words

parts : (clients : ℕ) (runs : List ActorRun) → clients < 2 ^ 32 → AllByRecursion (IsRun clients) runs → slice_split is_space (order_text runs) ≡ [] ∷ map run_text runs
unfolding order_text
parts clients [] few are = refl
parts clients (first ∷ []) few are =
    ap (λ (others : List (List ℕ)). [] ∷ others) (ap (slice_split is_space) (append-nil (run_text first)) ∙ one_part (run_text first) (dark_run clients first few are.0))
parts clients (first ∷ second ∷ runs) few are =
    let following = order_text (second ∷ runs) in
    let others : slice_split is_space following ≡ [] ∷ map run_text (second ∷ runs) = parts clients (second ∷ runs) few are.1 in
    ap (λ (others : List (List ℕ)). [] ∷ others) (first_part (run_text first) (run_text second ++ flat_map (λ run. codes " " ++ run_text run) runs) (dark_run clients first few are.0) ∙ ap (λ (words : List (List ℕ)). run_text first ∷ words) (tails others))
  where
    tails : {words others : List (List ℕ)} → [] ∷ words ≡ [] ∷ others → words ≡ others
    tails is = cc

kept : (runs : List ActorRun) → filter (λ word. not (is_empty word)) (map run_text runs) ≡ map run_text runs
kept [] = refl
kept (first ∷ runs) = rw (long_run first) (ap (λ (words : List (List ℕ)). run_text first ∷ words) (kept runs))

words_are : (clients : ℕ) (runs : List ActorRun) → clients < 2 ^ 32 → AllByRecursion (IsRun clients) runs → spaced_words (order_text runs) ≡ map run_text runs
words_are clients runs few are = ap (filter (λ word. not (is_empty word))) (parts clients runs few are) ∙ kept runs

-- ---- and what they are read as

all_read : (clients number : ℕ) (runs : List ActorRun) → clients < 2 ^ 32 → AllByRecursion (IsRun clients) runs → runs_from clients number (map run_text runs) ≡ Ok runs
unfolding runs_from
all_read clients number [] few are = refl
all_read clients number (first ∷ runs) few are = rw (run_read clients first few are.0) (rw (all_read clients (next_word number) runs few are.1) refl)

pub orders_read : (clients : ℕ) (actors : List Actor) → clients < 2 ^ 32 → length actors < 2 ^ 32 → AllByRecursion (IsOf clients) actors → turns_of clients (order_text (runs_of actors)) ≡ Ok (runs_of actors)
orders_read clients actors few small are =
    let runs = can_print clients (length actors) (runs_of actors) small (runs_are clients actors are) in
    ap (runs_from clients 1) (words_are clients (runs_of actors) few runs) ∙ all_read clients 1 (runs_of actors) few runs

-- ---- the turns of the runs

joined_turns : (actor : Actor) (runs : List ActorRun) → turns_in (joined actor 1 runs) ≡ actor ∷ turns_in runs
unfolding joined
joined_turns actor [] = refl
joined_turns actor (first ∷ runs) = go (same_actor actor first.actor) refl
  where
    go : (b : Bool) → same_actor actor first.actor ≡ b → turns_in (joined actor 1 (first ∷ runs)) ≡ actor ∷ turns_in (first ∷ runs)
    go true same =
        let one : actor ≡ first.actor = same_is actor first.actor same in
        let next : 1 + first.times ≡ suc first.times = omega arith in
        rw same (ap (λ (n : ℕ). repeat n (actor ∷ []) ++ turns_in runs) next ∙ ap (λ (who : Actor). actor ∷ (repeat first.times (who ∷ []) ++ turns_in runs)) one)
    go false same = rw same refl

pub turns_are : (actors : List Actor) → turns_in (runs_of actors) ≡ actors
unfolding runs_of
turns_are [] = refl
turns_are (actor ∷ actors) = joined_turns actor (runs_of actors) ∙ ap (λ (others : List Actor). actor ∷ others) (turns_are actors)
