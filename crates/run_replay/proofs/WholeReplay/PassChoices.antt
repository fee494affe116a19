-- The first actor of a pass that may go.
use Rattle.std.proofs.Common.{◌≡◌, ◌≤◌, ℕ, ◌+◌, Bool, true, false, List, [], ◌∷◌, drop, length, Option, Some, None, refl, sym, ap, ◌∙◌, arith}
use Rattle.std.proofs.lemmas.List.{drop_all}
use Rattle.std.specs.List.{slice_get}
use Rattle.base_script.specs.declared.actor.Actor.{Actor}
use Rattle.plan_data.specs.declared.runs.ActorRun.{ActorRun}
use Rattle.tool_program.specs.Orders.{Found, first_ready, from_pass}
use Rattle.run_state.proofs.Clients.{left_here}
use Rattle.run_replay.specs.WholeReplay.Places.{words_from}

taken_first : (ready : Actor → Bool) (actor : Actor) (others : List Actor) → ready actor ≡ true → first_ready ready (actor ∷ others) ≡ Some (record { actor = actor; following = others })
unfolding first_ready
taken_first ready actor others so = rw so refl

passed_first : (ready : Actor → Bool) (actor : Actor) (others : List Actor) → ready actor ≡ false → first_ready ready (actor ∷ others) ≡ first_ready ready others
unfolding first_ready
passed_first ready actor others none = rw none refl

actor_taken : (ready : Actor → Bool) (all : List Actor) (place : ℕ) (actor : Actor) → slice_get all place ≡ Some actor → ready actor ≡ true → first_ready ready (drop place all) ≡ Some (record { actor = actor; following = drop (place + 1) all })
actor_taken ready all place actor is so = ap (first_ready ready) (left_here all place actor is) ∙ taken_first ready actor (drop (place + 1) all) so

-- one that isn't
pub actor_passed : (ready : Actor → Bool) (all : List Actor) (place : ℕ) (actor : Actor) → slice_get all place ≡ Some actor → ready actor ≡ false → first_ready ready (drop (place + 1) all) ≡ first_ready ready (drop place all)
actor_passed ready all place actor is none = sym (ap (first_ready ready) (left_here all place actor is) ∙ passed_first ready actor (drop (place + 1) all) none)

pass_spent : (ready : Actor → Bool) (all : List Actor) (place : ℕ) → length all ≤ place → first_ready ready (drop place all) ≡ None
unfolding first_ready
pass_spent ready all place past = rw (drop_all place all past) refl

-- THE CHOICE

-- one that is ready
pub by_taken : (ready : Actor → Bool) (all : List Actor) (place : ℕ) (actor : Actor) (found : Option Found) → slice_get all place ≡ Some actor → ready actor ≡ true → first_ready ready (drop place all) ≡ found
    → Some (record { actor = actor; queue = record { words = []; round = drop (place + 1) all } }) ≡ from_pass found
by_taken ready all place actor found is so same = ap from_pass (sym (actor_taken ready all place actor is so) ∙ same)

-- nobody is left
pub by_spent : (ready : Actor → Bool) (all : List Actor) (place : ℕ) (found : Option Found) → length all ≤ place → first_ready ready (drop place all) ≡ found → None ≡ from_pass found
by_spent ready all place found past same = ap from_pass (sym (pass_spent ready all place past) ∙ same)

-- behind all runs no word is left
pub no_words : (runs : List ActorRun) → words_from 0 (drop (length runs) runs) ≡ []
unfolding words_from
no_words runs = rw (drop_all (length runs) runs (omega arith)) refl
