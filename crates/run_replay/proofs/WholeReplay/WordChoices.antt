-- The first word that is left whose actor may go.
use Rattle.std.proofs.Common.{◌≡◌, ◌≤◌, ◌<◌, ℕ, zero, suc, ◌+◌, ◌-◌, Bool, true, false, ◌&&◌, List, [], ◌∷◌, ◌++◌, drop, length, Option, Some, None, refl, sym, ap, ◌∙◌, arith}
use Rattle.std.specs.Prelude.{nat_lt}
use Rattle.std.specs.List.{slice_get, repeat}
use Rattle.std.proofs.lemmas.Bool.{and_parts, ltb-true, ltb-false}
use Rattle.std.proofs.lemmas.List.{drop_all}
use Rattle.base_script.specs.declared.actor.Actor.{Actor}
use Rattle.plan_data.specs.PlanData.{turns_in}
use Rattle.plan_data.specs.declared.runs.ActorRun.{ActorRun}
use Rattle.tool_program.specs.Orders.{Found, first_ready}
use Rattle.run_state.proofs.Clients.{left_here}
use Rattle.run_replay.specs.WholeReplay.Places.{words_from, by_word}

pub words_whole : (runs : List ActorRun) → words_from 0 runs ≡ turns_in runs
unfolding words_from
words_whole [] = refl
words_whole (run ∷ runs) = let same : run.times - 0 ≡ run.times = omega arith in ap (λ (n : ℕ). repeat n (run.actor ∷ []) ++ turns_in runs) same

-- an actor that isn't ready, so many times
unready : (ready : Actor → Bool) (times : ℕ) (actor : Actor) (others : List Actor) → ready actor ≡ false → first_ready ready (repeat times (actor ∷ []) ++ others) ≡ first_ready ready others
unfolding first_ready
unready ready zero actor others none = refl
unready ready (suc times) actor others none = rw none (unready ready times actor others none)

one_less : (ready : Actor → Bool) (times less : ℕ) (actor : Actor) (others : List Actor) → times ≡ suc less → ready actor ≡ true → first_ready ready (repeat times (actor ∷ []) ++ others) ≡ Some (record { actor = actor; following = repeat less (actor ∷ []) ++ others })
unfolding first_ready
one_less ready times less actor others is so = rw (is, so) refl

taken_at : (ready : Actor → Bool) (used : ℕ) (run : ActorRun) (runs : List ActorRun) → used < run.times → ready run.actor ≡ true → first_ready ready (words_from used (run ∷ runs)) ≡ Some (record { actor = run.actor; following = words_from (used + 1) (run ∷ runs) })
unfolding words_from
taken_at ready used run runs within so = let less : run.times - used ≡ suc (run.times - (used + 1)) = omega (arith, within) in one_less ready (run.times - used) (run.times - (used + 1)) run.actor (turns_in runs) less so

-- a word whose actor is ready
word_taken : (ready : Actor → Bool) (used index : ℕ) (runs : List ActorRun) (run : ActorRun) → slice_get runs index ≡ Some run → used < run.times → ready run.actor ≡ true
    → first_ready ready (words_from used (drop index runs)) ≡ Some (record { actor = run.actor; following = words_from (used + 1) (drop index runs) })
word_taken ready used index runs run is within so = rw (left_here runs index run is) (taken_at ready used run (drop (index + 1) runs) within so)

spent_at : (ready : Actor → Bool) (used : ℕ) (run : ActorRun) (runs : List ActorRun) → run.times ≤ used → first_ready ready (words_from used (run ∷ runs)) ≡ first_ready ready (words_from 0 runs)
unfolding words_from
spent_at ready used run runs past = let none : run.times - used ≡ 0 = omega (arith, past) in ap (λ (n : ℕ). first_ready ready (repeat n (run.actor ∷ []) ++ turns_in runs)) none ∙ ap (first_ready ready) (sym (words_whole runs))

unready_at : (ready : Actor → Bool) (used : ℕ) (run : ActorRun) (runs : List ActorRun) → ready run.actor ≡ false → first_ready ready (words_from used (run ∷ runs)) ≡ first_ready ready (words_from 0 runs)
unfolding words_from
unready_at ready used run runs none = unready ready (run.times - used) run.actor (turns_in runs) none ∙ ap (first_ready ready) (sym (words_whole runs))

passed_by : (ready : Actor → Bool) (used : ℕ) (run : ActorRun) (runs : List ActorRun) (left : Bool) → nat_lt used run.times ≡ left → (left && ready run.actor) ≡ false → first_ready ready (words_from used (run ∷ runs)) ≡ first_ready ready (words_from 0 runs)
passed_by ready used run runs true is none = unready_at ready used run runs none
passed_by ready used run runs false is none = spent_at ready used run runs (ltb-false used run.times is)

-- a run of which no word is left, or whose actor isn't ready
pub run_passed : (ready : Actor → Bool) (used index : ℕ) (runs : List ActorRun) (run : ActorRun) → slice_get runs index ≡ Some run → (nat_lt used run.times && ready run.actor) ≡ false → first_ready ready (words_from 0 (drop (index + 1) runs)) ≡ first_ready ready (words_from used (drop index runs))
run_passed ready used index runs run is none =
    sym (ap (λ (left : List ActorRun). first_ready ready (words_from used left)) (left_here runs index run is) ∙ passed_by ready used run (drop (index + 1) runs) (nat_lt used run.times) refl none)

-- no word is left
words_spent : (ready : Actor → Bool) (used index : ℕ) (runs : List ActorRun) → length runs ≤ index → first_ready ready (words_from used (drop index runs)) ≡ None
unfolding words_from first_ready
words_spent ready used index runs past = rw (drop_all index runs past) refl

-- THE CHOICE

pub by_taken : (ready : Actor → Bool) (used index : ℕ) (runs : List ActorRun) (run : ActorRun) (round : List Actor) (found : Option Found) → slice_get runs index ≡ Some run → (nat_lt used run.times && ready run.actor) ≡ true → first_ready ready (words_from used (drop index runs)) ≡ found
    → Some (record { actor = run.actor; queue = record { words = words_from (used + 1) (drop index runs); round = round } }) ≡ by_word round found
by_taken ready used index runs run round found is so same =
    let parts = and_parts (nat_lt used run.times) (ready run.actor) so in
    ap (by_word round) (sym (word_taken ready used index runs run is (ltb-true used run.times parts.0) parts.1) ∙ same)

pub by_spent : (ready : Actor → Bool) (used index : ℕ) (runs : List ActorRun) (round : List Actor) (found : Option Found) → length runs ≤ index → first_ready ready (words_from used (drop index runs)) ≡ found → None ≡ by_word round found
by_spent ready used index runs round found past same = ap (by_word round) (sym (words_spent ready used index runs past) ∙ same)
