-- Runs of turns.
use Rattle.std.proofs.Common.{◌≡◌, ℕ, ◌+◌, ◌<◌, ◌≤◌, Bool, true, false, List, [], ◌∷◌, ◌++◌, length, drop, get_or, Option, Some, None, refl, sym, ◌∙◌, ap, ap₂, arith, append-nil, append_assoc}
use Rattle.std.proofs.lemmas.List.{drop_all, drop_more}
use Rattle.std.specs.Prelude.{IfSome}
use Rattle.base_script.specs.declared.actor.Actor.{Actor}
use Rattle.server_model.specs.declared.entry.Entry.{Entry}
use Rattle.server_model.specs.Entries.{is_cut, same_actor}
use Rattle.plan_data.specs.declared.runs.ActorRun.{ActorRun}
use Rattle.top_report.specs.declared.turns.OpenRun.{OpenRun}
use Rattle.top_report.specs.Turns.{joined, order_text, runs_of, turns_taken}
use Rattle.run_actors.proofs.SameActors.{own, same_is}
use Rattle.top_report.specs.Runs.{open_after, printed_at, printed_before, run_with, runs_after, runs_open, spaced_run}

abbrev run : Actor → ℕ → ActorRun
run actor times = record { actor = actor; times = times }

-- turns of one actor join
twice_on : (actor : Actor) (times : ℕ) (first : ActorRun) (runs : List ActorRun) (b : Bool) → same_actor actor first.actor ≡ b → joined actor times (joined actor 1 (first ∷ runs)) ≡ joined actor (times + 1) (first ∷ runs)
unfolding joined
twice_on actor times first runs true same =
    let sum : times + (1 + first.times) ≡ times + 1 + first.times = omega arith in
    rw same (rw (own actor) (ap (λ (n : ℕ). run actor n ∷ runs) sum))
twice_on actor times first runs false same = rw same (rw (own actor) refl)

twice : (actor : Actor) (times : ℕ) (runs : List ActorRun) → joined actor times (joined actor 1 runs) ≡ joined actor (times + 1) runs
unfolding joined
twice actor times [] = rw (own actor) refl
twice actor times (first ∷ runs) = twice_on actor times first runs (same_actor actor first.actor) refl

-- turns of another don't
apart_on : (actor other : Actor) (times : ℕ) (first : ActorRun) (runs : List ActorRun) (b : Bool) → same_actor other first.actor ≡ b → same_actor actor other ≡ false
    → joined actor times (joined other 1 (first ∷ runs)) ≡ run actor times ∷ joined other 1 (first ∷ runs)
unfolding joined
apart_on actor other times first runs true same differ = rw same (rw differ refl)
apart_on actor other times first runs false same differ = rw same (rw differ refl)

apart : (actor other : Actor) (times : ℕ) (runs : List ActorRun) → same_actor actor other ≡ false → joined actor times (joined other 1 runs) ≡ run actor times ∷ joined other 1 runs
unfolding joined
apart actor other times [] differ = rw differ refl
apart actor other times (first ∷ runs) differ = apart_on actor other times first runs (same_actor other first.actor) refl differ

after_on : (actor other : Actor) (times : ℕ) (actors : List Actor) (b : Bool) → same_actor actor other ≡ b
    → ((actor : Actor) (times : ℕ) → runs_after actor times actors ≡ joined actor times (runs_of actors)) → runs_after actor times (other ∷ actors) ≡ joined actor times (runs_of (other ∷ actors))
unfolding runs_after runs_of
after_on actor other times actors true same others =
    rw same (others actor (times + 1) ∙ sym (twice actor times (runs_of actors)) ∙ ap (λ (who : Actor). joined actor times (joined who 1 (runs_of actors))) (same_is actor other same))
after_on actor other times actors false same others =
    rw same (ap (λ (runs : List ActorRun). run actor times ∷ runs) (others other 1) ∙ sym (apart actor other times (runs_of actors) same))

following : (actors : List Actor) (actor : Actor) (times : ℕ) → runs_after actor times actors ≡ joined actor times (runs_of actors)
unfolding runs_after runs_of joined
following [] actor times = refl
following (other ∷ actors) actor times = after_on actor other times actors (same_actor actor other) refl (following actors)

first_run : (actor : Actor) (actors : List Actor) → runs_of (actor ∷ actors) ≡ runs_after actor 1 actors
unfolding runs_of
first_run actor actors = sym (following actors actor 1)

more_on : (last : OpenRun) (actor : Actor) (actors : List Actor) (b : Bool) → same_actor last.actor actor ≡ b
    → order_text (runs_open (Some last) (actor ∷ actors)) ≡ printed_before (Some last) actor ++ order_text (runs_open (Some (run_with (Some last) actor)) actors)
unfolding runs_after order_text
more_on last actor actors true same = rw same refl
more_on last actor actors false same = rw same refl

-- one more turn, in the run that is open or behind it
pub open_more : (last : Option OpenRun) (actor : Actor) (actors : List Actor) → order_text (runs_open last (actor ∷ actors)) ≡ printed_before last actor ++ order_text (runs_open (Some (run_with last actor)) actors)
open_more None actor actors = ap order_text (first_run actor actors)
open_more (Some last) actor actors = more_on last actor actors (same_actor last.actor actor) refl

-- behind the last turn the run that is open is left
pub last_run : (last : OpenRun) → order_text (runs_open (Some last) []) ≡ spaced_run last
unfolding runs_after order_text
last_run last = append-nil (spaced_run last)

pub no_run : (into : List ℕ) → into ≡ into ++ order_text (runs_open None [])
unfolding runs_of order_text
no_run into = sym (append-nil into)

-- ---- the entries of a journal

entry_on : (last : Option OpenRun) (entry : Entry) (entries : List Entry) (b : Bool) → is_cut entry.asked ≡ b
    → order_text (runs_open last (turns_taken (entry ∷ entries))) ≡ printed_at last entry ++ order_text (runs_open (open_after last entry) (turns_taken entries))
unfolding turns_taken
entry_on last entry entries true cut = rw cut refl
entry_on last entry entries false turn = rw turn (open_more last entry.actor (turns_taken entries))

pub next_text : (last next : Option OpenRun) (journal : List Entry) (index : ℕ) (entry : Entry) (into after first : List ℕ) → index < length journal → entry ≡ get_or journal index entry → after ≡ into ++ printed_at last entry → next ≡ open_after last entry
    → into ++ order_text (runs_open last (turns_taken (drop index journal))) ≡ first → after ++ order_text (runs_open next (turns_taken (drop (index + 1) journal))) ≡ first
next_text last next journal index entry into after first within at grown is so_far =
    let rest = turns_taken (drop (index + 1) journal) in
    let from_here : drop index journal ≡ entry ∷ drop (index + 1) journal = drop_more journal index entry within ∙ ap (λ (e : Entry). e ∷ drop (index + 1) journal) (sym at) in
    let here : order_text (runs_open last (turns_taken (drop index journal))) ≡ printed_at last entry ++ order_text (runs_open (open_after last entry) rest) =
    ap (λ (entries : List Entry). order_text (runs_open last (turns_taken entries))) from_here ∙ entry_on last entry (drop (index + 1) journal) (is_cut entry.asked) refl in
    ap₂ (λ (text : List ℕ) (run : Option OpenRun). text ++ order_text (runs_open run rest)) grown is
    ∙ append_assoc into (printed_at last entry) (order_text (runs_open (open_after last entry) rest))
    ∙ ap (λ (text : List ℕ). into ++ text) (sym here) ∙ so_far

few_with : (last : Option OpenRun) (actor : Actor) (index : ℕ) → IfSome last (λ run. run.times ≤ index) → (run_with last actor).times ≤ index + 1
few_with None actor index few = omega arith
few_with (Some last) actor index few = go (same_actor last.actor actor) refl
  where
    go : (b : Bool) → same_actor last.actor actor ≡ b → (run_with (Some last) actor).times ≤ index + 1
    go true same = let times : last.times ≤ index = few in rw same (omega (arith, times))
    go false same = rw same (omega arith)

weaker : (last : Option OpenRun) (index : ℕ) → IfSome last (λ run. run.times ≤ index) → IfSome last (λ run. run.times ≤ index + 1)
weaker None index few = tt
weaker (Some last) index few = let times : last.times ≤ index = few in omega (arith, times)

few_on : (last : Option OpenRun) (entry : Entry) (index : ℕ) (b : Bool) → is_cut entry.asked ≡ b → IfSome last (λ run. run.times ≤ index) → IfSome (open_after last entry) (λ run. run.times ≤ index + 1)
few_on last entry index true cut few = rw cut (weaker last index few)
few_on last entry index false turn few = rw turn (few_with last entry.actor index few)

pub next_few : (last next : Option OpenRun) (entry : Entry) (index : ℕ) → next ≡ open_after last entry → IfSome last (λ run. run.times ≤ index) → IfSome next (λ run. run.times ≤ index + 1)
next_few last next entry index is few = rw is (few_on last entry index (is_cut entry.asked) refl few)

pub last_text : (last : Option OpenRun) (journal : List Entry) (index : ℕ) (into after first : List ℕ) → length journal ≤ index → after ≡ into ++ order_text (runs_open last []) → into ++ order_text (runs_open last (turns_taken (drop index journal))) ≡ first → after ≡ first
unfolding turns_taken
last_text last journal index into after first past grown so_far =
    let none : order_text (runs_open last (turns_taken (drop index journal))) ≡ order_text (runs_open last []) = ap (λ (entries : List Entry). order_text (runs_open last (turns_taken entries))) (drop_all index journal past) in
    grown ∙ ap (λ (text : List ℕ). into ++ text) (sym none) ∙ so_far
