-- What one more turn does to what is kept of the actors.
use Rattle.std.proofs.Common.{◌≡◌, ℕ, ◌+◌, ◌<◌, ◌≤◌, Bool, true, false, not, ◌&&◌, List, [], ◌∷◌, ◌++◌, map, length, Option, None, cond, refl, sym, ap, ◌∙◌, arith}
use Rattle.std.proofs.lemmas.List.Sums.{fold-append, count_by-le-length}
use Rattle.std.specs.List.{AllByRecursion}
use Rattle.base_script.specs.declared.actor.Actor.{Actor}
use Rattle.server_model.specs.declared.answer.Answer.{Answer}
use Rattle.server_model.specs.declared.answer.Answer.TheVariants as answers
use Rattle.server_model.specs.declared.entry.Asked.{Asked}
use Rattle.server_model.specs.declared.entry.Asked.TheVariants.{Call, Poll}
use Rattle.server_model.specs.declared.entry.Entry.{Entry}
use Rattle.server_model.specs.declared.request.Request.{Request}
use Rattle.server_model.specs.Entries.{same_actor, is_cut}
use Rattle.tool_program.specs.JournalWords.Journals.{turns_of}
use Rattle.tool_program.specs.JournalWords.Sessions.{live_session, session_in, session_left}
use Rattle.tool_program.specs.JournalWords.Histories.{request_waiting, waits_in, waits_after, renames_away}
use Rattle.run_actors.specs.declared.actor_state.ActorState.{ActorState}
use Rattle.run_actors.specs.ActorStates.{actor_state_at, renames_after, counted, actor_state_after}

pub live_more : (journal : List Entry) (entry : Entry) (actor : Actor) → live_session (journal ++ entry ∷ []) actor ≡ session_in actor (live_session journal actor) entry
unfolding live_session
live_more journal entry actor = fold-append (session_in actor) None journal (entry ∷ [])

pub waits_more : (journal : List Entry) (entry : Entry) (actor : Actor) → request_waiting (journal ++ entry ∷ []) actor ≡ waits_in actor (request_waiting journal actor) entry
unfolding request_waiting
waits_more journal entry actor = fold-append (waits_in actor) None journal (entry ∷ [])

turns_more : (actor : Actor) (journal : List Entry) (entry : Entry) → turns_of actor (journal ++ entry ∷ []) ≡ turns_of actor journal + cond (same_actor entry.actor actor && not (is_cut entry.asked)) 1 0
turns_more actor journal entry = fold-append (λ (n : ℕ) (e : Entry). n + cond (same_actor e.actor actor && not (is_cut e.asked)) 1 0) 0 journal (entry ∷ [])

abbrev the_actor_state : Actor → Option ℕ → ℕ → Bool → ActorState
the_actor_state actor session turns renames = record { actor = actor; session = session; turns = turns; renames = renames }

actor_state_as : (actor : Actor) (a b : Option ℕ) (m n : ℕ) (x y : Bool) → a ≡ b → m ≡ n → x ≡ y → the_actor_state actor a m x ≡ the_actor_state actor b n y
actor_state_as actor a b m n x y one two three = ap (λ s. the_actor_state actor s m x) one ∙ ap (λ t. the_actor_state actor b t x) two ∙ ap (the_actor_state actor b n) three

pub renames_so : (table : List ℕ) (asked : Asked) (answer : Answer) (old : Option Request) → renames_after table asked answer (renames_away table old) ≡ renames_away table (waits_after asked answer old)
renames_so table (Call request) (answers.Waits by) old = refl
renames_so table Poll (answers.Waits by) old = refl
renames_so table asked answer old = refl

counted_so : (cut : Bool) (turns : ℕ) → counted cut turns ≡ turns + cond (true && not cut) 1 0
counted_so true turns = omega arith
counted_so false turns = refl

-- the seat behind one turn more
actor_state_more : (table : List ℕ) (journal : List Entry) (entry : Entry) (actor : Actor) (same : Bool) → same_actor entry.actor actor ≡ same → actor_state_after table entry (actor_state_at table journal actor) ≡ actor_state_at table (journal ++ entry ∷ []) actor
actor_state_more table journal entry actor true is =
    rw is (actor_state_as actor (session_left entry.asked entry.answer entry.session) (live_session (journal ++ entry ∷ []) actor) (counted (is_cut entry.asked) (turns_of actor journal)) (turns_of actor (journal ++ entry ∷ []))
    (renames_after table entry.asked entry.answer (renames_away table (request_waiting journal actor))) (renames_away table (request_waiting (journal ++ entry ∷ []) actor))
    (sym (rw is at (live_more journal entry actor)))
    (counted_so (is_cut entry.asked) (turns_of actor journal) ∙ sym (rw is at (turns_more actor journal entry)))
    (renames_so table entry.asked entry.answer (request_waiting journal actor) ∙ ap (renames_away table) (sym (rw is at (waits_more journal entry actor)))))
actor_state_more table journal entry actor false is =
    let same_turns : turns_of actor (journal ++ entry ∷ []) ≡ turns_of actor journal + 0 = rw is at (turns_more actor journal entry) in
    rw is (actor_state_as actor (live_session journal actor) (live_session (journal ++ entry ∷ []) actor) (turns_of actor journal) (turns_of actor (journal ++ entry ∷ []))
    (renames_away table (request_waiting journal actor)) (renames_away table (request_waiting (journal ++ entry ∷ []) actor))
    (sym (rw is at (live_more journal entry actor)))
    (omega (arith, same_turns))
    (ap (renames_away table) (sym (rw is at (waits_more journal entry actor)))))

-- all seats behind one turn more
pub actor_states_more : (table : List ℕ) (journal : List Entry) (entry : Entry) (all : List Actor) → map (actor_state_after table entry) (map (actor_state_at table journal) all) ≡ map (actor_state_at table (journal ++ entry ∷ [])) all
actor_states_more table journal entry [] = refl
actor_states_more table journal entry (actor ∷ all) =
    ap (λ actor_state. actor_state ∷ map (actor_state_after table entry) (map (actor_state_at table journal) all)) (actor_state_more table journal entry actor (same_actor entry.actor actor) refl)
    ∙ ap (λ others. actor_state_at table (journal ++ entry ∷ []) actor ∷ others) (actor_states_more table journal entry all)

-- no actor took more turns than the journal has
pub few_turns : (table : List ℕ) (journal : List Entry) (limit : ℕ) (all : List Actor) → length journal < limit → AllByRecursion (λ (actor_state : ActorState). actor_state.turns < limit) (map (actor_state_at table journal) all)
few_turns table journal limit [] few = tt
few_turns table journal limit (actor ∷ all) few =
    let at_most : turns_of actor journal ≤ length journal = count_by-le-length (λ (e : Entry). same_actor e.actor actor && not (is_cut e.asked)) journal in
    (omega (arith, at_most, few), few_turns table journal limit all few)
