-- The live sessions that are kept are the journal's.
use Rattle.std.proofs.Common.{◌≡◌, ℕ, Bool, true, false, ◌||◌, List, [], ◌∷◌, ◌++◌, map, cond, Option, Some, refl, sym, ap, ◌∙◌, subst}
use Rattle.std.specs.Prelude.{is_some, find}
use Rattle.std.specs.List.{list_any}
use Rattle.std.specs.Option.{option_map}
use Rattle.std.proofs.lemmas.Bool.{false≢true}
use Rattle.base_script.specs.declared.actor.Actor.{Actor}
use Rattle.server_model.specs.declared.entry.Entry.{Entry}
use Rattle.server_model.specs.Entries.{same_actor}
use Rattle.plan_data.specs.PlanData.{PlanData}
use Rattle.tool_program.specs.JournalWords.Sessions.{live_session, session_left}
use Rattle.tool_program.specs.Orders.{actors}
use Rattle.tool_finish.specs.Finishes.{first_live}
use Rattle.proof_journals.proofs.Actors.{same_actor_is, same_actor_itself, live_more}
use Rattle.run_actors.specs.ActorStates.{actor_state_at}
use Rattle.run_finish.specs.declared.sessions.LiveSession.{LiveSession}
use Rattle.run_finish.specs.Sessions.{live_at, sessions_at, live_in, first_actor, session_of, session_after}

-- of the run's record
live_of_states : (table : List ℕ) (journal : List Entry) (all : List Actor) → map live_in (map (actor_state_at table journal) all) ≡ map (live_at journal) all
live_of_states table journal [] = refl
live_of_states table journal (actor ∷ all) = ap (λ (more : List LiveSession). live_at journal actor ∷ more) (live_of_states table journal all)

pub sessions_begin : (plan : PlanData) (journal : List Entry) → map live_in (map (actor_state_at plan.table journal) (actors plan)) ≡ sessions_at plan journal
sessions_begin plan journal = live_of_states plan.table journal (actors plan)

-- one turn more
live_one : (journal : List Entry) (entry : Entry) (actor : Actor) → session_after entry (live_at journal actor) ≡ live_at (journal ++ entry ∷ []) actor
live_one journal entry actor = at (same_actor entry.actor actor) refl
  where
    at : (b : Bool) → same_actor entry.actor actor ≡ b → cond b (record { actor = actor; session = session_left entry.asked entry.answer entry.session }) (live_at journal actor) ≡ live_at (journal ++ entry ∷ []) actor
    at true same = ap (λ (session : Option ℕ). record { actor = actor; session = session }) (sym (live_more journal entry actor ∙ rw same refl))
    at false other = ap (λ (session : Option ℕ). record { actor = actor; session = session }) (sym (live_more journal entry actor ∙ rw other refl))

live_all : (journal : List Entry) (entry : Entry) (all : List Actor) → map (session_after entry) (map (live_at journal) all) ≡ map (live_at (journal ++ entry ∷ [])) all
live_all journal entry [] = refl
live_all journal entry (actor ∷ all) = ap (λ (one : LiveSession). one ∷ map (session_after entry) (map (live_at journal) all)) (live_one journal entry actor) ∙ ap (λ (more : List LiveSession). live_at (journal ++ entry ∷ []) actor ∷ more) (live_all journal entry all)

pub sessions_more : (plan : PlanData) (journal : List Entry) (entry : Entry) → map (session_after entry) (sessions_at plan journal) ≡ sessions_at plan (journal ++ entry ∷ [])
sessions_more plan journal entry = live_all journal entry (actors plan)

-- THE FIRST THAT HAS ONE

first_among : (journal : List Entry) (all : List Actor) → option_map (λ (one : LiveSession). one.actor) (find (λ (one : LiveSession). is_some one.session) (map (live_at journal) all)) ≡ find (λ (actor : Actor). is_some (live_session journal actor)) all
first_among journal [] = refl
first_among journal (actor ∷ all) = at (is_some (live_session journal actor)) (first_among journal all)
  where
    at : (b : Bool) → option_map (λ (one : LiveSession). one.actor) (find (λ (one : LiveSession). is_some one.session) (map (live_at journal) all)) ≡ find (λ (a : Actor). is_some (live_session journal a)) all
        → option_map (λ (one : LiveSession). one.actor) (cond b (Some (live_at journal actor)) (find (λ (one : LiveSession). is_some one.session) (map (live_at journal) all))) ≡ cond b (Some actor) (find (λ (a : Actor). is_some (live_session journal a)) all)
    at true later = refl
    at false later = later

pub first_is : (plan : PlanData) (journal : List Entry) → first_actor (sessions_at plan journal) ≡ first_live plan journal
unfolding first_live
first_is plan journal = first_among journal (actors plan)

-- it has one
found_lives : (journal : List Entry) (all : List Actor) (actor : Actor) → find (λ (a : Actor). is_some (live_session journal a)) all ≡ Some actor → is_some (live_session journal actor) ≡ true
found_lives journal [] actor is = absurd (cc)
found_lives journal (first ∷ all) actor is = at (is_some (live_session journal first)) refl is (found_lives journal all actor)
  where
    at : (b : Bool) → is_some (live_session journal first) ≡ b → cond b (Some first) (find (λ (a : Actor). is_some (live_session journal a)) all) ≡ Some actor → (find (λ (a : Actor). is_some (live_session journal a)) all ≡ Some actor → is_some (live_session journal actor) ≡ true) → is_some (live_session journal actor) ≡ true
    at true lives is later = let same : first ≡ actor = cc in subst (λ (a : Actor). is_some (live_session journal a) ≡ true) same lives
    at false none is later = later is

pub first_lives : (plan : PlanData) (journal : List Entry) (actor : Actor) → first_live plan journal ≡ Some actor → is_some (live_session journal actor) ≡ true
unfolding first_live
first_lives plan journal actor is = found_lives journal (actors plan) actor is

-- ... and is among them
abbrev pub IsAmong : Actor → List Actor → Type 0
IsAmong actor all = list_any (λ (a : Actor). same_actor a actor) all ≡ true

-- THE SESSION OF ONE

session_among : (journal : List Entry) (all : List Actor) (actor : Actor) → IsAmong actor all → session_of (map (live_at journal) all) actor ≡ live_session journal actor
unfolding session_of
session_among journal [] actor is = absurd (false≢true is)
session_among journal (first ∷ all) actor is = at (same_actor first actor) refl is (session_among journal all actor)
  where
    at : (b : Bool) → same_actor first actor ≡ b → (b || list_any (λ (a : Actor). same_actor a actor) all) ≡ true → (IsAmong actor all → session_of (map (live_at journal) all) actor ≡ live_session journal actor) → cond b (live_session journal first) (session_of (map (live_at journal) all) actor) ≡ live_session journal actor
    at true same is later = ap (live_session journal) (same_actor_is first actor same)
    at false other is later = later is

pub session_is : (plan : PlanData) (journal : List Entry) (actor : Actor) → IsAmong actor (actors plan) → session_of (sessions_at plan journal) actor ≡ live_session journal actor
session_is plan journal actor is = session_among journal (actors plan) actor is

found_among : (journal : List Entry) (all : List Actor) (actor : Actor) → find (λ (a : Actor). is_some (live_session journal a)) all ≡ Some actor → IsAmong actor all
found_among journal [] actor is = absurd (cc)
found_among journal (first ∷ all) actor is = at (is_some (live_session journal first)) is (found_among journal all actor)
  where
    among : (same : Bool) → IsAmong actor all → (same || list_any (λ (a : Actor). same_actor a actor) all) ≡ true
    among true later = refl
    among false later = later

    at : (b : Bool) → cond b (Some first) (find (λ (a : Actor). is_some (live_session journal a)) all) ≡ Some actor → (find (λ (a : Actor). is_some (live_session journal a)) all ≡ Some actor → IsAmong actor all) → IsAmong actor (first ∷ all)
    at true is later = let same : first ≡ actor = cc in rw (ap (λ (a : Actor). same_actor a actor) same ∙ same_actor_itself actor) refl
    at false is later = among (same_actor first actor) (later is)

pub first_among_all : (plan : PlanData) (journal : List Entry) (actor : Actor) → first_live plan journal ≡ Some actor → IsAmong actor (actors plan)
unfolding first_live
first_among_all plan journal actor is = found_among journal (actors plan) actor is
