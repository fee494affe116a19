-- No two live sessions have one number; so a session that holds no name can be lost, and others hold what they held.
use Rattle.server_model.specs.Drawing.{filled}
use Rattle.std.proofs.Common.{◌≡◌, ℕ, Bool, true, false, not, ◌||◌, List, [], ◌∷◌, ◌++◌, filter, cond, Option, Some, None, refl, sym, ap, ◌∙◌}
use Rattle.std.specs.Prelude.{◌==◌, is_some}
use Rattle.std.proofs.lemmas.Bool.{true≢false}
use Rattle.server_locks.specs.MetadataLocks.Grants as grants
use Rattle.server_locks.specs.MetadataLocks.Grants.{holds}
use Rattle.base_script.specs.declared.actor.Side.{Side}
use Rattle.base_script.specs.declared.actor.Side.TheVariants.{Before, After}
use Rattle.server_model.specs.Effects.{Effect, Forgets, Grows, Locks, Moves, Rests, Unlocks, Writes, effect}
use Rattle.server_model.specs.Entries.{is_client, is_command}
use Rattle.server_model.specs.Blockers.{blocker, need}
use Rattle.server_model.specs.PlainServer.{at_rest, called_unless, calls, counting, does, done, did, holding, is_over, leaves, locking, loses, polled_of, polled_over, polled_unless, polls, serves, unlocking, without_waiting}
use Rattle.server_model.specs.States.{State, connected, names_held, new_session, session_of, waiting_of, with_session}
use Rattle.server_model.specs.declared.entry.Asked.{Asked}
use Rattle.server_model.specs.declared.entry.Asked.TheVariants.{Call, Poll, Command, Cut}
use Rattle.server_model.specs.declared.entry.Entry.{Entry}
use Rattle.server_model.specs.declared.request.Request.{Request}
use Rattle.server_model.specs.declared.session.HeldName.{HeldName}
use Rattle.server_model.specs.declared.session.Session.{Session}
use Rattle.server_model.specs.declared.session.Waiting.{Waiting}
use Rattle.plan_data.specs.PlanData.{PlanData}
use Rattle.tool_program.specs.JournalWords.Journals.{after_entry, opening, opens, opens_if, state_at, state_after}
use Rattle.server_model.proofs.LockedRows.Tests.{are_one, turned}
use Rattle.proof_journals.proofs.Names.{as_held}
use Rattle.proof_journals.proofs.ServerTurns.Others.{holds_parts}

-- *Apart*: each session's number is none of the later ones'
abbrev pub IsApart : List Session → Type 0
IsApart [] = Unit {0}
IsApart (first ∷ sessions) = (session_of first.number sessions ≡ None) × IsApart sessions

-- WHAT KEEPS IT

none_with : (number other : ℕ) (change : Session → Session) (sessions : List Session) → ((s : Session) → (change s).number ≡ s.number) → session_of other sessions ≡ None → session_of other (with_session number change sessions) ≡ None
unfolding with_session
none_with number other change [] keeps none = refl
none_with number other change (first ∷ sessions) keeps none = by (first.number == other) (first.number == number) refl none (none_with number other change sessions keeps) where
  by : (a b : Bool) → (first.number == other) ≡ a → cond a (Some first) (session_of other sessions) ≡ None → (session_of other sessions ≡ None → session_of other (with_session number change sessions) ≡ None) → session_of other (cond b (change first ∷ sessions) (first ∷ with_session number change sessions)) ≡ None
  by true b is none rest = absurd cc
  by false true is none rest = rw (ap (λ (n : ℕ). n == other) (keeps first) ∙ is) none
  by false false is none rest = rw is (rest none)

apart_with : (number : ℕ) (change : Session → Session) (sessions : List Session) → ((s : Session) → (change s).number ≡ s.number) → IsApart sessions → IsApart (with_session number change sessions)
unfolding with_session
apart_with number change [] keeps apart = tt
apart_with number change (first ∷ sessions) keeps apart = by (first.number == number) (apart_with number change sessions keeps apart.1) where
  by : (b : Bool) → IsApart (with_session number change sessions) → IsApart (cond b (change first ∷ sessions) (first ∷ with_session number change sessions))
  by true rest = (ap (λ (n : ℕ). session_of n sessions) (keeps first) ∙ apart.0, apart.1)
  by false rest = (none_with number first.number change sessions keeps apart.0, rest)

none_less : (test : Session → Bool) (other : ℕ) (sessions : List Session) → session_of other sessions ≡ None → session_of other (filter test sessions) ≡ None
none_less test other [] none = refl
none_less test other (first ∷ sessions) none = by (first.number == other) (test first) refl none (none_less test other sessions) where
  by : (a b : Bool) → (first.number == other) ≡ a → cond a (Some first) (session_of other sessions) ≡ None → (session_of other sessions ≡ None → session_of other (filter test sessions) ≡ None) → session_of other (cond b (first ∷ filter test sessions) (filter test sessions)) ≡ None
  by true b is none rest = absurd cc
  by false true is none rest = rw is (rest none)
  by false false is none rest = rest none

apart_less : (test : Session → Bool) (sessions : List Session) → IsApart sessions → IsApart (filter test sessions)
apart_less test [] apart = tt
apart_less test (first ∷ sessions) apart = by (test first) (apart_less test sessions apart.1) where
  by : (b : Bool) → IsApart (filter test sessions) → IsApart (cond b (first ∷ filter test sessions) (filter test sessions))
  by true rest = (none_less test first.number sessions apart.0, rest)
  by false rest = rest

none_joined : (new : Session) (other : ℕ) (sessions : List Session) → session_of other sessions ≡ None → (new.number == other) ≡ false → session_of other (sessions ++ new ∷ []) ≡ None
none_joined new other [] none differ = rw differ refl
none_joined new other (first ∷ sessions) none differ = by (first.number == other) none (λ less. none_joined new other sessions less differ) where
  by : (b : Bool) → cond b (Some first) (session_of other sessions) ≡ None → (session_of other sessions ≡ None → session_of other (sessions ++ new ∷ []) ≡ None) → cond b (Some first) (session_of other (sessions ++ new ∷ [])) ≡ None
  by true none rest = absurd cc
  by false none rest = rest none

apart_joined : (new : Session) (sessions : List Session) → session_of new.number sessions ≡ None → IsApart sessions → IsApart (sessions ++ new ∷ [])
apart_joined new [] none apart = (refl, tt)
apart_joined new (first ∷ sessions) none apart = by (first.number == new.number) refl none (λ less. apart_joined new sessions less apart.1) where
  by : (b : Bool) → (first.number == new.number) ≡ b → cond b (Some first) (session_of new.number sessions) ≡ None → (session_of new.number sessions ≡ None → IsApart (sessions ++ new ∷ [])) → IsApart ((first ∷ sessions) ++ new ∷ [])
  by true is none rest = absurd cc
  by false is none rest = (none_joined new first.number sessions apart.0 (turned first.number new.number is), rest none)

-- EACH TURN

apart_does : (one : Effect) (state : State) (number : ℕ) → IsApart state.sessions → IsApart (does one state number).after.sessions
apart_does (Rests answer) state number apart = apart
apart_does (Grows answer need events) state number apart = apart_with number (holding need events) state.sessions (λ s. refl) apart
apart_does (Writes answer events) state number apart = apart_with number at_rest state.sessions (λ s. refl) apart
apart_does (Forgets answer) state number apart = apart_with number at_rest state.sessions (λ s. refl) apart
apart_does (Moves answer tables) state number apart = apart
apart_does (Locks answer names) state number apart = apart_with number (locking names) state.sessions (λ s. refl) apart
apart_does (Unlocks answer) state number apart = apart_with number unlocking state.sessions (λ s. refl) apart

apart_done : (state : State) (number : ℕ) (request : Request) → IsApart state.sessions → IsApart (done state number request).after.sessions
unfolding did
apart_done state number request apart = apart_does (effect state number (filled state number request)) state number apart

apart_served : (state : State) (number : ℕ) (asked : Asked) → IsApart state.sessions → IsApart (serves state number asked).after.sessions
unfolding calls polls loses
apart_served state number (Call request) apart = by (blocker state number (need state number request)) where
  by : (blocked : Option ℕ) → IsApart (called_unless blocked state number request).after.sessions
  by None = apart_done state number request apart
  by (Some one) = apart_with number (counting 0) state.sessions (λ s. refl) apart
apart_served state number Poll apart = by (waiting_of number state.waiting) where
  over : (late : Bool) (one : ℕ) → IsApart (polled_over late one state number).after.sessions
  over true one = apart_with number at_rest state.sessions (λ s. refl) apart
  over false one = apart_with number (counting _) state.sessions (λ s. refl) apart

  unless : (blocked : Option ℕ) (request : Request) → IsApart (polled_unless blocked state number request).after.sessions
  unless None request = apart_done (without_waiting number state) number request apart
  unless (Some one) request = over (is_over state number) one

  by : (waiting : Option Waiting) → IsApart (polled_of waiting state number).after.sessions
  by None = apart
  by (Some waiting) = unless (blocker state number (need state number waiting.request)) waiting.request
apart_served state number (Command word) apart = apart
apart_served state number Cut apart = apart_less (λ session. not (session.number == number)) state.sessions apart

apart_left : (side : Option Side) (state : State) (number : ℕ) (asked : Asked) → IsApart state.sessions → IsApart (leaves side state number asked).sessions
unfolding loses
apart_left None state number asked apart = apart_served state number asked apart
apart_left (Some Before) state number asked apart = apart_less (λ session. not (session.number == number)) state.sessions apart
apart_left (Some After) state number asked apart = apart_less (λ session. not (session.number == number)) (serves state number asked).after.sessions (apart_served state number asked apart)

none_if : (found : Option Session) → is_some found ≡ false → found ≡ None
none_if None is = refl
none_if (Some session) is = absurd (true≢false is)

apart_opened : (nothing tool : Bool) (number : ℕ) (state : State) → IsApart state.sessions → IsApart (opens_if nothing tool number state).sessions
unfolding opens_if
apart_opened nothing tool number state apart = by nothing (is_some (session_of number state.sessions)) refl where
  by : (a b : Bool) → is_some (session_of number state.sessions) ≡ b → IsApart (cond (a || b) state (connected number tool state)).sessions
  by true b is = apart
  by false true is = apart
  by false false is = apart_joined (new_session number tool) state.sessions (none_if (session_of number state.sessions) is) apart

-- *Behind every journal*
apart_after : (state : State) (journal : List Entry) → IsApart state.sessions → IsApart (state_after state journal).sessions
unfolding state_after
apart_after state [] apart = apart
apart_after state (entry ∷ journal) apart =
    apart_after (after_entry state entry) journal
    (apart_left entry.side (opens entry state) entry.session entry.asked (apart_opened (is_command entry.asked) (not (is_client entry.actor)) entry.session state apart))

pub all_apart : (plan : PlanData) (journal : List Entry) → IsApart (state_at plan journal).sessions
all_apart plan journal = apart_after (opening plan) journal tt

pub opened_apart : (plan : PlanData) (journal : List Entry) (entry : Entry) → IsApart (opens entry (state_at plan journal)).sessions
opened_apart plan journal entry = apart_opened (is_command entry.asked) (not (is_client entry.actor)) entry.session (state_at plan journal) (all_apart plan journal)

-- A LOSS

none_found : (number : ℕ) (sessions : List Session) → session_of number sessions ≡ None → (found : Session) → session_of number sessions ≡ Some found → found.names ≡ []
none_found number sessions none found is = absurd (no (sym none ∙ is)) where
  no : None ≡ Some found → ⊥
  no same = cc

-- of a session that holds no name
pub gone_names : (number : ℕ) (sessions : List Session) → IsApart sessions → ((found : Session) → session_of number sessions ≡ Some found → found.names ≡ []) → names_held (filter (λ session. not (session.number == number)) sessions) ≡ names_held sessions
gone_names number [] apart none = refl
gone_names number (first ∷ sessions) apart none = by (first.number == number) refl none (gone_names number sessions apart.1) where
  by : (b : Bool) → (first.number == number) ≡ b → ((found : Session) → cond b (Some first) (session_of number sessions) ≡ Some found → found.names ≡ [])
      → (((found : Session) → session_of number sessions ≡ Some found → found.names ≡ []) → names_held (filter (λ session. not (session.number == number)) sessions) ≡ names_held sessions)
      → names_held (cond (not b) (first ∷ filter (λ session. not (session.number == number)) sessions) (filter (λ session. not (session.number == number)) sessions)) ≡ names_held (first ∷ sessions)
  by true is none rest =
      rest (none_found number sessions (ap (λ (n : ℕ). session_of n sessions) (sym (are_one first.number number is)) ∙ apart.0)) ∙ sym (ap (λ (names : List HeldName). as_held first.number names ++ names_held sessions) (none first refl))
  by false is none rest = ap (λ (held : List grants.HeldName). as_held first.number first.names ++ held) (rest none)

not_own : (holder number : ℕ) (held : List HeldName) (name : List ℕ) (exclusive : Bool) → (holder == number) ≡ false → holds (as_held holder held) number name exclusive ≡ false
unfolding holds
not_own holder number [] name exclusive differ = refl
not_own holder number (h ∷ held) name exclusive differ = rw differ (not_own holder number held name exclusive differ)

-- a session that is lost holds nothing
pub lost_holds : (number : ℕ) (sessions : List Session) (name : List ℕ) (exclusive : Bool) → holds (names_held (filter (λ session. not (session.number == number)) sessions)) number name exclusive ≡ false
unfolding holds
lost_holds number [] name exclusive = refl
lost_holds number (first ∷ sessions) name exclusive = by (first.number == number) refl (lost_holds number sessions name exclusive) where
  by : (b : Bool) → (first.number == number) ≡ b → holds (names_held (filter (λ session. not (session.number == number)) sessions)) number name exclusive ≡ false
      → holds (names_held (cond (not b) (first ∷ filter (λ session. not (session.number == number)) sessions) (filter (λ session. not (session.number == number)) sessions))) number name exclusive ≡ false
  by true is rest = rest
  by false is rest =
      holds_parts (as_held first.number first.names) (names_held (filter (λ session. not (session.number == number)) sessions)) number name exclusive
      ∙ ap (λ (b : Bool). b || holds (names_held (filter (λ session. not (session.number == number)) sessions)) number name exclusive) (not_own first.number number first.names name exclusive is) ∙ rest

-- nor does one that has no name
pub nameless_holds : (number : ℕ) (sessions : List Session) → IsApart sessions → ((found : Session) → session_of number sessions ≡ Some found → found.names ≡ []) → (name : List ℕ) (exclusive : Bool) → holds (names_held sessions) number name exclusive ≡ false
nameless_holds number sessions apart none name exclusive = ap (λ (held : List grants.HeldName). holds held number name exclusive) (sym (gone_names number sessions apart none)) ∙ lost_holds number sessions name exclusive
