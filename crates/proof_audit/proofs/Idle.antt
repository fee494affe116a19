-- A session outside a transaction has written nothing, after any turns.
use Rattle.server_model.specs.Drawing.{filled}
use Rattle.std.proofs.Common.{◌≡◌, ℕ, ◌==◌, ◌||◌, Bool, true, false, cond, List, [], ◌∷◌, ◌++◌, find, filter, Option, Some, None, refl}
use Rattle.std.specs.List.{AllByRecursion}
use Rattle.base_script.specs.declared.actor.Side.{Side}
use Rattle.base_script.specs.declared.actor.Side.TheVariants.{Before, After}
use Rattle.server_model.specs.declared.request.Request.{Request}
use Rattle.server_model.specs.declared.entry.Asked.{Asked}
use Rattle.server_model.specs.declared.entry.Asked.TheVariants.{Call, Poll, Command, Cut}
use Rattle.server_model.specs.declared.entry.Entry.{Entry}
use Rattle.server_model.specs.declared.session.Session.{Session}
use Rattle.server_model.specs.declared.session.Waiting.{Waiting}
use Rattle.server_model.specs.Effects.{Effect, Rests, Grows, Writes, Forgets, Moves, Locks, Unlocks, effect}
use Rattle.server_model.specs.PlainServer.{called_unless, calls, does, done, did, leaves, loses, polled_of, polled_over, polled_unless, polls, serves, without_waiting}
use Rattle.server_model.specs.States.{State, connected, is_in_transaction, session_of, waiting_of, with_session, writes_of}
use Rattle.tool_program.specs.JournalWords.Journals.{after_entry, opening, opens, opens_if, state_at, state_after}
use Rattle.proof_audit.specs.Laws.{IdleWriteNothing}

-- outside a transaction it has written nothing
abbrev IsIdle : Session → Type 0
IsIdle session = session.in_transaction ≡ false → session.writes ≡ []

abbrev AreIdle : List Session → Type 0
AreIdle sessions = AllByRecursion IsIdle sessions

changed : (number : ℕ) (change : Session → Session) (sessions : List Session) → ((one : Session) → IsIdle one → IsIdle (change one)) → AreIdle sessions → AreIdle (with_session number change sessions)
unfolding with_session
changed number change [] keeps all = tt
changed number change (session ∷ sessions) keeps all = by (session.number == number) (changed number change sessions keeps all.1) where
  by : (b : Bool) → AreIdle (with_session number change sessions) → AreIdle (cond b (change session ∷ sessions) (session ∷ with_session number change sessions))
  by true rest = (keeps session all.0, all.1)
  by false rest = (all.0, rest)

left_over : (test : Session → Bool) (sessions : List Session) → AreIdle sessions → AreIdle (filter test sessions)
left_over test [] all = tt
left_over test (session ∷ sessions) all = by (test session) (left_over test sessions all.1) where
  by : (b : Bool) → AreIdle (filter test sessions) → AreIdle (cond b (session ∷ filter test sessions) (filter test sessions))
  by true rest = (all.0, rest)
  by false rest = rest

one_more : (sessions : List Session) (session : Session) → AreIdle sessions → IsIdle session → AreIdle (sessions ++ session ∷ [])
one_more [] session all is = (is, tt)
one_more (first ∷ sessions) session all is = (all.0, one_more sessions session all.1 is)

found_idle : (number : ℕ) (sessions : List Session) → AreIdle sessions → is_in_transaction (session_of number sessions) ≡ false → writes_of (session_of number sessions) ≡ []
found_idle number [] all idle = refl
found_idle number (session ∷ sessions) all idle = by (session.number == number) idle (found_idle number sessions all.1) where
  by : (b : Bool) → is_in_transaction (cond b (Some session) (find (λ one. one.number == number) sessions)) ≡ false → (is_in_transaction (find (λ one. one.number == number) sessions) ≡ false → writes_of (find (λ one. one.number == number) sessions) ≡ [])
      → writes_of (cond b (Some session) (find (λ one. one.number == number) sessions)) ≡ []
  by true is rest = all.0 is
  by false is rest = rest is

-- ---- what the server does

does_idle : (one : Effect) (state : State) (number : ℕ) → AreIdle state.sessions → AreIdle (does one state number).after.sessions
does_idle (Rests answer) state number all = all
does_idle (Grows answer need events) state number all = changed number _ state.sessions (λ session is busy. absurd cc) all
does_idle (Writes answer events) state number all = changed number _ state.sessions (λ session is idle. refl) all
does_idle (Forgets answer) state number all = changed number _ state.sessions (λ session is idle. refl) all
does_idle (Moves answer tables) state number all = all
does_idle (Locks answer names) state number all = changed number _ state.sessions (λ session is. is) all
does_idle (Unlocks answer) state number all = changed number _ state.sessions (λ session is. is) all

done_idle : (state : State) (number : ℕ) (request : Request) → AreIdle state.sessions → AreIdle (done state number request).after.sessions
unfolding did
done_idle state number request all = does_idle (effect state number (filled state number request)) state number all

called_idle : (by : Option ℕ) (state : State) (number : ℕ) (request : Request) → AreIdle state.sessions → AreIdle (called_unless by state number request).after.sessions
called_idle None state number request all = done_idle state number request all
called_idle (Some by) state number request all = changed number _ state.sessions (λ session is. is) all

over_idle : (b : Bool) (by : ℕ) (state : State) (number : ℕ) → AreIdle state.sessions → AreIdle (polled_over b by state number).after.sessions
over_idle true by state number all = changed number _ state.sessions (λ session is idle. refl) all
over_idle false by state number all = changed number _ state.sessions (λ session is. is) all

polled_idle : (by : Option ℕ) (state : State) (number : ℕ) (request : Request) → AreIdle state.sessions → AreIdle (polled_unless by state number request).after.sessions
polled_idle None state number request all = done_idle (without_waiting number state) number request all
polled_idle (Some by) state number request all = over_idle _ by state number all

of_idle : (found : Option Waiting) (state : State) (number : ℕ) → AreIdle state.sessions → AreIdle (polled_of found state number).after.sessions
of_idle None state number all = all
of_idle (Some waiting) state number all = polled_idle _ state number waiting.request all

loses_idle : (number : ℕ) (state : State) → AreIdle state.sessions → AreIdle (loses number state).sessions
unfolding loses
loses_idle number state all = left_over _ state.sessions all

serves_idle : (state : State) (number : ℕ) (asked : Asked) → AreIdle state.sessions → AreIdle (serves state number asked).after.sessions
unfolding calls polls
serves_idle state number (Call request) all = called_idle _ state number request all
serves_idle state number Poll all = of_idle (waiting_of number state.waiting) state number all
serves_idle state number (Command word) all = all
serves_idle state number Cut all = loses_idle number state all

leaves_idle : (side : Option Side) (state : State) (number : ℕ) (asked : Asked) → AreIdle state.sessions → AreIdle (leaves side state number asked).sessions
leaves_idle None state number asked all = serves_idle state number asked all
leaves_idle (Some Before) state number asked all = loses_idle number state all
leaves_idle (Some After) state number asked all = loses_idle number (serves state number asked).after (serves_idle state number asked all)

opens_idle : (nothing tool : Bool) (number : ℕ) (state : State) → AreIdle state.sessions → AreIdle (opens_if nothing tool number state).sessions
unfolding opens_if
opens_idle nothing tool number state all = by (nothing || _) where
  by : (b : Bool) → AreIdle (cond b state (connected number tool state)).sessions
  by true = all
  by false = one_more state.sessions _ all (λ idle. refl)

after_idle : (state : State) (journal : List Entry) → AreIdle state.sessions → AreIdle (state_after state journal).sessions
unfolding state_after
after_idle state [] all = all
after_idle state (entry ∷ journal) all = after_idle (after_entry state entry) journal (leaves_idle entry.side (opens entry state) entry.session entry.asked (opens_idle _ _ entry.session state all))

-- *Idle sessions wrote nothing*
pub idle_write_nothing : IdleWriteNothing
idle_write_nothing plan before entry kept idle = found_idle entry.session (opens entry (state_at plan before)).sessions (opens_idle _ _ entry.session (state_at plan before) (after_idle (opening plan) before tt)) idle
