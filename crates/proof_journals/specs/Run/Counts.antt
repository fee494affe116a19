-- What one turn of a session does to the counts that a run keeps of the server. (This project's rule.)
use Rattle.std.specs.Prelude.{◌≡◌, ℕ, ◌≤◌, ◌==◌, Bool, not, ◌&&◌, ◌||◌, if◌then◌else◌, List, [], ◌∷◌, filter, count_by, Option, Some, None}
use Rattle.std.specs.List.{list_any}
use Rattle.std.specs.Option.{option_map}
use Rattle.server_model.specs.declared.session.Session.{Session}
use Rattle.server_model.specs.declared.session.Waiting.{Waiting}
use Rattle.server_model.specs.States.{State, session_of}

-- the same state, but for the greatest number that a session was given
abbrev pub numbered : ℕ → State → State
numbered made state = record state { made = made }

-- *Server after turns*: it may have made sessions besides, and lost them, since a step found no memory
pub record IsAfter (reported state : State) : Type 0 where
  pub made : reported.made ≤ state.made
  pub same : state ≡ numbered state.made reported

-- a client's transaction is open
abbrev pub is_open : Session → Bool
is_open session = not session.is_tool && session.in_transaction

-- a session of the tool's waits or is in a transaction
abbrev pub is_busy : List Waiting → Session → Bool
is_busy waiting session = session.is_tool && (session.in_transaction || list_any (λ one. one.session == session.number) waiting)

-- *Busy*: how many sessions of the tool's wait or are in a transaction
abbrev pub busy_count : State → ℕ
busy_count state = count_by (is_busy state.waiting) state.sessions

abbrev pub weight : Bool → ℕ
weight b = if b then 1 else 0

abbrev pub weigh : (Session → Bool) → Option Session → ℕ
weigh test None = 0
weigh test (Some session) = weight (test session)

-- the sessions but that of this number
abbrev pub others : ℕ → List Session → List Session
others number sessions = filter (λ session. not (session.number == number)) sessions

abbrev pub others_waiting : ℕ → List Waiting → List Waiting
others_waiting number waiting = filter (λ one. not (one.session == number)) waiting

-- no two sessions have one number
unfoldable pub AreApart : List Session → Type 0
AreApart [] = Unit {0}
AreApart (session ∷ sessions) = (session_of session.number sessions ≡ None) × AreApart sessions

-- whether the session of this number is the tool's, where it is live
abbrev pub kind_of : ℕ → List Session → Option Bool
kind_of number sessions = option_map (λ session. session.is_tool) (session_of number sessions)

-- *A turn of a session*: the others and their waits stay
pub record Turned (number : ℕ) (before after : State) : Type 0 where
  pub sessions : others number after.sessions ≡ others number before.sessions
  pub waiting : others_waiting number after.waiting ≡ others_waiting number before.waiting
  pub apart : AreApart before.sessions → AreApart after.sessions
