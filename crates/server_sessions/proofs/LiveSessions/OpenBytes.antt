-- In how many bytes the events of open transactions are encoded, while sessions change; and that all of them are.
use Rattle.std.proofs.Common.{◌≡◌, ℕ, ◌+◌, ◌≤◌, Bool, true, false, List, [], ◌∷◌, ◌++◌, length, filter, cond, Some, refl, ap, arith}
use Rattle.std.specs.Prelude.{◌==◌}
use Rattle.std.specs.List.{AllByRecursion}
use Rattle.std.proofs.lemmas.List.Sums.{sum_by-append}
use Rattle.base_values.proofs.SchemaRules.Lists.{All-append, All-filter}
use Rattle.base_values.specs.declared.event.RowEvent.{RowEvent}
use Rattle.server_log.specs.Encodings.{encoded, IsEncodable}
use Rattle.server_log.specs.EventCosts.Costs.{bytes_of}
use Rattle.server_model.specs.declared.need.Need.{Need}
use Rattle.server_model.specs.declared.session.Session.{Session}
use Rattle.server_model.specs.PlainServer.{at_rest, holding}
use Rattle.server_model.specs.States.{new_session, session_of, with_session, writes_of}
use Rattle.server_sessions.specs.LiveSessions.Rooms.{open_bytes, AreEncodable}

-- HOW MANY BYTES

-- a change that leaves what a session wrote
pub same_room : (number : ℕ) (change : Session → Session) (sessions : List Session) → ((s : Session) → (change s).writes ≡ s.writes) → open_bytes (with_session number change sessions) ≡ open_bytes sessions
unfolding open_bytes with_session
same_room number change [] keeps = refl
same_room number change (first ∷ sessions) keeps = at (first.number == number) (same_room number change sessions keeps) where
  at : (b : Bool) → open_bytes (with_session number change sessions) ≡ open_bytes sessions → open_bytes (cond b (change first ∷ sessions) (first ∷ with_session number change sessions)) ≡ bytes_of first.writes + open_bytes sessions
  at true rest = ap (λ (w : List RowEvent). bytes_of w + open_bytes sessions) (keeps first)
  at false rest = ap (λ (n : ℕ). bytes_of first.writes + n) rest

-- more events at most
pub more_room : (number : ℕ) (need : Need) (events : List RowEvent) (sessions : List Session) → open_bytes (with_session number (holding need events) sessions) ≤ open_bytes sessions + bytes_of events
unfolding open_bytes with_session
more_room number need events [] = omega arith
more_room number need events (first ∷ sessions) = at (first.number == number) (more_room number need events sessions) where
  at : (b : Bool) → open_bytes (with_session number (holding need events) sessions) ≤ open_bytes sessions + bytes_of events
      → open_bytes (cond b (holding need events first ∷ sessions) (first ∷ with_session number (holding need events) sessions)) ≤ (bytes_of first.writes + open_bytes sessions) + bytes_of events
  at true rest =
      let all : bytes_of (first.writes ++ events) ≡ bytes_of first.writes + bytes_of events = sum_by-append (λ (event : RowEvent). length (encoded event)) first.writes events in
      omega (arith, all)
  at false rest = omega (arith, rest)

-- what a session wrote is its part
pub rest_room : (number : ℕ) (sessions : List Session) → bytes_of (writes_of (session_of number sessions)) + open_bytes (with_session number at_rest sessions) ≡ open_bytes sessions
unfolding open_bytes with_session
rest_room number [] = refl
rest_room number (first ∷ sessions) = at (first.number == number) (rest_room number sessions) where
  at : (b : Bool) → bytes_of (writes_of (session_of number sessions)) + open_bytes (with_session number at_rest sessions) ≡ open_bytes sessions
      → bytes_of (writes_of (cond b (Some first) (session_of number sessions))) + open_bytes (cond b (at_rest first ∷ sessions) (first ∷ with_session number at_rest sessions)) ≡ bytes_of first.writes + open_bytes sessions
  at true rest = omega arith
  at false rest = omega (arith, rest)

-- fewer sessions wrote no more
pub less_room : (test : Session → Bool) (sessions : List Session) → open_bytes (filter test sessions) ≤ open_bytes sessions
unfolding open_bytes
less_room test [] = omega arith
less_room test (first ∷ sessions) = at (test first) (less_room test sessions) where
  at : (b : Bool) → open_bytes (filter test sessions) ≤ open_bytes sessions → open_bytes (cond b (first ∷ filter test sessions) (filter test sessions)) ≤ bytes_of first.writes + open_bytes sessions
  at true rest = omega (arith, rest)
  at false rest = omega (arith, rest)

pub joined_room : (number : ℕ) (is_tool : Bool) (sessions : List Session) → open_bytes (sessions ++ new_session number is_tool ∷ []) ≡ open_bytes sessions
unfolding open_bytes
joined_room number is_tool [] = refl
joined_room number is_tool (first ∷ sessions) = ap (λ (n : ℕ). bytes_of first.writes + n) (joined_room number is_tool sessions)

-- THAT ALL ARE ENCODED

-- a change that leaves what a session wrote
pub same_encodable : (number : ℕ) (change : Session → Session) (sessions : List Session) → ((s : Session) → (change s).writes ≡ s.writes) → AreEncodable sessions → AreEncodable (with_session number change sessions)
unfolding with_session
same_encodable number change [] keeps all = tt
same_encodable number change (first ∷ sessions) keeps all = at (first.number == number) (same_encodable number change sessions keeps all.1) where
  at : (b : Bool) → AreEncodable (with_session number change sessions) → AreEncodable (cond b (change first ∷ sessions) (first ∷ with_session number change sessions))
  at true rest = (rw (keeps first) all.0, all.1)
  at false rest = (all.0, rest)

pub more_encodable : (number : ℕ) (need : Need) (events : List RowEvent) (sessions : List Session) → AreEncodable sessions → AllByRecursion IsEncodable events → AreEncodable (with_session number (holding need events) sessions)
unfolding with_session
more_encodable number need events [] all more = tt
more_encodable number need events (first ∷ sessions) all more = at (first.number == number) (more_encodable number need events sessions all.1 more) where
  at : (b : Bool) → AreEncodable (with_session number (holding need events) sessions) → AreEncodable (cond b (holding need events first ∷ sessions) (first ∷ with_session number (holding need events) sessions))
  at true rest = (All-append IsEncodable first.writes events all.0 more, all.1)
  at false rest = (all.0, rest)

pub rest_encodable : (number : ℕ) (sessions : List Session) → AreEncodable sessions → AreEncodable (with_session number at_rest sessions)
unfolding with_session
rest_encodable number [] all = tt
rest_encodable number (first ∷ sessions) all = at (first.number == number) (rest_encodable number sessions all.1) where
  at : (b : Bool) → AreEncodable (with_session number at_rest sessions) → AreEncodable (cond b (at_rest first ∷ sessions) (first ∷ with_session number at_rest sessions))
  at true rest = (tt, all.1)
  at false rest = (all.0, rest)

pub lost_encodable : (test : Session → Bool) (sessions : List Session) → AreEncodable sessions → AreEncodable (filter test sessions)
lost_encodable test sessions all = All-filter (λ (session : Session). AllByRecursion IsEncodable session.writes) test sessions all

pub joined_encodable : (number : ℕ) (is_tool : Bool) (sessions : List Session) → AreEncodable sessions → AreEncodable (sessions ++ new_session number is_tool ∷ [])
joined_encodable number is_tool sessions all = All-append (λ (session : Session). AllByRecursion IsEncodable session.writes) sessions (new_session number is_tool ∷ []) all (tt, tt)

-- what one session wrote
pub own_encodable : (number : ℕ) (sessions : List Session) → AreEncodable sessions → AllByRecursion IsEncodable (writes_of (session_of number sessions))
own_encodable number [] all = tt
own_encodable number (first ∷ sessions) all = at (first.number == number) (own_encodable number sessions all.1) where
  at : (b : Bool) → AllByRecursion IsEncodable (writes_of (session_of number sessions)) → AllByRecursion IsEncodable (writes_of (cond b (Some first) (session_of number sessions)))
  at true rest = all.0
  at false rest = rest
