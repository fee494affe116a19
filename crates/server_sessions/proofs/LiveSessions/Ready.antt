-- The sessions stay ready, while one of them changes.
use Rattle.std.proofs.Common.{◌≡◌, ℕ, ◌+◌, ◌≤◌, ◌<◌, Bool, List, [], ◌∷◌, ◌++◌, filter, not, Result, Ok, Err, OnOk, OnErr, refl, arith}
use Rattle.std.specs.Prelude.{◌==◌}
use Rattle.std.specs.List.{AllByRecursion}
use Rattle.base_values.specs.declared.event.RowEvent.{RowEvent}
use Rattle.server_log.specs.Encodings.{IsEncodable}
use Rattle.server_log.specs.EventCosts.Costs.{bytes_of}
use Rattle.server_model.specs.declared.need.Need.{Need}
use Rattle.server_model.specs.declared.session.Limits.{Limits}
use Rattle.server_model.specs.declared.session.Session.{Session}
use Rattle.server_model.specs.PlainServer.{at_rest, counting, holding, limit_if}
use Rattle.server_model.specs.States.{is_of_tool, new_session, session_of, with_session, writes_of}
use Rattle.server_sessions.specs.LiveSessions.Rooms.{open_bytes, IsReady}
use Rattle.server_sessions.specs.LiveSessions.SessionLists.{NumberedSessions}
use Rattle.server_sessions.proofs.LiveSessions.OpenBytes.{same_room, more_room, rest_room, less_room, joined_room, same_encodable, more_encodable, rest_encodable, lost_encodable, joined_encodable, own_encodable}
use Rattle.server_sessions.proofs.LiveSessions.Polls.{same_polls, counted_polls, limit_some, less_polls, joined_polls}

-- a transaction is over: the room for what it wrote is taken, or given back
pub ready_rests : (limits : Limits) (number : ℕ) (sessions : List Session) (spare left : ℕ) → IsReady limits sessions spare → spare ≤ left + bytes_of (writes_of (session_of number sessions)) → IsReady limits (with_session number at_rest sessions) left
ready_rests limits number sessions spare left ready room =
    let parts : bytes_of (writes_of (session_of number sessions)) + open_bytes (with_session number at_rest sessions) ≡ open_bytes sessions = rest_room number sessions in
    record {
      room = omega (arith, ready.room, parts, room);
      encodable = rest_encodable number sessions ready.encodable;
      clients = ready.clients;
      tools = ready.tools;
      polls = same_polls limits number at_rest sessions (λ s. refl) (λ s. refl) ready.polls;
    }

-- what a session wrote is encoded
pub writes_encodable : (limits : Limits) (number : ℕ) (sessions : List Session) (spare : ℕ) → IsReady limits sessions spare → AllByRecursion IsEncodable (writes_of (session_of number sessions))
writes_encodable limits number sessions spare ready = own_encodable number sessions ready.encodable

-- ... and has room
pub writes_within : (limits : Limits) (number : ℕ) (sessions : List Session) (spare : ℕ) → IsReady limits sessions spare → bytes_of (writes_of (session_of number sessions)) ≤ spare
writes_within limits number sessions spare ready =
    let parts : bytes_of (writes_of (session_of number sessions)) + open_bytes (with_session number at_rest sessions) ≡ open_bytes sessions = rest_room number sessions in
    omega (arith, ready.room, parts)

-- a transaction goes on, and there is room for more
pub ready_grows : (limits : Limits) (number : ℕ) (need : Need) (events : List RowEvent) (sessions : List Session) (spare : ℕ) → IsReady limits sessions spare → AllByRecursion IsEncodable events → IsReady limits (with_session number (holding need events) sessions) (spare + bytes_of events)
ready_grows limits number need events sessions spare ready all =
    let more : open_bytes (with_session number (holding need events) sessions) ≤ open_bytes sessions + bytes_of events = more_room number need events sessions in
    record {
      room = omega (arith, ready.room, more);
      encodable = more_encodable number need events sessions ready.encodable all;
      clients = ready.clients;
      tools = ready.tools;
      polls = same_polls limits number (holding need events) sessions (λ s. refl) (λ s. refl) ready.polls;
    }

-- a change that leaves what was written and how often a session was polled
pub ready_same : (limits : Limits) (number : ℕ) (change : Session → Session) (sessions : List Session) (spare : ℕ) → ((s : Session) → (change s).writes ≡ s.writes) → ((s : Session) → (change s).polls ≡ s.polls) → ((s : Session) → (change s).is_tool ≡ s.is_tool) → IsReady limits sessions spare
    → IsReady limits (with_session number change sessions) spare
ready_same limits number change sessions spare writes polls tool ready =
    let same : open_bytes (with_session number change sessions) ≡ open_bytes sessions = same_room number change sessions writes in
    record {
      room = omega (arith, ready.room, same);
      encodable = same_encodable number change sessions writes ready.encodable;
      clients = ready.clients;
      tools = ready.tools;
      polls = same_polls limits number change sessions polls tool ready.polls;
    }

-- a poll is counted
pub ready_counts : (limits : Limits) (number count : ℕ) (sessions : List Session) (spare : ℕ) → count < limit_if (is_of_tool (session_of number sessions)) limits → IsReady limits sessions spare → IsReady limits (with_session number (counting count) sessions) spare
ready_counts limits number count sessions spare less ready =
    let same : open_bytes (with_session number (counting count) sessions) ≡ open_bytes sessions = same_room number (counting count) sessions (λ s. refl) in
    record {
      room = omega (arith, ready.room, same);
      encodable = same_encodable number (counting count) sessions (λ s. refl) ready.encodable;
      clients = ready.clients;
      tools = ready.tools;
      polls = counted_polls limits number count sessions less ready.polls;
    }

-- ... the first time
pub ready_waits : (limits : Limits) (number : ℕ) (sessions : List Session) (spare : ℕ) → IsReady limits sessions spare → IsReady limits (with_session number (counting 0) sessions) spare
ready_waits limits number sessions spare ready = ready_counts limits number 0 sessions spare (limit_some limits (is_of_tool (session_of number sessions)) ready.clients ready.tools) ready

-- a session is lost
pub ready_less : (limits : Limits) (number : ℕ) (sessions : List Session) (spare : ℕ) → IsReady limits sessions spare → IsReady limits (filter (λ session. not (session.number == number)) sessions) spare
ready_less limits number sessions spare ready =
    let test : Session → Bool = λ session. not (session.number == number) in
    let less : open_bytes (filter test sessions) ≤ open_bytes sessions = less_room test sessions in
    record {
      room = omega (arith, ready.room, less);
      encodable = lost_encodable test sessions ready.encodable;
      clients = ready.clients;
      tools = ready.tools;
      polls = less_polls limits test sessions ready.polls;
    }

pub ready_joined : (limits : Limits) (number : ℕ) (is_tool : Bool) (sessions : List Session) (spare : ℕ) → IsReady limits sessions spare → IsReady limits (sessions ++ new_session number is_tool ∷ []) spare
ready_joined limits number is_tool sessions spare ready =
    let same : open_bytes (sessions ++ new_session number is_tool ∷ []) ≡ open_bytes sessions = joined_room number is_tool sessions in
    record {
      room = omega (arith, ready.room, same);
      encodable = joined_encodable number is_tool sessions ready.encodable;
      clients = ready.clients;
      tools = ready.tools;
      polls = joined_polls limits number is_tool sessions (limit_some limits is_tool ready.clients ready.tools) ready.polls;
    }

pub ready_none : (limits : Limits) (spare : ℕ) → 1 ≤ limits.client_wait → 1 ≤ limits.tool_wait → IsReady limits [] spare
unfolding open_bytes
ready_none limits spare clients tools = record { room = omega arith; encodable = tt; clients = clients; tools = tools; polls = tt }

-- a change that was made or wasn't
pub ready_either : {A E : Type 0} (result : Result A E) (limits : Limits) (old changed new : NumberedSessions) (spare : ℕ) → OnOk result (new ≡ changed) → OnErr result (new ≡ old) → IsReady limits changed.sessions spare → IsReady limits old.sessions spare → IsReady limits new.sessions spare
ready_either (Ok done) limits old changed new spare ok err then now = rw ok then
ready_either (Err fault) limits old changed new spare ok err then now = rw err now
