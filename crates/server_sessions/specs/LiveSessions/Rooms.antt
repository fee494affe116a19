-- What a server keeps beside its data: that every open transaction can be committed without memory, and that counts of
-- polls stay below their limits; and what a commit leaves beside the tables.
use Rattle.std.specs.Prelude.{ℕ, ◌+◌, ◌≤◌, ◌<◌, List, [], ◌∷◌, ◌++◌}
use Rattle.std.specs.List.{AllByRecursion}
use Rattle.base_values.specs.declared.event.RowEvent.{RowEvent}
use Rattle.server_log.specs.Encodings.{IsEncodable}
use Rattle.server_log.specs.EventCosts.Costs.{bytes_of}
use Rattle.server_model.specs.declared.session.Session.{Session}
use Rattle.server_model.specs.declared.session.Limits.{Limits}
use Rattle.server_model.specs.States.{State, session_of, with_session, writes_of}
use Rattle.server_model.specs.PlainServer.{at_rest, limit_if}

-- in how many bytes the events are encoded that the sessions wrote in their open transactions
unfoldable pub open_bytes : List Session → ℕ
open_bytes [] = 0
open_bytes (session ∷ sessions) = bytes_of session.writes + open_bytes sessions

-- each event that a session wrote in its open transaction is one that is encoded
abbrev pub AreEncodable : List Session → Type 0
AreEncodable sessions = AllByRecursion (λ session. AllByRecursion IsEncodable session.writes) sessions

-- no session was polled as often as its limit
abbrev pub PollsBelow : Limits → List Session → Type 0
PollsBelow limits sessions = AllByRecursion (λ session. session.polls < limit_if session.is_tool limits) sessions

-- The log has room for the events of all open transactions, each of which is encoded, a wait may be polled once at least, and no session was polled
-- as often as its limit.
pub record IsReady (limits : Limits) (sessions : List Session) (spare : ℕ) : Type 0 where
  pub room : open_bytes sessions ≤ spare
  pub encodable : AreEncodable sessions
  pub clients : 1 ≤ limits.client_wait
  pub tools : 1 ≤ limits.tool_wait
  pub polls : PollsBelow limits sessions

-- the session's transaction is committed with these events too, as to all but the tables
abbrev pub logs : ℕ → List RowEvent → State → State
logs number events state =
    record state { log = state.log ++ (writes_of (session_of number state.sessions) ++ events); sessions = with_session number at_rest state.sessions }
