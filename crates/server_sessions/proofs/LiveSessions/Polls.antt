-- How often sessions were polled, while they change.
use Rattle.std.proofs.Common.{◌≡◌, ℕ, ◌≤◌, ◌<◌, Bool, true, false, List, [], ◌∷◌, ◌++◌, filter, cond, Some}
use Rattle.std.specs.Prelude.{◌==◌}
use Rattle.server_model.specs.declared.session.Limits.{Limits}
use Rattle.server_model.specs.declared.session.Session.{Session}
use Rattle.server_model.specs.PlainServer.{counting, limit_if}
use Rattle.server_model.specs.States.{is_of_tool, new_session, polls_of, session_of, with_session}
use Rattle.server_sessions.specs.LiveSessions.Rooms.{PollsBelow}

-- a change that leaves how often a session was polled
pub same_polls : (limits : Limits) (number : ℕ) (change : Session → Session) (sessions : List Session) → ((s : Session) → (change s).polls ≡ s.polls) → ((s : Session) → (change s).is_tool ≡ s.is_tool) → PollsBelow limits sessions → PollsBelow limits (with_session number change sessions)
unfolding with_session
same_polls limits number change [] polls tool below = tt
same_polls limits number change (first ∷ sessions) polls tool below = at (first.number == number) (same_polls limits number change sessions polls tool below.1) where
  at : (b : Bool) → PollsBelow limits (with_session number change sessions) → PollsBelow limits (cond b (change first ∷ sessions) (first ∷ with_session number change sessions))
  at true rest = (rw (polls first, tool first) below.0, below.1)
  at false rest = (below.0, rest)

-- a count below the session's limit
pub counted_polls : (limits : Limits) (number count : ℕ) (sessions : List Session) → count < limit_if (is_of_tool (session_of number sessions)) limits → PollsBelow limits sessions → PollsBelow limits (with_session number (counting count) sessions)
unfolding with_session
counted_polls limits number count [] less below = tt
counted_polls limits number count (first ∷ sessions) less below = at (first.number == number) less (λ more. counted_polls limits number count sessions more below.1) where
  at : (b : Bool) → count < limit_if (is_of_tool (cond b (Some first) (session_of number sessions))) limits → (count < limit_if (is_of_tool (session_of number sessions)) limits → PollsBelow limits (with_session number (counting count) sessions))
      → PollsBelow limits (cond b (counting count first ∷ sessions) (first ∷ with_session number (counting count) sessions))
  at true less rest = (less, below.1)
  at false less rest = (below.0, rest less)

-- each session is polled fewer times than its limit
pub polls_under : (limits : Limits) (number : ℕ) (sessions : List Session) → 1 ≤ limits.client_wait → PollsBelow limits sessions → polls_of (session_of number sessions) < limit_if (is_of_tool (session_of number sessions)) limits
polls_under limits number [] some below = some
polls_under limits number (first ∷ sessions) some below = at (first.number == number) (polls_under limits number sessions some below.1) where
  at : (b : Bool) → polls_of (session_of number sessions) < limit_if (is_of_tool (session_of number sessions)) limits
      → polls_of (cond b (Some first) (session_of number sessions)) < limit_if (is_of_tool (cond b (Some first) (session_of number sessions))) limits
  at true rest = below.0
  at false rest = rest

pub limit_some : (limits : Limits) (is_tool : Bool) → 1 ≤ limits.client_wait → 1 ≤ limits.tool_wait → 0 < limit_if is_tool limits
limit_some limits true client tool = tool
limit_some limits false client tool = client

pub less_polls : (limits : Limits) (test : Session → Bool) (sessions : List Session) → PollsBelow limits sessions → PollsBelow limits (filter test sessions)
less_polls limits test [] below = tt
less_polls limits test (first ∷ sessions) below = at (test first) (less_polls limits test sessions below.1) where
  at : (b : Bool) → PollsBelow limits (filter test sessions) → PollsBelow limits (cond b (first ∷ filter test sessions) (filter test sessions))
  at true rest = (below.0, rest)
  at false rest = rest

pub joined_polls : (limits : Limits) (number : ℕ) (is_tool : Bool) (sessions : List Session) → 0 < limit_if is_tool limits → PollsBelow limits sessions → PollsBelow limits (sessions ++ new_session number is_tool ∷ [])
joined_polls limits number is_tool [] some below = (some, tt)
joined_polls limits number is_tool (first ∷ sessions) some below = (below.0, joined_polls limits number is_tool sessions some below.1)
