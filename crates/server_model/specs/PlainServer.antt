-- *Serves*: the plain server's answer to what a session asks, and the state afterwards. In four steps: the locks that the
-- request needs, the least session that blocks one, the effect, and what the effect does. (MySQL's manual, "START TRANSACTION,
-- COMMIT, and ROLLBACK Statements", "LOCK TABLES and UNLOCK TABLES Statements"; polls, time-outs and losses are this project's
-- rule.)
use Rattle.std.specs.Prelude.{ℕ, ◌+◌, ◌==◌, Bool, true, false, not, List, [], ◌∷◌, ◌++◌, map, filter, Option, Some, None}
use Rattle.base_values.specs.declared.event.RowEvent.{RowEvent}
use Rattle.base_script.specs.declared.actor.Side.{Side}
use Rattle.base_script.specs.declared.actor.Side.TheVariants.{Before, After}
use Rattle.server_model.specs.declared.session.Session.{Session}
use Rattle.server_model.specs.declared.session.HeldName.{HeldName}
use Rattle.server_model.specs.declared.session.Limits.{Limits}
use Rattle.server_model.specs.declared.session.Waiting.{Waiting}
use Rattle.server_model.specs.declared.request.Request.{Request}
use Rattle.server_model.specs.declared.answer.Answer.{Answer}
use Rattle.server_model.specs.declared.answer.Answer.TheVariants as answers
use Rattle.server_model.specs.declared.entry.Asked.{Asked}
use Rattle.server_model.specs.declared.entry.Asked.TheVariants.{Call, Poll, Command, Cut}
use Rattle.server_model.specs.declared.need.Need.{Need}
use Rattle.server_model.specs.Answers.{ok}
use Rattle.server_model.specs.Operations.{after_events}
use Rattle.server_model.specs.declared.counter.Counter.{Counter}
use Rattle.server_model.specs.States.{State, session_of, with_session, is_of_tool, polls_of, writes_of, waiting_of, kept_names, shared_names}
use Rattle.server_model.specs.Blockers.{need, blocker}
use Rattle.server_model.specs.Drawing.{filled}
use Rattle.server_model.specs.Counting.{counted, drawn_by}
use Rattle.server_model.specs.Effects.{Effect, Rests, Grows, Writes, Forgets, Moves, Locks, Unlocks, effect}

-- an answer, and the state afterwards
pub record Served : Type 0 where
  pub answer : Answer
  pub after : State

abbrev pub serving : Answer → State → Served
serving answer after = record { answer = answer; after = after }

-- WHAT A DEED DOES

abbrev pub shared : List ℕ → HeldName
shared name = record { name = name; exclusive = false }

abbrev pub exclusive : List ℕ → HeldName
exclusive name = record { name = name; exclusive = true }

-- the session with what it was granted, and what it wrote with it
abbrev pub holding : Need → List RowEvent → Session → Session
holding need events session =
    record session { in_transaction = true; names = session.names ++ map shared need.names; row_locks = session.row_locks ++ need.locks; writes = session.writes ++ events }

-- the session outside a transaction; what it locked by LOCK TABLES it keeps
abbrev pub at_rest : Session → Session
at_rest session = record session { in_transaction = false; names = kept_names session.names; row_locks = []; writes = [] }

abbrev pub locking : List (List ℕ) → Session → Session
locking names session = record session { names = session.names ++ map exclusive names }

abbrev pub unlocking : Session → Session
unlocking session = record session { names = shared_names session.names }

-- the transaction goes on, is forgotten, or is committed
abbrev pub goes_on : ℕ → Need → List RowEvent → State → State
goes_on number need events state = record state { sessions = with_session number (holding need events) state.sessions }

abbrev pub forgets : ℕ → State → State
forgets number state = record state { sessions = with_session number at_rest state.sessions }

abbrev pub commits : ℕ → List RowEvent → State → State
commits number events state =
    record state { tables = after_events state.tables (writes_of (session_of number state.sessions) ++ events); log = state.log ++ (writes_of (session_of number state.sessions) ++ events); sessions = with_session number at_rest state.sessions }

abbrev pub does : Effect → State → ℕ → Served
does (Rests answer) state number = serving answer state
does (Grows answer need events) state number = serving answer (goes_on number need events state)
does (Writes answer events) state number = serving answer (commits number events state)
does (Forgets answer) state number = serving answer (forgets number state)
does (Moves answer tables) state number = serving answer (record state { tables = tables })
does (Locks answer names) state number = serving answer (record state { sessions = with_session number (locking names) state.sessions })
does (Unlocks answer) state number = serving answer (record state { sessions = with_session number unlocking state.sessions })

-- what a filled request does
unfoldable pub did : State → ℕ → Request → Served
did state number request = does (effect state number request) state number

-- what a request does that was asked: it is filled now
abbrev pub done : State → ℕ → Request → Served
done state number request = did state number (filled state number request)

-- CALLS, POLLS AND LOSSES

abbrev pub without_waiting : ℕ → State → State
without_waiting number state = record state { waiting = filter (λ one. not (one.session == number)) state.waiting }

abbrev pub counting : ℕ → Session → Session
counting polls session = record session { polls = polls }

abbrev pub called_unless : Option ℕ → State → ℕ → Request → Served
called_unless None state number request = done state number request
called_unless (Some by) state number request =
    serving (answers.Waits by) (record state { waiting = state.waiting ++ record { session = number; request = request } ∷ []; sessions = with_session number (counting 0) state.sessions })

-- *Calls*: the request is done where nobody blocks it, else it waits.
unfoldable pub calls : State → ℕ → Request → Served
calls state number request = called_unless (blocker state number (need state number request)) state number request

-- how often a session is polled before its wait times out
abbrev pub limit_if : Bool → Limits → ℕ
limit_if true limits = limits.tool_wait
limit_if false limits = limits.client_wait

abbrev pub is_over : State → ℕ → Bool
is_over state number = polls_of (session_of number state.sessions) + 1 == limit_if (is_of_tool (session_of number state.sessions)) state.limits

-- a poll that is still blocked: at the limit the whole transaction is rolled back; a table lock stays
abbrev pub polled_over : Bool → ℕ → State → ℕ → Served
polled_over true by state number = serving (answers.TimedOut (polls_of (session_of number state.sessions) + 1)) (forgets number (without_waiting number state))
polled_over false by state number = serving (answers.Waits by) (record state { sessions = with_session number (counting (polls_of (session_of number state.sessions) + 1)) state.sessions })

abbrev pub polled_unless : Option ℕ → State → ℕ → Request → Served
polled_unless None state number request = done (without_waiting number state) number request
polled_unless (Some by) state number request = polled_over (is_over state number) by state number

-- the need is computed anew; a session that doesn't wait polls nothing
abbrev pub polled_of : Option Waiting → State → ℕ → Served
polled_of None state number = serving ok state
polled_of (Some waiting) state number = polled_unless (blocker state number (need state number waiting.request)) state number waiting.request

-- *Polls*: the request that waits is done where nobody blocks it by now.
unfoldable pub polls : State → ℕ → Served
polls state number = polled_of (waiting_of number state.waiting) state number

-- *Loses*: the session is lost. Its transaction is rolled back, its waiting request and its locks are gone.
unfoldable pub loses : ℕ → State → State
loses number state = record (without_waiting number state) { sessions = filter (λ session. not (session.number == number)) state.sessions }

-- *Serves*: what a session asks in its turn. A command is none of the server's.
abbrev pub serves : State → ℕ → Asked → Served
serves state number (Call request) = calls state number request
serves state number Poll = polls state number
serves state number (Command word) = serving ok state
serves state number Cut = serving answers.Lost (loses number state)

-- *Leaves*: the state afterwards, where the session may be lost before the call was done, or after.
abbrev pub leaves : Option Side → State → ℕ → Asked → State
leaves None state number asked = (serves state number asked).after
leaves (Some Before) state number asked = loses number state
leaves (Some After) state number asked = loses number (serves state number asked).after

-- what is asked for: a call's request, and the one that waits where it is polled
abbrev pub request_waiting : Option Waiting → Option Request
request_waiting None = None
request_waiting (Some waiting) = Some waiting.request

abbrev pub asks_for : State → ℕ → Asked → Option Request
asks_for state number (Call request) = Some request
asks_for state number Poll = request_waiting (waiting_of number state.waiting)
asks_for state number asked = None

-- *Counters left*: a loss gives no number back, and before the call was done none was drawn.
abbrev pub counters_left : Option Side → State → ℕ → Asked → List Counter
counters_left (Some Before) state number asked = state.counters
counters_left side state number asked = counted state number (asks_for state number asked) (serves state number asked).answer

-- the state with these counters
abbrev pub recounted : List Counter → State → State
recounted counters state = record state { counters = counters }

-- *State left* by a turn: what it leaves, with the counters moved
abbrev pub state_left : Option Side → State → ℕ → Asked → State
state_left side state number asked = recounted (counters_left side state number asked) (leaves side state number asked)

-- *Inner answer*: what the server answers, also where nobody hears it: none where the session was lost before the call was
-- done, or between calls.
abbrev pub given_at : Option Side → Asked → Answer → Option Answer
given_at side Cut answer = None
given_at (Some Before) asked answer = None
given_at side asked answer = Some answer

-- the number that the statement drew in a turn that had this inner answer, also where nobody hears it
abbrev pub drawn_in : State → ℕ → Asked → Option Answer → Option ℕ
drawn_in state number asked None = None
drawn_in state number asked (Some answer) = drawn_by state number (asks_for state number asked) answer

-- *Number drawn* in a turn
abbrev pub number_drawn : Option Side → State → ℕ → Asked → Option ℕ
number_drawn side state number asked = drawn_in state number asked (given_at side asked (serves state number asked).answer)
