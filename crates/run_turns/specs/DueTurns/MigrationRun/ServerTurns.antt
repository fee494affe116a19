-- *A turn on a server*: who asks what in which session, and what it is answered. (This project's rule.)
use Rattle.std.specs.Prelude.{◌≡◌, ◌+◌, ◌<◌, ◌≤◌, ℕ, Bool, true, false, not, length, Option, Some, None}
use Rattle.base_script.specs.declared.actor.Side.{Side}
use Rattle.base_script.specs.declared.actor.Side.TheVariants.{Before}
use Rattle.server_model.specs.declared.answer.Answer.{Answer}
use Rattle.server_model.specs.declared.entry.Asked.{Asked}
use Rattle.server_model.specs.declared.entry.Asked.TheVariants.{Cut}
use Rattle.server_model.specs.declared.entry.Entry.{Entry}
use Rattle.server_model.specs.Entries.{is_client, is_command}
use Rattle.server_model.specs.States.{State, load}
use Rattle.server_model.specs.PlainServer.{serves, given_at, number_drawn}
use Rattle.tool_program.specs.JournalWords.Journals.{opens_if, heard, missed}
use Rattle.proof_journals.specs.Run.Counts.{busy_count, AreApart}
use Rattle.proof_journals.specs.Run.Laws.{NoneWaits}
use Rattle.run_turns.specs.declared.due_turns.migration_run.turn.Turn.{Turn}
use Rattle.run_turns.specs.declared.due_turns.migration_run.counting.Counts.{Counts}
use Rattle.run_turns.specs.DueTurns.MigrationRun.Requests.{MayAsk}
use Rattle.run_turns.specs.DueTurns.MigrationRun.Sessions.{IsSessionOf}

-- the session of an actor's turn: its own, else the next one that the server makes
abbrev pub session_for : Option ℕ → ℕ → ℕ
session_for None made = made + 1
session_for (Some session) made = session

-- how many sessions are made at most once it is live
abbrev pub made_for : Option ℕ → ℕ → ℕ
made_for None made = made + 1
made_for (Some session) made = made

-- the server once the turn's session is live
abbrev pub opened_on : State → ℕ → Turn → State
opened_on state session turn = opens_if (is_command turn.asked) (not (is_client turn.actor)) session state

-- what the server answers, also where nobody hears it
abbrev pub answer_on : State → ℕ → Turn → Option Answer
answer_on state session turn = given_at turn.side turn.asked (serves (opened_on state session turn) session turn.asked).answer

-- *Entry of a turn* that is taken in this session, of the server in this state
unfoldable pub entry_on : State → ℕ → Turn → Entry
entry_on state session turn =
    record { actor = turn.actor; session = session; asked = turn.asked; side = turn.side; answer = heard turn.side (answer_on state session turn); missed = missed turn.side (answer_on state session turn); draw = number_drawn turn.side (opened_on state session turn) session turn.asked }

-- the session is lost in the turn
abbrev pub is_lost_in : Option Side → Asked → Bool
is_lost_in None Cut = true
is_lost_in None asked = false
is_lost_in (Some side) asked = true

-- it is lost before what is asked is done
abbrev pub is_before : Option Side → Bool
is_before (Some Before) = true
is_before side = false

-- how many transactions of clients are open, and how many sessions of the tool's wait or are in one
abbrev pub counts_of : State → Counts
counts_of state = record { load = load state; busy = busy_count state }

-- *A turn may be taken* in the actor's own session, or in a new one: no two sessions have one number, there are no more than
-- were made, nobody waits but live ones, and what is asked may be asked once the session is live
pub record MayTurn (state : State) (session : Option ℕ) (turn : Turn) : Type 0 where
  pub own : IsSessionOf state turn.actor session
  pub apart : AreApart state.sessions
  pub few : length state.sessions ≤ state.made
  pub waits : NoneWaits state
  pub made : state.made ≤ 4294967295
  pub opens : session ≡ None → state.made < 4294967295
  pub called : is_command turn.asked ≡ false
  pub may : MayAsk (opened_on state (session_for session state.made) turn) (session_for session state.made) turn.side turn.asked
