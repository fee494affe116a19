-- A server in two parts: its storage, and its sessions with their waits and the log.
use Rattle.std.specs.Prelude.{◌≡◌, ℕ, Bool, true, false, List, Option, Some, None}
use Rattle.std.specs.List.{AllByRecursion}
use Rattle.base_values.specs.declared.event.RowEvent.{RowEvent}
use Rattle.server_locks.specs.declared.row_locks.lock.Lock.{Lock}
use Rattle.table_store.specs.Databases.{Database}
use Rattle.base_script.specs.declared.actor.Side.{Side}
use Rattle.base_script.specs.declared.actor.Side.TheVariants.{Before, After}
use Rattle.server_model.specs.declared.entry.Asked.{Asked}
use Rattle.server_model.specs.declared.need.Need.{Need}
use Rattle.server_model.specs.declared.request.Request.{Request}
use Rattle.server_model.specs.declared.request.Request.TheVariants as requests
use Rattle.server_model.specs.declared.work.StatementResult.{StatementResult}
use Rattle.server_model.specs.Conditions.{ComesWell, IsNewSchema, IsWellFormed}
use Rattle.server_model.specs.Blockers.{blocker, need_within, row_locks_of}
use Rattle.server_model.specs.PlainServer.{state_left}
use Rattle.server_model.specs.States.{State, holds_tables, is_exclusive, is_in_transaction, is_live, names_in, session_of, view, writes_of}
use Rattle.server_transaction.specs.Prepared.{IsWorkFor}
use Rattle.server_transaction.specs.Premises.{events_ready}
use Rattle.server_transaction.specs.declared.prepared.Prepared.{Prepared}
use Rattle.server_transaction.specs.declared.prepared.ReadyResult.{ReadyResult}
use Rattle.proof_journals.specs.ServerFacts.Invariants.{IsServing}

-- *The server's state*: what its sessions keep, with the committed tables
abbrev pub state_of : Database → State → State
state_of tables all_sessions = record all_sessions { tables = tables }

-- the storage has for each session what it wrote
abbrev pub HaveWritten : (ℕ → List RowEvent) → State → Type 0
HaveWritten written all_sessions = (n : ℕ) → written n ≡ writes_of (session_of n all_sessions.sessions)

-- each table's schema is one that may be a new table's: a valid one, of a table's name
abbrev pub HaveValidSchemas : Database → Type 0
HaveValidSchemas tables = AllByRecursion (λ table. IsNewSchema table.schema) tables

-- *The parts go together*: the tables have valid schemas, the storage has what the sessions wrote, and both make a server that serves.
pub record GoTogether (tables : Database) (written : ℕ → List RowEvent) (all_sessions : State) : Type 0 where
  pub valid : HaveValidSchemas tables
  pub have : HaveWritten written all_sessions
  pub serves : IsServing (state_of tables all_sessions)

-- what a request needs, with these row locks
abbrev pub needed : Request → List Lock → Need
needed request locks = record { exclusive = is_exclusive request; names = names_in request; locks = locks }

-- *The filled request may be done*: its session is live, it may come now, this is its work and these are the row locks that it
-- needs, and nobody blocks what it needs.
pub record MayDo (state : State) (session : ℕ) (request : Request) (prepared : Prepared) : Type 0 where
  pub live : is_live state session ≡ true
  pub comes : ComesWell (is_in_transaction (session_of session state.sessions)) (holds_tables (session_of session state.sessions)) request
  pub formed : IsWellFormed state.tables request
  pub work_is : IsWorkFor (view session state) request prepared.work
  pub locks_are : prepared.locks ≡ row_locks_of (view session state) request
  pub free : blocker state session (need_within (view session state) request) ≡ None

-- what a statement gives, with the events of what it writes
abbrev pub result_of : ReadyResult → StatementResult
result_of executed = record { answer = executed.answer; events = events_ready executed.writes }

-- requests that change nothing, and ask for no lock of a row
abbrev pub is_look : Request → Bool
is_look (requests.Ends table) = true
is_look (requests.ChunkEnd table low top size) = true
is_look requests.LogEnd = true
is_look (requests.ReadLog position limit tables) = true
is_look requests.ShowTables = true
is_look requests.ShowWaiting = true
is_look (requests.ShowCounter table) = true
is_look request = false

-- what is done before the session is lost: what it asked, where it is lost after that
abbrev pub before_loss : Option Side → State → ℕ → Asked → State
before_loss None state number asked = state
before_loss (Some Before) state number asked = state
before_loss (Some After) state number asked = state_left None state number asked

-- what contracts see of a server: the plain server's state, and the number that was drawn last
pub record ServedState : Type 0 where
  pub state : State
  pub drawn : Option ℕ
