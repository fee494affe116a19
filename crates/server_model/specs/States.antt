-- *Plain server*: its state, of lists and numbers alone. (This project's rule; what sessions hold is as in MySQL's manual,
-- "InnoDB Transaction Model and Locking" and "Metadata Locking".)
use Rattle.std.specs.Prelude.{ℕ, pos, ◌+◌, ◌==◌, min, max, Bool, true, false, not, ◌&&◌, ◌||◌, if◌then◌else◌, List, [], ◌∷◌, ◌++◌, map, filter, find, fold, drop, count_by, is_some, unwrap_or, Option, Some, None}
use Rattle.std.specs.List.{list_any, flat_map, slice_get}
use Rattle.std.specs.Option.{option_map}
use Rattle.std.specs.Str.{bytes_eq}
use Rattle.base_values.specs.declared.event.RowEvent.{RowEvent}
use Rattle.server_locks.specs.declared.row_locks.lock.HeldLock.{HeldLock}
use Rattle.server_locks.specs.RowLocks.LockTable.{held_by}
use Rattle.server_locks.specs.MetadataLocks.Grants as grants
use Rattle.server_locks.specs.declared.metadata_locks.request.Waiter.{Waiter}
use Rattle.base_values.specs.declared.value.Value.{Value}
use Rattle.base_values.specs.declared.value.Value.TheVariants.{Num}
use Rattle.base_values.specs.GhoSchema.AutoIncrement.{auto_place}
use Rattle.table_store.specs.Databases.{TableRows, Database}
use Rattle.table_store.specs.declared.renames.Pair.{Pair}
use Rattle.server_model.specs.declared.counter.Counter as counters
use Rattle.server_model.specs.declared.session.Session.{Session}
use Rattle.server_model.specs.declared.session.HeldName.{HeldName}
use Rattle.server_model.specs.declared.session.Limits.{Limits}
use Rattle.server_model.specs.declared.session.Waiting.{Waiting}
use Rattle.server_model.specs.declared.request.Request.{Request}
use Rattle.server_model.specs.declared.request.Request.TheVariants as requests
use Rattle.server_model.specs.Operations.{table_of, after_events}

-- the counter of a table with an AUTO_INCREMENT column: the number that is drawn next
abbrev pub Counter : Type 0
Counter = counters.Counter

-- the server at one moment
pub record State : Type 0 where
  -- when a wait times out
  pub limits : Limits
  -- the greatest number that a session was given
  pub made : ℕ
  -- the committed tables
  pub tables : Database
  -- the events of the committed transactions, in the order of the commits
  pub log : List RowEvent
  -- the requests that wait, in the order in which they came
  pub waiting : List Waiting
  -- the live sessions, in the order of connecting
  pub sessions : List Session
  -- for each table with an AUTO_INCREMENT column its counter, in the tables' order
  pub counters : List Counter

-- COUNTERS (MySQL's manual, "Using AUTO_INCREMENT", "AUTO_INCREMENT Handling in InnoDB"; a count that would be no number of
-- 64 bits stands still)

-- one more than a number
abbrev pub after_number : ℕ → ℕ
after_number n = min (n + 1) 18446744073709551615

abbrev pub after_value : Option Value → ℕ
after_value (Some (Num (pos n))) = after_number n
after_value value = 0

-- where a table's counter starts: at the greatest of 1, the number that its schema names, and one more than the column's
-- greatest value
abbrev pub start_at : TableRows → ℕ → ℕ
start_at table place = fold (λ most row. max most (after_value (slice_get row place))) (max 1 (unwrap_or table.schema.start 1)) table.rows

abbrev pub started : TableRows → Option ℕ → List Counter
started table None = []
started table (Some place) = record { table = table.schema.name; next = start_at table place } ∷ []

-- the counter that a table begins with, where it has an AUTO_INCREMENT column
abbrev pub counter_of : TableRows → List Counter
counter_of table = started table (auto_place table.schema)

abbrev pub is_counter_of : List ℕ → Counter → Bool
is_counter_of name counter = bytes_eq counter.table name

-- the number that is drawn next from a table; none where it has no counter
abbrev pub next_of : List ℕ → List Counter → Option ℕ
next_of name counters = option_map (λ counter. counter.next) (find (is_counter_of name) counters)

-- the table's counter is no less than this number
abbrev pub counters_from : List ℕ → ℕ → List Counter → List Counter
counters_from name number counters = map (λ counter. if is_counter_of name counter then record counter { next = max counter.next number } else counter) counters

abbrev pub counters_without : List ℕ → List Counter → List Counter
counters_without name counters = filter (λ counter. not (is_counter_of name counter)) counters

-- a counter goes with its table
abbrev pub counters_named : List ℕ → List ℕ → List Counter → List Counter
counters_named old new counters = map (λ counter. if is_counter_of old counter then record counter { table = new } else counter) counters

unfoldable pub counters_renamed : List Pair → List Counter → List Counter
counters_renamed [] counters = counters
counters_renamed (pair ∷ pairs) counters = counters_renamed pairs (counters_named pair.old pair.new counters)

-- the server at its start: these tables, and no session
abbrev pub opened : Limits → Database → State
opened limits tables = record { limits = limits; made = 0; tables = tables; log = []; waiting = []; sessions = []; counters = flat_map counter_of tables }

-- SESSIONS

-- a session that has just connected
abbrev pub new_session : ℕ → Bool → Session
new_session number is_tool = record { number = number; is_tool = is_tool; in_transaction = false; writes = []; row_locks = []; names = []; polls = 0 }

-- one session more, of this number
abbrev pub connected : ℕ → Bool → State → State
connected number is_tool state = record state { made = max state.made number; sessions = state.sessions ++ new_session number is_tool ∷ [] }

-- the number of a session is used up that was lost before it asked anything
abbrev pub passed : State → State
passed state = record state { made = state.made + 1 }

-- the live session of this number
abbrev pub session_of : ℕ → List Session → Option Session
session_of number sessions = find (λ session. session.number == number) sessions

-- the session is live
abbrev pub is_live : State → ℕ → Bool
is_live state number = is_some (session_of number state.sessions)

-- the sessions with a change of the one of this number
unfoldable pub with_session : ℕ → (Session → Session) → List Session → List Session
with_session number change [] = []
with_session number change (session ∷ sessions) = if session.number == number then change session ∷ sessions else session ∷ with_session number change sessions

-- what a session has; none of it, where it isn't live
abbrev pub is_in_transaction : Option Session → Bool
is_in_transaction None = false
is_in_transaction (Some session) = session.in_transaction

abbrev pub is_of_tool : Option Session → Bool
is_of_tool None = false
is_of_tool (Some session) = session.is_tool

abbrev pub polls_of : Option Session → ℕ
polls_of None = 0
polls_of (Some session) = session.polls

abbrev pub writes_of : Option Session → List RowEvent
writes_of None = []
writes_of (Some session) = session.writes

-- The tables as a session sees them: the committed ones with what its transaction wrote (MySQL's manual, "Consistent
-- Nonlocking Reads": the session sees its own changes).
abbrev pub view : ℕ → State → Database
view number state = after_events state.tables (writes_of (session_of number state.sessions))

-- WHAT SESSIONS HOLD

-- the names that are held exclusively, which are the tables that the session locked by LOCK TABLES; and the others
abbrev pub kept_names : List HeldName → List HeldName
kept_names held = filter (λ one. one.exclusive) held

abbrev pub shared_names : List HeldName → List HeldName
shared_names held = filter (λ one. not one.exclusive) held

abbrev pub locked_names : List HeldName → List (List ℕ)
locked_names held = map (λ one. one.name) (kept_names held)

-- the session holds LOCK TABLES
abbrev pub holds_tables : Option Session → Bool
holds_tables None = false
holds_tables (Some session) = list_any (λ one. one.exclusive) session.names

-- all names that are held, in the words of `server_locks::metadata_locks`
abbrev pub name_held : ℕ → HeldName → grants.HeldName
name_held number held = record { session = number; name = held.name; exclusive = held.exclusive }

abbrev pub names_held : List Session → List grants.HeldName
names_held sessions = flat_map (λ session. map (name_held session.number) session.names) sessions

-- all row locks that are held, in the words of `server_locks::row_locks`
abbrev pub locks_held : List Session → List HeldLock
locks_held sessions = flat_map (λ session. map (held_by session.number) session.row_locks) sessions

-- WHAT WAITS

-- the request of a session that waits
abbrev pub waiting_of : ℕ → List Waiting → Option Waiting
waiting_of number waiting = find (λ one. one.session == number) waiting

-- the session's request waits
abbrev pub is_waiting : State → ℕ → Bool
is_waiting state number = list_any (λ one. one.session == number) state.waiting

abbrev pub pair_names : List Pair → List (List ℕ)
pair_names pairs = flat_map (λ pair. pair.old ∷ pair.new ∷ []) pairs

-- the names that a request mentions: each needs a lock, and each is to be one of the locked tables
abbrev pub names_in : Request → List (List ℕ)
names_in (requests.Do statement) = table_of statement ∷ []
names_in (requests.Ends table) = table ∷ []
names_in (requests.ChunkEnd table low top size) = table ∷ []
names_in (requests.BeginSpan table span size) = table ∷ []
names_in (requests.CopyRow from into map key) = from ∷ into ∷ []
names_in (requests.LockTables names) = names
names_in (requests.Create schema) = schema.name ∷ []
names_in (requests.Drop name) = name ∷ []
names_in (requests.Rename pairs) = pair_names pairs
names_in (requests.SetCounter table number) = table ∷ []
names_in request = []

-- the tables that a request names, those included whose events or counters it reads
abbrev pub tables_named : Request → List (List ℕ)
tables_named (requests.ReadLog position limit tables) = tables
tables_named (requests.ShowCounter table) = table ∷ []
tables_named request = names_in request

-- the request needs its names exclusively (MySQL's manual, "Metadata Locking")
abbrev pub is_exclusive : Request → Bool
is_exclusive (requests.LockTables names) = true
is_exclusive (requests.Create schema) = true
is_exclusive (requests.Drop name) = true
is_exclusive (requests.Rename pairs) = true
is_exclusive (requests.SetCounter table number) = true
is_exclusive request = false

-- who waits for names exclusively, in the order in which they came, in the words of `server_locks::metadata_locks`
abbrev pub waits_for : Waiting → List Waiter
waits_for waiting = if is_exclusive waiting.request then record { session = waiting.session; names = names_in waiting.request } ∷ [] else []

abbrev pub waiters : List Waiting → List Waiter
waiters waiting = flat_map waits_for waiting

-- WHAT THE TOOL LOOKS AT

-- the session has an open transaction, a table lock or a waiting request
abbrev pub has_work : State → ℕ → Bool
has_work state number =
    is_in_transaction (session_of number state.sessions) || holds_tables (session_of number state.sessions) || is_waiting state number

-- the event is of one of these tables
abbrev pub is_of : List (List ℕ) → RowEvent → Bool
is_of tables event = list_any (λ table. bytes_eq event.table table) tables

-- *Unread*: how many events of these tables are at the position or after it
unfoldable pub unread : State → ℕ → List (List ℕ) → ℕ
unread state position tables = count_by (is_of tables) (drop position state.log)

-- *Load*: how many clients' transactions are open; a statement outside a transaction isn't counted
abbrev pub load : State → ℕ
load state = count_by (λ session. not session.is_tool && session.in_transaction) state.sessions

-- some session of the tool's waits or is in a transaction
abbrev pub is_tool_busy : State → Bool
is_tool_busy state = list_any (λ session. session.is_tool && (session.in_transaction || is_waiting state session.number)) state.sessions
