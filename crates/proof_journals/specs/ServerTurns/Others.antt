-- What a turn of a session does to names that are held, to requests that wait, to the log and to the tables that exist.
use Rattle.std.specs.Prelude.{◌≡◌, ◌⊎◌, ℕ, ◌==◌, Bool, true, false, ◌&&◌, List, [], ◌∷◌, ◌++◌, Option, Some, None, Result, Ok}
use Rattle.std.specs.List.{AllByRecursion, list_any, flat_map}
use Rattle.base_values.specs.declared.event.RowEvent.{RowEvent}
use Rattle.server_locks.specs.declared.metadata_locks.request.Waiter.{Waiter}
use Rattle.server_locks.specs.MetadataLocks.Grants as grants
use Rattle.server_locks.specs.MetadataLocks.Grants.{holds, has_name, blocker_of_name}
use Rattle.base_values.specs.declared.span.Span.{Span}
use Rattle.base_values.specs.declared.value.Value.{Value}
use Rattle.server_model.specs.declared.answer.Answer.TheVariants as answers
use Rattle.server_model.specs.Chunks.{span_keys}
use Rattle.base_values.specs.GhoSchema.ClusteredKey.{clustered_place}
use Rattle.table_store.specs.Databases.{has_table, rows_in, rename_tables, TableRows, Database, find_table}
use Rattle.server_model.specs.declared.session.Limits.{Limits}
use Rattle.server_locks.specs.declared.row_locks.lock.Lock.{Lock}
use Rattle.server_model.specs.declared.work.Reach.{Reach}
use Rattle.server_model.specs.Rows.{rows_met}
use Rattle.server_model.specs.Needs.{lock_on}
use Rattle.server_model.specs.LockedRows.Agreement.{Agree, Among}
use Rattle.proof_journals.specs.Holdings.{face_of, OneHolder}
use Rattle.server_model.specs.LockedRows.Coverage.{Apart}
use Rattle.server_model.specs.LockedRows.Databases.{IsWellFormedDatabase, EventsCovered}
use Rattle.proof_journals.specs.Scenes.{Scene}
use Rattle.std.specs.Str.{bytes_eq}
use Rattle.server_model.specs.declared.answer.Answer.{Answer}
use Rattle.proof_journals.specs.Turns.{IsReported, IsSceneRun, scene_state, about, reported_at}
use Rattle.server_model.specs.declared.entry.Entry.{Entry}
use Rattle.server_model.specs.declared.request.Request.TheVariants.{BeginSpan, Create, Drop, LockTables, Rename}
use Rattle.server_model.specs.declared.request.Request.{Request}
use Rattle.server_model.specs.Answers.{ok}
use Rattle.server_model.specs.States.{State, is_exclusive, names_held, names_in, waits_for}
use Rattle.server_model.specs.Effects.{created, dropped, renamed_or}
use Rattle.tool_program.specs.JournalWords.Journals.{opens}

abbrev pub held_at : State → List grants.HeldName
held_at state = names_held state.sessions

abbrev pub waiters_at : State → List Waiter
waiters_at state = flat_map waits_for state.waiting

-- the session waits for the name
abbrev pub waits_on : List ℕ → ℕ → Waiter → Bool
waits_on name session waiter = (waiter.session == session) && has_name waiter.names name

abbrev pub is_waiting_on : List ℕ → ℕ → List Waiter → Bool
is_waiting_on name session waiters = list_any (waits_on name session) waiters

-- no other session refuses the name to the session
abbrev pub IsGrantedName : State → ℕ → List ℕ → Bool → Type 0
IsGrantedName state session name exclusive = blocker_of_name (held_at state) (waiters_at state) session name exclusive ≡ None

-- the session holds the name, or a shared lock on it is granted
abbrev pub MayWrite : State → ℕ → List ℕ → Type 0
MayWrite state session name = (holds (held_at state) session name false ≡ true) ⊎ IsGrantedName state session name false

-- LOCK TABLES, and what makes, drops or renames tables
abbrev pub takes_names : Request → Bool
takes_names (LockTables names) = true
takes_names (Create schema) = true
takes_names (Drop name) = true
takes_names (Rename pairs) = true
takes_names request = false

-- the turn is about such a request
abbrev pub asks_names : Option Request → Bool
asks_names None = false
asks_names (Some request) = takes_names request

-- *A turn of a session*: what others hold and wait for stays; the session comes to hold a name only where it is granted;
-- what it commits is of tables that it held, or that were granted; a table comes or goes only where its name is granted
-- exclusively. A name is taken exclusively, and a table comes or goes, only by a turn about a request that asks for that.
pub record TurnOf (takes : Bool) (session : ℕ) (before after : State) : Type 0 where
  pub others : (other : ℕ) (name : List ℕ) (exclusive : Bool) → (other == session) ≡ false → holds (held_at after) other name exclusive ≡ holds (held_at before) other name exclusive
  pub waits : (other : ℕ) (name : List ℕ) → (other == session) ≡ false → is_waiting_on name other (waiters_at after) ≡ is_waiting_on name other (waiters_at before)
  pub granted : (name : List ℕ) → holds (held_at before) session name false ≡ false → holds (held_at after) session name false ≡ true → (exclusive : Bool) × (exclusive ≡ true → takes ≡ true) × IsGrantedName before session name exclusive
  pub events : List RowEvent
  pub log : after.log ≡ before.log ++ events
  pub written : AllByRecursion (λ event. MayWrite before session event.table) events
  pub tables : (name : List ℕ) → (has_table name after.tables ≡ has_table name before.tables) ⊎ ((takes ≡ true) × IsGrantedName before session name true)

-- *Each entry is such a turn*
abbrev pub EntriesAreTurns : Type 0
EntriesAreTurns = (limits : Limits) (scene : Scene) (journal : List Entry) (entry : Entry) → IsSceneRun limits scene journal
    → TurnOf (asks_names (about (opens entry (scene_state limits scene journal)) entry.session entry.asked)) entry.session (scene_state limits scene journal) (scene_state limits scene (journal ++ entry ∷ []))

-- the entry's request was done, with ok 0, whether or not the answer was missed
abbrev pub WasDone : Entry → Type 0
WasDone entry = reported_at entry.side entry.answer entry.missed ≡ Some ok

-- *What needs its names exclusively, and is done, is alone*: no other session holds one of them, before or after
pub record IsAlone (request : Request) (session : ℕ) (before after : State) : Type 0 where
  pub alone : (other : ℕ) (name : List ℕ) → (other == session) ≡ false → list_any (bytes_eq name) (names_in request) ≡ true → holds (held_at before) other name false ≡ false
  pub alone_after : (other : ℕ) (name : List ℕ) → (other == session) ≡ false → list_any (bytes_eq name) (names_in request) ≡ true → holds (held_at after) other name false ≡ false

abbrev pub ExclusiveIsAlone : Type 0
ExclusiveIsAlone = (limits : Limits) (scene : Scene) (journal : List Entry) (entry : Entry) (request : Request) → IsSceneRun limits scene journal
    → IsReported limits scene journal entry → about (opens entry (scene_state limits scene journal)) entry.session entry.asked ≡ Some request → is_exclusive request ≡ true → WasDone entry → IsAlone request entry.session (scene_state limits scene journal) (scene_state limits scene (journal ++ entry ∷ []))

-- *What a session sees under its locks stays* while others have their turns: the committed tables of its names, and of
-- their rows those under its row locks
abbrev pub OthersAgree : Type 0
OthersAgree = (limits : Limits) (scene : Scene) (journal : List Entry) (entry : Entry) (other : ℕ) → IsSceneRun limits scene journal → (other == entry.session) ≡ false
    → Agree (face_of (scene_state limits scene journal).sessions other).hold.names (face_of (scene_state limits scene journal).sessions other).hold.locks (scene_state limits scene journal).tables (scene_state limits scene (journal ++ entry ∷ [])).tables

-- *Rows under a lock stay*: where two well-formed databases agree under names and locks, a table of these names has the same
-- rows, in the same order, under each of the locks
abbrev pub RowsStay : Type 0
RowsStay = (names : List (List ℕ)) (locks : List Lock) (a b : Database) (name : List ℕ) (one two : TableRows) (exclusive : Bool) (reach : Reach) → Agree names locks a b → IsWellFormedDatabase a → IsWellFormedDatabase b → list_any (bytes_eq name) names ≡ true → find_table name a ≡ Some one → find_table name b ≡ Some two
    → Among (lock_on one.schema exclusive reach) locks → (two.schema ≡ one.schema) × (rows_met one.schema reach two.rows ≡ rows_met one.schema reach one.rows)

-- *LOCK TABLES that is done leaves its names with the session*, exclusively
abbrev pub LocksAreTaken : Type 0
LocksAreTaken = (limits : Limits) (scene : Scene) (journal : List Entry) (entry : Entry) (names : List (List ℕ)) → IsReported limits scene journal entry → about (opens entry (scene_state limits scene journal)) entry.session entry.asked ≡ Some (LockTables names) → entry.side ≡ None → entry.answer ≡ ok
    → (name : List ℕ) → list_any (bytes_eq name) names ≡ true → holds (held_at (scene_state limits scene (journal ++ entry ∷ []))) entry.session name true ≡ true

-- *What a session holds and sees stays*, while others have any number of turns
pub record StaysTo (limits : Limits) (scene : Scene) (journal later : List Entry) (session : ℕ) : Type 0 where
  pub face : face_of (scene_state limits scene later).sessions session ≡ face_of (scene_state limits scene journal).sessions session
  pub agree : Agree (face_of (scene_state limits scene journal).sessions session).hold.names (face_of (scene_state limits scene journal).sessions session).hold.locks (scene_state limits scene journal).tables (scene_state limits scene later).tables

abbrev pub OthersStay : Type 0
OthersStay = (limits : Limits) (scene : Scene) (journal more : List Entry) (session : ℕ) → IsSceneRun limits scene (journal ++ more) → AllByRecursion (λ entry. (session == entry.session) ≡ false) more
    → StaysTo limits scene journal (journal ++ more) session

-- *A span under a lock stays*: the rows of a span of the clustered key are the same, where a lock on it is held
abbrev pub SpanStays : Type 0
SpanStays = (names : List (List ℕ)) (locks : List Lock) (a b : Database) (name : List ℕ) (one two : TableRows) (exclusive : Bool) (place : ℕ) (span : Span) → Agree names locks a b → IsWellFormedDatabase a → IsWellFormedDatabase b → list_any (bytes_eq name) names ≡ true → find_table name a ≡ Some one → find_table name b ≡ Some two
    → clustered_place one.schema ≡ Some place → Among (lock_on one.schema exclusive (record { key = place; span = span })) locks → (two.schema ≡ one.schema) × (rows_in two span ≡ rows_in one span)

-- *BeginSpan that is answered keys holds the span*: they are of the committed table, whose name and whose span the session
-- holds from now on
pub record SpanHeld (table : List ℕ) (span : Span) (size session : ℕ) (answer : Answer) (before after : State) : Type 0 where
  pub found : TableRows
  pub is : find_table table before.tables ≡ Some found
  pub tables : after.tables ≡ before.tables
  pub keys : answer ≡ (span_keys span size found)
  pub named : list_any (bytes_eq table) (face_of after.sessions session).hold.names ≡ true
  pub locked : (place : ℕ) → clustered_place found.schema ≡ Some place → Among (lock_on found.schema false (record { key = place; span = span })) (face_of after.sessions session).hold.locks

abbrev pub SpansAreHeld : Type 0
SpansAreHeld = (limits : Limits) (scene : Scene) (journal : List Entry) (entry : Entry) (table : List ℕ) (span : Span) (size : ℕ) (keys : List (List Value)) (end : List Value) → IsReported limits scene journal entry → about (opens entry (scene_state limits scene journal)) entry.session entry.asked ≡ Some (BeginSpan table span size)
    → entry.side ≡ None → entry.answer ≡ (answers.Keys keys end) → SpanHeld table span size entry.session entry.answer (scene_state limits scene journal) (scene_state limits scene (journal ++ entry ∷ []))

-- what CREATE, DROP and RENAME make of the tables, or the number of their refusal
abbrev pub definition : Request → Database → Option (Result Database ℕ)
definition (Create schema) tables = Some (created (has_table schema.name tables) schema tables)
definition (Drop name) tables = Some (dropped (has_table name tables) name tables)
definition (Rename pairs) tables = Some (renamed_or (rename_tables pairs tables))
definition request tables = None

-- *CREATE, DROP and RENAME that are done leave the tables that they make*
abbrev pub DefinitionsAreDone : Type 0
DefinitionsAreDone = (limits : Limits) (scene : Scene) (journal : List Entry) (entry : Entry) (request : Request) (result : Result Database ℕ) → IsReported limits scene journal entry → about (opens entry (scene_state limits scene journal)) entry.session entry.asked ≡ Some request
    → definition request (scene_state limits scene journal).tables ≡ Some result → WasDone entry → result ≡ Ok (scene_state limits scene (journal ++ entry ∷ [])).tables

-- *A state holds together*: its tables are tables; what a session wrote in its open transaction is covered by what it holds;
-- row locks of two sessions stay apart; and a name that one session holds exclusively no other session holds
pub record StateHolds (state : State) : Type 0 where
  pub tables : IsWellFormedDatabase state.tables
  pub covered : (n : ℕ) → EventsCovered (face_of state.sessions n).hold.names (face_of state.sessions n).hold.locks state.tables (face_of state.sessions n).hold.writes
  pub apart : (m n : ℕ) → (m == n) ≡ false → Apart (face_of state.sessions m).hold.locks (face_of state.sessions n).hold.locks
  pub one : OneHolder (held_at state)

abbrev pub StatesHold : Type 0
StatesHold = (limits : Limits) (scene : Scene) (journal : List Entry) → IsSceneRun limits scene journal → StateHolds (scene_state limits scene journal)
