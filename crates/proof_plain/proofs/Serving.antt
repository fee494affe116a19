-- What the plain server answers in a plain state is plain, and it leaves a plain state.
use Rattle.std.proofs.Common.{◌≡◌, ℕ, zero, suc, ◌+◌, ◌-◌, ◌^◌, ◌<◌, ◌≤◌, ◌==◌, Bool, true, false, not, cond, List, [], ◌∷◌, ◌++◌, map, filter, take, drop, length, Option, Some, None, Result, Ok, Err, refl, sym, subst, arith}
use Rattle.std.specs.Prelude.{nat_lt, unwrap_or}
use Rattle.std.specs.List.{AllByRecursion, slice_get}
use Rattle.std.specs.Option.{option_to_list}
use Rattle.std.proofs.lemmas.Bool.Decides.{nat_tests}
use Rattle.base_values.specs.declared.event.Change.{Change}
use Rattle.base_values.specs.declared.event.Change.TheVariants as changes
use Rattle.base_values.specs.declared.event.RowEvent.{RowEvent}
use Rattle.base_values.specs.declared.row_conversion.map.MapColumn.{MapColumn}
use Rattle.base_values.specs.declared.span.Span.{Span}
use Rattle.base_values.specs.declared.value.Value.{Value}
use Rattle.base_values.specs.declared.span.Bound.{Bound}
use Rattle.base_values.specs.declared.span.Bound.TheVariants.{Closed}
use Rattle.base_values.specs.GhoSchema.Rows.{key_of, key_places}
use Rattle.base_values.specs.Spans.{has}
use Rattle.base_values.proofs.GhoSchema.Orders.{all-with_row}
use Rattle.base_values.proofs.SchemaRules.Lists.{All-append}
use Rattle.base_script.specs.declared.actor.Side.{Side}
use Rattle.base_script.specs.declared.actor.Side.TheVariants as sides
use Rattle.base_script.specs.declared.statement.Statement.{Statement}
use Rattle.base_script.specs.declared.statement.Statement.TheVariants as statements
use Rattle.table_store.specs.Databases.{TableRows, Database, find_table, has_table, is_named, name_table, rows_in, rename_tables, with_change, with_name}
use Rattle.table_store.specs.declared.renames.NotRenamed.{NotRenamed}
use Rattle.table_store.specs.declared.renames.NotRenamed.TheVariants.{Exists, Missing}
use Rattle.table_store.specs.declared.renames.Pair.{Pair}
use Rattle.table_store.proofs.Ascending.{all-filter}
use Rattle.server_model.specs.declared.answer.Answer.{Answer}
use Rattle.server_model.specs.declared.answer.Answer.TheVariants as answers
use Rattle.server_model.specs.declared.entry.Asked.{Asked}
use Rattle.server_model.specs.declared.entry.Asked.TheVariants.{Call, Poll, Command, Cut}
use Rattle.server_model.specs.declared.need.Need.{Need}
use Rattle.server_model.specs.declared.request.Request.{Request}
use Rattle.server_model.specs.declared.request.Request.TheVariants as requests
use Rattle.server_model.specs.declared.session.Limits.{Limits}
use Rattle.server_model.specs.declared.session.Session.{Session}
use Rattle.server_model.specs.declared.session.Waiting.{Waiting}
use Rattle.server_model.specs.declared.work.StatementResult.{StatementResult}
use Rattle.server_model.specs.Blockers.{blocker, need, need_within}
use Rattle.server_model.specs.Chunks.{chunk_end, end_key, ends_of, first_keys, keys_in, keys_of, last_of, span_keys}
use Rattle.server_model.specs.Drawing.{filled, numbered, offered}
use Rattle.server_model.specs.Effects.{Effect, Rests, Grows, Writes, Forgets, Moves, Locks, Unlocks, all_exist, begins, created, defined, dropped, effect_unless, effect_within, is_outside, locks_if, of_table, renamed_or, result_effect}
use Rattle.server_model.specs.Listings.{ReadEvent, events_read, read_from}
use Rattle.server_model.specs.Operations.{after_events, change_table, copy_operation, operation_of, operation_result, statement_result}
use Rattle.server_model.specs.PlainServer.{Served, asks_for, at_rest, called_unless, calls, counters_left, counting, did, does, done, holding, is_over, leaves, limit_if, locking, loses, polled_of, polled_over, polled_unless, polls, request_waiting, serves, state_left, unlocking, without_waiting}
use Rattle.server_model.specs.Rows.{change_rows}
use Rattle.server_model.specs.States.{State, connected, is_in_transaction, is_of, is_of_tool, next_of, polls_of, session_of, view, waiting_of, with_session, writes_of}
use Rattle.server_model.specs.LockedRows.Databases.{IsWellFormedDatabase, WhereFound}
use Rattle.proof_plain.specs.Plain.{BytesAsked, BytesKey, BytesRequest, BytesStatement, HasBytes, HasFewRows, IsWrite, NoRows, PlainAnswer, PlainChange, PlainDatabase, PlainEvents, PlainRow, PlainRows, PlainSession, PlainState, PlainTable, PlainWaiting, SmallCounters, SmallIf}
use Rattle.proof_plain.proofs.Numbers.{blocker_small, counted_small, next_small, place_small, places_within, shown_small}
use Rattle.proof_plain.proofs.Values.{rows_bytes}
use Rattle.proof_plain.proofs.Statements.{PlainSaid, copy_plain, found_plain, found_seen, said_bare, said_plain, work_plain}

-- ---- lists

kept : {A : Type 0} (P : A → Type 0) (test : A → Bool) (xs : List A) → AllByRecursion P xs → AllByRecursion P (filter test xs)
kept P test [] all = tt
kept P test (x ∷ xs) all = by (test x) (kept P test xs all.1) where
  by : (b : Bool) → AllByRecursion P (filter test xs) → AllByRecursion P (cond b (x ∷ filter test xs) (filter test xs))
  by true rest = (all.0, rest)
  by false rest = rest

dropped_all : {A : Type 0} (P : A → Type 0) (n : ℕ) (xs : List A) → AllByRecursion P xs → AllByRecursion P (drop n xs)
dropped_all P zero xs all = all
dropped_all P (suc n) [] all = tt
dropped_all P (suc n) (x ∷ xs) all = dropped_all P n xs all.1

taken_all : {A : Type 0} (P : A → Type 0) (n : ℕ) (xs : List A) → AllByRecursion P xs → AllByRecursion P (take n xs)
taken_all P zero xs all = tt
taken_all P (suc n) [] all = tt
taken_all P (suc n) (x ∷ xs) all = (all.0, taken_all P n xs all.1)

-- ---- tables after events

change_plain : (change : Change) (table : TableRows) → PlainChange change → PlainTable table → PlainTable (change_table change table)
unfolding change_rows
change_plain (changes.Write row) table is plain = record { columns = plain.columns; rows = all-with_row PlainRow (key_places table.schema) row table.rows is plain.rows }
change_plain (changes.Update before after) table is plain = record { columns = plain.columns; rows = all-with_row PlainRow (key_places table.schema) after _ is.1 (all-filter PlainRow _ table.rows plain.rows) }
change_plain (changes.Delete row) table is plain = record { columns = plain.columns; rows = all-filter PlainRow _ table.rows plain.rows }

changed_plain : (name : List ℕ) (change : TableRows → TableRows) (tables : Database) → ((table : TableRows) → PlainTable table → PlainTable (change table)) → PlainDatabase tables → PlainDatabase (with_change name change tables)
changed_plain name change [] goes plain = tt
changed_plain name change (table ∷ tables) goes plain = (by (is_named name table), changed_plain name change tables goes plain.1) where
  by : (b : Bool) → PlainTable (cond b (change table) table)
  by true = goes table plain.0
  by false = plain.0

pub after_plain : (events : List RowEvent) (tables : Database) → PlainEvents events → PlainDatabase tables → PlainDatabase (after_events tables events)
unfolding after_events
after_plain [] tables are plain = plain
after_plain (event ∷ events) tables are plain = after_plain events (with_change event.table (change_table event.change) tables) are.1 (changed_plain event.table (change_table event.change) tables (λ table is. change_plain event.change table are.0 is) plain)

-- ---- sessions

with_plain : (number : ℕ) (change : Session → Session) (sessions : List Session) → ((session : Session) → PlainSession session → PlainSession (change session)) → AllByRecursion PlainSession sessions
    → AllByRecursion PlainSession (with_session number change sessions)
unfolding with_session
with_plain number change [] goes all = tt
with_plain number change (session ∷ sessions) goes all = at (session.number == number) (with_plain number change sessions goes all.1) where
  at : (b : Bool) → AllByRecursion PlainSession (with_session number change sessions) → AllByRecursion PlainSession (cond b (change session ∷ sessions) (session ∷ with_session number change sessions))
  at true rest = (goes session all.0, all.1)
  at false rest = (all.0, rest)

own_plain : (number : ℕ) (sessions : List Session) → AllByRecursion PlainSession sessions → PlainEvents (writes_of (session_of number sessions))
own_plain number [] all = tt
own_plain number (session ∷ sessions) all = at (session.number == number) (own_plain number sessions all.1) where
  at : (b : Bool) → PlainEvents (writes_of (session_of number sessions)) → PlainEvents (writes_of (cond b (Some session) (session_of number sessions)))
  at true rest = all.0.writes
  at false rest = rest

pub view_plain : (number : ℕ) (state : State) → PlainState state → PlainDatabase (view number state)
view_plain number state plain = after_plain (writes_of (session_of number state.sessions)) state.tables (own_plain number state.sessions plain.sessions) plain.tables

-- ---- what an effect leaves

abbrev PlainEffect : Effect → Type 0
PlainEffect (Rests answer) = PlainAnswer answer
PlainEffect (Grows answer need events) = PlainAnswer answer × PlainEvents events
PlainEffect (Writes answer events) = PlainAnswer answer × PlainEvents events
PlainEffect (Forgets answer) = PlainAnswer answer
PlainEffect (Moves answer tables) = PlainAnswer answer × PlainDatabase tables
PlainEffect (Locks answer names) = PlainAnswer answer
PlainEffect (Unlocks answer) = PlainAnswer answer

pub record PlainServed (served : Served) : Type 0 where
  pub answer : PlainAnswer served.answer
  pub after : PlainState served.after

with_writes : (state : State) (sessions : List Session) → PlainState state → AllByRecursion PlainSession sessions → PlainState (record state { sessions = sessions })
with_writes state sessions plain writes = record { client = plain.client; tool = plain.tool; tables = plain.tables; log = plain.log; waiting = plain.waiting; sessions = writes; counters = plain.counters }

rests_plain : (number : ℕ) (state : State) → PlainState state → AllByRecursion PlainSession (with_session number at_rest state.sessions)
rests_plain number state plain = with_plain number at_rest state.sessions (λ session all. record { number = all.number; writes = tt }) plain.sessions

does_plain : (number : ℕ) (state : State) (effect : Effect) → PlainState state → PlainEffect effect → PlainServed (does effect state number)
does_plain number state (Rests answer) plain is = record { answer = is; after = plain }
does_plain number state (Grows answer need events) plain is = record {
  answer = is.0;
  after = with_writes state _ plain (with_plain number (holding need events) state.sessions (λ session all. record { number = all.number; writes = All-append (λ (event : RowEvent). PlainChange event.change) session.writes events all.writes is.1 }) plain.sessions);
}
does_plain number state (Writes answer events) plain is =
    let wrote = All-append (λ (event : RowEvent). PlainChange event.change) (writes_of (session_of number state.sessions)) events (own_plain number state.sessions plain.sessions) is.1 in
    record {
      answer = is.0;
      after = record {
        client = plain.client;
        tool = plain.tool;
        tables = after_plain (writes_of (session_of number state.sessions) ++ events) state.tables wrote plain.tables;
        log = All-append (λ (event : RowEvent). PlainChange event.change) state.log (writes_of (session_of number state.sessions) ++ events) plain.log wrote;
        waiting = plain.waiting;
        sessions = rests_plain number state plain;
        counters = plain.counters;
      };
    }
does_plain number state (Forgets answer) plain is = record { answer = is; after = with_writes state _ plain (rests_plain number state plain) }
does_plain number state (Moves answer tables) plain is = record { answer = is.0; after = record { client = plain.client; tool = plain.tool; tables = is.1; log = plain.log; waiting = plain.waiting; sessions = plain.sessions; counters = plain.counters } }
does_plain number state (Locks answer names) plain is = record { answer = is; after = with_writes state _ plain (with_plain number (locking names) state.sessions (λ session all. record { number = all.number; writes = all.writes }) plain.sessions) }
does_plain number state (Unlocks answer) plain is = record { answer = is; after = with_writes state _ plain (with_plain number unlocking state.sessions (λ session all. record { number = all.number; writes = all.writes }) plain.sessions) }

-- ---- which effect

exist_plain : (found : Option TableRows) (said : TableRows → Answer) → ((table : TableRows) → PlainAnswer (said table)) → PlainAnswer (of_table found said)
exist_plain None said each = omega arith
exist_plain (Some table) said each = each table

-- keys of plain rows
key_bytes : (places : List ℕ) (row : List Value) → PlainRow row → BytesKey (key_of places row)
unfolding key_of
key_bytes [] row plain = tt
key_bytes (place ∷ places) row plain = All-append HasBytes (option_to_list (slice_get row place)) (key_of places row) (by place row plain) (key_bytes places row plain) where
  by : (place : ℕ) (row : List Value) → PlainRow row → BytesKey (option_to_list (slice_get row place))
  by place [] plain = tt
  by zero (value ∷ row) plain = ((rows_bytes (value ∷ row) plain).0, tt)
  by (suc place) (value ∷ row) plain = by place row plain.1

keys_bytes : (places : List ℕ) (rows : List (List Value)) → PlainRows rows → AllByRecursion BytesKey (keys_of places rows)
keys_bytes places [] plain = tt
keys_bytes places (row ∷ rows) plain = (key_bytes places row plain.0, keys_bytes places rows plain.1)

last_bytes : (key : List Value) (keys : List (List Value)) → BytesKey key → AllByRecursion BytesKey keys → BytesKey (last_of key keys)
last_bytes key [] one all = one
last_bytes key (next ∷ keys) one all = last_bytes next keys all.0 all.1

ends_plain : (keys : List (List Value)) → AllByRecursion BytesKey keys → PlainAnswer (ends_of keys)
ends_plain [] all = tt
ends_plain (key ∷ keys) all = last_bytes key keys all.0 all.1

span_keys_bytes : (span : Span) (table : TableRows) → PlainRows table.rows → AllByRecursion BytesKey (keys_in span table)
span_keys_bytes span table plain = keys_bytes (key_places table.schema) (rows_in table span) (all-filter PlainRow (λ row. has span (key_of (key_places table.schema) row)) table.rows plain)

-- where a chunk ends
taken_key : (keys : List (List Value)) (place : ℕ) (top : List Value) → AllByRecursion BytesKey keys → BytesKey top → BytesKey (unwrap_or (slice_get keys place) top)
taken_key [] place top all one = one
taken_key (key ∷ keys) zero top all one = all.0
taken_key (key ∷ keys) (suc place) top all one = taken_key keys place top all.1 one

end_bytes : (low : Bound) (top : List Value) (size : ℕ) (table : TableRows) → BytesKey top → PlainRows table.rows → BytesKey (chunk_end low top size table)
unfolding chunk_end
end_bytes low top size table one plain = taken_key (keys_in (record { low = low; high = Closed top }) table) (size - 1) top (span_keys_bytes (record { low = low; high = Closed top }) table plain) one

-- ... and a span
first_bytes : (span : Span) (size : ℕ) (keys : List (List Value)) → BytesKey (end_key span.high) → AllByRecursion BytesKey keys → PlainAnswer (first_keys span size keys)
first_bytes span size keys one all = by (nat_lt size (length keys)) (last_bytes [] (take size keys) tt (taken_all BytesKey size keys all)) where
  by : (b : Bool) → BytesKey (last_of [] (take size keys)) → BytesKey (cond b (last_of [] (take size keys)) (end_key span.high))
  by true last = last
  by false last = one

-- of a table that is found
found_said : (name : List ℕ) (tables : Database) (said : TableRows → Answer) → PlainDatabase tables → ((table : TableRows) → PlainTable table → PlainAnswer (said table)) → PlainAnswer (of_table (find_table name tables) said)
found_said name tables said plain each = by (find_table name tables) (found_plain name tables plain) where
  by : (found : Option TableRows) → WhereFound PlainTable found → PlainAnswer (of_table found said)
  by None is = omega arith
  by (Some table) is = each table is

-- the events that are read
read_plain : (tables : List (List ℕ)) (place : ℕ) (events : List RowEvent) → PlainEvents events → AllByRecursion (λ (read : ReadEvent). PlainChange read.event.change) (read_from tables place events)
unfolding read_from
read_plain tables place [] plain = tt
read_plain tables place (event ∷ events) plain = by (is_of tables event) (read_plain tables (place + 1) events plain.1) where
  by : (b : Bool) → AllByRecursion (λ (read : ReadEvent). PlainChange read.event.change) (read_from tables (place + 1) events)
      → AllByRecursion (λ (read : ReadEvent). PlainChange read.event.change) (cond b (record { event = event; following = place + 1 } ∷ read_from tables (place + 1) events) (read_from tables (place + 1) events))
  by true rest = (plain.0, rest)
  by false rest = rest

events_plain : (reads : List ReadEvent) → AllByRecursion (λ (read : ReadEvent). PlainChange read.event.change) reads → PlainEvents (map (λ (read : ReadEvent). read.event) reads)
events_plain [] all = tt
events_plain (read ∷ reads) all = (all.0, events_plain reads all.1)

log_plain : (position limit : ℕ) (tables : List (List ℕ)) (log : List RowEvent) → PlainEvents log → length log < 2 ^ 64 → PlainAnswer (events_read position limit tables log)
unfolding events_read
log_plain position limit tables log plain short = (
  events_plain (take limit (read_from tables position (drop position log)))
      (taken_all (λ (read : ReadEvent). PlainChange read.event.change) limit (read_from tables position (drop position log)) (read_plain tables position (drop position log) (dropped_all (λ (event : RowEvent). PlainChange event.change) position log plain))),
  place_small limit (length log) (take limit (read_from tables position (drop position log))) short (taken_all (λ (read : ReadEvent). read.following ≤ length log) limit (read_from tables position (drop position log)) (places_within tables position log)),
)

-- tables that are made, dropped and renamed
abbrev PlainMoved : Result Database ℕ → Type 0
PlainMoved (Ok tables) = PlainDatabase tables
PlainMoved (Err number) = number < 2 ^ 64

defined_plain : (moved : Result Database ℕ) → PlainMoved moved → PlainEffect (defined moved)
defined_plain (Ok tables) plain = (omega arith, plain)
defined_plain (Err number) small = small

abbrev PlainRenamed : Result Database NotRenamed → Type 0
PlainRenamed (Ok tables) = PlainDatabase tables
PlainRenamed (Err reason) = Unit {0}

renamed_plain : (pairs : List Pair) (tables : Database) → PlainDatabase tables → PlainRenamed (rename_tables pairs tables)
unfolding rename_tables
renamed_plain [] tables plain = plain
renamed_plain (pair ∷ pairs) tables plain =
    by (has_table pair.new tables) (has_table pair.old tables)
    (renamed_plain pairs (with_name pair.old pair.new tables) (changed_plain pair.old (name_table pair.new) tables (λ table is. record { columns = is.columns; rows = is.rows }) plain)) where
      by : (exists stands : Bool) → PlainRenamed (rename_tables pairs (with_name pair.old pair.new tables)) → PlainRenamed (cond exists (Err Exists) (cond stands (rename_tables pairs (with_name pair.old pair.new tables)) (Err Missing)))
      by true stands rest = tt
      by false true rest = rest
      by false false rest = tt

renamed_moved : (renamed : Result Database NotRenamed) → PlainRenamed renamed → PlainMoved (renamed_or renamed)
renamed_moved (Ok tables) plain = plain
renamed_moved (Err Exists) plain = omega arith
renamed_moved (Err Missing) plain = omega arith

result_plain : (busy : Bool) (need : Need) (result : StatementResult) → PlainSaid result.answer result.events → PlainEffect (result_effect busy need result)
result_plain true need result said = (said.answer, said.events)
result_plain false need result said = (said.answer, said.events)

-- what a session sees has few rows, and is of tables
pub record SeesFew (number : ℕ) (state : State) : Type 0 where
  pub short : length state.log < 2 ^ 64
  pub few : HasFewRows (view number state)
  pub well_formed : IsWellFormedDatabase (view number state)

module _ (number : ℕ) (state : State) (plain : PlainState state) (sees : SeesFew number state) where
  abbrev seen : Database
  seen = view number state

  seen_plain : PlainDatabase seen
  seen_plain = view_plain number state plain

  statement_said : (statement : Statement) → BytesStatement statement → PlainSaid (statement_result seen statement).answer (statement_result seen statement).events
  unfolding operation_result
  statement_said statement have = said_plain (operation_of statement) (find_table (operation_of statement).table seen) (found_seen (operation_of statement).table seen seen_plain sees.few sees.well_formed) (λ table is. work_plain table.schema statement is.columns have)

  copy_said : (from into : List ℕ) (columns : List MapColumn) (key : List Value) → BytesRequest (requests.CopyRow from into columns key)
      → PlainSaid (operation_result seen (copy_operation seen from into columns key)).answer (operation_result seen (copy_operation seen from into columns key)).events
  unfolding operation_result
  copy_said from into columns key have =
      said_plain (copy_operation seen from into columns key) (find_table into seen) (found_seen into seen seen_plain sees.few sees.well_formed) (λ table is. copy_plain table.schema (find_table from seen) columns key is.columns have (found_plain from seen seen_plain))

  within_plain : (busy : Bool) (request : Request) → BytesRequest request → PlainEffect (effect_within busy seen state request)
  unfolding span_keys
  within_plain busy requests.Begin have = (omega arith, tt)
  within_plain busy requests.Commit have = (omega arith, tt)
  within_plain busy requests.Rollback have = omega arith
  within_plain busy (requests.Do statement) have = result_plain busy (need_within seen (requests.Do statement)) (statement_result seen statement) (statement_said statement have)
  within_plain busy (requests.Ends table) have = found_said table state.tables (λ t. ends_of (keys_of (key_places t.schema) t.rows)) plain.tables (λ t is. ends_plain (keys_of (key_places t.schema) t.rows) (keys_bytes (key_places t.schema) t.rows is.rows))
  within_plain busy (requests.ChunkEnd table low top size) have = found_said table state.tables (λ t. answers.End (chunk_end low top size t)) plain.tables (λ t is. end_bytes low top size t have is.rows)
  within_plain busy (requests.BeginSpan table span size) have = at (find_table table state.tables) (found_plain table state.tables plain.tables) where
    at : (found : Option TableRows) → WhereFound PlainTable found → PlainEffect (begins found span size (need_within seen (requests.BeginSpan table span size)))
    at None is = omega arith
    at (Some t) is = (first_bytes span size (keys_in span t) have (span_keys_bytes span t is.rows), tt)
  within_plain busy (requests.CopyRow from into columns key) have =
      result_plain busy (need_within seen (requests.CopyRow from into columns key)) (operation_result seen (copy_operation seen from into columns key)) (copy_said from into columns key have)
  within_plain busy (requests.LockTables names) have = at (all_exist names state.tables) where
    at : (b : Bool) → PlainEffect (locks_if b names)
    at true = omega arith
    at false = omega arith
  within_plain busy requests.Unlock have = omega arith
  within_plain busy (requests.Create schema) have = defined_plain (created (has_table schema.name state.tables) schema state.tables) (at (has_table schema.name state.tables)) where
    at : (b : Bool) → PlainMoved (created b schema state.tables)
    at true = omega arith
    at false = All-append PlainTable state.tables (record { schema = schema; rows = [] } ∷ []) plain.tables (record { columns = have.0; rows = tt }, tt)
  within_plain busy (requests.Drop name) have = defined_plain (dropped (has_table name state.tables) name state.tables) (at (has_table name state.tables)) where
    at : (b : Bool) → PlainMoved (dropped b name state.tables)
    at true = kept PlainTable (λ table. not (is_named name table)) state.tables plain.tables
    at false = omega arith
  within_plain busy (requests.Rename pairs) have = defined_plain (renamed_or (rename_tables pairs state.tables)) (renamed_moved (rename_tables pairs state.tables) (renamed_plain pairs state.tables plain.tables))
  within_plain busy requests.LogEnd have = sees.short
  within_plain busy (requests.ReadLog position limit tables) have = log_plain position limit tables state.log plain.log sees.short
  within_plain busy requests.ShowTables have = tt
  within_plain busy requests.ShowWaiting have = tt
  within_plain busy (requests.ShowCounter table) have = exist_plain (find_table table state.tables) _ (λ t. shown_small (next_of table state.counters) (next_small table state.counters plain.counters))
  within_plain busy (requests.SetCounter table least) have = exist_plain (find_table table state.tables) _ (λ t. omega arith)

  -- ---- what is done

  did_plain : (request : Request) → BytesRequest request → PlainServed (did state number request)
  unfolding did
  did_plain request have = does_plain number state _ plain (at (is_outside (session_of number state.sessions) request)) where
    at : (b : Bool) → PlainEffect (effect_unless b (is_in_transaction (session_of number state.sessions)) seen state request)
    at true = omega arith
    at false = within_plain (is_in_transaction (session_of number state.sessions)) request have

  numbered_bytes : (drawn : Option ℕ) (statement : Statement) → BytesStatement statement → BytesStatement (numbered drawn statement)
  numbered_bytes None statement have = have
  numbered_bytes (Some number) (statements.Insert table columns values drawn) have = have
  numbered_bytes (Some number) (statements.Replace table columns values drawn) have = have
  numbered_bytes (Some number) (statements.Delete table condition) have = have
  numbered_bytes (Some number) (statements.Update table sets condition) have = have
  numbered_bytes (Some number) (statements.Select table what condition) have = have

  filled_bytes : (request : Request) → BytesRequest request → BytesRequest (filled state number request)
  filled_bytes (requests.Do statement) have = numbered_bytes (offered state number statement) statement have
  filled_bytes requests.Begin have = tt
  filled_bytes requests.Commit have = tt
  filled_bytes requests.Rollback have = tt
  filled_bytes (requests.Ends table) have = tt
  filled_bytes (requests.ChunkEnd table low top size) have = have
  filled_bytes (requests.BeginSpan table span size) have = have
  filled_bytes (requests.CopyRow from into columns key) have = have
  filled_bytes (requests.LockTables names) have = tt
  filled_bytes requests.Unlock have = tt
  filled_bytes (requests.Create schema) have = have
  filled_bytes (requests.Drop name) have = tt
  filled_bytes (requests.Rename pairs) have = tt
  filled_bytes requests.LogEnd have = tt
  filled_bytes (requests.ReadLog position limit tables) have = tt
  filled_bytes requests.ShowTables have = tt
  filled_bytes requests.ShowWaiting have = tt
  filled_bytes (requests.ShowCounter table) have = tt
  filled_bytes (requests.SetCounter table least) have = have

  done_plain : (request : Request) → BytesRequest request → PlainServed (done state number request)
  done_plain request have = did_plain (filled state number request) (filled_bytes request have)

  -- a statement that may draw a number has no rows
  statement_bare : (statement : Statement) → IsWrite statement → BytesStatement statement → NoRows (statement_result seen statement).answer
  unfolding operation_result
  statement_bare statement writes have = said_bare statement (find_table (operation_of statement).table seen) (found_plain (operation_of statement).table seen seen_plain) writes have

  result_bare : (busy : Bool) (need : Need) (result : StatementResult) → NoRows result.answer → NoRows (does (result_effect busy need result) state number).answer
  result_bare true need result bare = bare
  result_bare false need result bare = bare

  did_bare : (statement : Statement) → IsWrite statement → BytesStatement statement → NoRows (did state number (requests.Do statement)).answer
  unfolding did
  did_bare statement writes have = at (is_outside (session_of number state.sessions) (requests.Do statement)) where
    at : (b : Bool) → NoRows (does (effect_unless b (is_in_transaction (session_of number state.sessions)) seen state (requests.Do statement)) state number).answer
    at true = tt
    at false = result_bare (is_in_transaction (session_of number state.sessions)) (need_within seen (requests.Do statement)) (statement_result seen statement) (statement_bare statement writes have)

  numbered_writes : (drawn : Option ℕ) (statement : Statement) → IsWrite statement → IsWrite (numbered drawn statement)
  numbered_writes None statement writes = writes
  numbered_writes (Some number) (statements.Insert table columns values drawn) writes = writes
  numbered_writes (Some number) (statements.Replace table columns values drawn) writes = writes
  numbered_writes (Some number) (statements.Delete table condition) writes = writes
  numbered_writes (Some number) (statements.Update table sets condition) writes = writes
  numbered_writes (Some number) (statements.Select table what condition) writes = writes

  done_bare : (statement : Statement) → IsWrite statement → BytesStatement statement → NoRows (done state number (requests.Do statement)).answer
  done_bare statement writes have =
      did_bare (numbered (offered state number statement) statement) (numbered_writes (offered state number statement) statement writes) (numbered_bytes (offered state number statement) statement have)

  called_bare : (statement : Statement) → IsWrite statement → BytesStatement statement → NoRows (calls state number (requests.Do statement)).answer
  unfolding calls
  called_bare statement writes have = at (blocker state number (need state number (requests.Do statement))) where
    at : (by : Option ℕ) → NoRows (called_unless by state number (requests.Do statement)).answer
    at None = done_bare statement writes have
    at (Some by) = tt

  called_plain : (request : Request) → number < 2 ^ 64 → BytesRequest request → PlainServed (calls state number request)
  unfolding calls
  called_plain request small have = at (blocker state number (need state number request)) (blocker_small state number (need state number request) plain.sessions plain.waiting) where
    at : (by : Option ℕ) → SmallIf by → PlainServed (called_unless by state number request)
    at None by = done_plain request have
    at (Some by) blocks = record {
      answer = blocks;
      after = record {
        client = plain.client;
        tool = plain.tool;
        tables = plain.tables;
        log = plain.log;
        waiting = All-append PlainWaiting state.waiting (record { session = number; request = request } ∷ []) plain.waiting (record { number = small; request = have }, tt);
        sessions = with_plain number (counting 0) state.sessions (λ session all. record { number = all.number; writes = all.writes }) plain.sessions;
        counters = plain.counters;
      };
    }

-- ---- polls and losses

idle_plain : (number : ℕ) (state : State) → PlainState state → PlainState (without_waiting number state)
idle_plain number state plain =
    record { client = plain.client; tool = plain.tool; tables = plain.tables; log = plain.log; waiting = kept PlainWaiting (λ one. not (one.session == number)) state.waiting plain.waiting; sessions = plain.sessions; counters = plain.counters }

abbrev WaitsPlain : Option Waiting → Type 0
WaitsPlain None = Unit {0}
WaitsPlain (Some waiting) = BytesRequest waiting.request

found_waiting : (number : ℕ) (waiting : List Waiting) → AllByRecursion PlainWaiting waiting → WaitsPlain (waiting_of number waiting)
found_waiting number [] all = tt
found_waiting number (one ∷ waiting) all = at (one.session == number) (found_waiting number waiting all.1) where
  at : (b : Bool) → WaitsPlain (waiting_of number waiting) → WaitsPlain (cond b (Some one) (waiting_of number waiting))
  at true rest = all.0.request
  at false rest = rest

-- a wait that is over was polled as often as the limit says
over_small : (polls : ℕ) (tool : Bool) (limits : Limits) → limits.client_wait < 2 ^ 64 → limits.tool_wait < 2 ^ 64 → (polls + 1 == limit_if tool limits) ≡ true → polls + 1 < 2 ^ 64
over_small polls true limits client tool over = grind (arith, nat_tests, over, tool)
over_small polls false limits client tool over = grind (arith, nat_tests, over, client)

polled_plain : (number : ℕ) (state : State) → PlainState state → SeesFew number state → PlainServed (polls state number)
unfolding polls
polled_plain number state plain sees = at (waiting_of number state.waiting) (found_waiting number state.waiting plain.waiting) where
  over : (b : Bool) (by : ℕ) → is_over state number ≡ b → by < 2 ^ 64 → PlainServed (polled_over b by state number)
  over true by is small = record {
    answer = over_small (polls_of (session_of number state.sessions)) (is_of_tool (session_of number state.sessions)) state.limits plain.client plain.tool is;
    after = with_writes (without_waiting number state) _ (idle_plain number state plain) (rests_plain number state plain);
  }
  over false by is small = record {
    answer = small;
    after = with_writes state _ plain (with_plain number (counting (polls_of (session_of number state.sessions) + 1)) state.sessions (λ session all. record { number = all.number; writes = all.writes }) plain.sessions);
  }

  unless : (request : Request) (by : Option ℕ) → SmallIf by → BytesRequest request → PlainServed (polled_unless by state number request)
  unless request None small have = done_plain number (without_waiting number state) (idle_plain number state plain) (record { short = sees.short; few = sees.few; well_formed = sees.well_formed }) request have
  unless request (Some by) small have = over (is_over state number) by refl small

  at : (waiting : Option Waiting) → WaitsPlain waiting → PlainServed (polled_of waiting state number)
  at None have = record { answer = omega arith; after = plain }
  at (Some waiting) have = unless waiting.request (blocker state number (need state number waiting.request)) (blocker_small state number (need state number waiting.request) plain.sessions plain.waiting) have

polled_bare : (number : ℕ) (state : State) (statement : Statement) → PlainState state → SeesFew number state → request_waiting (waiting_of number state.waiting) ≡ Some (requests.Do statement) → IsWrite statement → NoRows (polls state number).answer
unfolding polls
polled_bare number state statement plain sees is writes = at (waiting_of number state.waiting) (found_waiting number state.waiting plain.waiting) is where
  over : (b : Bool) (by : ℕ) → NoRows (polled_over b by state number).answer
  over true by = tt
  over false by = tt

  unless : (by : Option ℕ) → BytesStatement statement → NoRows (polled_unless by state number (requests.Do statement)).answer
  unless None have = done_bare number (without_waiting number state) (idle_plain number state plain) (record { short = sees.short; few = sees.few; well_formed = sees.well_formed }) statement writes have
  unless (Some by) have = over (is_over state number) by

  at : (waiting : Option Waiting) → WaitsPlain waiting → request_waiting waiting ≡ Some (requests.Do statement) → NoRows (polled_of waiting state number).answer
  at None have is = tt
  at (Some waiting) have is =
      let same : waiting.request ≡ requests.Do statement = cc in
      subst (λ (request : Request). NoRows (polled_unless (blocker state number (need state number request)) state number request).answer) (sym same)
      (unless (blocker state number (need state number (requests.Do statement))) (subst BytesRequest same have))

lost_plain : (number : ℕ) (state : State) → PlainState state → PlainState (loses number state)
unfolding loses
lost_plain number state plain =
    let idle = idle_plain number state plain in
    record { client = plain.client; tool = plain.tool; tables = plain.tables; log = plain.log; waiting = idle.waiting; sessions = kept PlainSession (λ session. not (session.number == number)) state.sessions plain.sessions; counters = plain.counters }

-- what is called has bytes
abbrev pub BytesCalled : Asked → Type 0
BytesCalled (Call request) = BytesRequest request
BytesCalled asked = Unit {0}

-- *What is served of a plain state is plain*
pub served_plain : (number : ℕ) (state : State) (asked : Asked) → number < 2 ^ 64 → PlainState state → SeesFew number state → BytesCalled asked → PlainServed (serves state number asked)
served_plain number state (Call request) small plain sees have = called_plain number state plain sees request small have
served_plain number state Poll small plain sees have = polled_plain number state plain sees
served_plain number state (Command word) small plain sees have = record { answer = omega arith; after = plain }
served_plain number state Cut small plain sees have = record { answer = tt; after = lost_plain number state plain }

-- *A statement that may draw a number isn't answered rows*
pub served_bare : (number : ℕ) (state : State) (asked : Asked) (statement : Statement) → PlainState state → SeesFew number state → BytesCalled asked → asks_for state number asked ≡ Some (requests.Do statement) → IsWrite statement → NoRows (serves state number asked).answer
served_bare number state (Call request) statement plain sees have is writes =
    let same : request ≡ requests.Do statement = cc in
    subst (λ (r : Request). NoRows (calls state number r).answer) (sym same) (called_bare number state plain sees statement writes (subst BytesRequest same have))
served_bare number state Poll statement plain sees have is writes = polled_bare number state statement plain sees is writes
served_bare number state (Command word) statement plain sees have is writes = tt
served_bare number state Cut statement plain sees have is writes = tt

-- ---- a turn

asked_bytes : (number : ℕ) (state : State) (asked : Asked) → PlainState state → BytesCalled asked → BytesAsked (asks_for state number asked)
asked_bytes number state (Call request) plain have = have
asked_bytes number state Poll plain have = by (waiting_of number state.waiting) (found_waiting number state.waiting plain.waiting) where
  by : (waiting : Option Waiting) → WaitsPlain waiting → BytesAsked (request_waiting waiting)
  by None have = tt
  by (Some waiting) have = have
asked_bytes number state (Command word) plain have = tt
asked_bytes number state Cut plain have = tt

left_small : (side : Option Side) (number : ℕ) (state : State) (asked : Asked) → PlainState state → BytesCalled asked → SmallCounters (counters_left side state number asked)
left_small None number state asked plain have = counted_small state number (asks_for state number asked) (serves state number asked).answer plain.counters (asked_bytes number state asked plain have)
left_small (Some sides.Before) number state asked plain have = plain.counters
left_small (Some sides.After) number state asked plain have = counted_small state number (asks_for state number asked) (serves state number asked).answer plain.counters (asked_bytes number state asked plain have)

-- *What a turn leaves is plain*
pub left_plain : (side : Option Side) (number : ℕ) (state : State) (asked : Asked) → number < 2 ^ 64 → PlainState state → SeesFew number state → BytesCalled asked → PlainState (state_left side state number asked)
left_plain side number state asked small plain sees have = recount side (by side) where
  by : (s : Option Side) → PlainState (leaves s state number asked)
  by None = (served_plain number state asked small plain sees have).after
  by (Some sides.Before) = lost_plain number state plain
  by (Some sides.After) = lost_plain number (serves state number asked).after (served_plain number state asked small plain sees have).after

  recount : (s : Option Side) → PlainState (leaves s state number asked) → PlainState (state_left s state number asked)
  recount s after =
      record { client = after.client; tool = after.tool; tables = after.tables; log = after.log; waiting = after.waiting; sessions = after.sessions; counters = left_small s number state asked plain have }

-- *A session that connects leaves a plain state*
pub connected_plain : (number : ℕ) (tool : Bool) (state : State) → number < 2 ^ 64 → PlainState state → PlainState (connected number tool state)
connected_plain number tool state small plain =
    record { client = plain.client; tool = plain.tool; tables = plain.tables; log = plain.log; waiting = plain.waiting; sessions = All-append PlainSession state.sessions _ plain.sessions (record { number = small; writes = tt }, tt); counters = plain.counters }
