-- Each turn leaves tables of valid schemas: what CREATE TABLE makes has one, and RENAME gives names of tables.
use Rattle.std.proofs.Common.{◌≡◌, ℕ, Bool, true, false, not, List, [], ◌∷◌, ◌++◌, cond, Option, Some, None, Result, Ok, Err, refl, subst}
use Rattle.std.specs.List.{AllByRecursion}
use Rattle.base_script.specs.declared.actor.Side.{Side}
use Rattle.base_script.specs.declared.actor.Side.TheVariants.{Before, After}
use Rattle.base_values.specs.declared.event.RowEvent.{RowEvent}
use Rattle.base_values.specs.declared.gho_schema.schema.Schema.{Schema}
use Rattle.base_values.proofs.SchemaRules.Lists.{All-append, All-filter, All-map}
use Rattle.table_store.specs.Databases.{TableRows, Database, find_table, has_table, is_named, name_table, rename_tables, with_change, with_name}
use Rattle.table_store.specs.declared.renames.NotRenamed.{NotRenamed}
use Rattle.table_store.specs.declared.renames.NotRenamed.TheVariants as reasons
use Rattle.table_store.specs.declared.renames.Pair.{Pair}
use Rattle.server_model.specs.declared.entry.Asked.{Asked}
use Rattle.server_model.specs.declared.entry.Asked.TheVariants.{Call, Poll, Command, Cut}
use Rattle.server_model.specs.declared.need.Need.{Need}
use Rattle.server_model.specs.declared.request.Request.{Request}
use Rattle.server_model.specs.declared.request.Request.TheVariants as requests
use Rattle.server_model.specs.declared.work.StatementResult.{StatementResult}
use Rattle.base_values.specs.declared.span.Span.{Span}
use Rattle.server_model.specs.Blockers.{blocker, need, need_within}
use Rattle.server_model.specs.Conditions.{IsNewSchema, IsTableName, IsWellFormed, MayCall, MayLose, MayPoll}
use Rattle.server_model.specs.Drawing.{numbered}
use Rattle.server_model.specs.Effects.{Effect, Rests, Grows, Writes, Forgets, Moves, Locks, Unlocks, all_exist, begins, created, defined, dropped, effect, effect_unless, effect_within, is_outside, locks_if, renamed_or, result_effect}
use Rattle.server_model.specs.Operations.{after_events, change_table, copy_operation, operation_result, statement_result}
use Rattle.server_model.specs.PlainServer.{called_unless, calls, did, does, done, is_over, leaves, loses, polled_over, polled_unless, polls, without_waiting}
use Rattle.server_model.specs.States.{State, is_in_transaction, is_of_tool, session_of, view, writes_of}
use Rattle.server_model.proofs.Filling.{filled_case}
use Rattle.server.specs.Parts.{HaveValidSchemas}

-- TABLES

abbrev IsValidTable : TableRows → Type 0
IsValidTable table = IsNewSchema table.schema

changed_table : (change : TableRows → TableRows) (b : Bool) (table : TableRows) → IsValidTable (change table) → IsValidTable table → IsValidTable (cond b (change table) table)
changed_table change true table changed was = changed
changed_table change false table changed was = was

-- a table's change leaves its schema valid
changed_valid : (name : List ℕ) (change : TableRows → TableRows) (tables : Database) → ((table : TableRows) → IsValidTable table → IsValidTable (change table)) → HaveValidSchemas tables → HaveValidSchemas (with_change name change tables)
changed_valid name change tables keeps valid = All-map IsValidTable IsValidTable (λ table. cond (is_named name table) (change table) table) (λ table is. changed_table change (is_named name table) table (keeps table is) is) tables valid

pub event_valid : (tables : Database) (event : RowEvent) → HaveValidSchemas tables → HaveValidSchemas (with_change event.table (change_table event.change) tables)
event_valid tables event valid = changed_valid event.table (change_table event.change) tables (λ table is. is) valid

pub events_valid : (tables : Database) (events : List RowEvent) → HaveValidSchemas tables → HaveValidSchemas (after_events tables events)
unfolding after_events
events_valid tables [] valid = valid
events_valid tables (event ∷ events) valid = events_valid (with_change event.table (change_table event.change) tables) events (event_valid tables event valid)

-- with another name
named_valid : (new : List ℕ) (table : TableRows) → IsTableName new → IsValidTable table → IsValidTable (name_table new table)
named_valid new table name is =
    let valid = is.valid in
    record { named = name; valid = record { some = valid.some; few = valid.few; names = valid.names; columns = valid.columns; uniques = valid.uniques; indexes = valid.indexes; clustered = valid.clustered } }

renamed_valid : (pairs : List Pair) (tables after : Database) → AllByRecursion (λ pair. IsTableName pair.new) pairs → rename_tables pairs tables ≡ Ok after → HaveValidSchemas tables → HaveValidSchemas after
unfolding rename_tables
renamed_valid [] tables after names is valid = let same : tables ≡ after = cc in subst HaveValidSchemas same valid
renamed_valid (pair ∷ pairs) tables after names is valid =
    at (has_table pair.new tables) (has_table pair.old tables) is
    (λ more. renamed_valid pairs (with_name pair.old pair.new tables) after names.1 more (changed_valid pair.old (name_table pair.new) tables (λ table. named_valid pair.new table names.0) valid)) where
      at : (b c : Bool) → cond b (Err reasons.Exists) (cond c (rename_tables pairs (with_name pair.old pair.new tables)) (Err reasons.Missing)) ≡ Ok after → (rename_tables pairs (with_name pair.old pair.new tables) ≡ Ok after → HaveValidSchemas after) → HaveValidSchemas after
      at true c none rest = absurd cc
      at false false none rest = absurd cc
      at false true more rest = rest more

-- EFFECTS

-- an effect that moves tables leaves valid schemas
abbrev LeavesValid : Effect → Type 0
LeavesValid (Rests answer) = Unit {0}
LeavesValid (Grows answer need events) = Unit {0}
LeavesValid (Writes answer events) = Unit {0}
LeavesValid (Forgets answer) = Unit {0}
LeavesValid (Moves answer tables) = HaveValidSchemas tables
LeavesValid (Locks answer names) = Unit {0}
LeavesValid (Unlocks answer) = Unit {0}

does_valid : (effect : Effect) (state : State) (number : ℕ) → LeavesValid effect → HaveValidSchemas state.tables → HaveValidSchemas (does effect state number).after.tables
does_valid (Rests answer) state number leaves valid = valid
does_valid (Grows answer need events) state number leaves valid = valid
does_valid (Writes answer events) state number leaves valid = events_valid state.tables (writes_of (session_of number state.sessions) ++ events) valid
does_valid (Forgets answer) state number leaves valid = valid
does_valid (Moves answer tables) state number leaves valid = leaves
does_valid (Locks answer names) state number leaves valid = valid
does_valid (Unlocks answer) state number leaves valid = valid

result_leaves : (busy : Bool) (need : Need) (result : StatementResult) → LeavesValid (result_effect busy need result)
result_leaves true need result = tt
result_leaves false need result = tt

begins_leaves : (found : Option TableRows) (span : Span) (size : ℕ) (need : Need) → LeavesValid (begins found span size need)
begins_leaves None span size need = tt
begins_leaves (Some table) span size need = tt

locks_leaves : (exist : Bool) (names : List (List ℕ)) → LeavesValid (locks_if exist names)
locks_leaves true names = tt
locks_leaves false names = tt

created_leaves : (exists : Bool) (schema : Schema) (tables : Database) → IsNewSchema schema → HaveValidSchemas tables → LeavesValid (defined (created exists schema tables))
created_leaves true schema tables new valid = tt
created_leaves false schema tables new valid = All-append IsValidTable tables (record { schema = schema; rows = [] } ∷ []) valid (new, tt)

dropped_leaves : (exists : Bool) (name : List ℕ) (tables : Database) → HaveValidSchemas tables → LeavesValid (defined (dropped exists name tables))
dropped_leaves true name tables valid = All-filter IsValidTable (λ table. not (is_named name table)) tables valid
dropped_leaves false name tables valid = tt

renamed_leaves : (result : Result Database NotRenamed) → ((after : Database) → result ≡ Ok after → HaveValidSchemas after) → LeavesValid (defined (renamed_or result))
renamed_leaves (Ok after) valid = valid after refl
renamed_leaves (Err reason) valid = tt

within_leaves : (busy : Bool) (seen : Database) (state : State) (request : Request) → IsWellFormed state.tables request → HaveValidSchemas state.tables → LeavesValid (effect_within busy seen state request)
within_leaves busy seen state requests.Begin formed valid = tt
within_leaves busy seen state requests.Commit formed valid = tt
within_leaves busy seen state requests.Rollback formed valid = tt
within_leaves busy seen state (requests.Do statement) formed valid = result_leaves busy (need_within seen (requests.Do statement)) (statement_result seen statement)
within_leaves busy seen state (requests.Ends table) formed valid = tt
within_leaves busy seen state (requests.ChunkEnd table low top size) formed valid = tt
within_leaves busy seen state (requests.BeginSpan table span size) formed valid = begins_leaves (find_table table state.tables) span size (need_within seen (requests.BeginSpan table span size))
within_leaves busy seen state (requests.CopyRow from into map key) formed valid = result_leaves busy (need_within seen (requests.CopyRow from into map key)) (operation_result seen (copy_operation seen from into map key))
within_leaves busy seen state (requests.LockTables names) formed valid = locks_leaves (all_exist names state.tables) names
within_leaves busy seen state requests.Unlock formed valid = tt
within_leaves busy seen state (requests.Create schema) formed valid = created_leaves (has_table schema.name state.tables) schema state.tables formed valid
within_leaves busy seen state (requests.Drop name) formed valid = dropped_leaves (has_table name state.tables) name state.tables valid
within_leaves busy seen state (requests.Rename pairs) formed valid = renamed_leaves (rename_tables pairs state.tables) (λ after is. renamed_valid pairs state.tables after formed is valid)
within_leaves busy seen state requests.LogEnd formed valid = tt
within_leaves busy seen state (requests.ReadLog position limit tables) formed valid = tt
within_leaves busy seen state requests.ShowTables formed valid = tt
within_leaves busy seen state requests.ShowWaiting formed valid = tt
within_leaves busy seen state (requests.ShowCounter table) formed valid = tt
within_leaves busy seen state (requests.SetCounter table least) formed valid = tt

unless_leaves : (outside busy : Bool) (seen : Database) (state : State) (request : Request) → IsWellFormed state.tables request → HaveValidSchemas state.tables → LeavesValid (effect_unless outside busy seen state request)
unless_leaves true busy seen state request formed valid = tt
unless_leaves false busy seen state request formed valid = within_leaves busy seen state request formed valid

-- TURNS

did_valid : (state : State) (number : ℕ) (request : Request) → IsWellFormed state.tables request → HaveValidSchemas state.tables → HaveValidSchemas (did state number request).after.tables
unfolding did
did_valid state number request formed valid =
    does_valid (effect state number request) state number (unless_leaves (is_outside (session_of number state.sessions) request) (is_in_transaction (session_of number state.sessions)) (view number state) state request formed valid) valid

done_valid : (state : State) (number : ℕ) (request : Request) → IsWellFormed state.tables request → HaveValidSchemas state.tables → HaveValidSchemas (done state number request).after.tables
done_valid state number =
    filled_case (λ asked full. IsWellFormed state.tables asked → HaveValidSchemas state.tables → HaveValidSchemas (did state number full).after.tables) (λ request formed valid. did_valid state number request formed valid)
    (λ statement n formed valid. did_valid state number (requests.Do (numbered n statement)) tt valid) (is_of_tool (session_of number state.sessions)) state.tables state.counters

pub calls_valid : (state : State) (number : ℕ) (request : Request) → HaveValidSchemas state.tables → MayCall state number request → HaveValidSchemas (calls state number request).after.tables
unfolding calls
calls_valid state number request valid may = at (blocker state number (need state number request)) where
  at : (by : Option ℕ) → HaveValidSchemas (called_unless by state number request).after.tables
  at None = done_valid state number request may.formed valid
  at (Some by) = valid

blocked_valid : (over : Bool) (by : ℕ) (state : State) (number : ℕ) → HaveValidSchemas state.tables → HaveValidSchemas (polled_over over by state number).after.tables
blocked_valid true by state number valid = valid
blocked_valid false by state number valid = valid

pub polls_valid : (state : State) (number : ℕ) → HaveValidSchemas state.tables → MayPoll state number → HaveValidSchemas (polls state number).after.tables
unfolding polls
polls_valid state number valid may = rw may.waits (at (blocker state number (need state number may.waiting.request))) where
  at : (by : Option ℕ) → HaveValidSchemas (polled_unless by state number may.waiting.request).after.tables
  at None = done_valid (without_waiting number state) number may.waiting.request may.formed valid
  at (Some by) = blocked_valid (is_over state number) by state number valid

lost_valid : (number : ℕ) (state : State) → HaveValidSchemas state.tables → HaveValidSchemas (loses number state).tables
unfolding loses
lost_valid number state valid = valid

pub losses_valid : (state : State) (number : ℕ) (side : Option Side) (asked : Asked) → HaveValidSchemas state.tables → MayLose state number side asked → HaveValidSchemas (leaves side state number asked).tables
losses_valid state number None asked valid may = rw may.well (lost_valid number state valid)
losses_valid state number (Some Before) asked valid may = lost_valid number state valid
losses_valid state number (Some After) (Call request) valid may = lost_valid number (calls state number request).after (calls_valid state number request valid may.well)
losses_valid state number (Some After) Poll valid may = lost_valid number (polls state number).after (polls_valid state number valid may.well)
losses_valid state number (Some After) (Command word) valid may = absurd may.well
losses_valid state number (Some After) Cut valid may = absurd may.well
