-- *Deed*: what a request does once its locks are granted. (MySQL's manual, "START TRANSACTION, COMMIT, and ROLLBACK
-- Statements", "autocommit, Commit, and Rollback", "LOCK TABLES and UNLOCK TABLES Statements", "CREATE TABLE Statement",
-- "DROP TABLE Statement", "RENAME TABLE Statement", "ALTER TABLE Statement" for a counter that is set; the requests of the copy
-- and of the log are this project's rule. Where a counter is set, `Counting` says how it moves.)
use Rattle.std.specs.Prelude.{ℕ, Bool, true, false, not, List, [], ◌∷◌, ◌++◌, length, unwrap_or, Option, Some, None, Result, Ok, Err}
use Rattle.std.specs.List.{list_any}
use Rattle.std.specs.Str.{bytes_eq}
use Rattle.base_values.specs.declared.span.Span.{Span}
use Rattle.base_values.specs.declared.gho_schema.schema.Schema.{Schema}
use Rattle.base_values.specs.GhoSchema.Rows.{key_places}
use Rattle.base_values.specs.declared.event.RowEvent.{RowEvent}
use Rattle.base_values.specs.declared.mysql_errors.TheConstants.{ER_NO_SUCH_TABLE, ER_TABLE_EXISTS_ERROR, ER_BAD_TABLE_ERROR, ER_TABLE_NOT_LOCKED}
use Rattle.table_store.specs.Databases.{TableRows, Database, find_table, has_table, without_table, rename_tables, rename_number}
use Rattle.table_store.specs.declared.renames.NotRenamed.{NotRenamed}
use Rattle.server_model.specs.declared.session.Session.{Session}
use Rattle.server_model.specs.declared.request.Request.{Request}
use Rattle.server_model.specs.declared.request.Request.TheVariants as requests
use Rattle.server_model.specs.declared.answer.Answer.{Answer}
use Rattle.server_model.specs.declared.answer.Answer.TheVariants as answers
use Rattle.server_model.specs.declared.work.StatementResult.{StatementResult}
use Rattle.server_model.specs.declared.need.Need.{Need}
use Rattle.server_model.specs.Answers.{ok, refuses}
use Rattle.server_model.specs.Operations.{statement_result, operation_result, copy_operation}
use Rattle.server_model.specs.Chunks.{keys_of, ends_of, chunk_end, span_keys}
use Rattle.server_model.specs.States.{State, session_of, is_in_transaction, view, locked_names, tables_named, next_of}
use Rattle.server_model.specs.Blockers.{need_within}
use Rattle.server_model.specs.Listings.{events_read, tables_shown, waits_shown}

-- what a request does once its locks are granted
pub data Effect : Type 0 where
  -- nothing changes
  Rests : Answer → Effect
  -- the transaction goes on, or begins, with what was granted and these events
  Grows : Answer → Need → List RowEvent → Effect
  -- what was written is committed with these events, and the transaction is over
  Writes : Answer → List RowEvent → Effect
  -- the transaction is rolled back
  Forgets : Answer → Effect
  -- the committed tables are these from now on
  Moves : Answer → Database → Effect
  -- the session holds these names exclusively too, until it unlocks
  Locks : Answer → List (List ℕ) → Effect
  -- the session holds no name exclusively from now on
  Unlocks : Answer → Effect

-- of a committed table, where it exists
abbrev pub of_table : Option TableRows → (TableRows → Answer) → Answer
of_table None answer = refuses ER_NO_SUCH_TABLE
of_table (Some table) answer = answer table

-- what a statement or a copy gives: kept in a transaction with what was granted, committed at once outside one (MySQL's
-- manual, "autocommit, Commit, and Rollback")
abbrev pub result_effect : Bool → Need → StatementResult → Effect
result_effect true need result = Grows result.answer need result.events
result_effect false need result = Writes result.answer result.events

-- a transaction begins, where the table exists
abbrev pub begins : Option TableRows → Span → ℕ → Need → Effect
begins None span size need = Rests (refuses ER_NO_SUCH_TABLE)
begins (Some table) span size need = Grows (span_keys span size table) need []

-- tables are locked, where all exist
abbrev pub all_exist : List (List ℕ) → Database → Bool
all_exist names tables = not (list_any (λ name. not (has_table name tables)) names)

abbrev pub locks_if : Bool → List (List ℕ) → Effect
locks_if true names = Locks ok names
locks_if false names = Rests (refuses ER_NO_SUCH_TABLE)

-- a new table without rows, after the others; a table that is dropped; all pairs renamed, or none
abbrev pub created : Bool → Schema → Database → Result Database ℕ
created true schema tables = Err ER_TABLE_EXISTS_ERROR
created false schema tables = Ok (tables ++ record { schema = schema; rows = [] } ∷ [])

abbrev pub dropped : Bool → List ℕ → Database → Result Database ℕ
dropped true name tables = Ok (without_table name tables)
dropped false name tables = Err ER_BAD_TABLE_ERROR

abbrev pub renamed_or : Result Database NotRenamed → Result Database ℕ
renamed_or (Ok tables) = Ok tables
renamed_or (Err reason) = Err (rename_number reason)

abbrev pub defined : Result Database ℕ → Effect
defined (Ok tables) = Moves ok tables
defined (Err number) = Rests (refuses number)

abbrev pub nothing_needed : Need
nothing_needed = record { exclusive = false; names = []; locks = [] }

-- the effect of a request, by whether its session is in a transaction, and by the tables as it sees them
abbrev pub effect_within : Bool → Database → State → Request → Effect
effect_within busy seen state requests.Begin = Grows ok nothing_needed []
effect_within busy seen state requests.Commit = Writes ok []
effect_within busy seen state requests.Rollback = Forgets ok
effect_within busy seen state (requests.Do statement) = result_effect busy (need_within seen (requests.Do statement)) (statement_result seen statement)
effect_within busy seen state (requests.Ends table) = Rests (of_table (find_table table state.tables) (λ t. ends_of (keys_of (key_places t.schema) t.rows)))
effect_within busy seen state (requests.ChunkEnd table low top size) = Rests (of_table (find_table table state.tables) (λ t. answers.End (chunk_end low top size t)))
effect_within busy seen state (requests.BeginSpan table span size) = begins (find_table table state.tables) span size (need_within seen (requests.BeginSpan table span size))
effect_within busy seen state (requests.CopyRow from into map key) = result_effect busy (need_within seen (requests.CopyRow from into map key)) (operation_result seen (copy_operation seen from into map key))
effect_within busy seen state (requests.LockTables names) = locks_if (all_exist names state.tables) names
effect_within busy seen state requests.Unlock = Unlocks ok
effect_within busy seen state (requests.Create schema) = defined (created (has_table schema.name state.tables) schema state.tables)
effect_within busy seen state (requests.Drop name) = defined (dropped (has_table name state.tables) name state.tables)
effect_within busy seen state (requests.Rename pairs) = defined (renamed_or (rename_tables pairs state.tables))
effect_within busy seen state requests.LogEnd = Rests (answers.At (length state.log))
effect_within busy seen state (requests.ReadLog position limit tables) = Rests (events_read position limit tables state.log)
effect_within busy seen state requests.ShowTables = Rests (answers.Tables (tables_shown state.tables))
effect_within busy seen state requests.ShowWaiting = Rests (answers.Waiting (waits_shown state))
effect_within busy seen state (requests.ShowCounter table) = Rests (of_table (find_table table state.tables) (λ t. answers.At (unwrap_or (next_of table state.counters) 0)))
effect_within busy seen state (requests.SetCounter table number) = Rests (of_table (find_table table state.tables) (λ t. ok))

-- The session holds LOCK TABLES and the request names a table that it hasn't locked (MySQL's manual, "LOCK TABLES and
-- UNLOCK TABLES Statements").
abbrev pub is_beyond : List (List ℕ) → List (List ℕ) → Bool
is_beyond [] names = false
is_beyond (first ∷ locked) names = list_any (λ name. not (list_any (bytes_eq name) (first ∷ locked))) names

abbrev pub is_outside : Option Session → Request → Bool
is_outside None request = false
is_outside (Some session) request = is_beyond (locked_names session.names) (tables_named request)

-- ... it is refused then, once its locks are free
abbrev pub effect_unless : Bool → Bool → Database → State → Request → Effect
effect_unless true busy seen state request = Rests (refuses ER_TABLE_NOT_LOCKED)
effect_unless false busy seen state request = effect_within busy seen state request

abbrev pub effect : State → ℕ → Request → Effect
effect state number request = effect_unless (is_outside (session_of number state.sessions) request) (is_in_transaction (session_of number state.sessions)) (view number state) state request
