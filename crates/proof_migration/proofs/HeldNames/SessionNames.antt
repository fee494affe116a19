-- Of which tables one session holds names and row locks, and after a turn of its own.
use Rattle.server_model.proofs.Filling.{filled_case, numbered_table}
use Rattle.server_model.specs.Drawing.{filled}
use Rattle.std.proofs.Common.{◌≡◌, ℕ, ◌+◌, Bool, true, false, not, ◌||◌, List, [], ◌∷◌, ◌++◌, map, filter, cond, Option, Some, None, Result, Ok, Err, refl, sym, ap, ◌∙◌, subst}
use Rattle.std.specs.Prelude.{◌==◌, is_some}
use Rattle.std.specs.List.{AllByRecursion}
use Rattle.base_script.specs.declared.actor.Side.{Side}
use Rattle.base_script.specs.declared.actor.Side.TheVariants.{Before, After}
use Rattle.base_values.specs.declared.gho_schema.schema.Index.{Index}
use Rattle.base_values.specs.declared.gho_schema.schema.Schema.{Schema}
use Rattle.base_values.specs.declared.span.Span.{Span}
use Rattle.base_values.specs.declared.value.Value.{Value}
use Rattle.base_values.specs.GhoSchema.ClusteredKey.{clustered_place}
use Rattle.base_values.specs.GhoSchema.Rows.{key_of}
use Rattle.base_values.specs.GhoSchema.Tables.{no_null}
use Rattle.base_values.specs.Spans.{point}
use Rattle.base_values.proofs.SchemaRules.Lists.{All-append, All-filter, All-map}
use Rattle.server_locks.specs.declared.row_locks.lock.Lock.{Lock}
use Rattle.table_store.specs.Databases.{TableRows, Database, find_table, has_table, rename_tables}
use Rattle.server_model.specs.declared.entry.Asked.{Asked}
use Rattle.server_model.specs.declared.entry.Asked.TheVariants.{Call, Poll, Command, Cut}
use Rattle.server_model.specs.declared.need.Need.{Need}
use Rattle.server_model.specs.declared.request.Request.{Request}
use Rattle.server_model.specs.declared.request.Request.TheVariants as requests
use Rattle.server_model.specs.declared.session.HeldName.{HeldName}
use Rattle.server_model.specs.declared.session.Session.{Session}
use Rattle.server_model.specs.declared.session.Waiting.{Waiting}
use Rattle.server_model.specs.declared.work.StatementResult.{StatementResult}
use Rattle.server_model.specs.declared.work.Work.{Work}
use Rattle.server_model.specs.declared.work.Work.TheVariants.{Refuse, Insert, Copy, Replace, Delete, Update, Select}
use Rattle.server_model.specs.Effects.{Effect, Rests, Grows, Writes, Forgets, Moves, Locks, Unlocks, all_exist, locks_if, result_effect, begins, created, dropped, renamed_or, defined, effect_unless, effect, is_outside}
use Rattle.server_model.specs.Blockers.{span_lock, span_needs, row_locks_of, need_within, need, blocker}
use Rattle.server_model.specs.Needs.{lock_on, point_lock, points_from, points, points_of, new_rows, needs}
use Rattle.server_model.specs.Operations.{Operation, operation_of, operation_result, statement_result, copy_operation, needs_in, operation_needs}
use Rattle.server_model.specs.PlainServer.{shared, exclusive, holding, at_rest, locking, unlocking, counting, does, done, did, without_waiting, called_unless, calls, is_over, polled_over, polled_unless, polled_of, polls, loses, serves, leaves}
use Rattle.server_model.specs.Rows.{rows_met}
use Rattle.server_model.specs.StatementResults.{displaced}
use Rattle.server_model.specs.States.{State, with_session, session_of, new_session, connected, waiting_of, names_in, is_in_transaction, is_of_tool, polls_of, view}
use Rattle.server_model.proofs.LockedRows.Counters.{found_named}
use Rattle.tool_program.specs.JournalWords.Journals.{opens_if}
use Rattle.proof_journals.specs.Turns.{request_of}

-- a statement names the same table with its number
pub filled_names : (state : State) (number : ℕ) (request : Request) → names_in (filled state number request) ≡ names_in request
filled_names state number request =
    filled_case (λ asked full. names_in full ≡ names_in asked) (λ r. refl) (λ statement n. ap (λ (name : List ℕ). name ∷ []) (numbered_table n statement)) (is_of_tool (session_of number state.sessions)) state.tables state.counters request

module _ (P : List ℕ → Type 0) where
  -- all these names are such
  abbrev pub AllNames : List (List ℕ) → Type 0
  AllNames names = AllByRecursion P names

  abbrev OfName : HeldName → Type 0
  OfName one = P one.name

  abbrev OfTable : Lock → Type 0
  OfTable one = P one.table

  abbrev pub AllLocks : List Lock → Type 0
  AllLocks locks = AllByRecursion OfTable locks

  -- the names that the session holds, and the tables of its row locks, are such
  pub record Within (session : Session) : Type 0 where
    pub names : AllByRecursion OfName session.names
    pub locks : AllLocks session.row_locks

  abbrev pub WithinIn : Option Session → Type 0
  WithinIn None = Unit {0}
  WithinIn (Some session) = Within session

  -- WHAT A REQUEST NEEDS

  point_on : (schema : Schema) → P schema.name → (place : ℕ) (key : List Value) → AllLocks (point_lock schema place key)
  point_on schema is place key = by (no_null key) where
    by : (b : Bool) → AllLocks (cond b (lock_on schema true (record { key = place; span = point key }) ∷ []) [])
    by true = (is, tt)
    by false = tt

  points_on : (schema : Schema) → P schema.name → (place : ℕ) (uniques : List Index) (row : List Value) → AllLocks (points_from schema place uniques row)
  unfolding points_from
  points_on schema is place [] row = tt
  points_on schema is place (index ∷ uniques) row =
      All-append OfTable (point_lock schema place (key_of index.places row)) (points_from schema (place + 1) uniques row) (point_on schema is place (key_of index.places row)) (points_on schema is (place + 1) uniques row)

  all_points : (schema : Schema) → P schema.name → (rows : List (List Value)) → AllLocks (points_of schema rows)
  all_points schema is [] = tt
  all_points schema is (row ∷ rows) = All-append OfTable (points schema row) (points_of schema rows) (points_on schema is 0 schema.uniques row) (all_points schema is rows)

  needs_on : (schema : Schema) → P schema.name → (rows : List (List Value)) (work : Work) → AllLocks (needs schema rows work)
  unfolding needs
  needs_on schema is rows (Refuse refusal) = tt
  needs_on schema is rows (Insert row) = points_on schema is 0 schema.uniques row
  needs_on schema is rows (Copy row) = points_on schema is 0 schema.uniques row
  needs_on schema is rows (Replace row) = All-append OfTable (points schema row) (points_of schema (displaced schema row rows)) (points_on schema is 0 schema.uniques row) (all_points schema is (displaced schema row rows))
  needs_on schema is rows (Delete reach) = (is, all_points schema is (rows_met schema reach rows))
  needs_on schema is rows (Update reach sets) =
      (is, All-append OfTable (points_of schema (rows_met schema reach rows)) (points_of schema (new_rows sets (rows_met schema reach rows))) (all_points schema is (rows_met schema reach rows)) (all_points schema is (new_rows sets (rows_met schema reach rows))))
  needs_on schema is rows (Select reach selection) = (is, tt)

  operation_on : (operation : Operation) (tables : Database) → P operation.table → AllLocks (operation_needs tables operation)
  unfolding operation_needs
  operation_on operation tables is = by (find_table operation.table tables) refl where
    by : (found : Option TableRows) → find_table operation.table tables ≡ found → AllLocks (needs_in operation found)
    by None none = tt
    by (Some table) some = needs_on table.schema (subst P (sym (found_named operation.table tables table some)) is) table.rows (operation.work table.schema)

  span_on : (name : List ℕ) (tables : Database) (span : Span) → P name → AllLocks (span_needs span (find_table name tables))
  span_on name tables span is = by (find_table name tables) refl where
    by : (found : Option TableRows) → find_table name tables ≡ found → AllLocks (span_needs span found)
    by None none = tt
    by (Some table) some = at (clustered_place table.schema) where
      at : (place : Option ℕ) → AllLocks (span_lock table.schema span place)
      at None = tt
      at (Some place) = (subst P (sym (found_named name tables table some)) is, tt)

  -- the row locks that a request needs are of tables that it names
  pub locks_on : (seen : Database) (request : Request) → AllNames (names_in request) → AllLocks (row_locks_of seen request)
  locks_on seen (requests.Do statement) all = operation_on (operation_of statement) seen all.0
  locks_on seen (requests.BeginSpan table span size) all = span_on table seen span all.0
  locks_on seen (requests.CopyRow from into columns key) all = operation_on (copy_operation seen from into columns key) seen all.1.0
  locks_on seen requests.Begin all = tt
  locks_on seen requests.Commit all = tt
  locks_on seen requests.Rollback all = tt
  locks_on seen (requests.Ends table) all = tt
  locks_on seen (requests.ChunkEnd table low top size) all = tt
  locks_on seen (requests.LockTables names) all = tt
  locks_on seen requests.Unlock all = tt
  locks_on seen (requests.Create schema) all = tt
  locks_on seen (requests.Drop name) all = tt
  locks_on seen (requests.Rename pairs) all = tt
  locks_on seen requests.LogEnd all = tt
  locks_on seen (requests.ReadLog position limit tables) all = tt
  locks_on seen requests.ShowTables all = tt
  locks_on seen requests.ShowWaiting all = tt
  locks_on seen (requests.ShowCounter table) all = tt
  locks_on seen (requests.SetCounter table least) all = tt

  -- WHAT AN EFFECT LEAVES

  holding_within : (need : Need) (events : _) → AllNames need.names → AllLocks need.locks → (s : Session) → Within s → Within (holding need events s)
  holding_within need events names locks s is = record {
    names = All-append OfName s.names (map shared need.names) is.names (All-map P OfName shared (λ name p. p) need.names names);
    locks = All-append OfTable s.row_locks need.locks is.locks locks;
  }

  rests_within : (s : Session) → Within s → Within (at_rest s)
  rests_within s is = record { names = All-filter OfName (λ (one : HeldName). one.exclusive) s.names is.names; locks = tt }

  locking_within : (names : List (List ℕ)) → AllNames names → (s : Session) → Within s → Within (locking names s)
  locking_within names all s is = record { names = All-append OfName s.names (map exclusive names) is.names (All-map P OfName exclusive (λ name p. p) names all); locks = is.locks }

  unlocking_within : (s : Session) → Within s → Within (unlocking s)
  unlocking_within s is = record { names = All-filter OfName (λ (one : HeldName). not one.exclusive) s.names is.names; locks = is.locks }

  counting_within : (polls : ℕ) (s : Session) → Within s → Within (counting polls s)
  counting_within polls s is = record { names = is.names; locks = is.locks }

  with_within : (number : ℕ) (change : Session → Session) → ((s : Session) → (change s).number ≡ s.number) → ((s : Session) → Within s → Within (change s)) → (sessions : List Session) → WithinIn (session_of number sessions) → WithinIn (session_of number (with_session number change sessions))
  unfolding with_session
  with_within number change same keeps [] is = tt
  with_within number change same keeps (first ∷ sessions) is = by (first.number == number) refl is (with_within number change same keeps sessions) where
    by : (b : Bool) → (first.number == number) ≡ b → WithinIn (cond b (Some first) (session_of number sessions)) → (WithinIn (session_of number sessions) → WithinIn (session_of number (with_session number change sessions)))
        → WithinIn (session_of number (cond b (change first ∷ sessions) (first ∷ with_session number change sessions)))
    by true here is rest = let still : ((change first).number == number) ≡ true = ap (λ (n : ℕ). n == number) (same first) ∙ here in rw still (keeps first is)
    by false there is rest = rw there (rest is)

  abbrev Adds : Effect → Type 0
  Adds (Grows answer need events) = AllNames need.names × AllLocks need.locks
  Adds (Locks answer names) = AllNames names
  Adds effect = Unit {0}

  does_within : (one : Effect) (state : State) (number : ℕ) → Adds one → WithinIn (session_of number state.sessions) → WithinIn (session_of number (does one state number).after.sessions)
  does_within (Rests answer) state number adds is = is
  does_within (Grows answer need events) state number adds is = with_within number (holding need events) (λ s. refl) (holding_within need events adds.0 adds.1) state.sessions is
  does_within (Writes answer events) state number adds is = with_within number at_rest (λ s. refl) rests_within state.sessions is
  does_within (Forgets answer) state number adds is = with_within number at_rest (λ s. refl) rests_within state.sessions is
  does_within (Moves answer tables) state number adds is = is
  does_within (Locks answer names) state number adds is = with_within number (locking names) (λ s. refl) (locking_within names adds) state.sessions is
  does_within (Unlocks answer) state number adds is = with_within number unlocking (λ s. refl) unlocking_within state.sessions is

  resulted : (busy : Bool) (need : Need) (result : StatementResult) → AllNames need.names → AllLocks need.locks → Adds (result_effect busy need result)
  resulted true need result names locks = (names, locks)
  resulted false need result names locks = tt

  begun : (found : Option TableRows) (span : Span) (size : ℕ) (need : Need) → AllNames need.names → AllLocks need.locks → Adds (begins found span size need)
  begun None span size need names locks = tt
  begun (Some one) span size need names locks = (names, locks)

  locked : (b : Bool) (names : List (List ℕ)) → AllNames names → Adds (locks_if b names)
  locked true names all = all
  locked false names all = tt

  made : (result : Result Database ℕ) → Adds (defined result)
  made (Ok tables) = tt
  made (Err number) = tt

  effect_adds : (outside busy : Bool) (seen : Database) (state : State) (request : Request) → AllNames (names_in request) → Adds (effect_unless outside busy seen state request)
  effect_adds true busy seen state request all = tt
  effect_adds false busy seen state requests.Begin all = (tt, tt)
  effect_adds false busy seen state requests.Commit all = tt
  effect_adds false busy seen state requests.Rollback all = tt
  effect_adds false busy seen state (requests.Do statement) all = resulted busy (need_within seen (requests.Do statement)) (statement_result seen statement) all (locks_on seen (requests.Do statement) all)
  effect_adds false busy seen state (requests.Ends name) all = tt
  effect_adds false busy seen state (requests.ChunkEnd name low top size) all = tt
  effect_adds false busy seen state (requests.BeginSpan name span size) all = begun (find_table name state.tables) span size (need_within seen (requests.BeginSpan name span size)) all (locks_on seen (requests.BeginSpan name span size) all)
  effect_adds false busy seen state (requests.CopyRow from into columns key) all =
      resulted busy (need_within seen (requests.CopyRow from into columns key)) (operation_result seen (copy_operation seen from into columns key)) all (locks_on seen (requests.CopyRow from into columns key) all)
  effect_adds false busy seen state (requests.LockTables names) all = locked (all_exist names state.tables) names all
  effect_adds false busy seen state requests.Unlock all = tt
  effect_adds false busy seen state (requests.Create schema) all = made (created (has_table schema.name state.tables) schema state.tables)
  effect_adds false busy seen state (requests.Drop name) all = made (dropped (has_table name state.tables) name state.tables)
  effect_adds false busy seen state (requests.Rename pairs) all = made (renamed_or (rename_tables pairs state.tables))
  effect_adds false busy seen state requests.LogEnd all = tt
  effect_adds false busy seen state (requests.ReadLog position limit tables) all = tt
  effect_adds false busy seen state requests.ShowTables all = tt
  effect_adds false busy seen state requests.ShowWaiting all = tt
  effect_adds false busy seen state (requests.ShowCounter table) all = tt
  effect_adds false busy seen state (requests.SetCounter table least) all = tt

  done_within : (state : State) (number : ℕ) (request : Request) → AllNames (names_in request) → WithinIn (session_of number state.sessions) → WithinIn (session_of number (done state number request).after.sessions)
  unfolding did
  done_within state number request all is =
      let full : Request = filled state number request in
      does_within (effect state number full) state number
      (effect_adds (is_outside (session_of number state.sessions) full) (is_in_transaction (session_of number state.sessions)) (view number state) state full
      (subst AllNames (sym (filled_names state number request)) all))
      is

  -- CALLS, POLLS AND LOSSES

  calls_within : (state : State) (number : ℕ) (request : Request) → AllNames (names_in request) → WithinIn (session_of number state.sessions) → WithinIn (session_of number (calls state number request).after.sessions)
  unfolding calls
  calls_within state number request all is = by (blocker state number (need state number request)) where
    by : (blocked : Option ℕ) → WithinIn (session_of number (called_unless blocked state number request).after.sessions)
    by None = done_within state number request all is
    by (Some other) = with_within number (counting 0) (λ s. refl) (counting_within 0) state.sessions is

  polls_within : (state : State) (number : ℕ) → ((request : Request) → request_of (waiting_of number state.waiting) ≡ Some request → AllNames (names_in request)) → WithinIn (session_of number state.sessions) → WithinIn (session_of number (polls state number).after.sessions)
  unfolding polls
  polls_within state number waits is = by (waiting_of number state.waiting) refl where
    over : (b : Bool) (other : ℕ) → WithinIn (session_of number (polled_over b other state number).after.sessions)
    over true other = with_within number at_rest (λ s. refl) rests_within state.sessions is
    over false other = with_within number (counting (polls_of (session_of number state.sessions) + 1)) (λ s. refl) (counting_within (polls_of (session_of number state.sessions) + 1)) state.sessions is

    unless : (request : Request) → AllNames (names_in request) → (blocked : Option ℕ) → WithinIn (session_of number (polled_unless blocked state number request).after.sessions)
    unless request all None = done_within (without_waiting number state) number request all is
    unless request all (Some other) = over (is_over state number) other

    by : (found : Option Waiting) → waiting_of number state.waiting ≡ found → WithinIn (session_of number (polled_of found state number).after.sessions)
    by None none = is
    by (Some found) some = unless found.request (waits found.request (ap request_of some)) (blocker state number (need state number found.request))

  gone_within : (number : ℕ) (sessions : List Session) → WithinIn (session_of number (filter (λ session. not (session.number == number)) sessions))
  gone_within number [] = tt
  gone_within number (first ∷ sessions) = by (first.number == number) refl (gone_within number sessions) where
    by : (b : Bool) → (first.number == number) ≡ b → WithinIn (session_of number (filter (λ session. not (session.number == number)) sessions))
        → WithinIn (session_of number (cond (not b) (first ∷ filter (λ session. not (session.number == number)) sessions) (filter (λ session. not (session.number == number)) sessions)))
    by true here rest = rest
    by false there rest = rw there rest

  serves_within : (state : State) (number : ℕ) (asked : Asked) → ((request : Request) → asked ≡ Call request → AllNames (names_in request)) → (asked ≡ Poll → (request : Request) → request_of (waiting_of number state.waiting) ≡ Some request → AllNames (names_in request))
      → WithinIn (session_of number state.sessions) → WithinIn (session_of number (serves state number asked).after.sessions)
  unfolding loses
  serves_within state number (Call request) called polled is = calls_within state number request (called request refl) is
  serves_within state number Poll called polled is = polls_within state number (polled refl) is
  serves_within state number (Command word) called polled is = is
  serves_within state number Cut called polled is = gone_within number state.sessions

  -- *A turn of its own*
  pub leaves_within : (side : Option Side) (state : State) (number : ℕ) (asked : Asked) → ((request : Request) → asked ≡ Call request → AllNames (names_in request)) → (asked ≡ Poll → (request : Request) → request_of (waiting_of number state.waiting) ≡ Some request → AllNames (names_in request))
      → WithinIn (session_of number state.sessions) → WithinIn (session_of number (leaves side state number asked).sessions)
  unfolding loses
  leaves_within None state number asked called polled is = serves_within state number asked called polled is
  leaves_within (Some Before) state number asked called polled is = gone_within number state.sessions
  leaves_within (Some After) state number asked called polled is = gone_within number (serves state number asked).after.sessions

  -- a session that connects holds nothing
  joined_within : (tool : Bool) (number other : ℕ) (sessions : List Session) → WithinIn (session_of other sessions) → WithinIn (session_of other (sessions ++ new_session number tool ∷ []))
  joined_within tool number other [] is = by (number == other) where
    by : (b : Bool) → WithinIn (cond b (Some (new_session number tool)) None)
    by true = record { names = tt; locks = tt }
    by false = tt
  joined_within tool number other (first ∷ sessions) is = by (first.number == other) is (joined_within tool number other sessions) where
    by : (b : Bool) → WithinIn (cond b (Some first) (session_of other sessions)) → (WithinIn (session_of other sessions) → WithinIn (session_of other (sessions ++ new_session number tool ∷ [])))
        → WithinIn (cond b (Some first) (session_of other (sessions ++ new_session number tool ∷ [])))
    by true is rest = is
    by false is rest = rest is

  pub opened_within : (nothing tool : Bool) (number other : ℕ) (state : State) → WithinIn (session_of other state.sessions) → WithinIn (session_of other (opens_if nothing tool number state).sessions)
  unfolding opens_if
  opened_within nothing tool number other state is = by (nothing || is_some (session_of number state.sessions)) where
    by : (b : Bool) → WithinIn (session_of other (cond b state (connected number tool state)).sessions)
    by true = is
    by false = joined_within tool number other state.sessions is
