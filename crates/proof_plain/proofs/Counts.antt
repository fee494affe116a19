-- How many rows tables have and how many events the log has: each turn adds one row to a table at most, and at most one event more
-- than a table has rows.
use Rattle.std.proofs.Common.{◌≡◌, ℕ, ◌+◌, ◌-◌, ◌^◌, ◌<◌, ◌≤◌, ◌==◌, Bool, true, false, not, cond, List, [], ◌∷◌, ◌++◌, filter, length, Option, Some, None, Result, Ok, Err, refl, sym, ap, ◌∙◌, subst, arith}
use Rattle.std.specs.Prelude.{count_by, option_map, unwrap_or}
use Rattle.std.specs.List.{AllByRecursion}
use Rattle.std.specs.Str.{bytes_eq}
use Rattle.std.proofs.lemmas.List.{length-map, length-append}
use Rattle.std.proofs.lemmas.List.Sums.{sum_by-cons, sum_by-append}
use Rattle.base_values.specs.declared.event.Change.{Change}
use Rattle.base_values.specs.declared.event.RowEvent.{RowEvent}
use Rattle.base_values.specs.declared.gho_schema.schema.Schema.{Schema}
use Rattle.base_values.specs.declared.value.Value.{Value}
use Rattle.base_script.specs.declared.actor.Side.{Side}
use Rattle.base_script.specs.declared.actor.Side.TheVariants as sides
use Rattle.table_store.specs.Databases.{TableRows, Database, find_table, has_table, is_named, name_table, rename_tables, with_name, without_table}
use Rattle.table_store.specs.declared.renames.NotRenamed.{NotRenamed}
use Rattle.table_store.specs.declared.renames.NotRenamed.TheVariants.{Exists, Missing}
use Rattle.table_store.specs.declared.renames.Pair.{Pair}
use Rattle.server_model.specs.declared.entry.Asked.{Asked}
use Rattle.server_model.specs.declared.entry.Asked.TheVariants.{Call, Poll, Command, Cut}
use Rattle.server_model.specs.declared.need.Need.{Need}
use Rattle.server_model.specs.declared.request.Request.{Request}
use Rattle.server_model.specs.declared.request.Request.TheVariants as requests
use Rattle.server_model.specs.declared.session.Session.{Session}
use Rattle.server_model.specs.declared.session.Waiting.{Waiting}
use Rattle.server_model.specs.declared.work.StatementResult.{StatementResult}
use Rattle.server_model.specs.Blockers.{blocker, need, need_within}
use Rattle.server_model.specs.Drawing.{filled}
use Rattle.server_model.specs.Effects.{Effect, Rests, Grows, Writes, Forgets, Moves, Locks, Unlocks, all_exist, begins, created, defined, dropped, effect_unless, effect_within, is_outside, locks_if, renamed_or, result_effect}
use Rattle.server_model.specs.Operations.{Operation, copy_operation, events_of, operation_of, operation_result, result_in, statement_result}
use Rattle.server_model.specs.PlainServer.{at_rest, called_unless, calls, counting, did, does, holding, is_over, locking, loses, polled_of, polled_over, polled_unless, polls, serves, state_left, unlocking, without_waiting}
use Rattle.server_model.specs.StatementResults.{tells}
use Rattle.server_model.specs.declared.session.Limits.{Limits}
use Rattle.server_model.specs.States.{State, connected, is_in_transaction, new_session, opened, polls_of, session_of, view, waiting_of, with_session, writes_of}
use Rattle.server_model.specs.LockedRows.Databases.{IsWellFormedDatabase, TaskSound, WhereFound}
use Rattle.server_model.proofs.LockedRows.Stables.{statement_sound}
use Rattle.server_model.proofs.LockedRows.Tests.{are_same, turned_bytes}
use Rattle.proof_journals.specs.Ghost.FittingEvents.{EventsFit}
use Rattle.proof_journals.specs.Holdings.{face_of}
use Rattle.proof_journals.specs.ServerFacts.Invariants.{IsServing}
use Rattle.proof_journals.proofs.Faces.{writes_face}
use Rattle.proof_journals.proofs.ServerFacts.Calls.{ended_serves}
use Rattle.proof_journals.proofs.Ghost.Fitting.{fit_more, fitting_end, says_fit, well_formed_events}
use Rattle.proof_journals.proofs.Moves.{gone_none, drop_moves, renamed_new, renamed_old, renamed_other}
use Rattle.proof_journals.proofs.Tooling.{copies_sound}
use Rattle.proof_journals.specs.Ghost.Rows.Counts.{is_write, writes_of as puts_of}
use Rattle.proof_journals.proofs.Ghost.Rows.LineEvents.{row_count, rows_grow, AreFew, tells_few}
use Rattle.proof_plain.specs.Plain.{FewRows, HasFewRows}

abbrev Row : Type 0
Row = List Value

-- ---- events

-- how many events put a new row, into whichever table
abbrev pub puts : List RowEvent → ℕ
puts events = count_by (λ event. is_write event.change) events

puts_more : (event : RowEvent) (events : List RowEvent) → puts (event ∷ events) ≡ cond (is_write event.change) 1 0 + puts events
puts_more event events = sum_by-cons (λ (one : RowEvent). cond (is_write one.change) 1 0) event events

puts_both : (a b : List RowEvent) → puts (a ++ b) ≡ puts a + puts b
puts_both a b = sum_by-append (λ (one : RowEvent). cond (is_write one.change) 1 0) a b

puts_named : (name : List ℕ) (all : List Change) → puts (events_of name all) ≡ count_by is_write all
puts_named name [] = refl
puts_named name (change ∷ all) =
    let a = puts_more (record { table = name; change = change }) (events_of name all) in
    let b = sum_by-cons (λ (one : Change). cond (is_write one) 1 0) change all in
    let c = puts_named name all in
    omega (arith, a, b, c)

-- those of one table are among them
puts_among : (name : List ℕ) (events : List RowEvent) → puts_of name events ≤ puts events
puts_among name [] = omega arith
puts_among name (event ∷ events) =
    let a = puts_more event events in
    let b : puts_of name (event ∷ events) ≡ cond (cond (bytes_eq event.table name) (is_write event.change) false) 1 0 + puts_of name events = sum_by-cons (λ (one : RowEvent). cond (cond (bytes_eq one.table name) (is_write one.change) false) 1 0) event events in
    let c = puts_among name events in
    let d = less (bytes_eq event.table name) (is_write event.change) in
    omega (arith, a, b, c, d) where
      less : (own writes : Bool) → cond (cond own writes false) 1 0 ≤ cond writes 1 0
      less true writes = omega arith
      less false true = omega arith
      less false false = omega arith

-- few events, which fit the tables on which they are said
pub record SaysFew (tables : Database) (n : ℕ) (wrote : List RowEvent) : Type 0 where
  pub fits : EventsFit tables wrote
  pub events : length wrote ≤ n
  pub writes : puts wrote ≤ 1

abbrev rows_found : Option TableRows → List Row
rows_found found = unwrap_or (option_map (λ (table : TableRows). table.rows) found) []

said_in : (tables : Database) (operation : Operation) (n : ℕ) (found : Option TableRows) → EventsFit tables (result_in operation found).events → length (rows_found found) ≤ n → SaysFew tables (n + 1) (result_in operation found).events
said_in tables operation n None fits few = record { fits = fits; events = omega arith; writes = omega arith }
said_in tables operation n (Some table) fits few =
    let all : List Change = (tells table.schema table.rows (operation.work table.schema)).changes in
    let are : AreFew (length table.rows + 1) all = tells_few table.schema table.rows (operation.work table.schema) in
    let a = length-map all (λ (change : Change). let event : RowEvent = record { table = operation.table; change = change } in event) in
    let b = puts_named operation.table all in
    let c = are.changes in
    let d = are.writes in
    record { fits = fits; events = omega (arith, a, c, few); writes = omega (arith, b, d) }

said_few : (tables : Database) (operation : Operation) (n : ℕ) → IsWellFormedDatabase tables → TaskSound operation tables → ((name : List ℕ) → row_count name tables ≤ n) → SaysFew tables (n + 1) (operation_result tables operation).events
unfolding operation_result
said_few tables operation n is sound few = said_in tables operation n (find_table operation.table tables) (says_fit tables operation sound is) (few operation.table)

-- ---- what sessions wrote

-- how many rows they put, and how many events they wrote, and didn't commit
abbrev pub rows_put : List Session → ℕ
rows_put [] = 0
rows_put (session ∷ sessions) = puts session.writes + rows_put sessions

abbrev pub events_open : List Session → ℕ
events_open [] = 0
events_open (session ∷ sessions) = length session.writes + events_open sessions

-- a session's change that adds this much, or takes this much away
module _ (number : ℕ) (change : Session → Session) (rows events : ℕ) (less : (session : Session) → (puts (change session).writes ≤ puts session.writes + rows) × (length (change session).writes ≤ length session.writes + events)) where
  with_puts : (sessions : List Session) → rows_put (with_session number change sessions) ≤ rows_put sessions + rows
  unfolding with_session
  with_puts [] = omega arith
  with_puts (session ∷ sessions) = at (session.number == number) (less session).0 (with_puts sessions) where
    at : (b : Bool) → puts (change session).writes ≤ puts session.writes + rows → rows_put (with_session number change sessions) ≤ rows_put sessions + rows
        → rows_put (cond b (change session ∷ sessions) (session ∷ with_session number change sessions)) ≤ puts session.writes + rows_put sessions + rows
    at true here rest = omega (arith, here)
    at false here rest = omega (arith, rest)

  with_events : (sessions : List Session) → events_open (with_session number change sessions) ≤ events_open sessions + events
  unfolding with_session
  with_events [] = omega arith
  with_events (session ∷ sessions) = at (session.number == number) (less session).1 (with_events sessions) where
    at : (b : Bool) → length (change session).writes ≤ length session.writes + events → events_open (with_session number change sessions) ≤ events_open sessions + events
        → events_open (cond b (change session ∷ sessions) (session ∷ with_session number change sessions)) ≤ length session.writes + events_open sessions + events
    at true here rest = omega (arith, here)
    at false here rest = omega (arith, rest)

-- what a session wrote is taken out of all
rests_puts : (number : ℕ) (sessions : List Session) → rows_put (with_session number at_rest sessions) + puts (writes_of (session_of number sessions)) ≤ rows_put sessions
unfolding with_session
rests_puts number [] = omega arith
rests_puts number (session ∷ sessions) = at (session.number == number) (rests_puts number sessions) where
  at : (b : Bool) → rows_put (with_session number at_rest sessions) + puts (writes_of (session_of number sessions)) ≤ rows_put sessions
      → rows_put (cond b (at_rest session ∷ sessions) (session ∷ with_session number at_rest sessions)) + puts (writes_of (cond b (Some session) (session_of number sessions))) ≤ puts session.writes + rows_put sessions
  at true rest = omega arith
  at false rest = omega (arith, rest)

rests_events : (number : ℕ) (sessions : List Session) → events_open (with_session number at_rest sessions) + length (writes_of (session_of number sessions)) ≤ events_open sessions
unfolding with_session
rests_events number [] = omega arith
rests_events number (session ∷ sessions) = at (session.number == number) (rests_events number sessions) where
  at : (b : Bool) → events_open (with_session number at_rest sessions) + length (writes_of (session_of number sessions)) ≤ events_open sessions
      → events_open (cond b (at_rest session ∷ sessions) (session ∷ with_session number at_rest sessions)) + length (writes_of (cond b (Some session) (session_of number sessions))) ≤ length session.writes + events_open sessions
  at true rest = omega arith
  at false rest = omega (arith, rest)

lost_puts : (test : Session → Bool) (sessions : List Session) → rows_put (filter test sessions) ≤ rows_put sessions
lost_puts test [] = omega arith
lost_puts test (session ∷ sessions) = at (test session) (lost_puts test sessions) where
  at : (b : Bool) → rows_put (filter test sessions) ≤ rows_put sessions → rows_put (cond b (session ∷ filter test sessions) (filter test sessions)) ≤ puts session.writes + rows_put sessions
  at true rest = omega (arith, rest)
  at false rest = omega (arith, rest)

lost_events : (test : Session → Bool) (sessions : List Session) → events_open (filter test sessions) ≤ events_open sessions
lost_events test [] = omega arith
lost_events test (session ∷ sessions) = at (test session) (lost_events test sessions) where
  at : (b : Bool) → events_open (filter test sessions) ≤ events_open sessions → events_open (cond b (session ∷ filter test sessions) (filter test sessions)) ≤ length session.writes + events_open sessions
  at true rest = omega (arith, rest)
  at false rest = omega (arith, rest)

more_puts : (sessions : List Session) (session : Session) → session.writes ≡ [] → rows_put (sessions ++ session ∷ []) ≤ rows_put sessions
more_puts [] session none = let same : puts session.writes ≡ 0 = ap puts none in omega (arith, same)
more_puts (first ∷ sessions) session none = let rest = more_puts sessions session none in omega (arith, rest)

more_events : (sessions : List Session) (session : Session) → session.writes ≡ [] → events_open (sessions ++ session ∷ []) ≤ events_open sessions
more_events [] session none = let same : length session.writes ≡ 0 = ap length none in omega (arith, same)
more_events (first ∷ sessions) session none = let rest = more_events sessions session none in omega (arith, rest)

-- ---- the state

-- *Few*: no table has more rows, with all that sessions put and didn't commit, and the log has no more events, with all that they
-- wrote
pub record IsFew (most wrote : ℕ) (state : State) : Type 0 where
  pub rows : (name : List ℕ) → row_count name state.tables + rows_put state.sessions ≤ most
  pub log : length state.log + events_open state.sessions ≤ wrote

-- what a session's writes fit
abbrev own_of : ℕ → State → List RowEvent
own_of number state = writes_of (session_of number state.sessions)

pub own_fits : (number : ℕ) (state : State) → IsServing state → EventsFit state.tables (own_of number state)
own_fits number state serving =
    let own = serving.own number in
    subst (EventsFit state.tables) (sym (writes_face (session_of number state.sessions)))
    (fitting_end (face_of state.sessions number).hold.names (face_of state.sessions number).hold.locks (face_of state.sessions number).hold.writes state.tables serving.well_formed own.fitting)

pub view_formed : (number : ℕ) (state : State) → IsServing state → IsWellFormedDatabase (view number state)
view_formed number state serving = well_formed_events state.tables (own_of number state) serving.well_formed (own_fits number state serving)

own_puts : (number : ℕ) (sessions : List Session) → puts (writes_of (session_of number sessions)) ≤ rows_put sessions
own_puts number sessions = let a = rests_puts number sessions in omega (arith, a)

view_rows : (number rows events : ℕ) (state : State) → IsServing state → IsFew rows events state → (name : List ℕ) → row_count name (view number state) ≤ rows
view_rows number rows events state serving few name =
    let a = rows_grow name state.tables (own_of number state) serving.well_formed (own_fits number state serving) in
    let b = puts_among name (own_of number state) in
    let c = own_puts number state.sessions in
    let d = few.rows name in
    omega (arith, a, b, c, d)

-- *What a session sees has few rows*
pub view_few : (number rows events : ℕ) (state : State) → rows < 2 ^ 63 → IsServing state → IsFew rows events state → HasFewRows (view number state)
view_few number rows events state small serving few name = by (find_table name (view number state)) refl where
  by : (found : Option TableRows) → find_table name (view number state) ≡ found → WhereFound FewRows found
  by None is = tt
  by (Some table) is =
      let same : row_count name (view number state) ≡ length table.rows = ap (λ (o : Option TableRows). length (rows_found o)) is in
      let less = view_rows number rows events state serving few name in
      omega (arith, same, less, small)

-- ---- tables that are made, dropped and renamed have no more rows

abbrev NoMore : Database → Database → Type 0
NoMore before after = (m : ℕ) → ((name : List ℕ) → row_count name before ≤ m) → (name : List ℕ) → row_count name after ≤ m

count_found : (name : List ℕ) (tables : Database) (found : Option TableRows) → find_table name tables ≡ found → row_count name tables ≡ length (rows_found found)
count_found name tables found is = ap (λ (o : Option TableRows). length (rows_found o)) is

created_more : (schema : Schema) (tables : Database) → NoMore tables (tables ++ record { schema = schema; rows = [] } ∷ [])
created_more schema tables m all name = by tables (all name) where
  new : TableRows
  new = record { schema = schema; rows = [] }

  by : (ts : Database) → row_count name ts ≤ m → row_count name (ts ++ new ∷ []) ≤ m
  by [] less = at (is_named name new) where
    at : (b : Bool) → length (rows_found (cond b (Some new) None)) ≤ m
    at true = omega arith
    at false = omega arith
  by (table ∷ ts) less = at (is_named name table) less (by ts) where
    at : (b : Bool) → length (rows_found (cond b (Some table) (find_table name ts))) ≤ m → (row_count name ts ≤ m → row_count name (ts ++ new ∷ []) ≤ m) → length (rows_found (cond b (Some table) (find_table name (ts ++ new ∷ [])))) ≤ m
    at true here rest = here
    at false here rest = rest here

dropped_more : (dropped : List ℕ) (tables : Database) → NoMore tables (without_table dropped tables)
dropped_more dropped tables m all name = by (bytes_eq name dropped) refl where
  by : (b : Bool) → bytes_eq name dropped ≡ b → row_count name (without_table dropped tables) ≤ m
  by true same =
      let none = count_found name (without_table dropped tables) None (ap (λ (n : List ℕ). find_table n (without_table dropped tables)) (are_same name dropped same) ∙ gone_none dropped tables) in
      omega (arith, none)
  by false other =
      let same = count_found name (without_table dropped tables) (find_table name tables) ((drop_moves dropped tables).others name (rw other refl)) in
      let less = all name in
      omega (arith, same, less)

named_rows : (new : List ℕ) (found : Option TableRows) → length (rows_found (option_map (name_table new) found)) ≡ length (rows_found found)
named_rows new None = refl
named_rows new (Some table) = refl

one_more : (old new : List ℕ) (tables : Database) → has_table new tables ≡ false → NoMore tables (with_name old new tables)
one_more old new tables none m all name = by (bytes_eq name new) (bytes_eq name old) refl refl where
  by : (b c : Bool) → bytes_eq name new ≡ b → bytes_eq name old ≡ c → row_count name (with_name old new tables) ≤ m
  by true c same other =
      let found = count_found name (with_name old new tables) (option_map (name_table new) (find_table old tables)) (ap (λ (n : List ℕ). find_table n (with_name old new tables)) (are_same name new same) ∙ renamed_new old new tables none) in
      let kept = named_rows new (find_table old tables) in
      let less = all old in
      omega (arith, found, kept, less)
  by false true same other =
      let gone = count_found name (with_name old new tables) None (ap (λ (n : List ℕ). find_table n (with_name old new tables)) (are_same name old other) ∙ renamed_old old new tables (turned_bytes old new (ap (λ (n : List ℕ). bytes_eq n new) (sym (are_same name old other)) ∙ same))) in
      omega (arith, gone)
  by false false same other =
      let found = count_found name (with_name old new tables) (find_table name tables) (renamed_other old new name tables other same) in
      let less = all name in
      omega (arith, found, less)

abbrev NoMoreIf : Database → Result Database NotRenamed → Type 0
NoMoreIf before (Ok after) = NoMore before after
NoMoreIf before (Err reason) = Unit {0}

renamed_more : (pairs : List Pair) (tables : Database) → NoMoreIf tables (rename_tables pairs tables)
unfolding rename_tables
renamed_more [] tables = λ m all. all
renamed_more (pair ∷ pairs) tables = by (has_table pair.new tables) (has_table pair.old tables) refl (rename_tables pairs (with_name pair.old pair.new tables)) (renamed_more pairs (with_name pair.old pair.new tables)) where
  by : (exists stands : Bool) → has_table pair.new tables ≡ exists → (rest : Result Database NotRenamed) → NoMoreIf (with_name pair.old pair.new tables) rest → NoMoreIf tables (cond exists (Err Exists) (cond stands rest (Err Missing)))
  by true stands is rest more = tt
  by false false is rest more = tt
  by false true is (Err reason) more = tt
  by false true is (Ok after) more = λ m all. more m (one_more pair.old pair.new tables is m all)

-- ---- what an effect leaves

abbrev EffectFew : ℕ → State → ℕ → Effect → Type 0
EffectFew number state n (Rests answer) = Unit {0}
EffectFew number state n (Grows answer need events) = SaysFew (view number state) n events
EffectFew number state n (Writes answer events) = SaysFew (view number state) n events
EffectFew number state n (Forgets answer) = Unit {0}
EffectFew number state n (Moves answer tables) = NoMore state.tables tables
EffectFew number state n (Locks answer names) = Unit {0}
EffectFew number state n (Unlocks answer) = Unit {0}

module _ (number rows events : ℕ) (state : State) (serving : IsServing state) (few : IsFew rows events state) where
  -- one row more, and as many events more as a table may have rows, and one
  abbrev Next : State → Type 0
  Next after = IsFew (rows + 1) (events + (rows + 1)) after

  abbrev seen : Database
  seen = view number state

  no_change : (change : Session → Session) → ((session : Session) → (change session).writes ≡ session.writes) → (session : Session) → (puts (change session).writes ≤ puts session.writes + 0) × (length (change session).writes ≤ length session.writes + 0)
  no_change change same session = let a = ap puts (same session) in let b = ap length (same session) in (omega (arith, a), omega (arith, b))

  changed_few : (change : Session → Session) → ((session : Session) → (change session).writes ≡ session.writes) → Next (record state { sessions = with_session number change state.sessions })
  changed_few change same = record {
    rows = λ name. let a = with_puts number change 0 0 (no_change change same) state.sessions in let b = few.rows name in omega (arith, a, b);
    log = let a = with_events number change 0 0 (no_change change same) state.sessions in let b = few.log in omega (arith, a, b);
  }

  rested_few : Next (record state { sessions = with_session number at_rest state.sessions })
  rested_few = record {
    rows = λ name. let a = rests_puts number state.sessions in let b = few.rows name in omega (arith, a, b);
    log = let a = rests_events number state.sessions in let b = few.log in omega (arith, a, b);
  }

  kept_few : Next state
  kept_few = record { rows = λ name. let b = few.rows name in omega (arith, b); log = let b = few.log in omega (arith, b) }

  does_few : (effect : Effect) → EffectFew number state (rows + 1) effect → Next (does effect state number).after
  does_few (Rests answer) is = kept_few
  does_few (Grows answer need wrote) is =
      let more = λ (session : Session).
      let a = puts_both session.writes wrote in
      let b = is.writes in
      let c = length-append session.writes wrote in
      let d = is.events in
      let both : (puts (holding need wrote session).writes ≤ puts session.writes + 1) × (length (holding need wrote session).writes ≤ length session.writes + (rows + 1)) = (omega (arith, a, b), omega (arith, c, d)) in both in
      record {
        rows = λ name. let a = with_puts number (holding need wrote) 1 (rows + 1) more state.sessions in let b = few.rows name in omega (arith, a, b);
        log = let a = with_events number (holding need wrote) 1 (rows + 1) more state.sessions in let b = few.log in omega (arith, a, b);
      }
  does_few (Writes answer wrote) is =
      let own : List RowEvent = own_of number state in
      record {
        rows = λ name.
            let a = rows_grow name state.tables (own ++ wrote) serving.well_formed (fit_more state.tables own wrote (own_fits number state serving) is.fits) in
            let b = puts_among name (own ++ wrote) in
            let c = puts_both own wrote in
            let d = is.writes in
            let e = rests_puts number state.sessions in
            let f = few.rows name in
            omega (arith, a, b, c, d, e, f);
        log =
            let a = length-append state.log (own ++ wrote) in
            let b = length-append own wrote in
            let c = is.events in
            let d = rests_events number state.sessions in
            let e = few.log in
            omega (arith, a, b, c, d, e);
      }
  does_few (Forgets answer) is = rested_few
  does_few (Moves answer tables) is = record {
    rows = λ name.
        let a : row_count name tables ≤ rows - rows_put state.sessions = is (rows - rows_put state.sessions) rows_less name in
        let b = few.rows [] in
        omega (arith, a, b);
    log = let b = few.log in omega (arith, b);
  } where
    rows_less : (name : List ℕ) → row_count name state.tables ≤ rows - rows_put state.sessions
    rows_less name = let a = few.rows name in omega (arith, a)
  does_few (Locks answer names) is = changed_few (locking names) (λ session. refl)
  does_few (Unlocks answer) is = changed_few unlocking (λ session. refl)

  -- ---- which effect

  seen_formed : IsWellFormedDatabase seen
  seen_formed = view_formed number state serving

  seen_rows : (name : List ℕ) → row_count name seen ≤ rows
  seen_rows name = view_rows number rows events state serving few name

  nothing_few : SaysFew seen (rows + 1) []
  unfolding EventsFit
  nothing_few = record { fits = tt; events = omega arith; writes = omega arith }

  result_few : (busy : Bool) (need : Need) (result : StatementResult) → SaysFew seen (rows + 1) result.events → EffectFew number state (rows + 1) (result_effect busy need result)
  result_few true need result says = says
  result_few false need result says = says

  within_few : (busy : Bool) (request : Request) → EffectFew number state (rows + 1) (effect_within busy seen state request)
  within_few busy requests.Begin = nothing_few
  within_few busy requests.Commit = nothing_few
  within_few busy requests.Rollback = tt
  within_few busy (requests.Do statement) =
      result_few busy (need_within seen (requests.Do statement)) (statement_result seen statement) (said_few seen (operation_of statement) rows seen_formed (statement_sound seen statement seen_formed) seen_rows)
  within_few busy (requests.Ends table) = tt
  within_few busy (requests.ChunkEnd table low top size) = tt
  within_few busy (requests.BeginSpan table span size) = at (find_table table state.tables) where
    at : (found : Option TableRows) → EffectFew number state (rows + 1) (begins found span size (need_within seen (requests.BeginSpan table span size)))
    at None = tt
    at (Some t) = nothing_few
  within_few busy (requests.CopyRow from into columns key) =
      result_few busy (need_within seen (requests.CopyRow from into columns key)) (operation_result seen (copy_operation seen from into columns key))
      (said_few seen (copy_operation seen from into columns key) rows seen_formed (copies_sound seen from into columns key seen_formed) seen_rows)
  within_few busy (requests.LockTables names) = at (all_exist names state.tables) where
    at : (b : Bool) → EffectFew number state (rows + 1) (locks_if b names)
    at true = tt
    at false = tt
  within_few busy requests.Unlock = tt
  within_few busy (requests.Create schema) = at (has_table schema.name state.tables) where
    at : (b : Bool) → EffectFew number state (rows + 1) (defined (created b schema state.tables))
    at true = tt
    at false = created_more schema state.tables
  within_few busy (requests.Drop name) = at (has_table name state.tables) where
    at : (b : Bool) → EffectFew number state (rows + 1) (defined (dropped b name state.tables))
    at true = dropped_more name state.tables
    at false = tt
  within_few busy (requests.Rename pairs) = at (rename_tables pairs state.tables) (renamed_more pairs state.tables) where
    at : (renamed : Result Database NotRenamed) → NoMoreIf state.tables renamed → EffectFew number state (rows + 1) (defined (renamed_or renamed))
    at (Ok tables) more = more
    at (Err reason) more = tt
  within_few busy requests.LogEnd = tt
  within_few busy (requests.ReadLog position limit tables) = tt
  within_few busy requests.ShowTables = tt
  within_few busy requests.ShowWaiting = tt
  within_few busy (requests.ShowCounter table) = tt
  within_few busy (requests.SetCounter table least) = tt

  did_few : (request : Request) → Next (did state number request).after
  unfolding did
  did_few request = does_few _ (at (is_outside (session_of number state.sessions) request)) where
    at : (b : Bool) → EffectFew number state (rows + 1) (effect_unless b (is_in_transaction (session_of number state.sessions)) seen state request)
    at true = tt
    at false = within_few (is_in_transaction (session_of number state.sessions)) request

  called_few : (request : Request) → Next (calls state number request).after
  unfolding calls
  called_few request = at (blocker state number (need state number request)) where
    at : (by : Option ℕ) → Next (called_unless by state number request).after
    at None = did_few (filled state number request)
    at (Some by) = let all = changed_few (counting 0) (λ session. refl) in record { rows = all.rows; log = all.log }

-- ---- polls, losses, and a turn

pub lost_keeps : (number rows events : ℕ) (state : State) → IsFew rows events state → IsFew rows events (loses number state)
unfolding loses
lost_keeps number rows events state few = record {
  rows = λ name. let a = lost_puts (λ session. not (session.number == number)) state.sessions in let b = few.rows name in omega (arith, a, b);
  log = let a = lost_events (λ session. not (session.number == number)) state.sessions in let b = few.log in omega (arith, a, b);
}

module _ (number rows events : ℕ) (state : State) (serving : IsServing state) (few : IsFew rows events state) where
  polled_few : IsFew (rows + 1) (events + (rows + 1)) (polls state number).after
  unfolding polls
  polled_few = at (waiting_of number state.waiting) where
    over : (b : Bool) (by : ℕ) → IsFew (rows + 1) (events + (rows + 1)) (polled_over b by state number).after
    over true by = let all = rested_few number rows events state serving few in record { rows = all.rows; log = all.log }
    over false by = let all = changed_few number rows events state serving few (counting (polls_of (session_of number state.sessions) + 1)) (λ session. refl) in record { rows = all.rows; log = all.log }

    unless : (request : Request) (by : Option ℕ) → IsFew (rows + 1) (events + (rows + 1)) (polled_unless by state number request).after
    unless request None = did_few number rows events (without_waiting number state) (ended_serves state number serving) (record { rows = few.rows; log = few.log }) (filled (without_waiting number state) number request)
    unless request (Some by) = over (is_over state number) by

    at : (waiting : Option Waiting) → IsFew (rows + 1) (events + (rows + 1)) (polled_of waiting state number).after
    at None = kept_few number rows events state serving few
    at (Some waiting) = unless waiting.request (blocker state number (need state number waiting.request))

  served_few : (asked : Asked) → IsFew (rows + 1) (events + (rows + 1)) (serves state number asked).after
  served_few (Call request) = called_few number rows events state serving few request
  served_few Poll = polled_few
  served_few (Command word) = kept_few number rows events state serving few
  served_few Cut = lost_keeps number (rows + 1) (events + (rows + 1)) state (kept_few number rows events state serving few)

  -- *A turn leaves few rows and events*
  pub left_few : (side : Option Side) (asked : Asked) → IsFew (rows + 1) (events + (rows + 1)) (state_left side state number asked)
  left_few None asked = let all = served_few asked in record { rows = all.rows; log = all.log }
  left_few (Some sides.Before) asked = let all = lost_keeps number (rows + 1) (events + (rows + 1)) state (kept_few number rows events state serving few) in record { rows = all.rows; log = all.log }
  left_few (Some sides.After) asked = let all = lost_keeps number (rows + 1) (events + (rows + 1)) (serves state number asked).after (served_few asked) in record { rows = all.rows; log = all.log }

pub connected_few : (number rows events : ℕ) (tool : Bool) (state : State) → IsFew rows events state → IsFew rows events (connected number tool state)
connected_few number rows events tool state few = record {
  rows = λ name. let a = more_puts state.sessions (new_session number tool) refl in let b = few.rows name in omega (arith, a, b);
  log = let a = more_events state.sessions (new_session number tool) refl in let b = few.log in omega (arith, a, b);
}

-- at the opening
pub opened_few : (n : ℕ) (limits : Limits) (tables : Database) → AllByRecursion (λ table. length table.rows ≤ n) tables → IsFew n 0 (opened limits tables)
opened_few n limits tables all = record { rows = λ name. let a = by name tables all in omega (arith, a); log = omega arith } where
  by : (name : List ℕ) (ts : Database) → AllByRecursion (λ table. length table.rows ≤ n) ts → row_count name ts ≤ n
  by name [] all = omega arith
  by name (table ∷ ts) all = at (is_named name table) (by name ts all.1) where
    at : (b : Bool) → row_count name ts ≤ n → length (rows_found (cond b (Some table) (find_table name ts))) ≤ n
    at true rest = all.0
    at false rest = rest
