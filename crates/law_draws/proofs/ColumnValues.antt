-- What a turn leaves of a column's values: they stay below the table's counter.
use Rattle.std.proofs.Common.{◌≡◌, ℕ, ◌+◌, ◌≤◌, Bool, true, false, not, List, [], ◌∷◌, ◌++◌, map, cond, Option, Some, None, Result, Ok, Err, refl, sym, ap, ◌∙◌, subst, arith}
use Rattle.std.specs.Prelude.{◌==◌, filter, max}
use Rattle.std.specs.List.{AllByRecursion, list_any}
use Rattle.std.specs.Option.{option_map}
use Rattle.std.specs.Str.{bytes_eq}
use Rattle.std.proofs.lemmas.Bool.{true≢false, false≢true}
use Rattle.std.proofs.Math.Nat.{le-max_right, max-le}
use Rattle.base_values.specs.declared.event.Change.{Change}
use Rattle.base_values.specs.declared.event.Change.TheVariants as changes
use Rattle.base_values.specs.declared.event.RowEvent.{RowEvent}
use Rattle.base_values.specs.declared.gho_schema.schema.Schema.{Schema}
use Rattle.base_values.specs.declared.value.Value.{Value}
use Rattle.base_values.specs.GhoSchema.Rows.{key_places}
use Rattle.base_values.proofs.GhoSchema.Orders.{all-with_row}
use Rattle.base_script.specs.declared.statement.Statement.{Statement}
use Rattle.base_script.specs.declared.statement.Statement.TheVariants as statements
use Rattle.table_store.specs.Databases.{TableRows, Database, find_table}
use Rattle.table_store.proofs.Ascending.{all-filter}
use Rattle.server_model.specs.declared.answer.Answer.{Answer}
use Rattle.server_model.specs.declared.session.Session.{Session}
use Rattle.server_model.specs.declared.work.Work.{Work}
use Rattle.server_model.specs.declared.work.Work.TheVariants as works
use Rattle.server_model.specs.declared.work.StatementResult.{StatementResult}
use Rattle.server_model.specs.Checks.{◌>>=◌, or_refused, drawn_row, work_of, unless, places_named, are_distinct, reach_of, selection_of, update_of, select_of}
use Rattle.server_model.specs.Counting.{gives, given_by}
use Rattle.server_model.specs.Operations.{table_of, operation_of, result_in, operation_result, statement_result, events_of, after_events}
use Rattle.server_model.specs.Rows.{change_rows}
use Rattle.server_model.specs.StatementResults.{TableResult, tells}
use Rattle.server_model.specs.States.{State, session_of, with_session, writes_of}
use Rattle.server_model.specs.LockedRows.Counters.{IsBelow, PutsBelow, is_copy}
use Rattle.server_model.proofs.LockedRows.Counters.{found_named, new_rows_below}
use Rattle.server_model.proofs.LockedRows.Finding.{change_if, found_after}
use Rattle.base_values.specs.declared.mysql_errors.TheConstants.{ER_FIELD_SPECIFIED_TWICE}
use Rattle.base_script.specs.declared.statement.Set.{Set}
use Rattle.server_model.specs.declared.work.Reach.{Reach}
use Rattle.server_model.proofs.LockedRows.Tests.{are_same}
use Rattle.base_values.specs.declared.row_conversion.map.MapColumn.{MapColumn}
use Rattle.base_values.specs.GhoSchema.AutoIncrement.{auto_place}
use Rattle.base_script.specs.declared.actor.Side.{Side}
use Rattle.base_script.specs.declared.actor.Side.TheVariants as sides
use Rattle.table_store.specs.Databases.{has_table, rename_tables}
use Rattle.table_store.specs.declared.renames.NotRenamed.{NotRenamed}
use Rattle.server_model.specs.declared.answer.Answer.TheVariants as answers
use Rattle.server_model.specs.declared.entry.Asked.{Asked}
use Rattle.server_model.specs.declared.entry.Asked.TheVariants.{Call, Poll, Command, Cut}
use Rattle.server_model.specs.declared.counter.Counter.{Counter}
use Rattle.server_model.specs.declared.need.Need.{Need}
use Rattle.server_model.specs.declared.request.Request.{Request}
use Rattle.server_model.specs.declared.request.Request.TheVariants as requests
use Rattle.server_model.specs.declared.session.Waiting.{Waiting}
use Rattle.server_model.specs.Blockers.{need, need_within, blocker}
use Rattle.server_model.specs.Counting.{is_answered, drawn_if, offered_inside, drawn_by, after_drawn, gives_in, counts, counted}
use Rattle.server_model.specs.Drawing.{numbered, offered}
use Rattle.server_model.specs.Effects.{Effect, Rests, Grows, Writes, Forgets, Moves, Locks, Unlocks, result_effect, begins, all_exist, locks_if, created, dropped, renamed_or, defined, effect_within, effect_unless, is_outside, is_beyond}
use Rattle.server_model.specs.Operations.{copy_operation}
use Rattle.server_model.specs.PlainServer.{does, did, done, holding, at_rest, locking, unlocking, counting, without_waiting, called_unless, calls, is_over, polled_over, polled_unless, polled_of, polls, loses, serves, leaves, asks_for, request_waiting, counters_left}
use Rattle.server_model.specs.States.{is_counter_of, next_of, counters_from, is_in_transaction, view, waiting_of, polls_of, locked_names, pair_names}
use Rattle.server_model.specs.LockedRows.Counters.{NoLess}
use Rattle.server_model.proofs.Filling.{numbered_table}
use Rattle.server_model.proofs.LockedRows.Tests.{turned_bytes, nor_left}
use Rattle.proof_journals.proofs.Machine.Schemas.{schema_events}
use Rattle.proof_journals.proofs.Moves.{after_other, drop_moves, rename_moves}
use Rattle.proof_journals.proofs.Rising.{turn_falls}
use Rattle.proof_journals.specs.Machine.MigrationTables.{schema_of}
use Rattle.proof_journals.specs.Rising.{LeavesName}
use Rattle.law_draws.specs.ColumnValues.{RowsBelow, EventsBelow, ValuesBelow, CopiesElsewhere, ValuesStayBelow}

pub le_then : (a b c : ℕ) → a ≤ b → b ≤ c → a ≤ c
le_then a b c one two = omega (arith, one, two)

-- BELOW A NUMBER, SO BELOW A GREATER ONE

puts_more : (place n m : ℕ) → n ≤ m → (change : Change) → PutsBelow place n change → PutsBelow place m change
puts_more place n m less (changes.Write row) below = le_then _ n m below less
puts_more place n m less (changes.Update before after) below = le_then _ n m below less
puts_more place n m less (changes.Delete row) below = tt

rows_more : (place n m : ℕ) → n ≤ m → (rows : List (List Value)) → AllByRecursion (IsBelow place n) rows → AllByRecursion (IsBelow place m) rows
rows_more place n m less [] below = tt
rows_more place n m less (row ∷ rows) below = (le_then _ n m below.0 less, rows_more place n m less rows below.1)

pub events_more : (name : List ℕ) (place n m : ℕ) → n ≤ m → (events : List RowEvent) → EventsBelow name place n events → EventsBelow name place m events
events_more name place n m less [] below = tt
events_more name place n m less (event ∷ events) below = (λ here. puts_more place n m less event.change (below.0 here), events_more name place n m less events below.1)

found_more : (place n m : ℕ) → n ≤ m → (found : Option TableRows) → RowsBelow place n found → RowsBelow place m found
found_more place n m less None below = tt
found_more place n m less (Some table) below = rows_more place n m less table.rows below

writes_more : (name : List ℕ) (place n m : ℕ) → n ≤ m → (sessions : List Session) → AllByRecursion (λ session. EventsBelow name place n session.writes) sessions → AllByRecursion (λ session. EventsBelow name place m session.writes) sessions
writes_more name place n m less [] below = tt
writes_more name place n m less (session ∷ sessions) below = (events_more name place n m less session.writes below.0, writes_more name place n m less sessions below.1)

pub values_more : (name : List ℕ) (place n m : ℕ) (state : State) → n ≤ m → ValuesBelow name place n state → ValuesBelow name place m state
values_more name place n m state less below =
    record { rows = found_more place n m less (find_table name state.tables) below.rows; writes = writes_more name place n m less state.sessions below.writes }

-- ROWS AFTER EVENTS

rows_changed : (places : List ℕ) (place n : ℕ) (change : Change) (rows : List (List Value)) → PutsBelow place n change → AllByRecursion (IsBelow place n) rows → AllByRecursion (IsBelow place n) (change_rows places change rows)
unfolding change_rows
rows_changed places place n (changes.Write row) rows puts below = all-with_row (IsBelow place n) places row rows puts below
rows_changed places place n (changes.Update before after) rows puts below = all-with_row (IsBelow place n) places after _ puts (all-filter (IsBelow place n) _ rows below)
rows_changed places place n (changes.Delete row) rows puts below = all-filter (IsBelow place n) _ rows below

found_changed : (place n : ℕ) (b : Bool) (change : Change) (found : Option TableRows) → (b ≡ true → PutsBelow place n change) → RowsBelow place n found → RowsBelow place n (change_if b change found)
found_changed place n true change None puts below = tt
found_changed place n true change (Some table) puts below = rows_changed (key_places table.schema) place n change table.rows (puts refl) below
found_changed place n false change found puts below = below

pub rows_after : (name : List ℕ) (place n : ℕ) (events : List RowEvent) (tables : Database) → EventsBelow name place n events → RowsBelow place n (find_table name tables) → RowsBelow place n (find_table name (after_events tables events))
unfolding after_events
rows_after name place n [] tables puts below = below
rows_after name place n (event ∷ events) tables puts below =
    rows_after name place n events _ puts.1
    (subst (RowsBelow place n) (sym (found_after event.table name event.change tables)) (found_changed place n (bytes_eq event.table name) event.change (find_table name tables) puts.0 below))

both_below : (name : List ℕ) (place n : ℕ) (a b : List RowEvent) → EventsBelow name place n a → EventsBelow name place n b → EventsBelow name place n (a ++ b)
both_below name place n [] b one two = two
both_below name place n (event ∷ a) b one two = (one.0, both_below name place n a b one.1 two)

-- WRITES OF SESSIONS

pub all_with : (P : Session → Type 0) (number : ℕ) (change : Session → Session) (sessions : List Session) → ((session : Session) → P session → P (change session)) → AllByRecursion P sessions → AllByRecursion P (with_session number change sessions)
unfolding with_session
all_with P number change [] goes all = tt
all_with P number change (session ∷ sessions) goes all = at (session.number == number) (all_with P number change sessions goes all.1) where
  at : (b : Bool) → AllByRecursion P (with_session number change sessions) → AllByRecursion P (cond b (change session ∷ sessions) (session ∷ with_session number change sessions))
  at true rest = (goes session all.0, all.1)
  at false rest = (all.0, rest)

pub all_left : (P : Session → Type 0) (test : Session → Bool) (sessions : List Session) → AllByRecursion P sessions → AllByRecursion P (filter test sessions)
all_left P test [] all = tt
all_left P test (session ∷ sessions) all = at (test session) (all_left P test sessions all.1) where
  at : (b : Bool) → AllByRecursion P (filter test sessions) → AllByRecursion P (cond b (session ∷ filter test sessions) (filter test sessions))
  at true rest = (all.0, rest)
  at false rest = rest

own_below : (name : List ℕ) (place n number : ℕ) (sessions : List Session) → AllByRecursion (λ session. EventsBelow name place n session.writes) sessions → EventsBelow name place n (writes_of (session_of number sessions))
own_below name place n number [] all = tt
own_below name place n number (session ∷ sessions) all = at (session.number == number) (own_below name place n number sessions all.1) where
  at : (b : Bool) → EventsBelow name place n (writes_of (session_of number sessions)) → EventsBelow name place n (writes_of (cond b (Some session) (session_of number sessions)))
  at true rest = all.0
  at false rest = rest

-- A STATEMENT'S EVENTS

row_no_copy : (row : Result (List Value) Answer) (work : List Value → Work) → ((r : List Value) → is_copy (work r) ≡ false) → is_copy (or_refused row work) ≡ false
row_no_copy (Ok row) work never = never row
row_no_copy (Err refusal) work never = refl

events_named : (table name : List ℕ) (place n : ℕ) (all : List Change) → (bytes_eq table name ≡ true → AllByRecursion (PutsBelow place n) all) → EventsBelow name place n (events_of table all)
events_named table name place n [] puts = tt
events_named table name place n (change ∷ all) puts = (λ here. (puts here).0, events_named table name place n all (λ here. (puts here).1))

pub other_events : (table name : List ℕ) (place n : ℕ) (all : List Change) → bytes_eq table name ≡ false → EventsBelow name place n (events_of table all)
other_events table name place n all off = events_named table name place n all (λ here. absurd (true≢false (sym here ∙ off)))

abbrev NoCopy : Result Work Answer → Type 0
NoCopy (Ok work) = is_copy work ≡ false
NoCopy (Err refusal) = Unit {0}

then_no_copy : {A : Type 0} (r : Result A Answer) (f : A → Result Work Answer) → ((x : A) → NoCopy (f x)) → NoCopy (r >>= f)
then_no_copy (Ok x) f never = never x
then_no_copy (Err refusal) f never = tt

work_no_copy : (r : Result Work Answer) → NoCopy r → is_copy (or_refused r (λ work. work)) ≡ false
work_no_copy (Ok work) never = never
work_no_copy (Err refusal) never = refl

reach_no_copy : (r : Result Reach Answer) (work : Reach → Work) → ((reach : Reach) → is_copy (work reach) ≡ false) → is_copy (or_refused r work) ≡ false
reach_no_copy (Ok reach) work never = never reach
reach_no_copy (Err refusal) work never = refl

no_copy : (schema : Schema) (statement : Statement) → is_copy (work_of schema statement) ≡ false
unfolding work_of
no_copy schema (statements.Insert table columns values drawn) = row_no_copy (drawn_row schema columns values drawn) works.Insert (λ row. refl)
no_copy schema (statements.Replace table columns values drawn) = row_no_copy (drawn_row schema columns values drawn) works.Replace (λ row. refl)
no_copy schema (statements.Delete table condition) = reach_no_copy (reach_of schema condition) works.Delete (λ reach. refl)
no_copy schema (statements.Update table sets condition) =
    work_no_copy (update_of schema sets condition)
    (then_no_copy (places_named schema (map (λ (set : Set). set.column) sets)) _ (λ places. then_no_copy (unless (are_distinct places) ER_FIELD_SPECIFIED_TWICE) _ (λ u. then_no_copy (reach_of schema condition) _ (λ reach. refl))))
no_copy schema (statements.Select table what condition) =
    work_no_copy (select_of schema what condition) (then_no_copy (selection_of schema what) _ (λ selection. then_no_copy (reach_of schema condition) _ (λ reach. refl)))

-- a statement's events, in the table of its own name: below what it gave, where all rows are below
statement_at : (name : List ℕ) (place next : ℕ) (statement : Statement) (found : Option TableRows) → bytes_eq (table_of statement) name ≡ true → RowsBelow place next found → (m : ℕ) → next ≤ m
    → ((table : TableRows) → found ≡ Some table → given_by (result_in (operation_of statement) found).answer (gives place (work_of table.schema statement)) ≤ m)
    → EventsBelow name place m (result_in (operation_of statement) found).events
statement_at name place next statement None here below m less given = tt
statement_at name place next statement (Some table) here below m less given =
    let work : Work = work_of table.schema statement in
    let said : TableResult = tells table.schema table.rows work in
    events_named (table_of statement) name place m said.changes
    (λ same. puts_all place (max next (given_by said.answer (gives place work))) m (max_less next _ m less (given table refl)) said.changes (new_rows_below table.schema place next table.rows work (no_copy table.schema statement) below))
  where
    max_less : (a b c : ℕ) → a ≤ c → b ≤ c → max a b ≤ c
    max_less a b c one two = max-le one two

    puts_all : (at n m : ℕ) → n ≤ m → (all : List Change) → AllByRecursion (PutsBelow at n) all → AllByRecursion (PutsBelow at m) all
    puts_all at n m less [] puts = tt
    puts_all at n m less (change ∷ all) puts = (puts_more at n m less change puts.0, puts_all at n m less all puts.1)

-- *A statement's events are below* what it gave and what was below before
pub statement_below : (name : List ℕ) (place next m : ℕ) (statement : Statement) (seen : Database) → RowsBelow place next (find_table name seen) → next ≤ m
    → (bytes_eq (table_of statement) name ≡ true → (table : TableRows) → find_table name seen ≡ Some table → given_by (statement_result seen statement).answer (gives place (work_of table.schema statement)) ≤ m)
    → EventsBelow name place m (statement_result seen statement).events
unfolding operation_result
statement_below name place next m statement seen below less given = by (bytes_eq (table_of statement) name) refl where
  elsewhere : (found : Option TableRows) → bytes_eq (table_of statement) name ≡ false → EventsBelow name place m (result_in (operation_of statement) found).events
  elsewhere None off = tt
  elsewhere (Some table) off = other_events (table_of statement) name place m (tells table.schema table.rows (work_of table.schema statement)).changes off

  by : (b : Bool) → bytes_eq (table_of statement) name ≡ b → EventsBelow name place m (result_in (operation_of statement) (find_table (table_of statement) seen)).events
  by true here =
      let same : table_of statement ≡ name = are_same (table_of statement) name here in
      statement_at name place next statement (find_table (table_of statement) seen) here (subst (λ (n : List ℕ). RowsBelow place next (find_table n seen)) (sym same) below) m less
      (λ table is. given here table (subst (λ (n : List ℕ). find_table n seen ≡ Some table) same is))
  by false off = elsewhere (find_table (table_of statement) seen) off

-- WHAT AN EFFECT LEAVES

abbrev EffectBelow : List ℕ → ℕ → ℕ → State → Effect → Type 0
EffectBelow name place n state (Grows answer need events) = EventsBelow name place n events
EffectBelow name place n state (Writes answer events) = EventsBelow name place n events
EffectBelow name place n state (Moves answer tables) = find_table name tables ≡ find_table name state.tables
EffectBelow name place n state effect = Unit {0}

does_below : (name : List ℕ) (place n number : ℕ) (state : State) (effect : Effect) → ValuesBelow name place n state → EffectBelow name place n state effect → ValuesBelow name place n (does effect state number).after
does_below name place n number state (Rests answer) below fits = below
does_below name place n number state (Grows answer need events) below fits = record {
  rows = below.rows;
  writes = all_with (λ session. EventsBelow name place n session.writes) number (holding need events) state.sessions (λ session all. both_below name place n session.writes events all fits) below.writes;
}
does_below name place n number state (Writes answer events) below fits = record {
  rows = rows_after name place n (writes_of (session_of number state.sessions) ++ events) state.tables (both_below name place n (writes_of (session_of number state.sessions)) events (own_below name place n number state.sessions below.writes) fits) below.rows;
  writes = all_with (λ session. EventsBelow name place n session.writes) number at_rest state.sessions (λ session all. tt) below.writes;
}
does_below name place n number state (Forgets answer) below fits =
    record { rows = below.rows; writes = all_with (λ session. EventsBelow name place n session.writes) number at_rest state.sessions (λ session all. tt) below.writes }
does_below name place n number state (Moves answer tables) below fits = record { rows = subst (RowsBelow place n) (sym fits) below.rows; writes = below.writes }
does_below name place n number state (Locks answer names) below fits =
    record { rows = below.rows; writes = all_with (λ session. EventsBelow name place n session.writes) number (locking names) state.sessions (λ session all. all) below.writes }
does_below name place n number state (Unlocks answer) below fits =
    record { rows = below.rows; writes = all_with (λ session. EventsBelow name place n session.writes) number unlocking state.sessions (λ session all. all) below.writes }

-- WHICH EFFECT

-- the request copies nothing into a table of this name, and makes, drops and renames none
abbrev LeavesColumn : List ℕ → Request → Type 0
LeavesColumn name (requests.CopyRow from into map key) = bytes_eq into name ≡ false
LeavesColumn name (requests.Create schema) = bytes_eq schema.name name ≡ false
LeavesColumn name (requests.Drop dropped) = bytes_eq name dropped ≡ false
LeavesColumn name (requests.Rename pairs) = list_any (bytes_eq name) (pair_names pairs) ≡ false
LeavesColumn name request = Unit {0}

abbrev AskedLeaves : List ℕ → Option Request → Type 0
AskedLeaves name None = Unit {0}
AskedLeaves name (Some request) = LeavesColumn name request

column_left : (name : List ℕ) (asks : Option Request) → LeavesName name asks → CopiesElsewhere name asks → AskedLeaves name asks
column_left name None leaves copies = tt
column_left name (Some (requests.CopyRow from into map key)) leaves copies = copies
column_left name (Some (requests.Create schema)) leaves copies = turned_bytes name schema.name (nor_left (bytes_eq name schema.name) false leaves)
column_left name (Some (requests.Drop dropped)) leaves copies = nor_left (bytes_eq name dropped) false leaves
column_left name (Some (requests.Rename pairs)) leaves copies = leaves
column_left name (Some other) leaves copies = tt

module _ (name : List ℕ) (schema : Schema) (place next m number : ℕ) (state : State) (has : schema_of name state.tables ≡ Some schema) (less : next ≤ m) (below : ValuesBelow name place next state) where
  abbrev seen : Database
  seen = view number state

  -- what the session sees of the table
  seen_below : RowsBelow place next (find_table name seen)
  seen_below = rows_after name place next (writes_of (session_of number state.sessions)) state.tables (own_below name place next number state.sessions below.writes) below.rows

  seen_schema : (table : TableRows) → find_table name seen ≡ Some table → table.schema ≡ schema
  seen_schema table is =
      let both : Some table.schema ≡ Some schema = sym (ap (option_map (λ (t : TableRows). t.schema)) is) ∙ schema_events name state.tables (writes_of (session_of number state.sessions)) ∙ has in
      cc

  abbrev Gives : Request → Type 0
  Gives (requests.Do statement) = bytes_eq (table_of statement) name ≡ true → given_by (statement_result seen statement).answer (gives place (work_of schema statement)) ≤ m
  Gives request = Unit {0}

  kept : ValuesBelow name place m state
  kept = values_more name place next m state less below

  result_below : (busy : Bool) (need : Need) (result : StatementResult) → EventsBelow name place m result.events → EffectBelow name place m state (result_effect busy need result)
  result_below true need result fits = fits
  result_below false need result fits = fits

  within_below : (request : Request) → LeavesColumn name request → Gives request → EffectBelow name place m state (effect_within (is_in_transaction (session_of number state.sessions)) seen state request)
  unfolding operation_result
  within_below requests.Begin leaves given = tt
  within_below requests.Commit leaves given = tt
  within_below requests.Rollback leaves given = tt
  within_below (requests.Do statement) leaves given =
      result_below (is_in_transaction (session_of number state.sessions)) (need_within seen (requests.Do statement)) (statement_result seen statement)
      (statement_below name place next m statement seen seen_below less
      (λ here table is. subst (λ (s : Schema). given_by (statement_result seen statement).answer (gives place (work_of s statement)) ≤ m) (sym (seen_schema table is)) (given here)))
  within_below (requests.Ends table) leaves given = tt
  within_below (requests.ChunkEnd table low top size) leaves given = tt
  within_below (requests.BeginSpan table span size) leaves given = at (find_table table state.tables) where
    at : (found : Option TableRows) → EffectBelow name place m state (begins found span size (need_within seen (requests.BeginSpan table span size)))
    at None = tt
    at (Some t) = tt
  within_below (requests.CopyRow from into columns key) leaves given =
      result_below (is_in_transaction (session_of number state.sessions)) (need_within seen (requests.CopyRow from into columns key)) (operation_result seen (copy_operation seen from into columns key)) (copy_below from into columns key leaves) where
        copy_below : (from into : List ℕ) (columns : List MapColumn) (key : List Value) → bytes_eq into name ≡ false → EventsBelow name place m (operation_result seen (copy_operation seen from into columns key)).events
        copy_below from into columns key off = at (find_table into seen) where
          at : (found : Option TableRows) → EventsBelow name place m (result_in (copy_operation seen from into columns key) found).events
          at None = tt
          at (Some table) = other_events into name place m _ off
  within_below (requests.LockTables names) leaves given = at (all_exist names state.tables) where
    at : (b : Bool) → EffectBelow name place m state (locks_if b names)
    at true = tt
    at false = tt
  within_below requests.Unlock leaves given = tt
  within_below (requests.Create new) leaves given = at (has_table new.name state.tables) where
    at : (b : Bool) → EffectBelow name place m state (defined (created b new state.tables))
    at true = tt
    at false = after_other name state.tables (record { schema = new; rows = [] }) leaves
  within_below (requests.Drop dropped_name) leaves given = at (has_table dropped_name state.tables) where
    at : (b : Bool) → EffectBelow name place m state (defined (dropped b dropped_name state.tables))
    at true = (drop_moves dropped_name state.tables).others name (rw leaves refl)
    at false = tt
  within_below (requests.Rename pairs) leaves given = at (rename_tables pairs state.tables) refl where
    at : (r : Result Database NotRenamed) → rename_tables pairs state.tables ≡ r → EffectBelow name place m state (defined (renamed_or r))
    at (Ok tables) is = (rename_moves pairs state.tables tables is).others name leaves
    at (Err reason) is = tt
  within_below requests.LogEnd leaves given = tt
  within_below (requests.ReadLog position limit tables) leaves given = tt
  within_below requests.ShowTables leaves given = tt
  within_below requests.ShowWaiting leaves given = tt
  within_below (requests.ShowCounter table) leaves given = tt
  within_below (requests.SetCounter table least) leaves given = tt

  -- WHAT IS DONE

  did_below : (full : Request) → LeavesColumn name full → (is_outside (session_of number state.sessions) full ≡ false → Gives full) → ValuesBelow name place m (did state number full).after
  unfolding did
  did_below full leaves given = at (is_outside (session_of number state.sessions) full) refl where
    at : (b : Bool) → is_outside (session_of number state.sessions) full ≡ b → ValuesBelow name place m (does (effect_unless b (is_in_transaction (session_of number state.sessions)) seen state full) state number).after
    at true outside = kept
    at false inside = does_below name place m number state (effect_within (is_in_transaction (session_of number state.sessions)) seen state full) kept (within_below full leaves (given inside))

  abbrev answered_by : Statement → Answer → ℕ → Type 0
  answered_by statement answer n = given_by answer (gives place (work_of schema (numbered (drawn_by state number (Some (requests.Do statement)) answer) statement))) ≤ n

  -- what was given, by the answer
  abbrev GivenBy : Request → Answer → Type 0
  GivenBy (requests.Do statement) answer = bytes_eq (table_of statement) name ≡ true → answered_by statement answer m
  GivenBy request answer = Unit {0}

  given_as : (statement : Statement) (answer : Answer) (drawn offer : Option ℕ) → (is_answered answer ≡ true → drawn ≡ offer) → given_by answer (gives place (work_of schema (numbered drawn statement))) ≤ m
      → given_by answer (gives place (work_of schema (numbered offer statement))) ≤ m
  given_as statement (answers.Ok count) drawn offer same is = subst (λ (d : Option ℕ). given_by (answers.Ok count) (gives place (work_of schema (numbered d statement))) ≤ m) (same refl) is
  given_as statement other drawn offer same is = is

  drawn_inside : (answered outside : Bool) (offer : Option ℕ) → outside ≡ false → answered ≡ true → drawn_if answered (offered_inside outside offer) ≡ offer
  drawn_inside true false offer inside is = refl
  drawn_inside true true offer inside is = absurd (true≢false inside)
  drawn_inside false outside offer inside is = absurd (false≢true is)

  abbrev full_of : Statement → Statement
  full_of statement = numbered (offered state number statement) statement

  -- the answer of a statement that is done
  did_answer : (statement : Statement) (b : Bool) → (does (result_effect b (need_within seen (requests.Do statement)) (statement_result seen statement)) state number).answer ≡ (statement_result seen statement).answer
  did_answer statement true = refl
  did_answer statement false = refl

  full_answer : (statement : Statement) → is_outside (session_of number state.sessions) (requests.Do statement) ≡ false → (did state number (requests.Do statement)).answer ≡ (statement_result seen statement).answer
  unfolding did
  full_answer statement inside = rw inside (did_answer statement (is_in_transaction (session_of number state.sessions)))

  same_outside : (statement : Statement) (offer : Option ℕ) → is_outside (session_of number state.sessions) (requests.Do (numbered offer statement)) ≡ is_outside (session_of number state.sessions) (requests.Do statement)
  same_outside statement offer = at (session_of number state.sessions) where
    at : (found : Option Session) → is_outside found (requests.Do (numbered offer statement)) ≡ is_outside found (requests.Do statement)
    at None = refl
    at (Some session) = ap (λ (table : List ℕ). is_beyond (locked_names session.names) (table ∷ [])) (numbered_table offer statement)

  statement_done : (statement : Statement) → GivenBy (requests.Do statement) (done state number (requests.Do statement)).answer → ValuesBelow name place m (done state number (requests.Do statement)).after
  statement_done statement given =
      did_below (requests.Do (full_of statement)) tt
      (λ inside here.
      let outside : is_outside (session_of number state.sessions) (requests.Do statement) ≡ false = sym (same_outside statement (offered state number statement)) ∙ inside in
      let said : (did state number (requests.Do (full_of statement))).answer ≡ (statement_result seen (full_of statement)).answer = full_answer (full_of statement) inside in
      let own : bytes_eq (table_of statement) name ≡ true = ap (λ (t : List ℕ). bytes_eq t name) (sym (numbered_table (offered state number statement) statement)) ∙ here in
      given_as statement (statement_result seen (full_of statement)).answer (drawn_by state number (Some (requests.Do statement)) (statement_result seen (full_of statement)).answer) (offered state number statement)
      (drawn_inside (is_answered (statement_result seen (full_of statement)).answer) (is_outside (session_of number state.sessions) (requests.Do statement)) (offered state number statement) outside)
      (subst (λ (a : Answer). answered_by statement a m) said (given own)))

  done_below : (request : Request) → LeavesColumn name request → GivenBy request (done state number request).answer → ValuesBelow name place m (done state number request).after
  done_below (requests.Do statement) leaves given = statement_done statement given
  done_below requests.Begin leaves given = did_below requests.Begin leaves (λ i. tt)
  done_below requests.Commit leaves given = did_below requests.Commit leaves (λ i. tt)
  done_below requests.Rollback leaves given = did_below requests.Rollback leaves (λ i. tt)
  done_below (requests.Ends table) leaves given = did_below (requests.Ends table) leaves (λ i. tt)
  done_below (requests.ChunkEnd table low top size) leaves given = did_below (requests.ChunkEnd table low top size) leaves (λ i. tt)
  done_below (requests.BeginSpan table span size) leaves given = did_below (requests.BeginSpan table span size) leaves (λ i. tt)
  done_below (requests.CopyRow from into columns key) leaves given = did_below (requests.CopyRow from into columns key) leaves (λ i. tt)
  done_below (requests.LockTables names) leaves given = did_below (requests.LockTables names) leaves (λ i. tt)
  done_below requests.Unlock leaves given = did_below requests.Unlock leaves (λ i. tt)
  done_below (requests.Create new) leaves given = did_below (requests.Create new) leaves (λ i. tt)
  done_below (requests.Drop dropped_name) leaves given = did_below (requests.Drop dropped_name) leaves (λ i. tt)
  done_below (requests.Rename pairs) leaves given = did_below (requests.Rename pairs) leaves (λ i. tt)
  done_below requests.LogEnd leaves given = did_below requests.LogEnd leaves (λ i. tt)
  done_below (requests.ReadLog position limit tables) leaves given = did_below (requests.ReadLog position limit tables) leaves (λ i. tt)
  done_below requests.ShowTables leaves given = did_below requests.ShowTables leaves (λ i. tt)
  done_below requests.ShowWaiting leaves given = did_below requests.ShowWaiting leaves (λ i. tt)
  done_below (requests.ShowCounter table) leaves given = did_below (requests.ShowCounter table) leaves (λ i. tt)
  done_below (requests.SetCounter table least) leaves given = did_below (requests.SetCounter table least) leaves (λ i. tt)

  counts_below : (count : ℕ) → AllByRecursion (λ session. EventsBelow name place m session.writes) (with_session number (counting count) state.sessions)
  counts_below count = all_with (λ session. EventsBelow name place m session.writes) number (counting count) state.sessions (λ session all. all) kept.writes

  called_below : (request : Request) → LeavesColumn name request → GivenBy request (calls state number request).answer → ValuesBelow name place m (calls state number request).after
  unfolding calls
  called_below request leaves given = at (blocker state number (need state number request)) given where
    at : (by : Option ℕ) → GivenBy request (called_unless by state number request).answer → ValuesBelow name place m (called_unless by state number request).after
    at None given = done_below request leaves given
    at (Some by) given = record { rows = kept.rows; writes = counts_below 0 }

-- A TURN

abbrev Given : List ℕ → Schema → ℕ → ℕ → State → ℕ → Option Request → Answer → Type 0
Given name schema place m state number (Some (requests.Do statement)) answer =
    bytes_eq (table_of statement) name ≡ true → given_by answer (gives place (work_of schema (numbered (drawn_by state number (Some (requests.Do statement)) answer) statement))) ≤ m
Given name schema place m state number asks answer = Unit {0}

given_request : (name : List ℕ) (schema : Schema) (place next m number : ℕ) (state : State) (has : schema_of name state.tables ≡ Some schema) (less : next ≤ m) (below : ValuesBelow name place next state) (request : Request) (answer : Answer)
    → Given name schema place m state number (Some request) answer → GivenBy name schema place next m number state has less below request answer
given_request name schema place next m number state has less below (requests.Do statement) answer given = given
given_request name schema place next m number state has less below other answer given = tt

idle : (name : List ℕ) (place n number : ℕ) (state : State) → ValuesBelow name place n state → ValuesBelow name place n (without_waiting number state)
idle name place n number state below = record { rows = below.rows; writes = below.writes }

polled_below : (name : List ℕ) (schema : Schema) (place next m number : ℕ) (state : State) → schema_of name state.tables ≡ Some schema → next ≤ m → ValuesBelow name place next state → AskedLeaves name (asks_for state number Poll)
    → Given name schema place m state number (asks_for state number Poll) (polls state number).answer → ValuesBelow name place m (polls state number).after
unfolding polls
polled_below name schema place next m number state has less below leaves given = at (waiting_of number state.waiting) leaves given where
  after : ValuesBelow name place m state
  after = values_more name place next m state less below

  over : (b : Bool) (by : ℕ) → ValuesBelow name place m (polled_over b by state number).after
  over true by = record { rows = after.rows; writes = all_with (λ session. EventsBelow name place m session.writes) number at_rest state.sessions (λ session all. tt) after.writes }
  over false by = record { rows = after.rows; writes = all_with (λ session. EventsBelow name place m session.writes) number (counting (polls_of (session_of number state.sessions) + 1)) state.sessions (λ session all. all) after.writes }

  unless : (request : Request) (by : Option ℕ) → LeavesColumn name request → Given name schema place m state number (Some request) (polled_unless by state number request).answer → ValuesBelow name place m (polled_unless by state number request).after
  unless request None leaves given =
      done_below name schema place next m number (without_waiting number state) has less (idle name place next number state below) request leaves
      (given_request name schema place next m number (without_waiting number state) has less (idle name place next number state below) request _ (same request _ given)) where
        same : (request : Request) (answer : Answer) → Given name schema place m state number (Some request) answer → Given name schema place m (without_waiting number state) number (Some request) answer
        same (requests.Do statement) answer given = given
        same other answer given = tt
  unless request (Some by) leaves given = over (is_over state number) by

  at : (waiting : Option Waiting) → AskedLeaves name (request_waiting waiting) → Given name schema place m state number (request_waiting waiting) (polled_of waiting state number).answer → ValuesBelow name place m (polled_of waiting state number).after
  at None leaves given = after
  at (Some waiting) leaves given = unless waiting.request (blocker state number (need state number waiting.request)) leaves given

pub lost_below : (name : List ℕ) (place n number : ℕ) (state : State) → ValuesBelow name place n state → ValuesBelow name place n (loses number state)
unfolding loses
lost_below name place n number state below = record { rows = below.rows; writes = all_left (λ session. EventsBelow name place n session.writes) (λ session. not (session.number == number)) state.sessions below.writes }

served_below : (name : List ℕ) (schema : Schema) (place next m : ℕ) (state : State) (number : ℕ) (asked : Asked) → schema_of name state.tables ≡ Some schema → next ≤ m → ValuesBelow name place next state → AskedLeaves name (asks_for state number asked)
    → Given name schema place m state number (asks_for state number asked) (serves state number asked).answer → ValuesBelow name place m (serves state number asked).after
served_below name schema place next m state number (Call request) has less below leaves given = called_below name schema place next m number state has less below request leaves (given_request name schema place next m number state has less below request _ given)
served_below name schema place next m state number Poll has less below leaves given = polled_below name schema place next m number state has less below leaves given
served_below name schema place next m state number (Command word) has less below leaves given = values_more name place next m state less below
served_below name schema place next m state number Cut has less below leaves given = lost_below name place m number state (values_more name place next m state less below)

-- THE COUNTER AFTERWARDS

some_same : (a b : ℕ) → Some a ≡ Some b → a ≡ b
some_same a b is = cc

pub raised_to : (name : List ℕ) (n : ℕ) (counters : List Counter) (m : ℕ) → next_of name (counters_from name n counters) ≡ Some m → n ≤ m
raised_to name n [] m is = absurd cc
raised_to name n (one ∷ counters) m is = at (is_counter_of name one) refl is (raised_to name n counters m) where
  at : (b : Bool) → is_counter_of name one ≡ b → next_of name (cond b (record one { next = max one.next n }) one ∷ counters_from name n counters) ≡ Some m → (next_of name (counters_from name n counters) ≡ Some m → n ≤ m) → n ≤ m
  at true here is rest = let same : max one.next n ≡ m = some_same (max one.next n) m (sym (rw here refl) ∙ is) in subst (λ (k : ℕ). n ≤ k) same (le-max_right one.next n)
  at false off is rest = rest (sym (rw off refl) ∙ is)

given_met : (name : List ℕ) (schema : Schema) (place m : ℕ) (state : State) (number : ℕ) (asks : Option Request) (answer : Answer) → schema_of name state.tables ≡ Some schema → auto_place schema ≡ Some place
    → next_of name (counted state number asks answer) ≡ Some m → Given name schema place m state number asks answer
unfolding counted
given_met name schema place m state number (Some (requests.Do statement)) answer has auto raised = λ here. by (are_same (table_of statement) name here) (find_table name state.tables) refl has where
  drawn : Option ℕ
  drawn = drawn_by state number (Some (requests.Do statement)) answer

  After : List ℕ → Schema → Option ℕ → Type 0
  After called s at = next_of name (counters_from called (given_by answer (gives_in s at (numbered drawn statement))) (counters_from called (after_drawn drawn) state.counters)) ≡ Some m

  by : table_of statement ≡ name → (found : Option TableRows) → find_table name state.tables ≡ found → option_map (λ (t : TableRows). t.schema) found ≡ Some schema → given_by answer (gives place (work_of schema (numbered drawn statement))) ≤ m
  by own None is none = absurd cc
  by own (Some table) is same =
      let it : table.schema ≡ schema = cc in
      let found : find_table (table_of statement) state.tables ≡ Some table = ap (λ (t : List ℕ). find_table t state.tables) own ∙ is in
      let one : After table.schema.name table.schema (auto_place table.schema) =
      subst (λ (t : Option TableRows). next_of name (counts t drawn statement answer state.counters) ≡ Some m) found raised in
      let two : After schema.name schema (auto_place schema) = subst (λ (s : Schema). After s.name s (auto_place s)) it one in
      let three : After schema.name schema (Some place) = subst (After schema.name schema) auto two in
      let named : schema.name ≡ name = ap (λ (s : Schema). s.name) (sym it) ∙ found_named name state.tables table is in
      raised_to name (given_by answer (gives place (work_of schema (numbered drawn statement)))) (counters_from name (after_drawn drawn) state.counters) m (subst (λ (n : List ℕ). After n schema (Some place)) named three)
given_met name schema place m state number asks answer has auto raised = tt

no_less : (a b : Option ℕ) (n m : ℕ) → a ≡ Some n → b ≡ Some m → NoLess a b → n ≤ m
no_less a b n m one two less = subst (λ (o : Option ℕ). NoLess (Some n) o) two (subst (λ (o : Option ℕ). NoLess o b) one less)

-- *Values stay below the counter*
pub values_stay_below : ValuesStayBelow
values_stay_below name schema place next m side state number asked has auto is after left copies below = by side after where
  up : (s : Option Side) → next_of name (counters_left s state number asked) ≡ Some m → next ≤ m
  up s after = no_less (next_of name state.counters) (next_of name (counters_left s state number asked)) next m is after (turn_falls s state number asked name left)

  by : (s : Option Side) → next_of name (counters_left s state number asked) ≡ Some m → ValuesBelow name place m (leaves s state number asked)
  by (Some sides.Before) after = lost_below name place m number state (values_more name place next m state (up (Some sides.Before) after) below)
  by None after = served_below name schema place next m state number asked has (up None after) below (column_left name (asks_for state number asked) left copies) (given_met name schema place m state number (asks_for state number asked) (serves state number asked).answer has auto after)
  by (Some sides.After) after =
      lost_below name place m number (serves state number asked).after
      (served_below name schema place next m state number asked has (up (Some sides.After) after) below (column_left name (asks_for state number asked) left copies) (given_met name schema place m state number (asks_for state number asked) (serves state number asked).answer has auto after))
