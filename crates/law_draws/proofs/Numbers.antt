-- Numbers that are drawn are above all values of their column.
use Rattle.std.proofs.Common.{◌≡◌, ℕ, ◌≤◌, ◌<◌, Bool, true, false, not, ◌||◌, List, [], ◌∷◌, ◌++◌, cond, Option, Some, None, refl, sym, ap, ◌∙◌, subst, arith}
use Rattle.std.specs.Prelude.{pos}
use Rattle.std.specs.List.{AllByRecursion, slice_get}
use Rattle.std.specs.Option.{option_map}
use Rattle.base_values.specs.declared.value.Value.{Value}
use Rattle.base_values.specs.declared.value.Value.TheVariants.{Num}
use Rattle.base_values.specs.declared.gho_schema.schema.Schema.{Schema}
use Rattle.base_values.specs.declared.event.Change.{Change}
use Rattle.base_values.specs.declared.event.Change.TheVariants as changes
use Rattle.base_values.specs.declared.event.RowEvent.{RowEvent}
use Rattle.base_values.specs.GhoSchema.AutoIncrement.{auto_place}
use Rattle.base_script.specs.declared.actor.Side.{Side}
use Rattle.base_script.specs.declared.actor.Side.TheVariants.{Before, After}
use Rattle.base_script.specs.declared.statement.Statement.{Statement}
use Rattle.table_store.specs.Databases.{TableRows, find_table}
use Rattle.server_model.specs.declared.entry.Asked.{Asked}
use Rattle.server_model.specs.declared.entry.Asked.TheVariants.{Call, Poll, Command, Cut}
use Rattle.server_model.specs.declared.session.Session.{Session}
use Rattle.server_model.specs.declared.session.Waiting.{Waiting}
use Rattle.server_model.specs.Entries.{is_client, is_command}
use Rattle.server_model.specs.Operations.{table_of}
use Rattle.server_model.specs.States.{State, connected, is_live, new_session, next_of, waiting_of}
use Rattle.server_model.specs.PlainServer.{asks_for, counters_left, leaves, loses, polls, request_waiting, serves}
use Rattle.server_model.specs.LockedRows.Counters.{IsBelow, NoLess, PutsBelow}
use Rattle.tool_program.specs.JournalWords.Journals.{after_entry, opens, opens_if}
use Rattle.tool_program.specs.JournalWords.Draws.{IsAbove, IsUnder, PutUnder, PutsUnder, AboveAt}
use Rattle.proof_journals.specs.Machine.MigrationTables.{schema_of}
use Rattle.proof_journals.specs.Rising.{LeavesName}
use Rattle.proof_journals.proofs.Joined.{reported_draw}
use Rattle.law_draws.proofs.Schemas.{called_stays, polled_stays}
use Rattle.proof_journals.proofs.Rising.{opened_counters, turn_draws, turn_falls}
use Rattle.proof_journals.proofs.Journals.{opened_tables}
use Rattle.law_draws.specs.ColumnValues.{EventsBelow, RowsBelow, ValuesBelow}
use Rattle.law_draws.specs.Numbers.{DrawsAbove, EachDrawsAbove, EachLeavesTable, NumbersAreAbove}
use Rattle.law_draws.proofs.ColumnValues.{values_stay_below}

-- THE SCHEMA STAYS

unwaited_schema : (name : List ℕ) (state : State) (number : ℕ) → waiting_of number state.waiting ≡ None → schema_of name (polls state number).after.tables ≡ schema_of name state.tables
unfolding polls
unwaited_schema name state number none = rw none refl

served_schema : (name : List ℕ) (state : State) (number : ℕ) (asked : Asked) → LeavesName name (asks_for state number asked) → schema_of name (serves state number asked).after.tables ≡ schema_of name state.tables
unfolding loses
served_schema name state number (Call request) leaves = called_stays name state number request leaves
served_schema name state number Poll leaves = at (waiting_of number state.waiting) refl leaves where
  at : (waiting : Option Waiting) → waiting_of number state.waiting ≡ waiting → LeavesName name (request_waiting waiting) → schema_of name (polls state number).after.tables ≡ schema_of name state.tables
  at None is leaves = unwaited_schema name state number is
  at (Some waiting) is leaves = polled_stays name state number waiting is leaves
served_schema name state number (Command word) leaves = refl
served_schema name state number Cut leaves = refl

pub left_schema : (name : List ℕ) (side : Option Side) (state : State) (number : ℕ) (asked : Asked) → LeavesName name (asks_for state number asked) → schema_of name (leaves side state number asked).tables ≡ schema_of name state.tables
unfolding loses
left_schema name None state number asked leaves = served_schema name state number asked leaves
left_schema name (Some Before) state number asked leaves = refl
left_schema name (Some After) state number asked leaves = served_schema name state number asked leaves

-- A SESSION MORE

pub one_more : (P : Session → Type 0) (sessions : List Session) (one : Session) → AllByRecursion P sessions → P one → AllByRecursion P (sessions ++ one ∷ [])
one_more P [] one all is = (is, tt)
one_more P (session ∷ sessions) one all is = (all.0, one_more P sessions one all.1 is)

pub opened_below : (name : List ℕ) (place next : ℕ) (nothing tool : Bool) (number : ℕ) (state : State) → ValuesBelow name place next state → ValuesBelow name place next (opens_if nothing tool number state)
unfolding opens_if
opened_below name place next nothing tool number state below = by (nothing || is_live state number) where
  by : (b : Bool) → ValuesBelow name place next (cond b state (connected number tool state))
  by true = below
  by false = record { rows = below.rows; writes = one_more (λ session. EventsBelow name place next session.writes) state.sessions (new_session number tool) below.writes tt }

-- BELOW THE COUNTER IS UNDER THE NUMBER

under_value : (value : Option Value) (next : ℕ) → next < 18446744073709551615 → Rattle.server_model.specs.States.after_value value ≤ next → IsUnder next value
under_value (Some (Num (pos n))) next less below = omega (arith, less, below)
under_value value next less below = tt

under_rows : (place next : ℕ) (rows : List (List Value)) → next < 18446744073709551615 → AllByRecursion (IsBelow place next) rows → AllByRecursion (λ row. IsUnder next (slice_get row place)) rows
under_rows place next [] less below = tt
under_rows place next (row ∷ rows) less below = (under_value (slice_get row place) next less below.0, under_rows place next rows less below.1)

under_change : (place next : ℕ) (change : Change) → next < 18446744073709551615 → PutsBelow place next change → PutUnder place next change
under_change place next (changes.Write row) less below = under_value (slice_get row place) next less below
under_change place next (changes.Update before after) less below = under_value (slice_get after place) next less below
under_change place next (changes.Delete row) less below = tt

under_events : (name : List ℕ) (place next : ℕ) (events : List RowEvent) → next < 18446744073709551615 → EventsBelow name place next events → AllByRecursion (PutsUnder name place next) events
under_events name place next [] less below = tt
under_events name place next (event ∷ events) less below = (λ here. under_change place next event.change less (below.0 here), under_events name place next events less below.1)

under_writes : (name : List ℕ) (place next : ℕ) (sessions : List Session) → next < 18446744073709551615 → AllByRecursion (λ session. EventsBelow name place next session.writes) sessions → AllByRecursion (λ session. AllByRecursion (PutsUnder name place next) session.writes) sessions
under_writes name place next [] less below = tt
under_writes name place next (session ∷ sessions) less below = (under_events name place next session.writes less below.0, under_writes name place next sessions less below.1)

pub above_all : (name : List ℕ) (schema : Schema) (place next : ℕ) (state : State) (found : Option TableRows) → find_table name state.tables ≡ found → option_map (λ table. table.schema) found ≡ Some schema → auto_place schema ≡ Some place → next < 18446744073709551615 → ValuesBelow name place next state
    → IsAbove name next state found
above_all name schema place next state None is none auto less below = absurd cc
above_all name schema place next state (Some table) is same auto less below =
    let it : table.schema ≡ schema = cc in
    let at : auto_place table.schema ≡ Some place = ap auto_place it ∙ auto in
    subst (AboveAt name next state table) (sym at) (under_rows place next table.rows less (subst (RowsBelow place next) is below.rows), under_writes name place next state.sessions less below.writes)

-- *Numbers are above*
pub numbers_are_above : NumbersAreAbove
numbers_are_above name schema place next state [] has auto is below all = tt
numbers_are_above name schema place next state (entry ∷ entries) has auto is below all = (drawn, goes (next_of name (counters_left entry.side now entry.session entry.asked)) refl (turn_falls entry.side now entry.session entry.asked name leaves) (λ m. numbers_are_above name schema place m (after_entry state entry) entries)) where
  now : State
  now = opens entry state

  leaves : LeavesName name (asks_for now entry.session entry.asked)
  leaves = all.0.leaves

  next_now : next_of name now.counters ≡ Some next
  next_now = ap (next_of name) (opened_counters (is_command entry.asked) (not (is_client entry.actor)) entry.session state) ∙ is

  has_now : schema_of name now.tables ≡ Some schema
  has_now = ap (schema_of name) (opened_tables (is_command entry.asked) (not (is_client entry.actor)) entry.session state) ∙ has

  below_now : ValuesBelow name place next now
  below_now = opened_below name place next (is_command entry.asked) (not (is_client entry.actor)) entry.session state below

  Goes : Type 0
  Goes = (m : ℕ) → schema_of name (after_entry state entry).tables ≡ Some schema → auto_place schema ≡ Some place → next_of name (after_entry state entry).counters ≡ Some m → ValuesBelow name place m (after_entry state entry) → EachLeavesTable name (after_entry state entry) entries → EachDrawsAbove name (after_entry state entry) entries

  goes : (m : Option ℕ) → next_of name (counters_left entry.side now entry.session entry.asked) ≡ m → NoLess (next_of name now.counters) (next_of name (counters_left entry.side now entry.session entry.asked)) → Goes → EachDrawsAbove name (after_entry state entry) entries
  goes None none less rest = absurd (subst (λ (o : Option ℕ). NoLess (Some next) o) none (subst (λ (o : Option ℕ). NoLess o (next_of name (counters_left entry.side now entry.session entry.asked))) next_now less))
  goes (Some m) some less rest =
      let stays : ValuesBelow name place m (Rattle.server_model.specs.PlainServer.leaves entry.side now entry.session entry.asked) = values_stay_below name schema place next m entry.side now entry.session entry.asked has_now auto next_now some leaves all.0.copies below_now in
      rest m (left_schema name entry.side now entry.session entry.asked leaves ∙ has_now) auto some (record { rows = stays.rows; writes = stays.writes }) all.1

  number_is : (number : ℕ) (statement : Statement) → table_of statement ≡ name → next_of (table_of statement) now.counters ≡ Some number → next ≡ number
  number_is number statement own counter = let both : Some next ≡ Some number = sym next_now ∙ ap (λ (n : List ℕ). next_of n now.counters) (sym own) ∙ counter in cc

  drawn : (number : ℕ) → entry.draw ≡ Some number → DrawsAbove name state entry number
  drawn number draws =
      let one = turn_draws entry.side now entry.session entry.asked number (sym (reported_draw state entry all.0.answered) ∙ draws) in
      record {
        statement = one.0;
        asked = one.1;
        counter = ap (next_of (table_of one.0)) (sym (opened_counters (is_command entry.asked) (not (is_client entry.actor)) entry.session state)) ∙ one.2;
        above = λ own less.
            let same : next ≡ number = number_is number one.0 own one.2 in
            subst (λ (n : ℕ). IsAbove name n state (find_table name state.tables)) same (above_all name schema place next state (find_table name state.tables) refl has auto (subst (λ (n : ℕ). n < 18446744073709551615) (sym same) less) below);
      }
