-- The new table's counter stays small too, from before the table is made to the RENAME.
use Rattle.std.proofs.Common.{◌≡◌, ℕ, ◌+◌, ◌≤◌, Bool, true, false, List, [], ◌∷◌, ◌++◌, cond, Option, Some, None, refl, sym, ap, ◌∙◌, subst, arith}
use Rattle.std.specs.Prelude.{find, not, unwrap_or}
use Rattle.std.specs.Option.{option_map}
use Rattle.std.specs.Str.{bytes_eq}
use Rattle.base_values.specs.declared.gho_schema.schema.Schema.{Schema}
use Rattle.base_values.specs.GhoSchema.AutoIncrement.{auto_place}
use Rattle.base_script.specs.declared.actor.Side.{Side}
use Rattle.base_script.specs.declared.actor.Side.TheVariants.{Before, After}
use Rattle.table_store.specs.declared.renames.Pair.{Pair}
use Rattle.table_store.specs.Databases.{Database, has_table, without_table}
use Rattle.server_model.specs.declared.answer.Answer.{Answer}
use Rattle.server_model.specs.declared.answer.Answer.TheVariants as answers
use Rattle.server_model.specs.declared.counter.Counter.{Counter}
use Rattle.server_model.specs.declared.entry.Asked.{Asked}
use Rattle.server_model.specs.declared.entry.Entry.{Entry}
use Rattle.server_model.specs.declared.request.Request.{Request}
use Rattle.server_model.specs.declared.request.Request.TheVariants as requests
use Rattle.server_model.specs.Answers.{ok}
use Rattle.server_model.specs.Counting.{counted, counts_if, drawn_by}
use Rattle.server_model.specs.Effects.{created, defined, dropped, effect_unless, is_outside}
use Rattle.server_model.specs.Entries.{is_client, is_command}
use Rattle.server_model.specs.LockedRows.Counters.{NoLess}
use Rattle.server_model.specs.PlainServer.{asks_for, counters_left, did, does, done, leaves, loses, serves, state_left}
use Rattle.server_model.specs.States.{State, counter_of, counters_from, counters_without, is_counter_of, is_in_transaction, next_of, session_of, start_at, started, view}
use Rattle.server_model.proofs.LockedRows.Tests.{are_same, turned_bytes}
use Rattle.tool_program.specs.JournalWords.Draws.{asked_in}
use Rattle.tool_program.specs.JournalWords.Journals.{after_entry, opens}
use Rattle.proof_journals.specs.Machine.MigrationTables.{schema_of}
use Rattle.proof_journals.specs.Rising.{LeavesName}
use Rattle.proof_journals.proofs.Machine.Schemas.{new_found}
use Rattle.proof_journals.proofs.Moves.{gone_none}
use Rattle.proof_journals.proofs.Rising.{if_counted, opened_counters, turn_falls}
use Rattle.proof_journals.proofs.Journals.{opened_tables}
use Rattle.law_draws.specs.SmallNumbers.{CountsIn, IsAtMost, one_if}
use Rattle.law_draws.proofs.Numbers.{left_schema}
use Rattle.law_draws.proofs.Renames.{NotOk, Undone, rename_counts, rename_rests}
use Rattle.law_draws.proofs.Served.{served_so}
use Rattle.law_draws.proofs.SmallNumbers.{TableCounts, asked_small, more_most, raised_most}

-- WHAT CREATE AND DROP LEAVE

-- a table is made where none of its name exists, and else nothing changes
data Makes (schema : Schema) (tables : Database) (answer : Answer) (after : Database) : Type 0 where
  made : answer ≡ ok → has_table schema.name tables ≡ false → after ≡ tables ++ record { schema = schema; rows = [] } ∷ [] → Makes schema tables answer after
  unmade : NotOk answer → after ≡ tables → Makes schema tables answer after

created_so : (schema : Schema) (state : State) (number : ℕ) → Makes schema state.tables (done state number (requests.Create schema)).answer (done state number (requests.Create schema)).after.tables
unfolding did
created_so schema state number = at (is_outside (session_of number state.sessions) (requests.Create schema)) where
  by : (b : Bool) → has_table schema.name state.tables ≡ b → Makes schema state.tables (does (defined (created b schema state.tables)) state number).answer (does (defined (created b schema state.tables)) state number).after.tables
  by true has = unmade tt refl
  by false none = made refl none refl

  at : (b : Bool) → Makes schema state.tables (does (effect_unless b (is_in_transaction (session_of number state.sessions)) (view number state) state (requests.Create schema)) state number).answer (does (effect_unless b (is_in_transaction (session_of number state.sessions)) (view number state) state (requests.Create schema)) state number).after.tables
  at true = unmade tt refl
  at false = by (has_table schema.name state.tables) refl

data Drops (name : List ℕ) (tables : Database) (answer : Answer) (after : Database) : Type 0 where
  gone : answer ≡ ok → after ≡ without_table name tables → Drops name tables answer after
  stays : NotOk answer → after ≡ tables → Drops name tables answer after

dropped_so : (name : List ℕ) (state : State) (number : ℕ) → Drops name state.tables (done state number (requests.Drop name)).answer (done state number (requests.Drop name)).after.tables
unfolding did
dropped_so name state number = at (is_outside (session_of number state.sessions) (requests.Drop name)) where
  by : (b : Bool) → Drops name state.tables (does (defined (dropped b name state.tables)) state number).answer (does (defined (dropped b name state.tables)) state number).after.tables
  by true = gone refl refl
  by false = stays tt refl

  at : (b : Bool) → Drops name state.tables (does (effect_unless b (is_in_transaction (session_of number state.sessions)) (view number state) state (requests.Drop name)) state number).answer (does (effect_unless b (is_in_transaction (session_of number state.sessions)) (view number state) state (requests.Drop name)) state number).after.tables
  at true = stays tt refl
  at false = by (has_table name state.tables)

-- COUNTERS

none_without : (name : List ℕ) (counters : List Counter) → next_of name (counters_without name counters) ≡ None
none_without name [] = refl
none_without name (one ∷ counters) = by (is_counter_of name one) refl (none_without name counters) where
  by : (b : Bool) → is_counter_of name one ≡ b → next_of name (counters_without name counters) ≡ None → next_of name (cond (not b) (one ∷ counters_without name counters) (counters_without name counters)) ≡ None
  by true here rest = rest
  by false off rest = rw off rest

pub most_joined : (name : List ℕ) (most : ℕ) (counters more : List Counter) → IsAtMost most (next_of name counters) → IsAtMost most (next_of name more) → IsAtMost most (next_of name (counters ++ more))
most_joined name most [] more one two = two
most_joined name most (first ∷ counters) more one two = by (is_counter_of name first) one (λ is. most_joined name most counters more is two) where
  by : (b : Bool) → IsAtMost most (option_map (λ (counter : Counter). counter.next) (cond b (Some first) (find (is_counter_of name) counters))) → (IsAtMost most (next_of name counters) → IsAtMost most (next_of name (counters ++ more))) → IsAtMost most (option_map (λ (counter : Counter). counter.next) (cond b (Some first) (find (is_counter_of name) (counters ++ more))))
  by true one rest = one
  by false one rest = rest one

-- there is a counter of the name
abbrev pub HasCounter : List ℕ → List Counter → Type 0
HasCounter name counters = (next : ℕ) × (next_of name counters ≡ Some next)

has_joined : (name : List ℕ) (counters more : List Counter) → HasCounter name more → HasCounter name (counters ++ more)
has_joined name [] more has = has
has_joined name (first ∷ counters) more has = by (is_counter_of name first) (has_joined name counters more has) where
  by : (b : Bool) → HasCounter name (counters ++ more) → (next : ℕ) × (option_map (λ (counter : Counter). counter.next) (cond b (Some first) (find (is_counter_of name) (counters ++ more))) ≡ Some next)
  by true rest = (first.next, refl)
  by false rest = rest

started_most : (most : ℕ) (name : List ℕ) (schema : Schema) (place : Option ℕ) → unwrap_or schema.start 1 ≤ most → 1 ≤ most → IsAtMost most (next_of name (started (record { schema = schema; rows = [] }) place))
started_most most name schema None less one = tt
started_most most name schema (Some place) less one = by (bytes_eq schema.name name) where
  by : (b : Bool) → IsAtMost most (option_map (λ (counter : Counter). counter.next) (cond b (Some (record { table = schema.name; next = start_at (record { schema = schema; rows = [] }) place })) None))
  by true = omega (arith, less, one)
  by false = tt

started_has : (name : List ℕ) (schema : Schema) (auto : Option ℕ) (place : ℕ) → auto ≡ Some place → bytes_eq schema.name name ≡ true → HasCounter name (started (record { schema = schema; rows = [] }) auto)
started_has name schema None place is named = absurd cc
started_has name schema (Some other) place is named = (start_at (record { schema = schema; rows = [] }) other, rw named refl)

-- ONE TURN

-- what is kept of a table that the tool makes, drops and sets the counter of
pub record IsSmall (name : List ℕ) (count : ℕ) (state : State) : Type 0 where
  pub counts : (schema : Schema) → schema_of name state.tables ≡ Some schema → (place : ℕ) → auto_place schema ≡ Some place → CountsIn schema place
  pub small : IsAtMost (9223372036854775808 + count) (next_of name state.counters)
  pub has : (schema : Schema) → schema_of name state.tables ≡ Some schema → (place : ℕ) → auto_place schema ≡ Some place → HasCounter name state.counters

-- a schema of which such a table may be made
pub record MayMake (schema : Schema) : Type 0 where
  pub counts : (place : ℕ) → auto_place schema ≡ Some place → CountsIn schema place
  pub start : unwrap_or schema.start 1 ≤ 9223372036854775808

-- the same under another name
pub counts_named : (schema : Schema) (name : List ℕ) (place : ℕ) → CountsIn schema place → CountsIn (record schema { name = name }) place
counts_named schema name place counts = record { columns = counts.columns; counts = counts.counts }

-- what is asked of such a table
abbrev pub SmallAsks : List ℕ → ℕ → Option Request → Type 0
SmallAsks name most (Some (requests.Create schema)) = bytes_eq schema.name name ≡ true → MayMake schema
SmallAsks name most (Some (requests.SetCounter table number)) = number ≤ most
SmallAsks name most asks = Unit {0}

same_small : (name : List ℕ) (count : ℕ) (state after : State) → schema_of name after.tables ≡ schema_of name state.tables → IsAtMost (9223372036854775808 + count + 1) (next_of name after.counters) → NoLess (next_of name state.counters) (next_of name after.counters) → IsSmall name count state → IsSmall name (count + 1) after
same_small name count state after tables small falls is = record {
  counts = λ schema found. is.counts schema (sym tables ∙ found);
  small = subst (λ (most : ℕ). IsAtMost most (next_of name after.counters)) plus small;
  has = λ schema found place auto. let had = is.has schema (sym tables ∙ found) place auto in some had.0 (next_of name after.counters) refl (subst (λ (o : Option ℕ). NoLess o (next_of name after.counters)) had.1 falls);
} where
  plus : 9223372036854775808 + count + 1 ≡ 9223372036854775808 + (count + 1)
  plus = omega arith

  some : (old : ℕ) (next : Option ℕ) → next_of name after.counters ≡ next → NoLess (Some old) (next_of name after.counters) → HasCounter name after.counters
  some old None none less = absurd (subst (NoLess (Some old)) none less)
  some old (Some next) is less = (next, is)

no_less : (a : Option ℕ) → NoLess a a
no_less None = refl
no_less (Some a) = omega arith

module _ (name : List ℕ) (count : ℕ) (state : State) (is : IsSmall name count state) (number : ℕ) where
  abbrev most : ℕ
  most = 9223372036854775808 + count

  abbrev More : State → Type 0
  More after = IsSmall name (count + 1) after

  rested : (after : State) → after.tables ≡ state.tables → after.counters ≡ state.counters → More after
  rested after tables counters =
      same_small name count state after (ap (schema_of name) tables) (subst (λ (c : List Counter). IsAtMost (most + 1) (next_of name c)) (sym counters) (more_most most (most + 1) (next_of name state.counters) (omega arith) is.small))
      (subst (λ (c : List Counter). NoLess (next_of name state.counters) (next_of name c)) (sym counters) (no_less (next_of name state.counters))) is

  counting : TableCounts name state
  counting table found place auto = is.counts table.schema (ap (option_map (λ t. t.schema)) found) place auto

  -- the state afterwards, whose counters are those
  abbrev left : Option Side → Asked → State
  left side asked = state_left side state number asked

  most_plus : (asks : Option Request) (answer : Answer) → IsAtMost (most + one_if (drawn_by state number asks answer)) (next_of name (counted state number asks answer)) → IsAtMost (most + 1) (next_of name (counted state number asks answer))
  most_plus asks answer less = by (drawn_by state number asks answer) less where
    by : (drawn : Option ℕ) → IsAtMost (most + one_if drawn) (next_of name (counted state number asks answer)) → IsAtMost (most + 1) (next_of name (counted state number asks answer))
    by None less = more_most (most + 0) (most + 1) (next_of name (counted state number asks answer)) (omega arith) less
    by (Some n) less = less

  -- what it counts, where it makes and drops no table of the name and renames none
  counted_most : (asks : Option Request) (answer : Answer) → LeavesName name asks → SmallAsks name most asks → IsAtMost (most + 1) (next_of name (counted state number asks answer))
  unfolding counted
  counted_most (Some (requests.SetCounter table least)) answer leaves less =
      more_most most (most + 1) (next_of name (counts_if answer (counters_from table least) state.counters)) (omega arith)
      (if_counted (λ (c : List Counter). IsAtMost most (next_of name c)) answer (counters_from table least) state.counters is.small (raised_most name table least most state.counters less is.small))
  counted_most (Some (requests.Create schema)) answer leaves less = most_plus (Some (requests.Create schema)) answer (asked_small name most state number counting (omega arith) is.small (Some (requests.Create schema)) answer leaves)
  counted_most (Some (requests.Drop other)) answer leaves less = most_plus (Some (requests.Drop other)) answer (asked_small name most state number counting (omega arith) is.small (Some (requests.Drop other)) answer leaves)
  counted_most (Some (requests.Rename pairs)) answer leaves less = most_plus (Some (requests.Rename pairs)) answer (asked_small name most state number counting (omega arith) is.small (Some (requests.Rename pairs)) answer leaves)
  counted_most (Some request) answer leaves less = most_plus (Some request) answer (asked_small name most state number counting (omega arith) is.small (Some request) answer tt)
  counted_most None answer leaves less = most_plus None answer (asked_small name most state number counting (omega arith) is.small None answer tt)

  left_most : (side : Option Side) (asked : Asked) → LeavesName name (asks_for state number asked) → SmallAsks name most (asks_for state number asked) → IsAtMost (most + 1) (next_of name (counters_left side state number asked))
  left_most None asked leaves less = counted_most (asks_for state number asked) (serves state number asked).answer leaves less
  left_most (Some After) asked leaves less = counted_most (asks_for state number asked) (serves state number asked).answer leaves less
  left_most (Some Before) asked leaves less = more_most most (most + 1) (next_of name state.counters) (omega arith) is.small

  leaving : (side : Option Side) (asked : Asked) → LeavesName name (asks_for state number asked) → SmallAsks name most (asks_for state number asked) → More (left side asked)
  leaving side asked leaves less =
      same_small name count state (left side asked) (left_schema name side state number asked leaves) (left_most side asked leaves less) (turn_falls side state number asked name leaves) is

  -- A TABLE IS MADE

  made_so : (schema : Schema) (after : State) → bytes_eq schema.name name ≡ true → MayMake schema → has_table schema.name state.tables ≡ false → after.tables ≡ state.tables ++ record { schema = schema; rows = [] } ∷ [] → after.counters ≡ state.counters ++ counter_of (record { schema = schema; rows = [] }) → More after
  made_so schema after named may none tables counters = record {
    counts = λ other found place auto. let it = one other found in subst (λ (s : Schema). CountsIn s place) it (may.counts place (ap auto_place it ∙ auto));
    small = subst (λ (c : List Counter). IsAtMost (9223372036854775808 + (count + 1)) (next_of name c)) (sym counters) (
        most_joined name (9223372036854775808 + (count + 1)) state.counters (counter_of (record { schema = schema; rows = [] })) (more_most most (9223372036854775808 + (count + 1)) (next_of name state.counters) (omega arith) is.small)
        (let start = may.start in started_most (9223372036854775808 + (count + 1)) name schema (auto_place schema) (omega (arith, start)) (omega arith))
        );
    has = λ other found place auto. subst (HasCounter name) (sym counters) (has_joined name state.counters (counter_of (record { schema = schema; rows = [] })) (started_has name schema (auto_place schema) place (ap auto_place (one other found) ∙ auto) named));
  } where
    stands : schema_of name after.tables ≡ Some schema
    stands =
        ap (schema_of name) tables
        ∙ ap (option_map (λ t. t.schema)) (new_found name state.tables (record { schema = schema; rows = [] }) (subst (λ (n : List ℕ). has_table n state.tables ≡ false) (are_same schema.name name named) none) named)

    one : (other : Schema) → schema_of name after.tables ≡ Some other → schema ≡ other
    one other found = let both : Some schema ≡ Some other = sym stands ∙ found in cc

  counts_of : (request : Request) (asked : Asked) (answer : Answer) → asks_for state number asked ≡ Some request → counted state number (asks_for state number asked) answer ≡ counted state number (Some request) answer
  counts_of request asked answer asks = ap (λ (o : Option Request). counted state number o answer) asks

  not_counted : (answer : Answer) (change : List Counter → List Counter) → NotOk answer → counts_if answer change state.counters ≡ state.counters
  not_counted (answers.Ok n) change not_ok = absurd not_ok
  not_counted answer change not_ok = refl

  ok_counted : (answer : Answer) (change : List Counter → List Counter) → answer ≡ ok → counts_if answer change state.counters ≡ change state.counters
  ok_counted answer change is = ap (λ (a : Answer). counts_if a change state.counters) is

  making : (side : Option Side) (asked : Asked) (schema : Schema) → asks_for state number asked ≡ Some (requests.Create schema) → bytes_eq schema.name name ≡ true → MayMake schema → More (left side asked)
  unfolding counted loses
  making side asked schema asks named may = by side (served_so (λ tables counters. Makes schema tables) number (requests.Create schema) (record { waits = λ tables counters other. unmade tt refl; timed = λ tables counters waited. unmade tt refl; each = λ found. created_so schema found number }) state asked asks) where
    answer : Answer
    answer = (serves state number asked).answer

    grown : (after : State) → after.tables ≡ (serves state number asked).after.tables → after.counters ≡ counted state number (asks_for state number asked) answer → Makes schema state.tables answer (serves state number asked).after.tables → More after
    grown after tables counters (made is none new) = made_so schema after named may none (tables ∙ new) (counters ∙ counts_of (requests.Create schema) asked answer asks ∙ ok_counted answer (λ c. c ++ counter_of (record { schema = schema; rows = [] })) is)
    grown after tables counters (unmade not_ok old) = rested after (tables ∙ old) (counters ∙ counts_of (requests.Create schema) asked answer asks ∙ not_counted answer (λ c. c ++ counter_of (record { schema = schema; rows = [] })) not_ok)

    by : (side : Option Side) → Makes schema state.tables answer (serves state number asked).after.tables → More (left side asked)
    by None makes = grown (left None asked) refl refl makes
    by (Some Before) makes = rested (left (Some Before) asked) refl refl
    by (Some After) makes = grown (left (Some After) asked) refl refl makes

  -- A TABLE IS DROPPED

  gone_so : (after : State) → after.tables ≡ without_table name state.tables → after.counters ≡ counters_without name state.counters → More after
  gone_so after tables counters = record {
    counts = λ schema found place auto. absurd (none schema found);
    small = subst (λ (c : List Counter). IsAtMost (9223372036854775808 + (count + 1)) (next_of name c)) (sym counters) (subst (IsAtMost (9223372036854775808 + (count + 1))) (sym (none_without name state.counters)) tt);
    has = λ schema found place auto. absurd (none schema found);
  } where
    none : (schema : Schema) → schema_of name after.tables ≡ Some schema → ⊥
    none schema found = no (sym (ap (schema_of name) tables ∙ ap (option_map (λ t. t.schema)) (gone_none name state.tables)) ∙ found) where
      no : None ≡ Some schema → ⊥
      no same = cc

  dropping : (side : Option Side) (asked : Asked) → asks_for state number asked ≡ Some (requests.Drop name) → More (left side asked)
  unfolding counted loses
  dropping side asked asks = by side (served_so (λ tables counters. Drops name tables) number (requests.Drop name) (record { waits = λ tables counters other. stays tt refl; timed = λ tables counters waited. stays tt refl; each = λ found. dropped_so name found number }) state asked asks) where
    answer : Answer
    answer = (serves state number asked).answer

    fewer : (after : State) → after.tables ≡ (serves state number asked).after.tables → after.counters ≡ counted state number (asks_for state number asked) answer → Drops name state.tables answer (serves state number asked).after.tables → More after
    fewer after tables counters (gone is new) = gone_so after (tables ∙ new) (counters ∙ counts_of (requests.Drop name) asked answer asks ∙ ok_counted answer (counters_without name) is)
    fewer after tables counters (stays not_ok old) = rested after (tables ∙ old) (counters ∙ counts_of (requests.Drop name) asked answer asks ∙ not_counted answer (counters_without name) not_ok)

    by : (side : Option Side) → Drops name state.tables answer (serves state number asked).after.tables → More (left side asked)
    by None drops = fewer (left None asked) refl refl drops
    by (Some Before) drops = rested (left (Some Before) asked) refl refl
    by (Some After) drops = fewer (left (Some After) asked) refl refl drops

  -- *One turn more*, where no RENAME is done in it
  pub small_left : (side : Option Side) (asked : Asked) → ((pairs : List Pair) → asks_for state number asked ≡ Some (requests.Rename pairs) → Undone side (serves state number asked).answer) → SmallAsks name most (asks_for state number asked) → More (left side asked)
  small_left side asked undone fits = by (asks_for state number asked) refl fits where
    leaves_it : (asks : Option Request) → asks_for state number asked ≡ asks → LeavesName name asks → SmallAsks name most asks → More (left side asked)
    leaves_it asks is leaves fits = leaving side asked (subst (LeavesName name) (sym is) leaves) (subst (SmallAsks name most) (sym is) fits)

    by : (asks : Option Request) → asks_for state number asked ≡ asks → SmallAsks name most asks → More (left side asked)
    by (Some (requests.Create schema)) is fits = at (bytes_eq schema.name name) refl where
      at : (b : Bool) → bytes_eq schema.name name ≡ b → More (left side asked)
      at true named = making side asked schema is named (fits named)
      at false off = leaves_it (Some (requests.Create schema)) is (rw (turned_bytes schema.name name off) refl) fits
    by (Some (requests.Drop other)) is fits = at (bytes_eq name other) refl where
      at : (b : Bool) → bytes_eq name other ≡ b → More (left side asked)
      at true same = dropping side asked (is ∙ ap (λ (n : List ℕ). Some (requests.Drop n)) (sym (are_same name other same)))
      at false off = leaves_it (Some (requests.Drop other)) is (rw off refl) fits
    by (Some (requests.Rename pairs)) is fits = rested (left side asked) ((rename_rests name 0 0 number pairs side state asked is).tables (undone pairs is)) (rename_counts side state number asked pairs is (undone pairs is))
    by (Some request) is fits = leaves_it (Some request) is tt fits
    by None is fits = leaves_it None is tt fits

-- ... of an entry
pub small_more : (name : List ℕ) (count : ℕ) (state : State) (entry : Entry) → IsSmall name count state → ((pairs : List Pair) → asked_in state entry ≡ Some (requests.Rename pairs) → Undone entry.side (serves (opens entry state) entry.session entry.asked).answer) → SmallAsks name (9223372036854775808 + count) (asked_in state entry) → IsSmall name (count + 1) (after_entry state entry)
small_more name count state entry is undone fits = small_left name count (opens entry state) opened entry.session entry.side entry.asked undone fits where
  tables : (opens entry state).tables ≡ state.tables
  tables = opened_tables (is_command entry.asked) (not (is_client entry.actor)) entry.session state

  counters : (opens entry state).counters ≡ state.counters
  counters = opened_counters (is_command entry.asked) (not (is_client entry.actor)) entry.session state

  opened : IsSmall name count (opens entry state)
  opened = record {
    counts = λ schema found place auto. is.counts schema (ap (schema_of name) (sym tables) ∙ found) place auto;
    small = subst (λ (c : List Counter). IsAtMost (9223372036854775808 + count) (next_of name c)) (sym counters) is.small;
    has = λ schema found place auto. subst (HasCounter name) (sym counters) (is.has schema (ap (schema_of name) (sym tables) ∙ found) place auto);
  }
