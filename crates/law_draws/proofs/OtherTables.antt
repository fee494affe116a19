-- Numbers that are drawn from other tables than the migrated one.
use Rattle.std.proofs.Common.{◌≡◌, ℕ, ◌+◌, ◌≤◌, ◌<◌, Bool, true, false, not, List, [], ◌∷◌, ◌++◌, append_assoc, length, cond, Option, Some, None, refl, sym, ap, ◌∙◌, subst, arith}
use Rattle.std.specs.Prelude.{fold, max, unwrap_or}
use Rattle.std.specs.List.{AllByRecursion, flat_map, slice_get}
use Rattle.std.specs.Option.{option_map}
use Rattle.std.specs.Str.{bytes_eq}
use Rattle.std.proofs.lemmas.Bool.{true≢false, false≢true}
use Rattle.std.proofs.lemmas.List.{length-append}
use Rattle.base_values.specs.declared.value.Value.{Value}
use Rattle.base_values.specs.declared.gho_schema.schema.Schema.{Schema}
use Rattle.base_values.specs.GhoSchema.AutoIncrement.{auto_place}
use Rattle.base_values.specs.GhoSchema.Tables.{IsRow}
use Rattle.base_script.specs.declared.actor.Side.{Side}
use Rattle.base_script.specs.declared.actor.Side.TheVariants.{Before, After}
use Rattle.base_script.specs.declared.statement.Statement.{Statement}
use Rattle.base_script.specs.declared.statement.Statement.TheVariants as statements
use Rattle.table_store.specs.Databases.{TableRows, Database, find_table, is_named}
use Rattle.server_model.specs.declared.answer.Answer.{Answer}
use Rattle.server_model.specs.declared.counter.Counter.{Counter}
use Rattle.server_model.specs.declared.entry.Asked.{Asked}
use Rattle.server_model.specs.declared.entry.Asked.TheVariants.{Call, Poll, Command, Cut}
use Rattle.server_model.specs.declared.entry.Entry.{Entry}
use Rattle.server_model.specs.declared.request.Request.{Request}
use Rattle.server_model.specs.declared.request.Request.TheVariants as requests
use Rattle.server_model.specs.declared.session.Session.{Session}
use Rattle.server_model.specs.Along.{Along, Along-keeps, gathered-more}
use Rattle.server_model.specs.Checks.{draws, row_draws}
use Rattle.server_model.specs.Counting.{counted, drawn_by, drawn_if, is_answered, offered_inside}
use Rattle.server_model.specs.Drawing.{offered_in, offered_of}
use Rattle.server_model.specs.Effects.{is_outside}
use Rattle.server_model.specs.Entries.{is_client, is_command}
use Rattle.server_model.specs.LockedRows.Counters.{IsBehind, NoLess}
use Rattle.server_model.specs.Operations.{table_of}
use Rattle.server_model.specs.PlainServer.{asks_for, counters_left, leaves, serves}
use Rattle.server_model.specs.States.{State, after_value, counter_of, is_of_tool, next_of, session_of, start_at, started}
use Rattle.server_model.proofs.LockedRows.Tests.{are_same}
use Rattle.plan_data.specs.PlanData.{PlanData}
use Rattle.tool_program.specs.JournalWords.Draws.{asked_in, draws_on, drawn_from, IsAbove, IsDrawn}
use Rattle.tool_program.specs.JournalWords.Journals.{IsAnswered, after_entry, opening, opens, state_after, state_at}
use Rattle.tool_program.specs.JournalWords.Sessions.{IsSeated}
use Rattle.tool_program.specs.Programs.{Follows, IsFollowed, IsGiven}
use Rattle.proof_journals.specs.Machine.MigrationTables.{schema_of}
use Rattle.proof_journals.specs.Rising.{LeavesName}
use Rattle.proof_journals.specs.Run.Kept.{IsKept}
use Rattle.proof_journals.specs.Run.Laws.{Living}
use Rattle.proof_journals.specs.Turns.{drawn_side}
use Rattle.proof_journals.proofs.Actors.{SessionsKnown, placed}
use Rattle.proof_journals.proofs.Joined.{reported_draw}
use Rattle.proof_journals.proofs.Journals.{state_more, opened_tables, opened_waits}
use Rattle.proof_journals.proofs.Machine.Journals.{IsRun, all_runs, all_together}
use Rattle.proof_journals.proofs.Rising.{opened_counters, turn_draws, turn_falls}
use Rattle.proof_journals.proofs.Run.Living.{all_living, own_kind}
use Rattle.law_draws.specs.ColumnValues.{ValuesBelow, RowsBelow}
use Rattle.law_draws.specs.LockedCounters.{LeavesCounter}
use Rattle.law_draws.specs.OtherTables.{IsOther, MayCount, OtherTablesDraw, StartsWell}
use Rattle.law_draws.specs.SmallNumbers.{CountsIn, IsAtMost, one_if}
use Rattle.law_draws.proofs.ColumnValues.{values_stay_below}
use Rattle.law_draws.proofs.Numbers.{above_all, left_schema, opened_below}
use Rattle.law_draws.proofs.SmallNumbers.{counters_stay_small, more_most, row_small}
use Rattle.law_draws.proofs.Sparing.{AllWait, Spares, about_so, given_spares, left_waits}

-- WHERE A NUMBER IS DRAWN FROM

-- a table of which a number is drawn has an AUTO_INCREMENT column, and the tool's sessions draw none
pub record Offers (tool : Bool) (found : Option TableRows) : Type 0 where
  pub client : tool ≡ false
  pub table : TableRows
  pub is : found ≡ Some table
  pub place : ℕ
  pub auto : auto_place table.schema ≡ Some place

row_place : (schema : Schema) (names : Option (List (List ℕ))) (values : List Value) (auto : Option ℕ) → row_draws schema names values auto ≡ true → (place : ℕ) × (auto ≡ Some place)
row_place schema names values None is = absurd (false≢true is)
row_place schema names values (Some place) is = (place, refl)

draws_place : (schema : Schema) (statement : Statement) → draws schema statement ≡ true → (place : ℕ) × (auto_place schema ≡ Some place)
unfolding draws
draws_place schema (statements.Insert table columns values drawn) is = row_place schema columns values (auto_place schema) is
draws_place schema (statements.Replace table columns values drawn) is = row_place schema columns values (auto_place schema) is
draws_place schema statement is = absurd (false≢true is)

offers_of : (tool : Bool) (found : Option TableRows) (counters : List Counter) (statement : Statement) (n : ℕ) → offered_of tool found counters statement ≡ Some n → Offers tool found
offers_of true found counters statement n is = absurd cc
offers_of false None counters statement n is = absurd cc
offers_of false (Some table) counters statement n is = by (draws table.schema statement) refl is where
  by : (b : Bool) → draws table.schema statement ≡ b → cond b (next_of table.schema.name counters) None ≡ Some n → Offers false (Some table)
  by true here some = let one = draws_place table.schema statement here in record { client = refl; table = table; is = refl; place = one.0; auto = one.1 }
  by false off some = absurd cc

offered_so : (answered outside : Bool) (offer : Option ℕ) (n : ℕ) → drawn_if answered (offered_inside outside offer) ≡ Some n → offer ≡ Some n
offered_so true true offer n is = absurd cc
offered_so true false offer n is = is
offered_so false outside offer n is = absurd cc

pub offers_drawn : (state : State) (number : ℕ) (statement : Statement) (answer : Answer) (n : ℕ) → drawn_by state number (Some (requests.Do statement)) answer ≡ Some n → Offers (is_of_tool (session_of number state.sessions)) (find_table (table_of statement) state.tables)
unfolding offered_in
offers_drawn state number statement answer n is =
    offers_of (is_of_tool (session_of number state.sessions)) (find_table (table_of statement) state.tables) state.counters statement n
    (offered_so (is_answered answer) (is_outside (session_of number state.sessions) (requests.Do statement)) (offered_in (is_of_tool (session_of number state.sessions)) state.tables state.counters statement) n is)

-- AT THE OPENING

fold_least : (place first : ℕ) (rows : List (List Value)) → first ≤ fold (λ most row. max most (after_value (slice_get row place))) first rows
fold_least place first [] = omega arith
fold_least place first (row ∷ rows) = let rest = fold_least place (max first (after_value (slice_get row place))) rows in omega (arith, rest)

pub fold_rows : (place first : ℕ) (rows : List (List Value)) → AllByRecursion (λ row. after_value (slice_get row place) ≤ fold (λ most row. max most (after_value (slice_get row place))) first rows) rows
fold_rows place first [] = tt
fold_rows place first (row ∷ rows) = let least = fold_least place (max first (after_value (slice_get row place))) rows in (omega (arith, least), fold_rows place (max first (after_value (slice_get row place))) rows)

fold_most : (place first most : ℕ) (rows : List (List Value)) → first ≤ most → AllByRecursion (λ row. after_value (slice_get row place) ≤ most) rows → fold (λ most row. max most (after_value (slice_get row place))) first rows ≤ most
fold_most place first most [] less all = less
fold_most place first most (row ∷ rows) less all = let here = all.0 in fold_most place (max first (after_value (slice_get row place))) most rows (omega (arith, less, here)) all.1

rows_most : (table : TableRows) (place : ℕ) → StartsWell table place → AllByRecursion (λ row. after_value (slice_get row place) ≤ 9223372036854775808) table.rows
rows_most table place well = by table.rows well.rows where
  by : (rows : List (List Value)) → AllByRecursion (IsRow table.schema.columns) rows → AllByRecursion (λ row. after_value (slice_get row place) ≤ 9223372036854775808) rows
  by [] all = tt
  by (row ∷ rows) all = (row_small place table.schema.columns row well.counts.columns well.counts.counts all.0, by rows all.1)

pub start_most : (table : TableRows) (place : ℕ) → StartsWell table place → start_at table place ≤ 9223372036854775808
start_most table place well = let start = well.start in fold_most place (max 1 (unwrap_or table.schema.start 1)) 9223372036854775808 table.rows (omega (arith, start)) (rows_most table place well)

none_other : (name : List ℕ) (table : TableRows) (counters : List Counter) → is_named name table ≡ false → next_of name (counter_of table ++ counters) ≡ next_of name counters
none_other name table counters off = by (auto_place table.schema) where
  by : (place : Option ℕ) → next_of name (started table place ++ counters) ≡ next_of name counters
  by None = refl
  by (Some place) = rw off refl

pub counter_found : (name : List ℕ) (place : ℕ) (tables : Database) (table : TableRows) → find_table name tables ≡ Some table → auto_place table.schema ≡ Some place → next_of name (flat_map counter_of tables) ≡ Some (start_at table place)
counter_found name place [] table is auto = absurd cc
counter_found name place (first ∷ tables) table is auto = by (is_named name first) refl is (λ same. counter_found name place tables table same auto) where
  by : (b : Bool) → is_named name first ≡ b → cond b (Some first) (find_table name tables) ≡ Some table → (find_table name tables ≡ Some table → next_of name (flat_map counter_of tables) ≡ Some (start_at table place)) → next_of name (counter_of first ++ flat_map counter_of tables) ≡ Some (start_at table place)
  by true here same rest =
      let it : first ≡ table = cc in
      subst (λ (t : TableRows). next_of name (counter_of first ++ flat_map counter_of tables) ≡ Some (start_at t place)) it (rw (ap (λ (t : TableRows). auto_place t.schema) it ∙ auto, here) refl)
  by false off same rest = none_other name first (flat_map counter_of tables) off ∙ rest same

pub table_well : (name : List ℕ) (tables : Database) (table : TableRows) → AllByRecursion MayCount tables → find_table name tables ≡ Some table → MayCount table
table_well name [] table all is = absurd cc
table_well name (first ∷ tables) table all is = by (is_named name first) is (table_well name tables table all.1) where
  by : (b : Bool) → cond b (Some first) (find_table name tables) ≡ Some table → (find_table name tables ≡ Some table → MayCount table) → MayCount table
  by true same rest = let it : first ≡ table = cc in subst MayCount it all.0
  by false same rest = rest same

-- A TURN

-- what a journal keeps of a table, from its opening on
pub record Keeps (name : List ℕ) (schema : Schema) (place count : ℕ) (state : State) (earlier : List ℕ) : Type 0 where
  pub has : schema_of name state.tables ≡ Some schema
  pub next : ℕ
  pub counter : next_of name state.counters ≡ Some next
  pub small : next ≤ 9223372036854775808 + count
  pub below : ValuesBelow name place next state
  pub under : AllByRecursion (λ number. number < next) earlier

pub under_more : (a b : ℕ) (numbers : List ℕ) → a ≤ b → AllByRecursion (λ number. number < a) numbers → AllByRecursion (λ number. number < b) numbers
under_more a b [] less all = tt
under_more a b (number ∷ numbers) less all = let here = all.0 in (omega (arith, less, here), under_more a b numbers less all.1)

under_both : (a : ℕ) (first second : List ℕ) → AllByRecursion (λ number. number < a) first → AllByRecursion (λ number. number < a) second → AllByRecursion (λ number. number < a) (first ++ second)
under_both a [] second one two = two
under_both a (number ∷ first) second one two = (one.0, under_both a first second one.1 two)

pub leaves_name : (name : List ℕ) (asks : Option Request) → LeavesCounter name asks → LeavesName name asks
leaves_name name (Some (requests.Create schema)) leaves = leaves
leaves_name name (Some (requests.Drop dropped)) leaves = leaves
leaves_name name (Some (requests.Rename pairs)) leaves = leaves
leaves_name name (Some request) leaves = tt
leaves_name name None leaves = tt

module _ (name : List ℕ) (state : State) (entry : Entry) (answered : IsAnswered state entry) (spares : Spares name (asked_in state entry)) where
  abbrev now : State
  now = opens entry state

  same_tables : schema_of name now.tables ≡ schema_of name state.tables
  same_tables = ap (schema_of name) (opened_tables (is_command entry.asked) (not (is_client entry.actor)) entry.session state)

  same_counters : next_of name now.counters ≡ next_of name state.counters
  same_counters = ap (next_of name) (opened_counters (is_command entry.asked) (not (is_client entry.actor)) entry.session state)

  leaves_it : LeavesName name (asks_for now entry.session entry.asked)
  leaves_it = leaves_name name (asks_for now entry.session entry.asked) spares.counter

  -- the schema stays
  pub schema_stays : schema_of name (after_entry state entry).tables ≡ schema_of name state.tables
  schema_stays = left_schema name entry.side now entry.session entry.asked leaves_it ∙ same_tables

  module _ (schema : Schema) (place : ℕ) (auto : auto_place schema ≡ Some place) (counts : CountsIn schema place) (count : ℕ) (few : count < 9223372036854775807) (earlier : List ℕ) (keeps : Keeps name schema place count state earlier) where
    has_now : schema_of name now.tables ≡ Some schema
    has_now = same_tables ∙ keeps.has

    next_now : next_of name now.counters ≡ Some keeps.next
    next_now = same_counters ∙ keeps.counter

    most_now : IsAtMost (9223372036854775808 + count) (next_of name now.counters)
    most_now = subst (IsAtMost (9223372036854775808 + count)) (sym next_now) keeps.small

    served_small : (answer : Answer) → IsAtMost (9223372036854775808 + count + 1) (next_of name (counted now entry.session (asks_for now entry.session entry.asked) answer))
    served_small answer =
        by (drawn_by now entry.session (asks_for now entry.session entry.asked) answer)
        (counters_stay_small name schema place (9223372036854775808 + count) now entry.session (asks_for now entry.session entry.asked) answer has_now auto counts spares.counter (omega arith) most_now) where
          by : (drawn : Option ℕ) → IsAtMost (9223372036854775808 + count + one_if drawn) (next_of name (counted now entry.session (asks_for now entry.session entry.asked) answer))
              → IsAtMost (9223372036854775808 + count + 1) (next_of name (counted now entry.session (asks_for now entry.session entry.asked) answer))
          by None is = more_most _ _ _ (omega arith) is
          by (Some n) is = is

    left_small : (side : Option Side) → IsAtMost (9223372036854775808 + count + 1) (next_of name (counters_left side now entry.session entry.asked))
    left_small None = served_small (serves now entry.session entry.asked).answer
    left_small (Some After) = served_small (serves now entry.session entry.asked).answer
    left_small (Some Before) = more_most (9223372036854775808 + count) (9223372036854775808 + count + 1) (next_of name now.counters) (omega arith) most_now

    -- what the turn draws is the counter, which is past it afterwards
    drew_under : (m : ℕ) → next_of name (counters_left entry.side now entry.session entry.asked) ≡ Some m → AllByRecursion (λ number. number < m) (drawn_from entry.draw name (asked_in state entry))
    drew_under m after = by entry.draw refl where
      own : (n : ℕ) (statement : Statement) → entry.draw ≡ Some n → asked_in state entry ≡ Some (requests.Do statement) → (b : Bool) → bytes_eq (table_of statement) name ≡ b → AllByRecursion (λ number. number < m) (cond b (n ∷ []) [])
      own n statement drew asks false off = tt
      own n statement drew asks true here =
          let one = turn_draws entry.side now entry.session entry.asked n (sym (reported_draw state entry answered) ∙ drew) in
          let it : table_of statement ≡ name = are_same (table_of statement) name here in
          let both : Some (requests.Do statement) ≡ Some (requests.Do one.0) = sym asks ∙ one.1 in
          let same : statement ≡ one.0 = cc in
          let table : table_of one.0 ≡ name = sym (ap table_of same) ∙ it in
          let counter : Some keeps.next ≡ Some n = sym next_now ∙ ap (λ (t : List ℕ). next_of t now.counters) (sym table) ∙ one.2 in
          let number : keeps.next ≡ n = cc in
          let small : n ≤ 9223372036854775808 + count = subst (λ (k : ℕ). k ≤ 9223372036854775808 + count) number keeps.small in
          let behind : IsBehind n (Some m) = subst (IsBehind n) after (subst (λ (t : List ℕ). IsBehind n (next_of t (counters_left entry.side now entry.session entry.asked))) table one.3) in
          (omega (arith, few, small, behind), tt)

      asked : (n : ℕ) → entry.draw ≡ Some n → (asks : Option Request) → asked_in state entry ≡ asks → AllByRecursion (λ number. number < m) (drawn_from (Some n) name asks)
      asked n drew (Some (requests.Do statement)) asks = own n statement drew asks (bytes_eq (table_of statement) name) refl
      asked n drew (Some request) asks = tt
      asked n drew None asks = tt

      by : (draw : Option ℕ) → entry.draw ≡ draw → AllByRecursion (λ number. number < m) (drawn_from draw name (asked_in state entry))
      by None drew = tt
      by (Some n) drew = asked n drew (asked_in state entry) refl

    pub keeps_more : Keeps name schema place (count + 1) (after_entry state entry) (earlier ++ drawn_from entry.draw name (asked_in state entry))
    keeps_more = by (next_of name (counters_left entry.side now entry.session entry.asked)) refl where
      falls : NoLess (Some keeps.next) (next_of name (counters_left entry.side now entry.session entry.asked))
      falls = subst (λ (o : Option ℕ). NoLess o (next_of name (counters_left entry.side now entry.session entry.asked))) next_now (turn_falls entry.side now entry.session entry.asked name leaves_it)

      by : (after : Option ℕ) → next_of name (counters_left entry.side now entry.session entry.asked) ≡ after → Keeps name schema place (count + 1) (after_entry state entry) (earlier ++ drawn_from entry.draw name (asked_in state entry))
      by None none = absurd (subst (NoLess (Some keeps.next)) none falls)
      by (Some m) some =
          let less : keeps.next ≤ m = subst (NoLess (Some keeps.next)) some falls in
          let small : m ≤ 9223372036854775808 + count + 1 = subst (IsAtMost (9223372036854775808 + count + 1)) some (left_small entry.side) in
          let stays : ValuesBelow name place m (leaves entry.side now entry.session entry.asked) =
          values_stay_below name schema place keeps.next m entry.side now entry.session entry.asked has_now auto next_now some leaves_it spares.copies (opened_below name place keeps.next (is_command entry.asked) (not (is_client entry.actor)) entry.session state keeps.below) in
          record {
            has = schema_stays ∙ keeps.has;
            next = m;
            counter = some;
            small = omega (arith, small);
            below = record { rows = stays.rows; writes = stays.writes };
            under = under_both m earlier (drawn_from entry.draw name (asked_in state entry)) (under_more keeps.next m earlier less keeps.under) (drew_under m some);
          }

-- at the opening
pub keeps_begins : (name : List ℕ) (schema : Schema) (place : ℕ) → auto_place schema ≡ Some place → (plan : PlanData) (table : TableRows) → find_table name plan.tables ≡ Some table → table.schema ≡ schema → StartsWell table place → Keeps name schema place 0 (state_at plan []) (draws_on plan [] name)
unfolding draws_on state_after
keeps_begins name schema place auto plan table is same well =
    let own : auto_place table.schema ≡ Some place = ap auto_place same ∙ auto in
    record {
      has = ap (option_map (λ t. t.schema)) is ∙ ap Some same;
      next = start_at table place;
      counter = counter_found name place plan.tables table is own;
      small = let most = start_most table place well in omega (arith, most);
      below = record { rows = subst (RowsBelow place (start_at table place)) (sym is) (fold_rows place (max 1 (unwrap_or table.schema.start 1)) table.rows); writes = tt };
      under = tt;
    }

-- A JOURNAL

-- what waits spares the table, and its schema is that of the opening
record Spared (name : List ℕ) (plan : PlanData) (journal : List Entry) : Type 0 where
  waits : AllWait (Spares name) (state_at plan journal).waiting
  same : schema_of name (state_at plan journal).tables ≡ schema_of name plan.tables

-- what the turn is about spares the table
pub none_spares : (name : List ℕ) → Spares name None
none_spares name = record { counter = tt; copies = tt }

module _ (name : List ℕ) (plan : PlanData) (off : IsOther plan name) where
  waits_now : (journal : List Entry) (entry : Entry) → Spared name plan journal → AllWait (Spares name) (opens entry (state_at plan journal)).waiting
  waits_now journal entry is = subst (AllWait (Spares name)) (sym (opened_waits (is_command entry.asked) (not (is_client entry.actor)) entry.session (state_at plan journal))) is.waits

  called_spares : (journal : List Entry) (entry : Entry) → IsFollowed plan journal entry → (request : Request) → entry.asked ≡ Call request → Spares name (Some request)
  called_spares journal entry followed request asks =
      given_spares plan journal name entry.actor request off (subst (IsGiven plan journal entry) asks followed.given)

  asked_spares : (journal : List Entry) (entry : Entry) → IsFollowed plan journal entry → Spared name plan journal → Spares name (asked_in (state_at plan journal) entry)
  asked_spares journal entry followed is =
      about_so (Spares name) (opens entry (state_at plan journal)) entry.session entry.asked (none_spares name) (called_spares journal entry followed) (waits_now journal entry is)

  spared_more : (journal : List Entry) (entry : Entry) → IsRun plan journal entry → Spared name plan journal → Spared name plan (journal ++ entry ∷ [])
  spared_more journal entry run is =
      let after = state_more (opening plan) journal entry in
      record {
        waits = subst (λ (s : State). AllWait (Spares name) s.waiting) (sym after)
            (left_waits (Spares name) entry.side (opens entry (state_at plan journal)) entry.session entry.asked (called_spares journal entry run.followed) (waits_now journal entry is));
        same = ap (λ (s : State). schema_of name s.tables) after ∙ schema_stays name (state_at plan journal) entry run.answered (asked_spares journal entry run.followed is) ∙ is.same;
      }

  spared_begins : Spared name plan []
  unfolding state_after
  spared_begins = record { waits = tt; same = refl }

  all_spared : (journal : List Entry) → IsKept plan journal → Spared name plan journal
  unfolding Follows
  all_spared journal kept = Along-keeps (IsRun plan) (Spared name plan) spared_more [] journal (all_runs plan [] journal kept.faithful kept.follows) spared_begins

  module _ (schema : Schema) (place : ℕ) (auto : auto_place schema ≡ Some place) (counts : CountsIn schema place) where
    -- the turn comes early enough
    abbrev Early : List Entry → Entry → Type 0
    Early journal entry = IsRun plan journal entry × (length journal < 9223372036854775807)

    abbrev Both : List Entry → Type 0
    Both journal = Spared name plan journal × Keeps name schema place (length journal) (state_at plan journal) (draws_on plan journal name)

    early : (before journal : List Entry) → length (before ++ journal) < 9223372036854775807 → Along (IsRun plan) before journal → Along Early before journal
    early before [] less run = tt
    early before (entry ∷ journal) less run =
        ((run.0, fewer before (entry ∷ journal) less), early (before ++ entry ∷ []) journal (subst (λ (l : List Entry). length l < 9223372036854775807) (sym (append_assoc before (entry ∷ []) journal)) less) run.1) where
          fewer : (one two : List Entry) → length (one ++ two) < 9223372036854775807 → length one < 9223372036854775807
          fewer one two less = let both = length-append one two in omega (arith, both, less)

    both_more : (journal : List Entry) (entry : Entry) → Early journal entry → Both journal → Both (journal ++ entry ∷ [])
    unfolding draws_on
    both_more journal entry turn is =
        let after = state_more (opening plan) journal entry in
        let one : Keeps name schema place (length journal + 1) (after_entry (state_at plan journal) entry) (draws_on plan journal name ++ drawn_from entry.draw name (asked_in (state_at plan journal) entry)) =
        keeps_more name (state_at plan journal) entry turn.0.answered (asked_spares journal entry turn.0.followed is.0) schema place auto counts (length journal) turn.1 (draws_on plan journal name) is.1 in (
          spared_more journal entry turn.0 is.0,
          subst (λ (n : ℕ). Keeps name schema place n (state_at plan (journal ++ entry ∷ [])) (draws_on plan (journal ++ entry ∷ []) name)) (sym (length-append journal (entry ∷ [])))
              (subst (λ (l : List ℕ). Keeps name schema place (length journal + 1) (state_at plan (journal ++ entry ∷ [])) l) (sym (gathered-more (λ before entry. drawn_from entry.draw name (asked_in (state_at plan before) entry)) [] journal entry))
              (subst (λ (s : State). Keeps name schema place (length journal + 1) s (draws_on plan journal name ++ drawn_from entry.draw name (asked_in (state_at plan journal) entry))) (sym after) one)),
        )

    both_begins : (table : TableRows) → find_table name plan.tables ≡ Some table → table.schema ≡ schema → StartsWell table place → Both []
    both_begins table is same well = (spared_begins, keeps_begins name schema place auto plan table is same well)

    all_both : (journal : List Entry) → IsKept plan journal → length journal < 9223372036854775807 → (table : TableRows) → find_table name plan.tables ≡ Some table → table.schema ≡ schema → StartsWell table place → Both journal
    unfolding Follows
    all_both journal kept less table is same well = Along-keeps Early Both both_more [] journal (early [] journal less (all_runs plan [] journal kept.faithful kept.follows)) (both_begins table is same well)

-- WHAT IS DRAWN

client_of : (actor : Bool) (found : Option Session) → option_map (λ (s : Session). s.is_tool) found ≡ Some (not actor) → is_of_tool found ≡ false → actor ≡ true
client_of actor None kind off = absurd cc
client_of true (Some session) kind off = refl
client_of false (Some session) kind off = let is : session.is_tool ≡ true = cc in absurd (true≢false (sym is ∙ off))

schema_found : (found : Option TableRows) (schema : Schema) → option_map (λ t. t.schema) found ≡ Some schema → (table : TableRows) × (found ≡ Some table) × (table.schema ≡ schema)
schema_found None schema is = absurd cc
schema_found (Some table) schema is = (table, refl, cc)

called_so : (state : State) (entry : Entry) (statement : Statement) → asked_in state entry ≡ Some (requests.Do statement) → is_command entry.asked ≡ false
called_so state entry statement is = by entry.asked is where
  by : (asked : Asked) → asks_for (opens entry state) entry.session asked ≡ Some (requests.Do statement) → is_command asked ≡ false
  by (Call request) is = refl
  by Poll is = refl
  by Cut is = refl
  by (Command word) is = absurd cc

drawn_in_side : (state : State) (entry : Entry) (statement : Statement) (number : ℕ) (side : Option Side) → asked_in state entry ≡ Some (requests.Do statement) → drawn_side side (opens entry state) entry.session entry.asked ≡ Some number
    → Offers (is_of_tool (session_of entry.session (opens entry state).sessions)) (find_table (table_of statement) (opens entry state).tables)
drawn_in_side state entry statement number (Some Before) asks drew = absurd cc
drawn_in_side state entry statement number None asks drew =
    offers_drawn (opens entry state) entry.session statement (serves (opens entry state) entry.session entry.asked).answer number
    (ap (λ (r : Option Request). drawn_by (opens entry state) entry.session r (serves (opens entry state) entry.session entry.asked).answer) (sym asks) ∙ drew)
drawn_in_side state entry statement number (Some After) asks drew =
    offers_drawn (opens entry state) entry.session statement (serves (opens entry state) entry.session entry.asked).answer number
    (ap (λ (r : Option Request). drawn_by (opens entry state) entry.session r (serves (opens entry state) entry.session entry.asked).answer) (sym asks) ∙ drew)

-- what is drawn is drawn by a statement
pub drawn_asks : (state : State) (entry : Entry) (number : ℕ) → IsAnswered state entry → entry.draw ≡ Some number → (statement : Statement) × (asked_in state entry ≡ Some (requests.Do statement))
drawn_asks state entry number answered drew = let one = turn_draws entry.side (opens entry state) entry.session entry.asked number (sym (reported_draw state entry answered) ∙ drew) in (one.0, one.1)

-- *What is drawn is a client's*: the tool's sessions draw nothing
pub drawn_by_client : (journal : List Entry) (state : State) (entry : Entry) (number : ℕ) → Living journal state → SessionsKnown journal → IsSeated journal entry → IsAnswered state entry → entry.draw ≡ Some number → is_client entry.actor ≡ true
drawn_by_client journal state entry number living known seated answered drew =
    let drawn = drawn_asks state entry number answered drew in
    client_of (is_client entry.actor) (session_of entry.session (opens entry state).sessions) (own_kind journal state entry living known (placed journal entry seated) answered (called_so state entry drawn.0 drawn.1))
    (drawn_in_side state entry drawn.0 number entry.side drawn.1 (sym (reported_draw state entry answered) ∙ drew)).client

-- *What a turn draws*: the table that it is of, and the counter
module _ (plan : PlanData) (journal : List Entry) (entry : Entry) (number : ℕ) (statement : Statement) (kept : IsKept plan journal) (answered : IsAnswered (state_at plan journal) entry) (followed : IsFollowed plan journal entry) (drew : entry.draw ≡ Some number) (asks : asked_in (state_at plan journal) entry ≡ Some (requests.Do statement)) where
  abbrev drawn_state : State
  drawn_state = state_at plan journal

  abbrev drawn_now : State
  drawn_now = opens entry drawn_state

  abbrev drawn_name : List ℕ
  drawn_name = table_of statement

  reported : drawn_side entry.side drawn_now entry.session entry.asked ≡ Some number
  reported = sym (reported_draw drawn_state entry answered) ∙ drew

  pub offers : Offers (is_of_tool (session_of entry.session drawn_now.sessions)) (find_table drawn_name drawn_now.tables)
  offers = drawn_in_side drawn_state entry statement number entry.side asks reported

  -- the table has an AUTO_INCREMENT column
  pub drawn_place : (schema : Schema) → schema_of drawn_name drawn_state.tables ≡ Some schema → (place : ℕ) × (auto_place schema ≡ Some place)
  drawn_place schema has =
      let both : Some schema ≡ Some offers.table.schema = sym has ∙ sym (ap (schema_of drawn_name) (opened_tables (is_command entry.asked) (not (is_client entry.actor)) entry.session drawn_state)) ∙ ap (option_map (λ t. t.schema)) offers.is in
      let same : schema ≡ offers.table.schema = cc in
      (offers.place, ap auto_place same ∙ offers.auto)

  pub drawn_schema : schema_of drawn_name drawn_state.tables ≡ Some offers.table.schema
  drawn_schema = sym (ap (schema_of drawn_name) (opened_tables (is_command entry.asked) (not (is_client entry.actor)) entry.session drawn_state)) ∙ ap (option_map (λ t. t.schema)) offers.is

  counter : next_of drawn_name drawn_state.counters ≡ Some number
  counter =
      let one = turn_draws entry.side drawn_now entry.session entry.asked number reported in
      let both : Some (requests.Do statement) ≡ Some (requests.Do one.0) = sym asks ∙ one.1 in
      let same : statement ≡ one.0 = cc in
      sym (ap (next_of drawn_name) (opened_counters (is_command entry.asked) (not (is_client entry.actor)) entry.session drawn_state)) ∙ ap (λ (s : Statement). next_of (table_of s) drawn_now.counters) same ∙ one.2

  -- it is a client's
  pub drawn_client : is_client entry.actor ≡ true
  drawn_client =
      drawn_by_client journal drawn_state entry number (all_living plan journal kept.faithful kept.sessions) (all_together plan journal kept.faithful kept.follows).known.sessions (record { session = followed.session }) answered drew

  -- *It is drawn so*, where so much is kept of its table
  pub keeps_drawn : length journal < 9223372036854775807 → (schema : Schema) (place : ℕ) → auto_place schema ≡ Some place → Keeps drawn_name schema place (length journal) drawn_state (draws_on plan journal drawn_name) → IsDrawn plan journal entry number
  keeps_drawn few schema place auto keeps =
      let both : Some keeps.next ≡ Some number = sym keeps.counter ∙ counter in
      let same : keeps.next ≡ number = cc in
      let small = keeps.small in
      record {
        own = drawn_client;
        statement = statement;
        asked = asks;
        counter = counter;
        rises = subst (λ (n : ℕ). AllByRecursion (λ earlier. earlier < n) (draws_on plan journal drawn_name)) same keeps.under;
        above = subst (λ (n : ℕ). IsAbove drawn_name n drawn_state (find_table drawn_name drawn_state.tables)) same
            (above_all drawn_name schema place keeps.next drawn_state (find_table drawn_name drawn_state.tables) refl keeps.has auto (omega (arith, small, few)) keeps.below);
      }

-- *Other tables draw so*
pub other_tables_draw : OtherTablesDraw
other_tables_draw plan journal entry number statement may few kept answered followed drew asks off =
    let one = offers plan journal entry number statement kept answered followed drew asks in
    let here : schema_of name plan.tables ≡ Some one.table.schema = sym (all_spared name plan off journal kept).same ∙ drawn_schema plan journal entry number statement kept answered followed drew asks in
    let found = schema_found (find_table name plan.tables) one.table.schema here in
    let well : StartsWell found.0 one.place = table_well name plan.tables found.0 may found.1 one.place (ap auto_place found.2 ∙ one.auto) in
    let keeps : Keeps name one.table.schema one.place (length journal) (state_at plan journal) (draws_on plan journal name) =
    (all_both name plan off one.table.schema one.place one.auto (subst (λ (s : Schema). CountsIn s one.place) found.2 well.counts) journal kept few found.0 found.1 found.2 well).1 in
    keeps_drawn plan journal entry number statement kept answered followed drew asks few one.table.schema one.place one.auto keeps where
      name : List ℕ
      name = table_of statement
