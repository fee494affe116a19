-- The keys that the server answers are of the migrated table's kinds.
use Rattle.server_model.proofs.Filling.{filled_case}
use Rattle.server_model.specs.States.{is_of_tool}
use Rattle.std.proofs.Common.{◌≡◌, ◌≤◌, ℕ, Bool, true, false, not, List, [], ◌∷◌, take, Option, Some, None, refl, sym, ap, ◌∙◌, subst}
use Rattle.std.specs.List.{AllByRecursion}
use Rattle.std.specs.Option.{option_map}
use Rattle.base_values.specs.declared.span.Span.{Span}
use Rattle.base_values.specs.declared.span.Bound.{Bound}
use Rattle.base_values.specs.declared.span.Bound.TheVariants.{Open, Closed, Free}
use Rattle.base_values.specs.declared.value.Value.{Value}
use Rattle.base_values.specs.StoredValues.{AreOfKinds}
use Rattle.base_values.specs.declared.gho_schema.schema.Schema.{Schema}
use Rattle.base_values.specs.GhoSchema.Rows.{key_places}
use Rattle.table_store.specs.Databases.{TableRows, find_table}
use Rattle.base_script.specs.declared.actor.Side.{Side}
use Rattle.server_model.specs.declared.answer.Answer.{Answer}
use Rattle.server_model.specs.declared.answer.Answer.TheVariants as answers
use Rattle.server_model.specs.declared.entry.Asked.{Asked}
use Rattle.server_model.specs.declared.entry.Entry.{Entry}
use Rattle.server_model.specs.declared.request.Request.{Request}
use Rattle.server_model.specs.declared.request.Request.TheVariants as requests
use Rattle.server_model.specs.declared.session.Waiting.{Waiting}
use Rattle.server_model.specs.Chunks.{keys_of, keys_in, ends_of, last_of, chunk_end, span_keys, end_key}
use Rattle.server_model.specs.Conditions.{key_kinds}
use Rattle.server_model.specs.Entries.{is_client, is_command}
use Rattle.server_model.specs.States.{State, session_of, is_in_transaction, view, waiting_of}
use Rattle.server_model.specs.Blockers.{need, need_within, blocker}
use Rattle.server_model.specs.Effects.{of_table, begins, effect_within, effect_unless, is_outside}
use Rattle.server_model.specs.PlainServer.{does, done, did, called_unless, calls, is_over, polled_over, polled_unless, polled_of, polls, serves, without_waiting}
use Rattle.server_model.specs.LockedRows.Coverage.{IsWellFormedTable}
use Rattle.server_model.specs.LockedRows.Databases.{WhereFound, IsWellFormedDatabase}
use Rattle.plan_data.specs.PlanData.{PlanData, old_schema}
use Rattle.tool_program.specs.JournalWords.Journals.{opens, state_at}
use Rattle.proof_journals.specs.Scenes.{Stored}
use Rattle.proof_journals.specs.Turns.{request_of}
use Rattle.proof_journals.proofs.Journals.{stored_opened, opened_waits}
use Rattle.proof_journals.specs.Machine.Standings.{standing_of, IsAbout, is_called, is_polled}
use Rattle.proof_journals.specs.Machine.MigrationTables.{schema_of}
use Rattle.proof_journals.specs.Machine.TableKeys.{IsKey, IsClosedKey, IsKeyed, AnswersKeys}
use Rattle.proof_journals.proofs.Machine.Seated.{IsKnown, IsServed, own_waiting, own_given, own_missed}
use Rattle.proof_journals.proofs.Machine.Keys.{AreKeys, table_keys, last_typed, end_typed, first_typed, chunk_typed}

-- an answer without keys
abbrev IsNoKeys : Answer → Type 0
IsNoKeys (answers.Ends range) = ⊥
IsNoKeys (answers.End end) = ⊥
IsNoKeys (answers.Keys keys end) = ⊥
IsNoKeys answer = Unit {0}

quiet_typed : (plan : PlanData) (request : Request) (answer : Answer) → IsNoKeys answer → AnswersKeys plan request answer
quiet_typed plan (requests.Ends table) (answers.Ends range) none = absurd none
quiet_typed plan (requests.Ends table) answer none = tt
quiet_typed plan (requests.ChunkEnd table low top size) (answers.End end) none = absurd none
quiet_typed plan (requests.ChunkEnd table low top size) answer none = tt
quiet_typed plan (requests.BeginSpan table span size) (answers.Keys keys end) none = absurd none
quiet_typed plan (requests.BeginSpan table span size) answer none = tt
quiet_typed plan request answer none = tt

-- the migrated table, as it is found
record IsFound (plan : PlanData) (table : TableRows) : Type 0 where
  schema : table.schema ≡ old_schema plan
  well_formed : IsWellFormedTable table

found_so : (plan : PlanData) (found : Option TableRows) (table : TableRows) → found ≡ Some table → option_map (λ t. t.schema) found ≡ Some (old_schema plan) → WhereFound IsWellFormedTable found → IsFound plan table
found_so plan None table is old well_formed = absurd cc
found_so plan (Some one) table is old well_formed =
    let same : one ≡ table = cc in
    let schema : one.schema ≡ old_schema plan = cc in
    subst (IsFound plan) same (record { schema = schema; well_formed = well_formed })

keys_of_plan : (plan : PlanData) (schema : Schema) (keys : List (List Value)) → schema ≡ old_schema plan → AreKeys schema keys → AllByRecursion (IsKey plan) keys
keys_of_plan plan schema keys same all = subst (λ (s : Schema). AreKeys s keys) same all

key_of_plan : (plan : PlanData) (schema : Schema) (key : List Value) → schema ≡ old_schema plan → AreOfKinds key (key_kinds schema) → IsKey plan key
key_of_plan plan schema key same is = subst (λ (s : Schema). AreOfKinds key (key_kinds s)) same is

key_of_table : (plan : PlanData) (schema : Schema) (key : List Value) → schema ≡ old_schema plan → IsKey plan key → AreOfKinds key (key_kinds schema)
key_of_table plan schema key same is = subst (λ (s : Schema). AreOfKinds key (key_kinds s)) (sym same) is

closed_end : (plan : PlanData) (end : Bound) → IsClosedKey plan end → IsKey plan (end_key end)
closed_end plan (Closed key) is = is
closed_end plan (Open key) is = absurd is
closed_end plan Free is = absurd is

module _ (plan : PlanData) (state : State) (number : ℕ) (old : schema_of plan.table state.tables ≡ Some (old_schema plan)) (well_formed : IsWellFormedDatabase state.tables) where
  found : (table : TableRows) → find_table plan.table state.tables ≡ Some table → IsFound plan table
  found table is = found_so plan (find_table plan.table state.tables) table is old (well_formed.each plan.table)

  ends_typed : (table : TableRows) → IsFound plan table → (keys : List (List Value)) → AreKeys table.schema keys → AnswersKeys plan (requests.Ends plan.table) (ends_of keys)
  ends_typed table is [] all = tt
  ends_typed table is (least ∷ keys) all = (key_of_plan plan table.schema least is.schema all.0, key_of_plan plan table.schema (last_of least keys) is.schema (last_typed table.schema least keys all.0 all.1))

  ends_at : AnswersKeys plan (requests.Ends plan.table) (of_table (find_table plan.table state.tables) (λ t. ends_of (keys_of (key_places t.schema) t.rows)))
  ends_at = by (find_table plan.table state.tables) refl where
    by : (one : Option TableRows) → find_table plan.table state.tables ≡ one → AnswersKeys plan (requests.Ends plan.table) (of_table one (λ t. ends_of (keys_of (key_places t.schema) t.rows)))
    by None is = tt
    by (Some table) is = ends_typed table (found table is) (keys_of (key_places table.schema) table.rows) (table_keys table (found table is).well_formed)

  end_at : (low : Bound) (top : List Value) (size : ℕ) → IsKey plan top → AnswersKeys plan (requests.ChunkEnd plan.table low top size) (of_table (find_table plan.table state.tables) (λ t. answers.End (chunk_end low top size t)))
  end_at low top size typed = by (find_table plan.table state.tables) refl where
    by : (one : Option TableRows) → find_table plan.table state.tables ≡ one → AnswersKeys plan (requests.ChunkEnd plan.table low top size) (of_table one (λ t. answers.End (chunk_end low top size t)))
    by None is = tt
    by (Some table) is = let one = found table is in key_of_plan plan table.schema (chunk_end low top size table) one.schema (end_typed table low top size one.well_formed (key_of_table plan table.schema top one.schema typed))

  keys_at : (span : Span) (size : ℕ) → 1 ≤ size → IsClosedKey plan span.high
      → AnswersKeys plan (requests.BeginSpan plan.table span size) (does (begins (find_table plan.table state.tables) span size (need_within (view number state) (requests.BeginSpan plan.table span size))) state number).answer
  unfolding span_keys
  keys_at span size some closed = by (find_table plan.table state.tables) refl where
    by : (one : Option TableRows) → find_table plan.table state.tables ≡ one → AnswersKeys plan (requests.BeginSpan plan.table span size) (does (begins one span size (need_within (view number state) (requests.BeginSpan plan.table span size))) state number).answer
    by None is = tt
    by (Some table) is =
        let one = found table is in (
          keys_of_plan plan table.schema (take size (keys_in span table)) one.schema (first_typed table span size one.well_formed),
          key_of_plan plan table.schema _ one.schema (chunk_typed table span size one.well_formed some (key_of_table plan table.schema (end_key span.high) one.schema (closed_end plan span.high closed))),
        )

  within_typed : (request : Request) → IsKeyed plan request → AnswersKeys plan request (does (effect_within (is_in_transaction (session_of number state.sessions)) (view number state) state request) state number).answer
  within_typed (requests.Ends table) keyed =
      subst (λ (t : List ℕ). AnswersKeys plan (requests.Ends t) (does (effect_within (is_in_transaction (session_of number state.sessions)) (view number state) state (requests.Ends t)) state number).answer) (sym keyed) ends_at
  within_typed (requests.ChunkEnd table low top size) keyed =
      subst (λ (t : List ℕ). AnswersKeys plan (requests.ChunkEnd t low top size) (does (effect_within (is_in_transaction (session_of number state.sessions)) (view number state) state (requests.ChunkEnd t low top size)) state number).answer) (sym keyed.0) (end_at low top size keyed.3)
  within_typed (requests.BeginSpan table span size) keyed =
      subst (λ (t : List ℕ). AnswersKeys plan (requests.BeginSpan t span size) (does (effect_within (is_in_transaction (session_of number state.sessions)) (view number state) state (requests.BeginSpan t span size)) state number).answer) (sym keyed.0) (keys_at span size keyed.1 keyed.3)
  within_typed request keyed = tt

  did_typed : (request : Request) → IsKeyed plan request → AnswersKeys plan request (did state number request).answer
  unfolding did
  did_typed request keyed = at (is_outside (session_of number state.sessions) request) where
    at : (b : Bool) → AnswersKeys plan request (does (effect_unless b (is_in_transaction (session_of number state.sessions)) (view number state) state request) state number).answer
    at true = quiet_typed plan request _ tt
    at false = within_typed request keyed

  done_typed : (request : Request) → IsKeyed plan request → AnswersKeys plan request (done state number request).answer
  done_typed request =
      filled_case (λ asked full. IsKeyed plan asked → AnswersKeys plan asked (did state number full).answer) did_typed (λ statement n keyed. tt)
      (is_of_tool (session_of number state.sessions)) state.tables state.counters request

-- behind a call and a poll
called_typed : (plan : PlanData) (state : State) (number : ℕ) (request : Request) → schema_of plan.table state.tables ≡ Some (old_schema plan) → IsWellFormedDatabase state.tables → IsKeyed plan request → AnswersKeys plan request (calls state number request).answer
unfolding calls
called_typed plan state number request old well_formed keyed = at (blocker state number (need state number request)) where
  at : (by : Option ℕ) → AnswersKeys plan request (called_unless by state number request).answer
  at None = done_typed plan state number old well_formed request keyed
  at (Some by) = quiet_typed plan request _ tt

polled_typed : (plan : PlanData) (state : State) (number : ℕ) (request : Request) → schema_of plan.table state.tables ≡ Some (old_schema plan) → IsWellFormedDatabase state.tables → IsKeyed plan request → request_of (waiting_of number state.waiting) ≡ Some request → AnswersKeys plan request (polls state number).answer
unfolding polls
polled_typed plan state number request old well_formed keyed waits = at (waiting_of number state.waiting) waits where
  over : (b : Bool) (by : ℕ) → AnswersKeys plan request (polled_over b by state number).answer
  over true by = quiet_typed plan request _ tt
  over false by = quiet_typed plan request _ tt

  unless : (by : Option ℕ) → AnswersKeys plan request (polled_unless by state number request).answer
  unless None = done_typed plan (without_waiting number state) number old well_formed request keyed
  unless (Some by) = over (is_over state number) by

  at : (waiting : Option Waiting) → request_of waiting ≡ Some request → AnswersKeys plan request (polled_of waiting state number).answer
  at None none = absurd cc
  at (Some waiting) same =
      let one : waiting.request ≡ request = cc in
      subst (λ (r : Request). AnswersKeys plan request (polled_unless (blocker state number (need state number r)) state number r).answer) (sym one) (unless (blocker state number (need state number request)))

-- *The keys of an entry's answer are of the kinds*
pub own_keys : (plan : PlanData) (journal : List Entry) (entry : Entry) (known : IsKnown plan journal) (served : IsServed plan journal entry) (request : Request) → IsAbout request (standing_of plan journal entry.actor) entry.asked → schema_of plan.table (state_at plan journal).tables ≡ Some (old_schema plan)
    → IsWellFormedDatabase (state_at plan journal).tables → IsKeyed plan request → AnswersKeys plan request entry.answer
own_keys plan journal entry known served request about old well_formed keyed = by entry.side refl where
  now : State
  now = state_at plan journal

  open_now : State
  open_now = opens entry now

  tables : open_now.tables ≡ now.tables
  tables = ap (λ (s : Stored). s.tables) (stored_opened (is_command entry.asked) (not (is_client entry.actor)) entry.session now)

  old_open : schema_of plan.table open_now.tables ≡ Some (old_schema plan)
  old_open = ap (schema_of plan.table) tables ∙ old

  well_formed_open : IsWellFormedDatabase open_now.tables
  well_formed_open = subst IsWellFormedDatabase (sym tables) well_formed

  served_typed : IsAbout request (standing_of plan journal entry.actor) entry.asked → AnswersKeys plan request (serves open_now entry.session entry.asked).answer
  served_typed (is_called same none) = subst (λ (a : Asked). AnswersKeys plan request (serves open_now entry.session a).answer) (sym same) (called_typed plan open_now entry.session request old_open well_formed_open keyed)
  served_typed (is_polled same some) =
      let waits : request_of (waiting_of entry.session open_now.waiting) ≡ Some request =
      ap (λ (w : List Waiting). request_of (waiting_of entry.session w)) (opened_waits (is_command entry.asked) (not (is_client entry.actor)) entry.session now) ∙ own_waiting plan journal entry known served (ap is_command same) ∙ some in
      subst (λ (a : Asked). AnswersKeys plan request (serves open_now entry.session a).answer) (sym same) (polled_typed plan open_now entry.session request old_open well_formed_open keyed waits)

  by : (side : Option Side) → entry.side ≡ side → AnswersKeys plan request entry.answer
  by (Some side) at_side = subst (AnswersKeys plan request) (sym (own_missed plan journal entry known served side at_side)) (quiet_typed plan request answers.Lost tt)
  by None no_side = subst (AnswersKeys plan request) (own_given plan journal entry known served no_side) (served_typed about)
