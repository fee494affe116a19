-- Which schema stands under a name: only CREATE, DROP and RENAME of that name change it.
use Rattle.server_model.proofs.Filling.{filled_case}
use Rattle.server_model.specs.States.{is_of_tool}
use Rattle.server_model.specs.Drawing.{numbered}
use Rattle.std.proofs.Common.{◌≡◌, ℕ, Bool, true, false, not, List, [], ◌∷◌, ◌++◌, cond, Option, Some, None, refl, sym, ap, ◌∙◌, subst}
use Rattle.std.specs.Option.{option_map}
use Rattle.std.specs.Str.{bytes_eq}
use Rattle.std.proofs.lemmas.Bool.{not-true, true≢false, false≢true}
use Rattle.base_values.specs.declared.event.RowEvent.{RowEvent}
use Rattle.base_values.specs.declared.event.Change.{Change}
use Rattle.base_values.specs.declared.gho_schema.schema.Schema.{Schema}
use Rattle.base_values.specs.declared.mysql_errors.TheConstants.{ER_TABLE_EXISTS_ERROR, ER_TABLE_NOT_LOCKED}
use Rattle.table_store.specs.Databases.{TableRows, Database, find_table, has_table, is_named, with_change}
use Rattle.base_script.specs.declared.actor.Side.{Side}
use Rattle.base_script.specs.declared.actor.Side.TheVariants.{Before, After}
use Rattle.server_model.specs.declared.answer.Answer.TheVariants as answers
use Rattle.server_model.specs.declared.entry.Asked.{Asked}
use Rattle.server_model.specs.declared.entry.Asked.TheVariants.{Call, Poll, Command, Cut}
use Rattle.server_model.specs.declared.entry.Entry.{Entry}
use Rattle.server_model.specs.declared.need.Need.{Need}
use Rattle.server_model.specs.declared.request.Request.{Request}
use Rattle.server_model.specs.declared.request.Request.TheVariants as requests
use Rattle.server_model.specs.declared.session.Waiting.{Waiting}
use Rattle.server_model.specs.declared.work.StatementResult.{StatementResult}
use Rattle.server_model.specs.Entries.{is_client, is_command}
use Rattle.server_model.specs.Operations.{statement_result, operation_result, copy_operation, after_events, change_table}
use Rattle.server_model.specs.States.{State, session_of, is_in_transaction, view, waiting_of, writes_of}
use Rattle.server_model.specs.Blockers.{need, need_within, blocker}
use Rattle.server_model.specs.Effects.{result_effect, begins, all_exist, locks_if, created, dropped, defined, effect_within, effect_unless, is_outside}
use Rattle.server_model.specs.PlainServer.{Served, does, done, did, called_unless, calls, is_over, polled_over, polled_unless, polled_of, polls, loses, leaves, serves, without_waiting}
use Rattle.plan_data.specs.PlanData.{PlanData}
use Rattle.tool_program.specs.JournalWords.Journals.{opens, state_at, may_lose}
use Rattle.proof_journals.specs.Scenes.{Stored}
use Rattle.proof_journals.specs.Turns.{request_of}
use Rattle.proof_journals.proofs.Journals.{stored_opened, opened_waits}
use Rattle.proof_journals.proofs.Moves.{after_other, drop_moves}
use Rattle.server_model.proofs.LockedRows.Finding.{change_if, found_after}
use Rattle.server_model.proofs.LockedRows.Tests.{same_bytes, nor_left, nor_right}
use Rattle.proof_journals.specs.Machine.MigrationTables.{schema_of}
use Rattle.proof_journals.specs.Machine.Standings.{standing_of, IsAbout, is_called, is_polled}
use Rattle.proof_journals.proofs.Machine.Seated.{IsServed, state_more}

-- the request leaves what stands under the name
abbrev pub keeps_table : List ℕ → Request → Bool
keeps_table name (requests.Create schema) = not (bytes_eq schema.name name)
keeps_table name (requests.Drop dropped) = not (bytes_eq name dropped)
keeps_table name (requests.Rename pairs) = false
keeps_table name request = true

-- it makes, drops and renames no table
abbrev pub is_quiet : Request → Bool
is_quiet (requests.Create schema) = false
is_quiet (requests.Drop name) = false
is_quiet (requests.Rename pairs) = false
is_quiet request = true

pub quiet_keeps : (name : List ℕ) (request : Request) → is_quiet request ≡ true → keeps_table name request ≡ true
quiet_keeps name (requests.Create schema) is = absurd (false≢true is)
quiet_keeps name (requests.Drop dropped) is = absurd (false≢true is)
quiet_keeps name (requests.Rename pairs) is = absurd (false≢true is)
quiet_keeps name requests.Begin is = refl
quiet_keeps name requests.Commit is = refl
quiet_keeps name requests.Rollback is = refl
quiet_keeps name (requests.Do statement) is = refl
quiet_keeps name (requests.Ends table) is = refl
quiet_keeps name (requests.ChunkEnd table low top size) is = refl
quiet_keeps name (requests.BeginSpan table span size) is = refl
quiet_keeps name (requests.CopyRow from into columns key) is = refl
quiet_keeps name (requests.LockTables names) is = refl
quiet_keeps name requests.Unlock is = refl
quiet_keeps name requests.LogEnd is = refl
quiet_keeps name (requests.ReadLog position limit tables) is = refl
quiet_keeps name requests.ShowTables is = refl
quiet_keeps name requests.ShowWaiting is = refl
quiet_keeps name (requests.ShowCounter table) is = refl
quiet_keeps name (requests.SetCounter table least) is = refl

-- EVENTS

schema_event : (name : List ℕ) (event : List ℕ) (change : Change) (tables : Database) → schema_of name (with_change event (change_table change) tables) ≡ schema_of name tables
schema_event name event change tables = ap (option_map (λ table. table.schema)) (found_after event name change tables) ∙ by (bytes_eq event name) (find_table name tables) where
  by : (b : Bool) (found : Option TableRows) → option_map (λ table. table.schema) (change_if b change found) ≡ option_map (λ table. table.schema) found
  by true None = refl
  by true (Some table) = refl
  by false found = refl

pub schema_events : (name : List ℕ) (tables : Database) (events : List RowEvent) → schema_of name (after_events tables events) ≡ schema_of name tables
unfolding after_events
schema_events name tables [] = refl
schema_events name tables (event ∷ events) = schema_events name (with_change event.table (change_table event.change) tables) events ∙ schema_event name event.table event.change tables

-- WHAT IS DONE

-- it is as it was
abbrev Same : List ℕ → State → Served → Type 0
Same name state served = schema_of name served.after.tables ≡ schema_of name state.tables

resulted_same : (name : List ℕ) (state : State) (number : ℕ) (need : Need) (result : StatementResult) (busy : Bool) → Same name state (does (result_effect busy need result) state number)
resulted_same name state number need result true = refl
resulted_same name state number need result false = schema_events name state.tables (writes_of (session_of number state.sessions) ++ result.events)

created_keeps : (name : List ℕ) (schema : Schema) (state : State) (number : ℕ) → bytes_eq schema.name name ≡ false → (stands : Bool) → Same name state (does (defined (created stands schema state.tables)) state number)
created_keeps name schema state number off true = refl
created_keeps name schema state number off false = ap (option_map (λ table. table.schema)) (after_other name state.tables (record { schema = schema; rows = [] }) off)

dropped_keeps : (name dropped_name : List ℕ) (state : State) (number : ℕ) → bytes_eq name dropped_name ≡ false → (stands : Bool) → Same name state (does (defined (dropped stands dropped_name state.tables)) state number)
dropped_keeps name dropped_name state number off false = refl
dropped_keeps name dropped_name state number off true = ap (option_map (λ table. table.schema)) ((drop_moves dropped_name state.tables).others name (rw off refl))

within_same : (name : List ℕ) (state : State) (number : ℕ) (request : Request) → keeps_table name request ≡ true → Same name state (does (effect_within (is_in_transaction (session_of number state.sessions)) (view number state) state request) state number)
within_same name state number requests.Begin keeps = refl
within_same name state number requests.Commit keeps = schema_events name state.tables (writes_of (session_of number state.sessions) ++ [])
within_same name state number requests.Rollback keeps = refl
within_same name state number (requests.Do statement) keeps = resulted_same name state number (need_within (view number state) (requests.Do statement)) (statement_result (view number state) statement) (is_in_transaction (session_of number state.sessions))
within_same name state number (requests.Ends table) keeps = refl
within_same name state number (requests.ChunkEnd table low top size) keeps = refl
within_same name state number (requests.BeginSpan table span size) keeps = at (find_table table state.tables) where
  at : (found : Option TableRows) → Same name state (does (begins found span size (need_within (view number state) (requests.BeginSpan table span size))) state number)
  at None = refl
  at (Some t) = refl
within_same name state number (requests.CopyRow from into columns key) keeps =
    resulted_same name state number (need_within (view number state) (requests.CopyRow from into columns key)) (operation_result (view number state) (copy_operation (view number state) from into columns key)) (is_in_transaction (session_of number state.sessions))
within_same name state number (requests.LockTables names) keeps = at (all_exist names state.tables) where
  at : (b : Bool) → Same name state (does (locks_if b names) state number)
  at true = refl
  at false = refl
within_same name state number requests.Unlock keeps = refl
within_same name state number (requests.Create schema) keeps = created_keeps name schema state number (not-true (bytes_eq schema.name name) keeps) (has_table schema.name state.tables)
within_same name state number (requests.Drop dropped_name) keeps = dropped_keeps name dropped_name state number (not-true (bytes_eq name dropped_name) keeps) (has_table dropped_name state.tables)
within_same name state number (requests.Rename pairs) keeps = absurd (false≢true keeps)
within_same name state number requests.LogEnd keeps = refl
within_same name state number (requests.ReadLog position limit tables) keeps = refl
within_same name state number requests.ShowTables keeps = refl
within_same name state number requests.ShowWaiting keeps = refl
within_same name state number (requests.ShowCounter table) keeps = refl
within_same name state number (requests.SetCounter table least) keeps = refl

did_same : (name : List ℕ) (state : State) (number : ℕ) (request : Request) → keeps_table name request ≡ true → Same name state (did state number request)
unfolding did
did_same name state number request keeps = at (is_outside (session_of number state.sessions) request) where
  at : (b : Bool) → Same name state (does (effect_unless b (is_in_transaction (session_of number state.sessions)) (view number state) state request) state number)
  at true = refl
  at false = within_same name state number request keeps

done_same : (name : List ℕ) (state : State) (number : ℕ) (request : Request) → keeps_table name request ≡ true → Same name state (done state number request)
done_same name state number request =
    filled_case (λ asked full. keeps_table name asked ≡ true → Same name state (did state number full)) (did_same name state number) (λ statement n keeps. did_same name state number (requests.Do (numbered n statement)) keeps)
    (is_of_tool (session_of number state.sessions)) state.tables state.counters request

pub called_same : (name : List ℕ) (state : State) (number : ℕ) (request : Request) → keeps_table name request ≡ true → Same name state (calls state number request)
unfolding calls
called_same name state number request keeps = at (blocker state number (need state number request)) where
  at : (by : Option ℕ) → Same name state (called_unless by state number request)
  at None = done_same name state number request keeps
  at (Some by) = refl

pub polled_same : (name : List ℕ) (state : State) (number : ℕ) (request : Request) → request_of (waiting_of number state.waiting) ≡ Some request → keeps_table name request ≡ true → Same name state (polls state number)
unfolding polls
polled_same name state number request waits keeps = at (waiting_of number state.waiting) waits where
  over : (b : Bool) (by : ℕ) → Same name state (polled_over b by state number)
  over true by = refl
  over false by = refl

  unless : (by : Option ℕ) → Same name state (polled_unless by state number request)
  unless None = done_same name (without_waiting number state) number request keeps
  unless (Some by) = over (is_over state number) by

  at : (waiting : Option Waiting) → request_of waiting ≡ Some request → Same name state (polled_of waiting state number)
  at None none = absurd cc
  at (Some waiting) same = let one : waiting.request ≡ request = cc in subst (λ (r : Request). Same name state (polled_unless (blocker state number (need state number r)) state number r)) (sym one) (unless (blocker state number (need state number request)))

-- A NEW TABLE

pub new_found : (name : List ℕ) (tables : Database) (new : TableRows) → has_table name tables ≡ false → is_named name new ≡ true → find_table name (tables ++ new ∷ []) ≡ Some new
new_found name [] new none is = rw is refl
new_found name (table ∷ tables) new none is = at (is_named name table) refl (new_found name tables new (nor_right (is_named name table) (has_table name tables) none) is) where
  at : (b : Bool) → is_named name table ≡ b → find_table name (tables ++ new ∷ []) ≡ Some new → cond b (Some table) (find_table name (tables ++ new ∷ [])) ≡ Some new
  at true named rest = absurd (true≢false (sym named ∙ nor_left (is_named name table) (has_table name tables) none))
  at false named rest = rest

abbrev Made : Schema → Served → Type 0
Made schema served = (count : ℕ) → served.answer ≡ answers.Ok count → schema_of schema.name served.after.tables ≡ Some schema

created_stands : (schema : Schema) (state : State) (number : ℕ) (stands : Bool) → has_table schema.name state.tables ≡ stands → Made schema (does (defined (created stands schema state.tables)) state number)
created_stands schema state number true is count given = absurd (refusal given) where
  refusal : answers.Refused ER_TABLE_EXISTS_ERROR None ≡ answers.Ok count → ⊥
  refusal same = cc
created_stands schema state number false is count given = ap (option_map (λ table. table.schema)) (new_found schema.name state.tables (record { schema = schema; rows = [] }) is (same_bytes schema.name))

done_made : (schema : Schema) (state : State) (number : ℕ) → Made schema (done state number (requests.Create schema))
unfolding did
done_made schema state number = at (is_outside (session_of number state.sessions) (requests.Create schema)) where
  at : (b : Bool) → Made schema (does (effect_unless b (is_in_transaction (session_of number state.sessions)) (view number state) state (requests.Create schema)) state number)
  at true count given = absurd (refusal given) where
    refusal : answers.Refused ER_TABLE_NOT_LOCKED None ≡ answers.Ok count → ⊥
    refusal same = cc
  at false count given = created_stands schema state number (has_table schema.name state.tables) refl count given

called_made : (schema : Schema) (state : State) (number : ℕ) → Made schema (calls state number (requests.Create schema))
unfolding calls
called_made schema state number = at (blocker state number (need state number (requests.Create schema))) where
  at : (by : Option ℕ) → Made schema (called_unless by state number (requests.Create schema))
  at None count given = done_made schema state number count given
  at (Some by) count given = absurd (waits given) where
    waits : answers.Waits by ≡ answers.Ok count → ⊥
    waits same = cc

polled_made : (schema : Schema) (state : State) (number : ℕ) → request_of (waiting_of number state.waiting) ≡ Some (requests.Create schema) → Made schema (polls state number)
unfolding polls
polled_made schema state number waits = at (waiting_of number state.waiting) waits where
  over : (b : Bool) (by : ℕ) → Made schema (polled_over b by state number)
  over true by count given = absurd cc
  over false by count given = absurd cc

  unless : (by : Option ℕ) → Made schema (polled_unless by state number (requests.Create schema))
  unless None = done_made schema (without_waiting number state) number
  unless (Some by) = over (is_over state number) by

  at : (waiting : Option Waiting) → request_of waiting ≡ Some (requests.Create schema) → Made schema (polled_of waiting state number)
  at None none = absurd cc
  at (Some waiting) same =
      let one : waiting.request ≡ requests.Create schema = cc in
      subst (λ (r : Request). Made schema (polled_unless (blocker state number (need state number r)) state number r)) (sym one) (unless (blocker state number (need state number (requests.Create schema))))

-- ONE ENTRY

module _ (plan : PlanData) (journal : List Entry) (entry : Entry) (served : IsServed plan journal entry) (same_waits : is_command entry.asked ≡ false → request_of (waiting_of entry.session (state_at plan journal).waiting) ≡ (standing_of plan journal entry.actor).waits) where
  abbrev now : State
  now = state_at plan journal

  abbrev open_now : State
  open_now = opens entry now

  abbrev more : List Entry
  more = journal ++ entry ∷ []

  opened_tables : open_now.tables ≡ now.tables
  opened_tables = ap (λ (s : Stored). s.tables) (stored_opened (is_command entry.asked) (not (is_client entry.actor)) entry.session now)

  opened_request : is_command entry.asked ≡ false → request_of (waiting_of entry.session open_now.waiting) ≡ (standing_of plan journal entry.actor).waits
  opened_request called = ap (λ (w : List Waiting). request_of (waiting_of entry.session w)) (opened_waits (is_command entry.asked) (not (is_client entry.actor)) entry.session now) ∙ same_waits called

  served_same : (name : List ℕ) (request : Request) → IsAbout request (standing_of plan journal entry.actor) entry.asked → keeps_table name request ≡ true → Same name open_now (serves open_now entry.session entry.asked)
  served_same name request (is_called same none) keeps = subst (λ (a : Asked). Same name open_now (serves open_now entry.session a)) (sym same) (called_same name open_now entry.session request keeps)
  served_same name request (is_polled same some) keeps = subst (λ (a : Asked). Same name open_now (serves open_now entry.session a)) (sym same) (polled_same name open_now entry.session request (opened_request (ap is_command same) ∙ some) keeps)

  left_same : (name : List ℕ) (side : Option Side) (asked : Asked) → Same name open_now (serves open_now entry.session asked) → schema_of name (leaves side open_now entry.session asked).tables ≡ schema_of name open_now.tables
  unfolding loses
  left_same name None asked same = same
  left_same name (Some Before) asked same = refl
  left_same name (Some After) asked same = same

  -- *The schema under a name stays* where the request leaves it
  pub schema_stays : (name : List ℕ) (request : Request) → IsAbout request (standing_of plan journal entry.actor) entry.asked → keeps_table name request ≡ true → schema_of name (state_at plan more).tables ≡ schema_of name now.tables
  schema_stays name request about keeps =
      ap (λ (s : State). schema_of name s.tables) (state_more plan journal entry) ∙ left_same name entry.side entry.asked (served_same name request about keeps) ∙ ap (schema_of name) opened_tables

  quiet_same : (name : List ℕ) (asked : Asked) → may_lose asked ≡ false → Same name open_now (serves open_now entry.session asked)
  unfolding loses
  quiet_same name Cut is = refl
  quiet_same name (Command word) is = refl
  quiet_same name (Call request) is = absurd cc
  quiet_same name Poll is = absurd cc

  -- ... and at a command and a loss between calls
  pub schema_rests : (name : List ℕ) → may_lose entry.asked ≡ false → schema_of name (state_at plan more).tables ≡ schema_of name now.tables
  schema_rests name is = ap (λ (s : State). schema_of name s.tables) (state_more plan journal entry) ∙ left_same name entry.side entry.asked (quiet_same name entry.asked is) ∙ ap (schema_of name) opened_tables

  served_made : (schema : Schema) → IsAbout (requests.Create schema) (standing_of plan journal entry.actor) entry.asked → Made schema (serves open_now entry.session entry.asked)
  served_made schema (is_called same none) = subst (λ (a : Asked). Made schema (serves open_now entry.session a)) (sym same) (called_made schema open_now entry.session)
  served_made schema (is_polled same some) = subst (λ (a : Asked). Made schema (serves open_now entry.session a)) (sym same) (polled_made schema open_now entry.session (opened_request (ap is_command same) ∙ some))

  -- *A table that was made stands*
  pub schema_made : (schema : Schema) (count : ℕ) → IsAbout (requests.Create schema) (standing_of plan journal entry.actor) entry.asked → entry.side ≡ None → (serves open_now entry.session entry.asked).answer ≡ answers.Ok count → schema_of schema.name (state_at plan more).tables ≡ Some schema
  schema_made schema count about no_side given =
      ap (λ (s : State). schema_of schema.name s.tables) (state_more plan journal entry) ∙ ap (λ (side : Option Side). schema_of schema.name (leaves side open_now entry.session entry.asked).tables) no_side ∙ served_made schema about count given
