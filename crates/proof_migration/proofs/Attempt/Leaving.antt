-- What CREATE, DROP and RENAME leave of the tables, by their answers.
use Rattle.server_model.specs.PlainServer.{recounted, counters_left}
use Rattle.std.proofs.Common.{◌≡◌, ℕ, Bool, true, false, cond, not, ◌||◌, List, [], ◌∷◌, ◌++◌, Option, Some, None, Ok, Err, refl, sym, ap, ◌∙◌, subst}
use Rattle.std.specs.Prelude.{is_some}
use Rattle.std.specs.Option.{option_map}
use Rattle.std.proofs.lemmas.Bool.{true≢false}
use Rattle.std.proofs.lemmas.Option.{same_Some}
use Rattle.base_values.specs.declared.gho_schema.schema.Schema.{Schema}
use Rattle.table_store.specs.Databases.{TableRows, Database, find_table, has_table, is_named, with_name, rename_tables}
use Rattle.base_script.specs.declared.actor.Side.{Side}
use Rattle.base_script.specs.declared.actor.Side.TheVariants.{Before, After}
use Rattle.server_model.specs.declared.answer.Answer.{Answer}
use Rattle.server_model.specs.declared.answer.Answer.TheVariants as answers
use Rattle.server_model.specs.declared.entry.Asked.{Asked}
use Rattle.server_model.specs.declared.entry.Asked.TheVariants.{Call, Poll, Command, Cut}
use Rattle.server_model.specs.declared.entry.Entry.{Entry}
use Rattle.server_model.specs.declared.request.Request.{Request}
use Rattle.server_model.specs.declared.request.Request.TheVariants as requests
use Rattle.server_model.specs.declared.session.Waiting.{Waiting}
use Rattle.server_model.specs.Effects.{created, dropped, renamed_or, defined, effect_unless, is_outside}
use Rattle.server_model.specs.Entries.{is_client, is_command}
use Rattle.server_model.specs.Blockers.{need, blocker}
use Rattle.server_model.specs.PlainServer.{Served, does, done, did, without_waiting, called_unless, calls, is_over, polled_over, polled_unless, polled_of, polls, loses, leaves, serves}
use Rattle.server_model.specs.Listings.{tables_shown}
use Rattle.server_model.specs.States.{State, session_of, is_in_transaction, view, waiting_of}
use Rattle.plan_data.specs.PlanData.{PlanData}
use Rattle.base_values.specs.ToolNames.{ghost_name, old_name}
use Rattle.tool_program.specs.JournalWords.Histories.{answer_in}
use Rattle.tool_program.specs.JournalWords.Journals.{opens, state_at}
use Rattle.tool_program.specs.CutoverCore.Attempts.{exchange}
use Rattle.proof_journals.specs.Holdings.{face_in}
use Rattle.proof_journals.specs.Turns.{inner, missed_at, request_of}
use Rattle.proof_journals.proofs.Joined.{reported_missed}
use Rattle.proof_journals.proofs.Journals.{opened_waits}
use Rattle.proof_journals.proofs.Moves.{renamed_other, renamed_old, gone_none, found_has}
use Rattle.server_model.proofs.LockedRows.Tests.{same_bytes, turned_bytes}
use Rattle.tool_program.proofs.OnlineCalls.Naming.{not_ghost, not_old}
use Rattle.proof_journals.specs.Machine.Standings.{Standing, standing_of, IsAbout, is_called, is_polled}
use Rattle.proof_journals.specs.Machine.MigrationTables.{schema_of}
use Rattle.proof_journals.proofs.Machine.Marks.{ghost_not_old}
use Rattle.proof_journals.proofs.Machine.Schemas.{new_found}
use Rattle.proof_journals.proofs.Machine.Seated.{IsKnown, IsServed, IsOpen, is_open, state_more, own_waiting, own_given, own_missed}
use Rattle.proof_migration.proofs.ToolPhase.Hearing.{IsFoundBy, opened_tables}
use Rattle.proof_migration.proofs.ToolPhase.CopyAnswers.{not_outside}

-- NAMES THAT STAND

pub has_is : (name : List ℕ) (tables : Database) → has_table name tables ≡ is_some (schema_of name tables)
has_is name [] = refl
has_is name (table ∷ tables) = by (is_named name table) (has_is name tables) where
  by : (b : Bool) → has_table name tables ≡ is_some (schema_of name tables) → (b || has_table name tables) ≡ is_some (option_map (λ t. t.schema) (cond b (Some table) (find_table name tables)))
  by true rest = refl
  by false rest = rest

pub stands_has : (name : List ℕ) (tables : Database) (schema : Schema) → schema_of name tables ≡ Some schema → has_table name tables ≡ true
stands_has name tables schema is = has_is name tables ∙ ap is_some is

pub none_has : (name : List ℕ) (tables : Database) → schema_of name tables ≡ None → has_table name tables ≡ false
none_has name tables is = has_is name tables ∙ ap is_some is

-- WHAT IS LEFT, BY THE ANSWER

-- each schema stays
abbrev pub AllStay : Database → Database → Type 0
AllStay before after = (name : List ℕ) → schema_of name after ≡ schema_of name before

-- CREATE: the table stands; else all is as it was, and a refusal comes only where a table of the name stands
abbrev pub CreateLeaves : Schema → Database → Answer → Database → Type 0
CreateLeaves schema before (answers.Ok count) after = schema_of schema.name after ≡ Some schema
CreateLeaves schema before (answers.Waits by) after = AllStay before after
CreateLeaves schema before (answers.TimedOut waited) after = AllStay before after
CreateLeaves schema before (answers.Refused number column) after = AllStay before after × (schema_of schema.name before ≡ None → ⊥)
CreateLeaves schema before answer after = ⊥

-- DROP: the table is gone; else all is as it was
abbrev pub DropLeaves : List ℕ → Database → Answer → Database → Type 0
DropLeaves name before (answers.Ok count) after = schema_of name after ≡ None
DropLeaves name before (answers.Waits by) after = AllStay before after
DropLeaves name before (answers.TimedOut waited) after = AllStay before after
DropLeaves name before (answers.Refused number column) after = AllStay before after
DropLeaves name before answer after = ⊥

-- both tables stand, and the name that the old one takes is free
pub record MayExchange (table : List ℕ) (tables : Database) : Type 0 where
  pub old : has_table table tables ≡ true
  pub ghost : has_table (ghost_name table) tables ≡ true
  pub free : has_table (old_name table) tables ≡ false

-- the RENAME: the new table's name is free; else all is as it was, and a refusal comes only where the tables can't be
-- exchanged
abbrev pub ExchangeLeaves : List ℕ → Database → Answer → Database → Type 0
ExchangeLeaves table before (answers.Ok count) after = schema_of (ghost_name table) after ≡ None
ExchangeLeaves table before (answers.Waits by) after = AllStay before after
ExchangeLeaves table before (answers.TimedOut waited) after = AllStay before after
ExchangeLeaves table before (answers.Refused number column) after = AllStay before after × (MayExchange table before → ⊥)
ExchangeLeaves table before answer after = ⊥

-- SHOW TABLES: the tables that stand
abbrev pub ShowLeaves : Database → Answer → Database → Type 0
ShowLeaves before (answers.Tables tables) after = tables ≡ tables_shown before
ShowLeaves before answer after = Unit {0}

-- WHAT IS DONE

abbrev Has : (Answer → Database → Type 0) → Served → Type 0
Has P served = P served.answer served.after.tables

create_done : (schema : Schema) (found : State) (number : ℕ) → is_outside (session_of number found.sessions) (requests.Create schema) ≡ false → Has (CreateLeaves schema found.tables) (done found number (requests.Create schema))
unfolding did
create_done schema found number inside =
    subst (λ (b : Bool). Has (CreateLeaves schema found.tables) (does (effect_unless b (is_in_transaction (session_of number found.sessions)) (view number found) found (requests.Create schema)) found number)) (sym inside) (by (has_table schema.name found.tables) refl) where
      by : (b : Bool) → has_table schema.name found.tables ≡ b → Has (CreateLeaves schema found.tables) (does (defined (created b schema found.tables)) found number)
      by true stands = ((λ name. refl), λ none. true≢false (sym stands ∙ none_has schema.name found.tables none))
      by false free = ap (option_map (λ t. t.schema)) (new_found schema.name found.tables (record { schema = schema; rows = [] }) free (same_bytes schema.name))

drop_done : (name : List ℕ) (found : State) (number : ℕ) → Has (DropLeaves name found.tables) (done found number (requests.Drop name))
unfolding did
drop_done name found number = at (is_outside (session_of number found.sessions) (requests.Drop name)) where
  by : (b : Bool) → Has (DropLeaves name found.tables) (does (defined (dropped b name found.tables)) found number)
  by true = ap (option_map (λ t. t.schema)) (gone_none name found.tables)
  by false = λ other. refl

  at : (b : Bool) → Has (DropLeaves name found.tables) (does (effect_unless b (is_in_transaction (session_of number found.sessions)) (view number found) found (requests.Drop name)) found number)
  at true = λ other. refl
  at false = by (has_table name found.tables)

show_done : (found : State) (number : ℕ) → Has (ShowLeaves found.tables) (done found number requests.ShowTables)
unfolding did
show_done found number = at (is_outside (session_of number found.sessions) requests.ShowTables) where
  at : (b : Bool) → Has (ShowLeaves found.tables) (does (effect_unless b (is_in_transaction (session_of number found.sessions)) (view number found) found requests.ShowTables) found number)
  at true = tt
  at false = refl

-- the two pairs, one after the other
exchange_does : (table : List ℕ) (found : State) (number : ℕ) → Has (ExchangeLeaves table found.tables) (does (defined (renamed_or (rename_tables (record { old = table; new = old_name table } ∷ record { old = ghost_name table; new = table } ∷ []) found.tables))) found number)
unfolding rename_tables
exchange_does table found number = first (has_table (old_name table) found.tables) refl (has_table table found.tables) refl where
  moved : Database
  moved = with_name table (old_name table) found.tables

  gone : has_table table moved ≡ false
  gone = found_has table moved (renamed_old table (old_name table) found.tables (turned_bytes table (old_name table) (not_old table)))

  ghost_there : find_table (ghost_name table) moved ≡ find_table (ghost_name table) found.tables
  ghost_there = renamed_other table (old_name table) (ghost_name table) found.tables (turned_bytes table (ghost_name table) (not_ghost table)) (ghost_not_old table)

  third : (b : Bool) → has_table (ghost_name table) moved ≡ b → Has (ExchangeLeaves table found.tables) (does (defined (renamed_or (cond b (Ok (with_name (ghost_name table) table moved)) (Err Rattle.table_store.specs.declared.renames.NotRenamed.TheVariants.Missing)))) found number)
  third true stands = ap (option_map (λ t. t.schema)) (renamed_old (ghost_name table) table moved (not_ghost table))
  third false none = ((λ name. refl), λ may. true≢false (sym may.ghost ∙ has_is (ghost_name table) found.tables ∙ ap (λ (t : Option TableRows). is_some (option_map (λ t. t.schema) t)) (sym ghost_there) ∙ sym (has_is (ghost_name table) moved) ∙ none))

  second : Has (ExchangeLeaves table found.tables)
      (does (defined (renamed_or (cond (has_table table moved) (Err Rattle.table_store.specs.declared.renames.NotRenamed.TheVariants.Exists) (cond (has_table (ghost_name table) moved) (Ok (with_name (ghost_name table) table moved)) (Err Rattle.table_store.specs.declared.renames.NotRenamed.TheVariants.Missing))))) found number)
  second = rw gone (third (has_table (ghost_name table) moved) refl)

  first : (a : Bool) → has_table (old_name table) found.tables ≡ a → (b : Bool) → has_table table found.tables ≡ b
      → Has (ExchangeLeaves table found.tables)
      (does (defined (renamed_or (cond a (Err Rattle.table_store.specs.declared.renames.NotRenamed.TheVariants.Exists) (cond b (rename_tables (record { old = ghost_name table; new = table } ∷ []) moved) (Err Rattle.table_store.specs.declared.renames.NotRenamed.TheVariants.Missing))))) found number)
  first true stands b is = ((λ name. refl), λ may. true≢false (sym stands ∙ may.free))
  first false free true is = second
  first false free false none = ((λ name. refl), λ may. true≢false (sym may.old ∙ none))

exchange_done : (table : List ℕ) (found : State) (number : ℕ) → is_outside (session_of number found.sessions) (exchange table) ≡ false → Has (ExchangeLeaves table found.tables) (done found number (exchange table))
unfolding did
exchange_done table found number inside =
    subst (λ (b : Bool). Has (ExchangeLeaves table found.tables) (does (effect_unless b (is_in_transaction (session_of number found.sessions)) (view number found) found (exchange table)) found number)) (sym inside) (exchange_does table found number)

-- ONE ENTRY

-- what holds of a wait and of a time-out, which leave the tables
pub record HoldsWaiting (P : Answer → Database → Type 0) (tables : Database) : Type 0 where
  pub waits : (by : ℕ) → P (answers.Waits by) tables
  pub timed : (waited : ℕ) → P (answers.TimedOut waited) tables

-- *What a turn leaves*: as its answer says; or the session was lost, before the request was done or after
pub data Left (P : Answer → Database → Type 0) (before : Database) (answer : Answer) (after : Database) : Type 0 where
  heard : P answer after → Left P before answer after
  lost : answer ≡ answers.Lost → AllStay before after → Left P before answer after
  missed : (inner : Answer) → answer ≡ answers.Lost → P inner after → Left P before answer after

module _ (P : Answer → Database → Type 0) (state : State) (number : ℕ) (request : Request) (undone : HoldsWaiting P state.tables) (each : (found : State) → IsFoundBy found state → Has P (done found number request)) where
  called_leaves : Has P (calls state number request)
  unfolding calls
  called_leaves = at (blocker state number (need state number request)) where
    at : (blocked : Option ℕ) → Has P (called_unless blocked state number request)
    at None = each state (record { tables = refl; sessions = refl })
    at (Some other) = undone.waits other

  polled_leaves : request_of (waiting_of number state.waiting) ≡ Some request → Has P (polls state number)
  unfolding polls
  polled_leaves waits = at (waiting_of number state.waiting) waits where
    over : (b : Bool) (other : ℕ) → Has P (polled_over b other state number)
    over true other = undone.timed _
    over false other = undone.waits other

    unless : (blocked : Option ℕ) → Has P (polled_unless blocked state number request)
    unless None = each (without_waiting number state) (record { tables = refl; sessions = refl })
    unless (Some other) = over (is_over state number) other

    at : (waiting : Option Waiting) → request_of waiting ≡ Some request → Has P (polled_of waiting state number)
    at None none = absurd cc
    at (Some waiting) same =
        let one : waiting.request ≡ request = cc in
        subst (λ (r : Request). Has P (polled_unless (blocker state number (need state number r)) state number r)) (sym one) (unless (blocker state number (need state number request)))

module _ (plan : PlanData) (journal : List Entry) (entry : Entry) (known : IsKnown plan journal) (served : IsServed plan journal entry) where
  abbrev before : Database
  before = (state_at plan journal).tables

  abbrev after : Database
  after = (state_at plan (journal ++ entry ∷ [])).tables

  abbrev open_now : State
  open_now = opens entry (state_at plan journal)

  same_open : open_now.tables ≡ before
  same_open = opened_tables plan journal entry

  served_left : (P : Answer → Database → Type 0) (request : Request) → IsAbout request (standing_of plan journal entry.actor) entry.asked → HoldsWaiting P before → ((found : State) → IsFoundBy found open_now → Has P (done found entry.session request))
      → Has P (serves open_now entry.session entry.asked)
  served_left P request about undone each = by about where
    undone_open : HoldsWaiting P open_now.tables
    undone_open = subst (HoldsWaiting P) (sym same_open) undone

    by : IsAbout request (standing_of plan journal entry.actor) entry.asked → Has P (serves open_now entry.session entry.asked)
    by (is_called same none) = subst (λ (a : Asked). Has P (serves open_now entry.session a)) (sym same) (called_leaves P open_now entry.session request undone_open each)
    by (is_polled same some) =
        let waits : request_of (waiting_of entry.session open_now.waiting) ≡ Some request =
        ap (λ (w : List Waiting). request_of (waiting_of entry.session w)) (opened_waits (is_command entry.asked) (not (is_client entry.actor)) entry.session (state_at plan journal)) ∙ own_waiting plan journal entry known served (ap is_command same) ∙ some in
        subst (λ (a : Asked). Has P (serves open_now entry.session a)) (sym same) (polled_leaves P open_now entry.session request undone_open each waits)

  following : (side : Option Side) → entry.side ≡ side → after ≡ (leaves side open_now entry.session entry.asked).tables
  following side at = ap (λ (s : State). s.tables) (state_more plan journal entry ∙ ap (λ (o : Option Side). recounted (counters_left o open_now entry.session entry.asked) (leaves o open_now entry.session entry.asked)) at)

  own_left : (P : Answer → Database → Type 0) (request : Request) → IsAbout request (standing_of plan journal entry.actor) entry.asked → HoldsWaiting P before
      → ((found : State) → IsFoundBy found open_now → Has P (done found entry.session request)) → Left P before entry.answer after
  unfolding loses
  own_left P request about undone each = by entry.side refl where
    served_so : Has P (serves open_now entry.session entry.asked)
    served_so = served_left P request about undone each

    by : (side : Option Side) → entry.side ≡ side → Left P before entry.answer after
    by None at = heard (subst (λ (a : Answer). P a after) (own_given plan journal entry known served at) (subst (P (serves open_now entry.session entry.asked).answer) (sym (following None at)) served_so))
    by (Some Before) at = lost (own_missed plan journal entry known served Before at) (λ name. ap (schema_of name) (following (Some Before) at ∙ same_open))
    by (Some After) at = missed (serves open_now entry.session entry.asked).answer (own_missed plan journal entry known served After at) (subst (P (serves open_now entry.session entry.asked).answer) (sym (following (Some After) at)) served_so)

  -- ... as the entry tells, also where its answer was missed
  reported_left : (P : Answer → Database → Type 0) (request : Request) → IsAbout request (standing_of plan journal entry.actor) entry.asked → HoldsWaiting P before → ((found : State) → IsFoundBy found open_now → Has P (done found entry.session request))
      → (reported : Answer) → answer_in entry.asked entry.side entry.answer entry.missed ≡ Some reported → P reported after
  unfolding loses
  reported_left P request about undone each reported tells = by entry.asked refl entry.side refl tells where
    served_so : Has P (serves open_now entry.session entry.asked)
    served_so = served_left P request about undone each

    heard_so : entry.side ≡ None → Some entry.answer ≡ Some reported → P reported after
    heard_so at is = subst (λ (a : Answer). P a after) (own_given plan journal entry known served at ∙ same_Some entry.answer reported is) (subst (P (serves open_now entry.session entry.asked).answer) (sym (following None at)) served_so)

    missed_so : entry.side ≡ Some After → entry.missed ≡ Some reported → P reported after
    missed_so at is =
        subst (λ (a : Answer). P a after)
        (same_Some (serves open_now entry.session entry.asked).answer reported
        (sym (reported_missed (state_at plan journal) entry served.answered ∙ ap (λ (side : Option Side). missed_at side (inner (state_at plan journal) entry)) at) ∙ is))
        (subst (P (serves open_now entry.session entry.asked).answer) (sym (following (Some After) at)) served_so)

    by : (asked : Asked) → entry.asked ≡ asked → (side : Option Side) → entry.side ≡ side → answer_in asked side entry.answer entry.missed ≡ Some reported → P reported after
    by Cut asks side at tells = absurd cc
    by (Call called) asks None at tells = heard_so at tells
    by (Call called) asks (Some Before) at tells = absurd cc
    by (Call called) asks (Some After) at tells = missed_so at tells
    by Poll asks None at tells = heard_so at tells
    by Poll asks (Some Before) at tells = absurd cc
    by Poll asks (Some After) at tells = missed_so at tells
    by (Command word) asks None at tells = heard_so at tells
    by (Command word) asks (Some Before) at tells = absurd cc
    by (Command word) asks (Some After) at tells = missed_so at tells

  called_so : (request : Request) → IsAbout request (standing_of plan journal entry.actor) entry.asked → is_command entry.asked ≡ false
  called_so request (is_called same none) = ap is_command same
  called_so request (is_polled same some) = ap is_command same

  -- a session that has locked nothing is refused nothing for that
  inside : (request : Request) → IsAbout request (standing_of plan journal entry.actor) entry.asked → (standing_of plan journal entry.actor).locked ≡ [] → (found : State) → IsFoundBy found open_now → is_outside (session_of entry.session found.sessions) request ≡ false
  inside request about unlocked found is =
      let opened_one : IsOpen plan journal entry known served = is_open plan journal entry known served (called_so request about) in
      ap (λ sessions. is_outside (session_of entry.session sessions) request) is.sessions
      ∙ not_outside (session_of entry.session open_now.sessions) request (ap (λ o. (face_in o).locked) opened_one.is ∙ ap (λ (s : Standing). s.locked) (sym opened_one.stands) ∙ unlocked)

  found_tables : (found : State) → IsFoundBy found open_now → found.tables ≡ before
  found_tables found is = is.tables ∙ same_open

  -- *CREATE*
  pub create_left : (schema : Schema) → IsAbout (requests.Create schema) (standing_of plan journal entry.actor) entry.asked → (standing_of plan journal entry.actor).locked ≡ [] → Left (CreateLeaves schema before) before entry.answer after
  create_left schema about unlocked =
      own_left (CreateLeaves schema before) (requests.Create schema) about (record { waits = λ by name. refl; timed = λ waited name. refl })
      (λ found is. subst (λ (t : Database). Has (CreateLeaves schema t) (done found entry.session (requests.Create schema))) (found_tables found is) (create_done schema found entry.session (inside (requests.Create schema) about unlocked found is)))

  -- *DROP*
  pub drop_left : (name : List ℕ) → IsAbout (requests.Drop name) (standing_of plan journal entry.actor) entry.asked → Left (DropLeaves name before) before entry.answer after
  drop_left name about =
      own_left (DropLeaves name before) (requests.Drop name) about (record { waits = λ by name. refl; timed = λ waited name. refl })
      (λ found is. subst (λ (t : Database). Has (DropLeaves name t) (done found entry.session (requests.Drop name))) (found_tables found is) (drop_done name found entry.session))

  -- *The RENAME*
  module _ (table : List ℕ) (about : IsAbout (exchange table) (standing_of plan journal entry.actor) entry.asked) (unlocked : (standing_of plan journal entry.actor).locked ≡ []) where
    exchange_each : (found : State) → IsFoundBy found open_now → Has (ExchangeLeaves table before) (done found entry.session (exchange table))
    exchange_each found is = subst (λ (t : Database). Has (ExchangeLeaves table t) (done found entry.session (exchange table))) (found_tables found is) (exchange_done table found entry.session (inside (exchange table) about unlocked found is))

    pub exchange_left : Left (ExchangeLeaves table before) before entry.answer after
    exchange_left = own_left (ExchangeLeaves table before) (exchange table) about (record { waits = λ by name. refl; timed = λ waited name. refl }) exchange_each

    -- where it was done the new table's name is free
    pub exchange_reported : (count : ℕ) → answer_in entry.asked entry.side entry.answer entry.missed ≡ Some (answers.Ok count) → schema_of (ghost_name table) after ≡ None
    exchange_reported count tells = reported_left (ExchangeLeaves table before) (exchange table) about (record { waits = λ by name. refl; timed = λ waited name. refl }) exchange_each (answers.Ok count) tells

  -- *SHOW TABLES*
  pub show_left : IsAbout requests.ShowTables (standing_of plan journal entry.actor) entry.asked → Left (ShowLeaves before) before entry.answer after
  show_left about =
      own_left (ShowLeaves before) requests.ShowTables about (record { waits = λ by. tt; timed = λ waited. tt })
      (λ found is. subst (λ (t : Database). Has (ShowLeaves t) (done found entry.session requests.ShowTables)) (found_tables found is) (show_done found entry.session))
