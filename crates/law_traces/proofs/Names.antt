-- The names of the tables that a run leaves, and of their columns, hold no line feed where those of the plan hold none: the tool makes names
-- from that of the migrated table, and clients make none.
use Rattle.std.proofs.Common.{codes, ◌≡◌, ℕ, ◌==◌, ◌&&◌, ◌||◌, Bool, true, false, not, cond, List, [], ◌∷◌, ◌++◌, Option, Some, None, Result, Ok, Err, refl, sym, subst, inl, inr}
use Rattle.std.specs.Prelude.{filter}
use Rattle.std.specs.List.{AllByRecursion, flat_map}
use Rattle.std.specs.Option.{IfSome, option_to_list}
use Rattle.std.specs.Result.{IfOk}
use Rattle.base_values.specs.declared.event.RowEvent.{RowEvent}
use Rattle.base_values.specs.ToolNames.{ghost_name, is_tool_name, log_name, old_name}
use Rattle.base_values.proofs.SchemaRules.Lists.{All-append, All-filter}
use Rattle.base_script.specs.declared.actor.Actor.{Actor}
use Rattle.base_script.specs.declared.actor.Actor.TheVariants.{Op, Insp, Copy, Apply, Lock, Ren, Client}
use Rattle.base_script.specs.declared.actor.Side.{Side}
use Rattle.base_script.specs.declared.actor.Side.TheVariants.{Before, After}
use Rattle.table_store.specs.Databases.{TableRows, Database, has_table, find_table, is_named, name_table, rename_tables, with_change, with_name}
use Rattle.table_store.specs.declared.renames.NotRenamed.{NotRenamed}
use Rattle.table_store.specs.declared.renames.NotRenamed.TheVariants.{Exists, Missing}
use Rattle.table_store.specs.declared.renames.Pair.{Pair}
use Rattle.server_model.specs.Along.{Along-keeps}
use Rattle.server_model.specs.declared.entry.Asked.{Asked}
use Rattle.server_model.specs.declared.entry.Asked.TheVariants.{Call, Poll, Command, Cut}
use Rattle.server_model.specs.declared.entry.Entry.{Entry}
use Rattle.server_model.specs.declared.need.Need.{Need}
use Rattle.server_model.specs.declared.request.Request.{Request}
use Rattle.server_model.specs.declared.request.Request.TheVariants as requests
use Rattle.server_model.specs.declared.session.Waiting.{Waiting}
use Rattle.server_model.specs.declared.work.StatementResult.{StatementResult}
use Rattle.server_model.specs.Blockers.{blocker, need, need_within}
use Rattle.server_model.specs.Drawing.{numbered}
use Rattle.server_model.specs.Effects.{Effect, Writes, Moves, all_exist, begins, created, defined, dropped, effect_unless, effect_within, is_outside, locks_if, renamed_or, result_effect}
use Rattle.server_model.specs.Entries.{is_client, is_command}
use Rattle.server_model.specs.Operations.{after_events, change_table, copy_operation, operation_result, statement_result}
use Rattle.server_model.specs.PlainServer.{called_unless, calls, did, does, done, is_over, leaves, loses, polled_of, polled_over, polled_unless, polls, serves, state_left, without_waiting}
use Rattle.server_model.specs.States.{State, connected, is_in_transaction, is_live, is_of_tool, session_of, view, waiting_of, writes_of}
use Rattle.server_model.proofs.Filling.{filled_case}
use Rattle.plan_data.specs.PlanData.{PlanData}
use Rattle.tool_changelog.specs.ToolTables.{log_schema, sentry_schema}
use Rattle.tool_program.specs.declared.cutover_core.cutover.Clearing.{Clearing}
use Rattle.tool_program.specs.declared.cutover_core.cutover.Clearing.TheVariants.{Looking, Drops}
use Rattle.tool_program.specs.declared.cutover_core.cutover.CutOver.{CutOver}
use Rattle.tool_program.specs.declared.cutover_core.cutover.Hold.{Hold}
use Rattle.tool_program.specs.declared.cutover_core.cutover.Hold.TheVariants as holds
use Rattle.tool_program.specs.declared.cutover_core.cutover.Phase.{Phase}
use Rattle.tool_program.specs.declared.cutover_core.cutover.Phase.TheVariants.{Resting, Attempting, Ending, Finishing, Finished}
use Rattle.tool_program.specs.declared.cutover_core.cutover.Role.TheVariants.{Inspector, Locker, Renamer}
use Rattle.tool_program.specs.declared.cutover_core.cutover.Stage.TheVariants.{Locking, Hinting, ReadingCounter, SettingCounter, Drained, Showing, Dropping, Unlocking}
use Rattle.tool_program.specs.CutoverCore.Attempts as attempts
use Rattle.tool_program.specs.CutoverCore.CutOvers.{is_resting}
use Rattle.tool_program.specs.JournalWords.Journals.{opens, opens_if, state_after, state_at}
use Rattle.tool_program.specs.JournalWords.Serials.{tables_left}
use Rattle.tool_program.specs.JournalWords.Sessions.{live_session}
use Rattle.tool_program.specs.Programs.{IsGiven, given, may_begin, tool_asks, tool_call, waits, calls as calls_of}
use Rattle.tool_program.specs.Setups.{Setup, Listing, Clearing as ClearingSetup, MakingLog, MakingGhost, Marking, Reaching, Ready, setup_call}
use Rattle.tool_program.specs.Tools.{Moment, ToolPhase, SettingUp, Migrating, is_reverting, moment}
use Rattle.tool_program.proofs.OnlineCalls.Machines.{ToolPhaseIsNamed, named}
use Rattle.proof_journals.specs.Machine.Runnable.{IsRunnable}
use Rattle.proof_journals.specs.Run.Kept.{IsKept}
use Rattle.proof_journals.proofs.Machine.Asking.{unless_called}
use Rattle.proof_journals.proofs.Machine.Inspecting.{inspects_or}
use Rattle.proof_journals.proofs.Machine.Polling.{AllTogether}
use Rattle.proof_journals.proofs.Machine.Schemas.{is_quiet}
use Rattle.proof_journals.proofs.Machine.Seated.{state_more}
use Rattle.proof_journals.proofs.Machine.Tabling.{given_quiet}
use Rattle.proof_migration.proofs.KeptJournals.{each_kept}
use Rattle.proof_migration.proofs.Program.Turns.Follows.{kept_front, kept_run}
use Rattle.proof_migration.proofs.ToolPhase.Unaltered.Away.{all_asked}
use Rattle.proof_plans.specs.ReadPlans.Laws.{ReadPlansAreRunnable}
use Rattle.proof_plans.specs.ReadPlans.Schemas.{IsAccepted, ReadPlansAreAccepted}
use Rattle.proof_plans.proofs.ReadPlans.Tables.{found_is}
use Rattle.law_texts.specs.PrintedTraces.{IsOneLine}
use Rattle.proof_audit.specs.Wholes.{IsWhole}
use Rattle.proof_audit.proofs.Serials.{whole_prefixes}
use Rattle.proof_audit.proofs.Wholes.{LastTurn, OfRun, OfTool, last_turn}
use Rattle.law_traces.proofs.NewTools.{CallsFor, ItsTurn, Loses, last_behind, names_nothing}
use Rattle.law_traces.specs.Printed.{HasOneLineNames, HasPlainNames, HaveOneLineNames, NamesAreOneLine}

-- ---- tables

changed_lines : (name : List ℕ) (change : TableRows → TableRows) (tables : Database) → ((table : TableRows) → HasOneLineNames table.schema → HasOneLineNames (change table).schema) → HaveOneLineNames tables → HaveOneLineNames (with_change name change tables)
changed_lines name change [] goes are = tt
changed_lines name change (table ∷ tables) goes are = (by (is_named name table), changed_lines name change tables goes are.1) where
  by : (b : Bool) → HasOneLineNames (cond b (change table) table).schema
  by true = goes table are.0
  by false = are.0

events_lines : (events : List RowEvent) (tables : Database) → HaveOneLineNames tables → HaveOneLineNames (after_events tables events)
unfolding after_events
events_lines [] tables are = are
events_lines (event ∷ events) tables are = events_lines events (with_change event.table (change_table event.change) tables) (changed_lines event.table (change_table event.change) tables (λ table is. is) are)

renamed_lines : (pairs : List Pair) (tables : Database) → AllByRecursion (λ (pair : Pair). IsOneLine pair.new) pairs → HaveOneLineNames tables → IfOk (rename_tables pairs tables) HaveOneLineNames
unfolding rename_tables
renamed_lines [] tables new are = are
renamed_lines (pair ∷ pairs) tables new are =
    by (has_table pair.new tables) (has_table pair.old tables) (renamed_lines pairs (with_name pair.old pair.new tables) new.1 (changed_lines pair.old (name_table pair.new) tables (λ table is. (new.0, is.1)) are)) where
      by : (exists stands : Bool) → IfOk (rename_tables pairs (with_name pair.old pair.new tables)) HaveOneLineNames → IfOk (cond exists (Err Exists) (cond stands (rename_tables pairs (with_name pair.old pair.new tables)) (Err Missing))) HaveOneLineNames
      by true stands rest = tt
      by false true rest = rest
      by false false rest = tt

-- ---- the server

-- the names that a request gives hold no line feed
abbrev GivesOneLine : Request → Type 0
GivesOneLine (requests.Create schema) = HasOneLineNames schema
GivesOneLine (requests.Rename pairs) = AllByRecursion (λ (pair : Pair). IsOneLine pair.new) pairs
GivesOneLine request = Unit {0}

abbrev WaitsOneLine : Waiting → Type 0
WaitsOneLine one = GivesOneLine one.request

record OneLineState (state : State) : Type 0 where
  tables : HaveOneLineNames state.tables
  waiting : AllByRecursion WaitsOneLine state.waiting

abbrev LeavesOneLine : Effect → Type 0
LeavesOneLine (Moves answer tables) = HaveOneLineNames tables
LeavesOneLine effect = Unit {0}

does_lines : (effect : Effect) (state : State) (number : ℕ) → OneLineState state → LeavesOneLine effect → OneLineState (does effect state number).after
does_lines (Moves answer tables) state number is leaves = record { tables = leaves; waiting = is.waiting }
does_lines (Writes answer events) state number is leaves = record { tables = events_lines (writes_of (session_of number state.sessions) ++ events) state.tables is.tables; waiting = is.waiting }
does_lines effect state number is leaves = record { tables = is.tables; waiting = is.waiting }

result_lines : (busy : Bool) (need : Need) (result : StatementResult) → LeavesOneLine (result_effect busy need result)
result_lines true need result = tt
result_lines false need result = tt

defined_lines : (moved : Result Database ℕ) → IfOk moved HaveOneLineNames → LeavesOneLine (defined moved)
defined_lines (Ok tables) are = are
defined_lines (Err number) are = tt

renames_lines : (renamed : Result Database NotRenamed) → IfOk renamed HaveOneLineNames → LeavesOneLine (defined (renamed_or renamed))
renames_lines (Ok tables) are = are
renames_lines (Err reason) are = tt

within_lines : (busy : Bool) (seen : Database) (state : State) (request : Request) → GivesOneLine request → HaveOneLineNames state.tables → LeavesOneLine (effect_within busy seen state request)
within_lines busy seen state (requests.Do statement) gives are = result_lines busy (need_within seen (requests.Do statement)) (statement_result seen statement)
within_lines busy seen state (requests.CopyRow from into columns key) gives are = result_lines busy (need_within seen (requests.CopyRow from into columns key)) (operation_result seen (copy_operation seen from into columns key))
within_lines busy seen state (requests.BeginSpan table span size) gives are = at (find_table table state.tables) where
  at : (found : Option TableRows) → LeavesOneLine (begins found span size (need_within seen (requests.BeginSpan table span size)))
  at None = tt
  at (Some t) = tt
within_lines busy seen state (requests.LockTables names) gives are = at (all_exist names state.tables) where
  at : (b : Bool) → LeavesOneLine (locks_if b names)
  at true = tt
  at false = tt
within_lines busy seen state (requests.Create schema) gives are = defined_lines (created (has_table schema.name state.tables) schema state.tables) (at (has_table schema.name state.tables)) where
  at : (b : Bool) → IfOk (created b schema state.tables) HaveOneLineNames
  at true = tt
  at false = All-append (λ (table : TableRows). HasOneLineNames table.schema) state.tables (record { schema = schema; rows = [] } ∷ []) are (gives, tt)
within_lines busy seen state (requests.Drop name) gives are = defined_lines (dropped (has_table name state.tables) name state.tables) (at (has_table name state.tables)) where
  at : (b : Bool) → IfOk (dropped b name state.tables) HaveOneLineNames
  at true = All-filter (λ (table : TableRows). HasOneLineNames table.schema) (λ table. not (is_named name table)) state.tables are
  at false = tt
within_lines busy seen state (requests.Rename pairs) gives are = renames_lines (rename_tables pairs state.tables) (renamed_lines pairs state.tables gives are)
within_lines busy seen state request gives are = tt

did_lines : (state : State) (number : ℕ) (request : Request) → GivesOneLine request → OneLineState state → OneLineState (did state number request).after
unfolding did
did_lines state number request gives is = does_lines _ state number is (at (is_outside (session_of number state.sessions) request)) where
  at : (b : Bool) → LeavesOneLine (effect_unless b (is_in_transaction (session_of number state.sessions)) (view number state) state request)
  at true = tt
  at false = within_lines (is_in_transaction (session_of number state.sessions)) (view number state) state request gives is.tables

done_lines : (state : State) (number : ℕ) (request : Request) → GivesOneLine request → OneLineState state → OneLineState (done state number request).after
done_lines state number =
    filled_case (λ asked full. GivesOneLine asked → OneLineState state → OneLineState (did state number full).after) (did_lines state number) (λ statement n gives. did_lines state number (requests.Do (numbered n statement)) tt)
    (is_of_tool (session_of number state.sessions)) state.tables state.counters

called_lines : (state : State) (number : ℕ) (request : Request) → GivesOneLine request → OneLineState state → OneLineState (calls state number request).after
unfolding calls
called_lines state number request gives is = at (blocker state number (need state number request)) where
  at : (by : Option ℕ) → OneLineState (called_unless by state number request).after
  at None = done_lines state number request gives is
  at (Some by) = record { tables = is.tables; waiting = All-append WaitsOneLine state.waiting (record { session = number; request = request } ∷ []) is.waiting (gives, tt) }

idle_lines : (number : ℕ) (state : State) → OneLineState state → OneLineState (without_waiting number state)
idle_lines number state is = record { tables = is.tables; waiting = All-filter WaitsOneLine (λ one. not (one.session == number)) state.waiting is.waiting }

lost_lines : (number : ℕ) (state : State) → OneLineState state → OneLineState (loses number state)
unfolding loses
lost_lines number state is = let idle = idle_lines number state is in record { tables = idle.tables; waiting = idle.waiting }

found_waiting : (number : ℕ) (waiting : List Waiting) → AllByRecursion WaitsOneLine waiting → IfSome (waiting_of number waiting) WaitsOneLine
found_waiting number [] all = tt
found_waiting number (one ∷ waiting) all = at (one.session == number) (found_waiting number waiting all.1) where
  at : (b : Bool) → IfSome (waiting_of number waiting) WaitsOneLine → IfSome (cond b (Some one) (waiting_of number waiting)) WaitsOneLine
  at true rest = all.0
  at false rest = rest

polled_lines : (state : State) (number : ℕ) → OneLineState state → OneLineState (polls state number).after
unfolding polls
polled_lines state number is = at (waiting_of number state.waiting) (found_waiting number state.waiting is.waiting) where
  over : (b : Bool) (by : ℕ) → OneLineState (polled_over b by state number).after
  over true by = let idle = idle_lines number state is in record { tables = idle.tables; waiting = idle.waiting }
  over false by = record { tables = is.tables; waiting = is.waiting }

  unless : (request : Request) (by : Option ℕ) → GivesOneLine request → OneLineState (polled_unless by state number request).after
  unless request None gives = done_lines (without_waiting number state) number request gives (idle_lines number state is)
  unless request (Some by) gives = over (is_over state number) by

  at : (waiting : Option Waiting) → IfSome waiting WaitsOneLine → OneLineState (polled_of waiting state number).after
  at None gives = is
  at (Some one) gives = unless one.request (blocker state number (need state number one.request)) gives

-- ---- a turn

abbrev AsksOneLine : Asked → Type 0
AsksOneLine (Call request) = GivesOneLine request
AsksOneLine asked = Unit {0}

served_lines : (state : State) (number : ℕ) (asked : Asked) → AsksOneLine asked → OneLineState state → OneLineState (serves state number asked).after
served_lines state number (Call request) gives is = called_lines state number request gives is
served_lines state number Poll gives is = polled_lines state number is
served_lines state number (Command word) gives is = is
served_lines state number Cut gives is = lost_lines number state is

after_lines : (side : Option Side) (state : State) (number : ℕ) (asked : Asked) → AsksOneLine asked → OneLineState state → OneLineState (state_left side state number asked)
after_lines side state number asked gives is = record { tables = (by side).tables; waiting = (by side).waiting } where
  by : (s : Option Side) → OneLineState (leaves s state number asked)
  by None = served_lines state number asked gives is
  by (Some Before) = lost_lines number state is
  by (Some After) = lost_lines number (serves state number asked).after (served_lines state number asked gives is)

opened_lines : (nothing tool : Bool) (number : ℕ) (state : State) → OneLineState state → OneLineState (opens_if nothing tool number state)
unfolding opens_if
opened_lines nothing tool number state is = by (nothing || is_live state number) where
  by : (b : Bool) → OneLineState (cond b state (connected number tool state))
  by true = is
  by false = record { tables = is.tables; waiting = is.waiting }

-- ---- the names of the tool's tables

one_name : (table suffix : List ℕ) → IsOneLine table → IsOneLine suffix → IsOneLine (codes "_" ++ table ++ suffix)
one_name table suffix one two = All-append (λ (byte : ℕ). (byte == 10) ≡ false) (codes "_" ++ table) suffix (All-append (λ (byte : ℕ). (byte == 10) ≡ false) (codes "_") table (refl, tt) one) two

ghost_line : (table : List ℕ) → IsOneLine table → IsOneLine (ghost_name table)
unfolding ghost_name
ghost_line table one = one_name table (codes "_gho") one (refl, (refl, (refl, (refl, tt))))

old_line : (table : List ℕ) → IsOneLine table → IsOneLine (old_name table)
unfolding old_name
old_line table one = one_name table (codes "_del") one (refl, (refl, (refl, (refl, tt))))

log_lines : (table : List ℕ) → IsOneLine table → HasOneLineNames (log_schema table)
unfolding log_schema log_name
log_lines table one = (one_name table (codes "_ghc") one (refl, (refl, (refl, (refl, tt)))), ((refl, (refl, tt)), ((refl, (refl, (refl, (refl, tt)))), ((refl, (refl, (refl, (refl, (refl, tt))))), tt))))

sentry_lines : (table : List ℕ) → IsOneLine table → HasOneLineNames (sentry_schema table)
unfolding sentry_schema
sentry_lines table one = (old_line table one, ((refl, (refl, tt)), tt))

-- ---- what is called

unless_lines : (b : Bool) (one two : Option Request) → IfSome one GivesOneLine → IfSome two GivesOneLine → IfSome (cond b one two) GivesOneLine
unless_lines true one two first second = first
unless_lines false one two first second = second

some_lines : (call : Option Request) (request : Request) → call ≡ Some request → IfSome call GivesOneLine → GivesOneLine request
some_lines call request is lines = subst (λ (c : Option Request). IfSome c GivesOneLine) is lines

quiet_lines : (request : Request) → is_quiet request ≡ true → GivesOneLine request
quiet_lines (requests.Create schema) is = absurd cc
quiet_lines (requests.Rename pairs) is = absurd cc
quiet_lines request is = tt

clears_lines : (table : List ℕ) (clearing : Clearing) → IfSome (attempts.clears table clearing) GivesOneLine
clears_lines table Looking = tt
clears_lines table (Drops left) = tt

inspector_lines : (cutover : CutOver) → IfSome (attempts.next Inspector cutover) GivesOneLine
unfolding attempts.next
inspector_lines cutover = by cutover.phase where
  by : (phase : Phase) → IfSome (attempts.inspector_call cutover phase) GivesOneLine
  by Resting = tt
  by (Attempting Hinting) = tt
  by (Attempting (ReadingCounter drain)) = tt
  by (Attempting (SettingCounter number drain)) = tt
  by (Attempting Showing) = tt
  by (Attempting stage) = tt
  by (Ending clearing) = unless_lines (attempts.is_free cutover.hold cutover.renamer_waits) (attempts.clears cutover.table clearing) None (clears_lines cutover.table clearing) tt
  by (Finishing clearing) = clears_lines cutover.table clearing
  by Finished = tt

locker_lines : (cutover : CutOver) → IsOneLine cutover.table → IfSome (attempts.next Locker cutover) GivesOneLine
unfolding attempts.next
locker_lines cutover one = by cutover.phase where
  frees : (hold : Hold) → IfSome (attempts.unlocks hold) GivesOneLine
  frees holds.Locks = tt
  frees hold = tt

  by : (phase : Phase) → IfSome (attempts.locker_call cutover phase) GivesOneLine
  by Resting = unless_lines cutover.is_stopped None (Some (requests.Create (sentry_schema cutover.table))) tt (sentry_lines cutover.table one)
  by (Attempting Locking) = tt
  by (Attempting Dropping) = tt
  by (Attempting Unlocking) = tt
  by (Attempting stage) = tt
  by (Ending clearing) = frees cutover.hold
  by (Finishing clearing) = tt
  by Finished = tt

renamer_lines : (cutover : CutOver) → IsOneLine cutover.table → IfSome (attempts.next Renamer cutover) GivesOneLine
unfolding attempts.next
renamer_lines cutover one = by cutover.phase where
  by : (phase : Phase) → IfSome (attempts.renamer_call cutover phase) GivesOneLine
  by (Attempting Drained) = (old_line cutover.table one, (one, tt))
  by phase = tt

module _ (plan : PlanData) (names : HasPlainNames plan) (own : IsOneLine plan.table) (journal : List Entry) where
  abbrev now : Moment
  now = moment plan journal

  setup_lines : (setup : Setup) → IfSome (setup_call plan setup) GivesOneLine
  setup_lines Listing = tt
  setup_lines (ClearingSetup left) = tt
  setup_lines MakingLog = log_lines plan.table own
  setup_lines MakingGhost = (ghost_line plan.table own, names.columns)
  setup_lines Marking = tt
  setup_lines (Reaching position) = tt
  setup_lines (Ready position range) = tt

  insp_lines : (phase : ToolPhase) (request : Request) → tool_call plan now.server journal now.tool phase Insp ≡ Some request → GivesOneLine request
  insp_lines (SettingUp setup tries) request is = some_lines (setup_call plan setup) request (unless_called (is_reverting now.tool.reason) (setup_call plan setup) request is) (setup_lines setup)
  insp_lines (Migrating work) request is =
      inspects_or plan journal now.tool work request (GivesOneLine request) is (λ note resting. subst GivesOneLine (sym note.is) tt) (λ next. some_lines (attempts.next Inspector work.cutover) request next (inspector_lines work.cutover))

  lock_lines : (phase : ToolPhase) (request : Request) → ToolPhaseIsNamed plan phase → tool_call plan now.server journal now.tool phase Lock ≡ Some request → GivesOneLine request
  lock_lines (SettingUp setup tries) request its is = absurd cc
  lock_lines (Migrating work) request its is =
      some_lines (attempts.next Locker work.cutover) request (unless_called (is_resting work.cutover.phase && not (may_begin plan now.server now.tool work)) (attempts.next Locker work.cutover) request is) (locker_lines work.cutover (subst IsOneLine (sym its.cutover) own))

  ren_lines : (phase : ToolPhase) (request : Request) → ToolPhaseIsNamed plan phase → tool_call plan now.server journal now.tool phase Ren ≡ Some request → GivesOneLine request
  ren_lines (SettingUp setup tries) request its is = absurd cc
  ren_lines (Migrating work) request its is = some_lines (attempts.next Renamer work.cutover) request is (renamer_lines work.cutover (subst IsOneLine (sym its.cutover) own))

  was_called : (actor : Actor) (request : Request) → tool_asks plan journal now actor ≡ Some (Call request) → tool_call plan now.server journal now.tool now.tool.tool_phase actor ≡ Some request
  was_called actor request asks = by (waits now.server (live_session journal actor)) (tool_call plan now.server journal now.tool now.tool.tool_phase actor) asks where
    by : (wait : Bool) (call : Option Request) → cond wait (Some Poll) (calls_of call) ≡ Some (Call request) → call ≡ Some request
    by true call is = absurd cc
    by false None is = absurd cc
    by false (Some one) is = cc

  given_lines : AllTogether plan journal → (actor : Actor) (request : Request) → given plan journal actor ≡ Some (Call request) → GivesOneLine request
  unfolding given
  given_lines all Insp request gives = insp_lines now.tool.tool_phase request (was_called Insp request gives)
  given_lines all Lock request gives = lock_lines now.tool.tool_phase request (named plan journal) (was_called Lock request gives)
  given_lines all Ren request gives = ren_lines now.tool.tool_phase request (named plan journal) (was_called Ren request gives)
  given_lines all Op request gives = quiet_lines request (given_quiet plan journal Op request all gives refl)
  given_lines all Copy request gives = quiet_lines request (given_quiet plan journal Copy request all gives refl)
  given_lines all Apply request gives = quiet_lines request (given_quiet plan journal Apply request all gives refl)
  given_lines all (Client c) request gives = quiet_lines request (given_quiet plan journal (Client c) request all gives refl)

-- ---- every journal

module _ (plan : PlanData) (names : HasPlainNames plan) (accepted : IsAccepted plan) (runs : IsRunnable plan) where
  migrated_line : IsOneLine plan.table
  migrated_line = let found = found_is (λ (table : TableRows). HasOneLineNames table.schema) plan.table plan.tables accepted.table names.tables accepted.found in subst IsOneLine found.named found.is.0

  lines_begin : OneLineState (state_at plan [])
  unfolding state_after
  lines_begin = record { tables = names.tables; waiting = tt }

  lines_more : (before : List Entry) (entry : Entry) → IsKept plan (before ++ entry ∷ []) → OneLineState (state_at plan before) → OneLineState (state_at plan (before ++ entry ∷ []))
  lines_more before entry kept is =
      subst OneLineState (sym (state_more plan before entry))
      (after_lines entry.side (opens entry (state_at plan before)) entry.session entry.asked (asks entry.asked (kept_run plan before entry kept).followed.given)
      (opened_lines (is_command entry.asked) (not (is_client entry.actor)) entry.session (state_at plan before) is)) where
        front : IsKept plan before
        front = kept_front plan before (entry ∷ []) kept

        asks : (asked : Asked) → IsGiven plan before entry asked → AsksOneLine asked
        asks (Call request) gives = given_lines plan names migrated_line before (all_asked plan before runs front.faithful front.follows).marking.tabled.all entry.actor request gives
        asks Poll gives = tt
        asks (Command word) gives = tt
        asks Cut gives = tt

  pub names_stay : (journal : List Entry) → IsKept plan journal → HaveOneLineNames (state_at plan journal).tables
  names_stay journal kept = (each_kept plan (λ some. OneLineState (state_at plan some)) lines_more journal kept lines_begin).tables

  -- ---- behind a run

  asks_lines : (entry : Entry) → ItsTurn plan entry → AsksOneLine entry.asked
  asks_lines entry (Loses cut) = subst AsksOneLine (sym cut) tt
  asks_lines entry (CallsFor request tool called (inl nothing)) = subst AsksOneLine (sym called) (by request nothing) where
    by : (one : Request) → names_nothing one ≡ true → GivesOneLine one
    by (requests.Create schema) is = absurd cc
    by (requests.Rename pairs) is = absurd cc
    by one is = tt
  asks_lines entry (CallsFor request tool called (inr exchange)) = subst AsksOneLine (sym called) (subst GivesOneLine (sym exchange) (old_line plan.table migrated_line, (migrated_line, tt)))

  behind_lines : (before : List Entry) (entry : Entry) → ItsTurn plan entry → OneLineState (state_at plan before) → OneLineState (state_at plan (before ++ entry ∷ []))
  behind_lines before entry its is =
      subst OneLineState (sym (state_more plan before entry))
      (after_lines entry.side (opens entry (state_at plan before)) entry.session entry.asked (asks_lines entry its) (opened_lines (is_command entry.asked) (not (is_client entry.actor)) entry.session (state_at plan before) is))

  pub wholes_stay : (journal : List Entry) → IsWhole plan journal → HaveOneLineNames (state_at plan journal).tables
  wholes_stay journal whole = (Along-keeps (λ some entry. IsWhole plan (some ++ entry ∷ [])) (λ some. OneLineState (state_at plan some)) step [] journal (whole_prefixes plan [] journal whole) lines_begin).tables where
    step : (before : List Entry) (entry : Entry) → IsWhole plan (before ++ entry ∷ []) → OneLineState (state_at plan before) → OneLineState (state_at plan (before ++ entry ∷ []))
    step before entry front is = by (last_turn plan before entry front) where
      by : LastTurn plan before entry → OneLineState (state_at plan (before ++ entry ∷ []))
      by (OfRun kept) = lines_more before entry kept is
      by (OfTool run turns same kept are) = behind_lines before entry (last_behind plan run turns entry are).its is

-- *Names are one line*
pub one_line : ReadPlansAreAccepted → ReadPlansAreRunnable → NamesAreOneLine
one_line accepted runnable bytes plan journal is text kept names = names_stay plan names (accepted bytes plan is) (runnable plan (record { bytes = bytes; is = is; text = text })) journal kept

-- ---- the tables that are printed

found_lines : (name : List ℕ) (tables : Database) (found : Option TableRows) → find_table name tables ≡ found → HaveOneLineNames tables → HaveOneLineNames (option_to_list found)
found_lines name tables None is are = tt
found_lines name tables (Some table) is are = ((found_is (λ (one : TableRows). HasOneLineNames one.schema) name tables table are is).is, tt)

pub left_lines : (plan : PlanData) (tables : Database) → HaveOneLineNames tables → HaveOneLineNames (tables_left plan tables)
unfolding tables_left
left_lines plan tables are = by (filter (λ table. not (is_tool_name plan.table table.schema.name)) plan.tables) where
  by : (some : Database) → HaveOneLineNames (flat_map (λ table. option_to_list (find_table table.schema.name tables)) some)
  by [] = tt
  by (table ∷ some) = All-append (λ (one : TableRows). HasOneLineNames one.schema) (option_to_list (find_table table.schema.name tables)) _ (found_lines table.schema.name tables (find_table table.schema.name tables) refl are) (by some)
