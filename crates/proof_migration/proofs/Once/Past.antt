-- Behind the RENAME the new table's name is free for good, so no RENAME is done again.
use Rattle.std.proofs.Common.{◌≡◌, ◌⊎◌, ◌+◌, ℕ, Bool, true, false, cond, not, List, [], ◌∷◌, ◌++◌, Option, Some, None, Ok, Err, refl, sym, ap, ◌∙◌, subst, inl, inr}
use Rattle.std.specs.List.{list_any}
use Rattle.std.specs.Option.{option_map}
use Rattle.std.specs.Str.{bytes_eq}
use Rattle.std.proofs.lemmas.Bool.{true≢false}
use Rattle.table_store.specs.Databases.{Database, TableRows, find_table, has_table, is_named, rename_tables, with_name, without_table, name_table}
use Rattle.table_store.specs.declared.renames.NotRenamed.TheVariants as reasons
use Rattle.table_store.specs.declared.renames.Pair.{Pair}
use Rattle.base_script.specs.declared.actor.Actor.{Actor}
use Rattle.base_script.specs.declared.actor.Actor.TheVariants.{Apply, Client, Copy, Insp, Lock, Op, Ren}
use Rattle.base_script.specs.declared.actor.Side.{Side}
use Rattle.base_script.specs.declared.actor.Side.TheVariants.{Before, After}
use Rattle.base_script.specs.declared.operator.OperatorWord.{OperatorWord}
use Rattle.server_model.specs.Effects.{effect_unless, defined, dropped, is_outside, renamed_or}
use Rattle.server_model.specs.Entries.{is_client, is_command, same_actor}
use Rattle.server_model.specs.Blockers.{blocker, need}
use Rattle.server_model.specs.PlainServer.{Served, called_unless, calls, does, done, did, is_over, leaves, loses, polled_of, polled_over, polled_unless, polls, serves, without_waiting}
use Rattle.server_model.specs.States.{State, is_in_transaction, session_of, view, waiting_of}
use Rattle.server_model.specs.declared.answer.Answer.{Answer}
use Rattle.server_model.specs.declared.answer.Answer.TheVariants as answers
use Rattle.server_model.specs.declared.entry.Asked.{Asked}
use Rattle.server_model.specs.declared.entry.Asked.TheVariants.{Call, Poll, Command, Cut}
use Rattle.server_model.specs.declared.entry.Entry.{Entry}
use Rattle.server_model.specs.declared.request.Request.{Request}
use Rattle.server_model.specs.declared.request.Request.TheVariants as requests
use Rattle.server_model.specs.declared.session.Waiting.{Waiting}
use Rattle.plan_data.specs.PlanData.{PlanData}
use Rattle.base_values.specs.ToolNames.{ghost_name, old_name}
use Rattle.tool_program.specs.CutoverCore.Attempts as cutovers
use Rattle.tool_program.specs.CutoverCore.Attempts.{clears, exchange, is_free}
use Rattle.tool_program.specs.declared.cutover_core.cutover.Clearing.{Clearing}
use Rattle.tool_program.specs.declared.cutover_core.cutover.Clearing.TheVariants.{Drops, Looking}
use Rattle.tool_program.specs.declared.cutover_core.cutover.CutOver.{CutOver}
use Rattle.tool_program.specs.declared.cutover_core.cutover.Phase.{Phase}
use Rattle.tool_program.specs.declared.cutover_core.cutover.Phase.TheVariants.{Attempting, Ending, Finished, Finishing, Resting}
use Rattle.tool_program.specs.declared.cutover_core.cutover.Stage.TheVariants.{Hinting, Showing, ReadingCounter, SettingCounter}
use Rattle.tool_program.specs.JournalWords.Histories as histories
use Rattle.tool_program.specs.JournalWords.Histories.{alters, entry_adds, is_alter, answer_in}
use Rattle.tool_program.specs.JournalWords.Journals.{may_lose, opens, state_at}
use Rattle.tool_program.specs.Programs.{IsGiven, given, inspect_call, tool_call}
use Rattle.tool_program.specs.Tools.{ToolPhase, Migrating, Moment, SettingUp, Tool, Work, is_reverting, moment, stopped}
use Rattle.tool_program.proofs.OnlineCalls.Machines.{ToolPhaseIsNamed, named}
use Rattle.tool_program.proofs.OnlineCalls.Naming.{not_ghost}
use Rattle.server_model.proofs.LockedRows.Tests.{turned_bytes}
use Rattle.proof_journals.specs.Plans.{IsSerialPlan, limits_of, scene_of}
use Rattle.proof_journals.specs.Scenes.{Stored}
use Rattle.proof_journals.specs.Turns.{IsReported, about, answer_at, missed_at, request_of, reported_at}
use Rattle.proof_journals.proofs.Machine.Inspecting.{inspects_or, inspector_called}
use Rattle.proof_journals.proofs.Actors.{same_actor_is}
use Rattle.proof_journals.proofs.Joined.{reported_answer, reported_missed, reported_draw}
use Rattle.proof_journals.proofs.Journals.{opened_waits, stored_opened}
use Rattle.proof_journals.proofs.Moves.{renamed_other, renamed_old, found_has, renamed_ok, renamed_new}
use Rattle.proof_journals.specs.ServerTurns.Others.{DefinitionsAreDone}
use Rattle.proof_journals.specs.Machine.Machines.{ToolPhaseStands, WorkStands, inspector_asks, inspector_waits}
use Rattle.proof_journals.specs.Machine.Runnable.{IsRunnable}
use Rattle.proof_journals.specs.Machine.Standings.{IsAbout, Standing, answered, free, is_called, is_polled, standing_of}
use Rattle.proof_journals.specs.Machine.MigrationTables.{schema_of}
use Rattle.proof_journals.proofs.Machine.Asking.{some_request, waits_asks}
use Rattle.proof_journals.proofs.Machine.Journals.{Asking, IsRun, IsTogether, asking, calls_so, has_now, lock_about, never_commands, polls_so, ren_about}
use Rattle.proof_journals.proofs.Machine.Marks.{ghost_not_old, locker_keeps}
use Rattle.proof_journals.proofs.Machine.Renaming.{renamed_or_stays}
use Rattle.proof_journals.proofs.Machine.Schemas.{keeps_table, schema_rests, schema_stays}
use Rattle.proof_journals.proofs.Machine.Seated.{IsServed, others_stand, own_lost, own_waiting, state_more}
use Rattle.proof_journals.proofs.Machine.Tabling.{Following, following, quiet_stay, rests, waits_on}
use Rattle.proof_migration.proofs.ToolPhase.Unaltered.Away.{IsKnownAsked, about_asked, tool_adds}
use Rattle.run_actors.proofs.AlterTurns.{of_client}
use Rattle.proof_migration.proofs.ToolPhase.ToolPhaseTurns.{AnswerKeeps, Kept, ResizeKeeps, TurnKeeps, UnfitKeeps, gives_asked, turn_kept}
use Rattle.proof_migration.proofs.Program.LockerTurns.Quiet.{CountsNone, Quiet, quiet_served}
use Rattle.proof_journals.proofs.Sentry.Serving.{exchanged}

-- NAMES

-- WHO MAKES A TABLE

abbrev pub makes : Request → Bool
makes (requests.Create schema) = true
makes request = false

-- behind the setup the inspector makes none
pub call_makes : (cutover : CutOver) (phase : Phase) (request : Request) → cutovers.inspector_call cutover phase ≡ Some request → makes request ≡ false
call_makes cutover phase request is = by phase is where
  NoMake : Request → Type 0
  NoMake r = makes r ≡ false

  clears_so : (clearing : Clearing) → clears cutover.table clearing ≡ Some request → makes request ≡ false
  clears_so Looking is = some_request NoMake _ request is refl
  clears_so (Drops left) is = some_request NoMake _ request is refl

  ends : (b : Bool) (clearing : Clearing) → cond b (clears cutover.table clearing) None ≡ Some request → makes request ≡ false
  ends true clearing is = clears_so clearing is
  ends false clearing is = absurd cc

  by : (phase : Phase) → cutovers.inspector_call cutover phase ≡ Some request → makes request ≡ false
  by (Attempting Hinting) is = some_request NoMake _ request is refl
  by (Attempting (ReadingCounter drain)) is = some_request NoMake _ request is refl
  by (Attempting (SettingCounter number drain)) is = some_request NoMake _ request is refl
  by (Attempting Showing) is = some_request NoMake _ request is refl
  by (Attempting stage) is = absurd cc
  by (Ending clearing) is = ends (is_free cutover.hold cutover.renamer_waits) clearing is
  by (Finishing clearing) is = clears_so clearing is
  by Resting is = absurd cc
  by Finished is = absurd cc

-- A NAME THAT IS FREE

abbrev IsFreeName : List ℕ → Database → Type 0
IsFreeName name tables = schema_of name tables ≡ None

none_found : (found : Option TableRows) → option_map (λ table. table.schema) found ≡ None → found ≡ None
none_found None is = refl
none_found (Some table) is = absurd cc

none_less : (name other : List ℕ) (tables : Database) → find_table name tables ≡ None → find_table name (without_table other tables) ≡ None
none_less name other [] none = refl
none_less name other (table ∷ tables) none = by (is_named name table) (bytes_eq table.schema.name other) refl none (none_less name other tables) where
  by : (a b : Bool) → is_named name table ≡ a → cond a (Some table) (find_table name tables) ≡ None → (find_table name tables ≡ None → find_table name (without_table other tables) ≡ None) → find_table name (cond (not b) (table ∷ without_table other tables) (without_table other tables)) ≡ None
  by true b is none rest = absurd cc
  by false true is none rest = rest none
  by false false is none rest = rw is (rest none)

-- a DROP leaves it free
abbrev StaysFree : List ℕ → Served → Type 0
StaysFree name served = IsFreeName name served.after.tables

module _ (name dropped_name : List ℕ) (state : State) (number : ℕ) (none : IsFreeName name state.tables) where
  drop_done : (w : List Waiting) → StaysFree name (done (record state { waiting = w }) number (requests.Drop dropped_name))
  unfolding did
  drop_done w = by (is_outside (session_of number state.sessions) (requests.Drop dropped_name)) where
    within : (b : Bool) → StaysFree name (does (defined (dropped b dropped_name state.tables)) (record state { waiting = w }) number)
    within true = ap (option_map (λ table. table.schema)) (none_less name dropped_name state.tables (none_found (find_table name state.tables) none))
    within false = none

    by : (outside : Bool) → StaysFree name (does (effect_unless outside (is_in_transaction (session_of number state.sessions)) (view number (record state { waiting = w })) (record state { waiting = w }) (requests.Drop dropped_name)) (record state { waiting = w }) number)
    by true = none
    by false = within (has_table dropped_name state.tables)

  drop_served : (asked : Asked) → about state number asked ≡ Some (requests.Drop dropped_name) → StaysFree name (serves state number asked)
  unfolding calls polls loses
  drop_served (Call called) asks = let same : called ≡ requests.Drop dropped_name = cc in subst (λ (r : Request). StaysFree name (called_unless (blocker state number (need state number r)) state number r)) (sym same) (by (blocker state number (need state number (requests.Drop dropped_name)))) where
    by : (blocked : Option ℕ) → StaysFree name (called_unless blocked state number (requests.Drop dropped_name))
    by None = drop_done state.waiting
    by (Some one) = none
  drop_served Poll asks = by (waiting_of number state.waiting) asks where
    over : (late : Bool) (one : ℕ) → StaysFree name (polled_over late one state number)
    over true one = none
    over false one = none

    unless : (blocked : Option ℕ) → StaysFree name (polled_unless blocked state number (requests.Drop dropped_name))
    unless None = drop_done (without_waiting number state).waiting
    unless (Some one) = over (is_over state number) one

    by : (waiting : Option Waiting) → request_of waiting ≡ Some (requests.Drop dropped_name) → StaysFree name (polled_of waiting state number)
    by None some = absurd cc
    by (Some waiting) some = let same : waiting.request ≡ requests.Drop dropped_name = cc in subst (λ (r : Request). StaysFree name (polled_unless (blocker state number (need state number r)) state number r)) (sym same) (unless (blocker state number (need state number (requests.Drop dropped_name))))
  drop_served (Command word) asks = absurd cc
  drop_served Cut asks = none

  drop_left : (side : Option Side) (asked : Asked) → about state number asked ≡ Some (requests.Drop dropped_name) → IsFreeName name (leaves side state number asked).tables
  unfolding loses
  drop_left None asked asks = drop_served asked asks
  drop_left (Some Before) asked asks = none
  drop_left (Some After) asked asks = drop_served asked asks

-- THE EXCHANGE

-- it needs the new table
exchange_needs : (t : List ℕ) (tables after : Database) → find_table (ghost_name t) tables ≡ None → rename_tables (exchanged t) tables ≡ Ok after → ⊥
unfolding rename_tables
exchange_needs t tables after none is = by (has_table (old_name t) tables) (has_table t tables) (has_table t moved) (has_table (ghost_name t) moved) free is where
  moved : Database
  moved = with_name t (old_name t) tables

  free : has_table (ghost_name t) moved ≡ false
  free = found_has (ghost_name t) moved (renamed_other t (old_name t) (ghost_name t) tables (turned_bytes t (ghost_name t) (not_ghost t)) (ghost_not_old t) ∙ none)

  by : (a b c d : Bool) → d ≡ false → cond a (Err reasons.Exists) (cond b (cond c (Err reasons.Exists) (cond d (Ok (with_name (ghost_name t) t moved)) (Err reasons.Missing))) (Err reasons.Missing)) ≡ Ok after → ⊥
  by true b c d off is = cc
  by false false c d off is = cc
  by false true true d off is = cc
  by false true false true off is = true≢false off
  by false true false false off is = cc

-- its second pair finds the new table, which has the migrated one's name after it
pub exchange_gives : (t : List ℕ) (tables after : Database) → rename_tables (exchanged t) tables ≡ Ok after → find_table t after ≡ option_map (name_table t) (find_table (ghost_name t) tables)
unfolding rename_tables
exchange_gives t tables after is = by (has_table (old_name t) tables) (has_table t tables) (has_table t moved) (has_table (ghost_name t) moved) refl is where
  moved : Database
  moved = with_name t (old_name t) tables

  by : (a b c d : Bool) → has_table t moved ≡ c → cond a (Err reasons.Exists) (cond b (cond c (Err reasons.Exists) (cond d (Ok (with_name (ghost_name t) t moved)) (Err reasons.Missing))) (Err reasons.Missing)) ≡ Ok after → find_table t after ≡ option_map (name_table t) (find_table (ghost_name t) tables)
  by true b c d none is = absurd cc
  by false false c d none is = absurd cc
  by false true true d none is = absurd cc
  by false true false false none is = absurd cc
  by false true false true none is =
      let same : with_name (ghost_name t) t moved ≡ after = cc in
      ap (find_table t) (sym same) ∙ renamed_new (ghost_name t) t moved none
      ∙ ap (option_map (name_table t)) (renamed_other t (old_name t) (ghost_name t) tables (turned_bytes t (ghost_name t) (not_ghost t)) (ghost_not_old t))

-- behind it the new table's name is free
pub exchange_frees : (t : List ℕ) (tables after : Database) → rename_tables (exchanged t) tables ≡ Ok after → schema_of (ghost_name t) after ≡ None
unfolding rename_tables
exchange_frees t tables after is = by (has_table (old_name t) tables) (has_table t tables) (has_table t moved) (has_table (ghost_name t) moved) is where
  moved : Database
  moved = with_name t (old_name t) tables

  by : (a b c d : Bool) → cond a (Err reasons.Exists) (cond b (cond c (Err reasons.Exists) (cond d (Ok (with_name (ghost_name t) t moved)) (Err reasons.Missing))) (Err reasons.Missing)) ≡ Ok after → schema_of (ghost_name t) after ≡ None
  by true b c d is = absurd cc
  by false false c d is = absurd cc
  by false true true d is = absurd cc
  by false true false false is = absurd cc
  by false true false true is =
      let same : with_name (ghost_name t) t moved ≡ after = cc in
      ap (schema_of (ghost_name t)) (sym same) ∙ ap (option_map (λ table. table.schema)) (renamed_old (ghost_name t) t moved (not_ghost t))

-- WHAT IS SO BEHIND IT

abbrev pub NoMake : Option Request → Type 0
NoMake None = Unit {0}
NoMake (Some request) = makes request ≡ false

-- the setup is over, the new table's name is free, and the inspector waits to make no table
abbrev pub ToolPhasePast : PlanData → Database → Option Request → ToolPhase → Type 0
ToolPhasePast plan tables waits (SettingUp setup tries) = ⊥
ToolPhasePast plan tables waits (Migrating work) = IsFreeName (ghost_name plan.table) tables × NoMake waits

abbrev pub IsPast : PlanData → List Entry → Type 0
IsPast plan journal = ToolPhasePast plan (state_at plan journal).tables (standing_of plan journal Insp).waits (moment plan journal).tool.tool_phase

-- where it is so of the server behind a turn, it is so of the turn
module _ (plan : PlanData) (journal : List Entry) (entry : Entry) (work : Work) (tool_phase : (moment plan journal).tool.tool_phase ≡ Migrating work) (both : IsFreeName (ghost_name plan.table) (state_at plan (journal ++ entry ∷ [])).tables × NoMake (standing_of plan (journal ++ entry ∷ []) Insp).waits) where
  abbrev tool_then : Tool
  tool_then = record (moment plan journal).tool { turns = (moment plan journal).tool.turns + 1 }

  abbrev New : Kept
  New b one = ToolPhasePast plan (state_at plan (journal ++ entry ∷ [])).tables (standing_of plan (journal ++ entry ∷ []) Insp).waits one

  back : (b : Bool) (one : ToolPhase) → New b one → New true (stopped one)
  back b (SettingUp setup tries) at = at
  back b (Migrating other) at = at

  unfit : (other : Work) → UnfitKeeps New other
  unfit other = record { renamed = λ renamed. both; reverts = both }

  answer_keeps : (answer : Answer) (actor : Actor) → AnswerKeeps plan New answer tool_then actor (moment plan journal).tool.tool_phase
  answer_keeps answer actor = subst (AnswerKeeps plan New answer tool_then actor) (sym tool_phase) (by actor) where
    by : (actor : Actor) → AnswerKeeps plan New answer tool_then actor (Migrating work)
    by Insp = λ tries. both
    by Lock = λ tries. both
    by Ren = λ tries. both
    by Copy = record { reverting = λ reverting. both; unfit = λ going place number is. unfit work; took = λ going fits tries. both }
    by Apply = record { reverting = λ reverting. both; unfit = λ going place number is. unfit work; took = λ going fits tries. both }
    by Op = both
    by (Client c) = both

  rest : (b : Bool) → New b (moment plan journal).tool.tool_phase
  rest b = subst (New b) (sym tool_phase) both

  resized : (size : ℕ) → ResizeKeeps New tool_then size (moment plan journal).tool.tool_phase
  resized size = subst (ResizeKeeps New tool_then size) (sym tool_phase) both

  turn_keeps : TurnKeeps plan New (moment plan journal).server entry tool_then
  turn_keeps = record {
    commanded = λ word asks unsized. rest (is_reverting (moment plan journal).tool.reason);
    resized = λ size asks. resized size;
    idle = λ cut rested. rest (is_reverting (moment plan journal).tool.reason);
    lost = λ cut worked. answer_keeps answers.Lost entry.actor;
    heard = λ called commands. answer_keeps entry.answer entry.actor;
  }

  pub past_with : IsPast plan (journal ++ entry ∷ [])
  past_with = turn_kept plan New back journal entry (λ b other tries at. at) turn_keeps

module _ (definitions_are_done : DefinitionsAreDone) (plan : PlanData) (journal : List Entry) (entry : Entry) (serial : IsSerialPlan plan) (runs : IsRunnable plan) (known : IsKnownAsked plan journal) (run : IsRun plan journal entry) (work : Work) (tool_phase : (moment plan journal).tool.tool_phase ≡ Migrating work) where
  abbrev now : Moment
  now = moment plan journal

  abbrev more : List Entry
  more = journal ++ entry ∷ []

  abbrev has : Actor → Standing
  has = standing_of plan journal

  abbrev now_has : Actor → Standing
  now_has = standing_of plan more

  abbrev before : State
  before = state_at plan journal

  abbrev open_now : State
  open_now = opens entry before

  together : IsTogether plan journal
  together = known.marking.tabled.all.tool

  served : IsServed plan journal entry
  served = record { answered = run.answered; seated = record { session = run.followed.session } }

  work_stands : WorkStands journal (is_reverting now.tool.reason) has work
  work_stands = subst (ToolPhaseStands journal has (is_reverting now.tool.reason)) tool_phase together.stands

  own_table : work.cutover.table ≡ plan.table
  own_table = (subst (ToolPhaseIsNamed plan) tool_phase (named plan journal)).cutover

  about_own : (actor : Actor) (request : Request) → entry.actor ≡ actor → IsAbout request (has actor) entry.asked → IsAbout request (has entry.actor) entry.asked
  about_own actor request same is_about = subst (λ (a : Actor). IsAbout request (has a) entry.asked) (sym same) is_about

  about_open : (request : Request) → IsAbout request (has entry.actor) entry.asked → about open_now entry.session entry.asked ≡ Some request
  about_open request (is_called asks none) = ap (about open_now entry.session) asks
  about_open request (is_polled asks some) =
      ap (about open_now entry.session) asks ∙ ap (λ (w : List Waiting). request_of (waiting_of entry.session w)) (opened_waits (is_command entry.asked) (not (is_client entry.actor)) entry.session before)
      ∙ own_waiting plan journal entry together.known served (ap is_command asks) ∙ some

  opened_tables : open_now.tables ≡ before.tables
  opened_tables = ap (λ (s : Stored). s.tables) (stored_opened (is_command entry.asked) (not (is_client entry.actor)) entry.session before)

  -- WHERE THE RENAME IS TOLD

  reported : IsReported (limits_of plan) (scene_of plan journal) journal entry
  reported = record { answer = reported_answer before entry run.answered; missed = reported_missed before entry run.answered; draw = reported_draw before entry run.answered }

  reported_both : (request : Request) → IsAbout request (has entry.actor) entry.asked → (count : ℕ) → answer_in entry.asked entry.side entry.answer entry.missed ≡ Some (answers.Ok count) → reported_at entry.side entry.answer entry.missed ≡ Some (answers.Ok count)
  reported_both request is_about count is = by is_about entry.side (reported_polled is_about entry.side is) where
    reported_polled : IsAbout request (has entry.actor) entry.asked → (side : Option Side) → answer_in entry.asked side entry.answer entry.missed ≡ Some (answers.Ok count) → answer_in Poll side entry.answer entry.missed ≡ Some (answers.Ok count)
    reported_polled (is_polled asks some) side is = ap (λ (a : Asked). answer_in a side entry.answer entry.missed) (sym asks) ∙ is
    reported_polled (is_called asks none) None is = ap (λ (a : Asked). answer_in a None entry.answer entry.missed) (sym asks) ∙ is
    reported_polled (is_called asks none) (Some Before) is = ap (λ (a : Asked). answer_in a (Some Before) entry.answer entry.missed) (sym asks) ∙ is
    reported_polled (is_called asks none) (Some After) is = ap (λ (a : Asked). answer_in a (Some After) entry.answer entry.missed) (sym asks) ∙ is

    by : IsAbout request (has entry.actor) entry.asked → (side : Option Side) → answer_in Poll side entry.answer entry.missed ≡ Some (answers.Ok count) → reported_at side entry.answer entry.missed ≡ Some (answers.Ok count)
    by is_about None is = is
    by is_about (Some Before) is = absurd cc
    by is_about (Some After) is = is

  reported_served : (count : ℕ) → reported_at entry.side entry.answer entry.missed ≡ Some (answers.Ok count) → (serves open_now entry.session entry.asked).answer ≡ answers.Ok count
  reported_served count is = by entry.side (sym (ap (λ (a : Answer). reported_at entry.side a entry.missed) reported.answer ∙ ap (λ (m : Option Answer). reported_at entry.side (answer_at entry.side (serves open_now entry.session entry.asked).answer) m) reported.missed) ∙ is) where
    by : (side : Option Side) → reported_at side (answer_at side (serves open_now entry.session entry.asked).answer) (missed_at side (serves open_now entry.session entry.asked).answer) ≡ Some (answers.Ok count) → (serves open_now entry.session entry.asked).answer ≡ answers.Ok count
    by None is = cc
    by (Some Before) is = absurd cc
    by (Some After) is = cc

  uncut : (request : Request) → IsAbout request (has entry.actor) entry.asked → entry.asked ≡ Cut → ⊥
  uncut request is_about cut = by is_about where
    no_call : Call request ≡ Cut → ⊥
    no_call same = cc

    no_poll : Poll ≡ Cut → ⊥
    no_poll same = cc

    by : IsAbout request (has entry.actor) entry.asked → ⊥
    by (is_called asks none) = no_call (sym asks ∙ cut)
    by (is_polled asks some) = no_poll (sym asks ∙ cut)

  -- where it is told, the tables were renamed
  pub reported_renamed : IsAbout (exchange plan.table) (has entry.actor) entry.asked → (count : ℕ) → answer_in entry.asked entry.side entry.answer entry.missed ≡ Some (answers.Ok count) → rename_tables (exchanged plan.table) before.tables ≡ Ok (state_at plan more).tables
  reported_renamed is_about count is =
      let reported_now : reported_at entry.side entry.answer entry.missed ≡ Some (answers.Ok count) = reported_both (exchange plan.table) is_about count is in
      let quiet : Quiet (exchange plan.table) open_now entry.session (serves open_now entry.session entry.asked) = quiet_served open_now entry.session entry.asked (exchange plan.table) (about_open (exchange plan.table) is_about) (uncut (exchange plan.table) is_about) refl in
      let zero : count ≡ 0 = subst CountsNone (reported_served count reported_now) quiet.counts in
      renamed_ok (rename_tables (exchanged plan.table) before.tables) (state_at plan more).tables
      (definitions_are_done (limits_of plan) (scene_of plan journal) journal entry (exchange plan.table) (renamed_or (rename_tables (exchanged plan.table) before.tables)) reported (about_open (exchange plan.table) is_about) refl (reported_now ∙ ap (λ (n : ℕ). Some (answers.Ok n)) zero))

  pub ren_asks : Asking plan journal Ren entry.asked → entry.actor ≡ Ren → IsAbout (exchange plan.table) (has entry.actor) entry.asked
  ren_asks asks same =
      ren_about plan journal entry together run work tool_phase work_stands asks (IsAbout (exchange plan.table) (has entry.actor) entry.asked)
      (λ request is_about kind. subst (λ (r : Request). IsAbout r (has entry.actor) entry.asked) (kind ∙ ap exchange own_table) (about_own Ren request same is_about))

  -- behind it the new table's name is free
  pub rename_frees : Asking plan journal Ren entry.asked → entry.actor ≡ Ren → (count : ℕ) → answer_in entry.asked entry.side entry.answer entry.missed ≡ Some (answers.Ok count) → IsFreeName (ghost_name plan.table) (state_at plan more).tables
  rename_frees asks same count is = exchange_frees plan.table before.tables (state_at plan more).tables (reported_renamed (ren_asks asks same) count is)

  module _ (gone : IsFreeName (ghost_name plan.table) before.tables) (unmade : NoMake (has Insp).waits) where
    -- THE NAME STAYS FREE

    abbrev Gone : Type 0
    Gone = IsFreeName (ghost_name plan.table) (state_at plan more).tables

    kept_so : (actor : Actor) (request : Request) → entry.actor ≡ actor → IsAbout request (has actor) entry.asked → keeps_table (ghost_name plan.table) request ≡ true → Gone
    kept_so actor request same is_about keeps = schema_stays plan journal entry served (own_waiting plan journal entry together.known served) (ghost_name plan.table) request (about_own actor request same is_about) keeps ∙ gone

    dropped_so : (actor : Actor) (name : List ℕ) → entry.actor ≡ actor → IsAbout (requests.Drop name) (has actor) entry.asked → Gone
    dropped_so actor name same is_about =
        ap (λ (s : State). schema_of (ghost_name plan.table) s.tables) (state_more plan journal entry)
        ∙ drop_left (ghost_name plan.table) name open_now entry.session (ap (schema_of (ghost_name plan.table)) opened_tables ∙ gone) entry.side entry.asked (about_open (requests.Drop name) (about_own actor (requests.Drop name) same is_about))

    still : may_lose entry.asked ≡ false → Gone
    still quiet = schema_rests plan journal entry served (own_waiting plan journal entry together.known served) (ghost_name plan.table) quiet ∙ gone

    never_reported : IsAbout (exchange plan.table) (has entry.actor) entry.asked → (count : ℕ) → answer_in entry.asked entry.side entry.answer entry.missed ≡ Some (answers.Ok count) → ⊥
    never_reported is_about count is = exchange_needs plan.table before.tables (state_at plan more).tables (none_found (find_table (ghost_name plan.table) before.tables) gone) (reported_renamed is_about count is)

    -- EACH ACTOR'S TURN

    ren_stays : entry.actor ≡ Ren → Asking plan journal Ren entry.asked → Gone
    ren_stays same asks = by (renamed_or_stays plan journal entry served (own_waiting plan journal entry together.known served) (ghost_name plan.table) _ (ren_asks asks same) (reported_answer before entry run.answered)) where
      by : ((count : ℕ) × (answer_in entry.asked entry.side entry.answer entry.missed ≡ Some (answers.Ok count))) ⊎ (schema_of (ghost_name plan.table) (state_at plan more).tables ≡ schema_of (ghost_name plan.table) before.tables) → Gone
      by (inl done) = absurd (never_reported (ren_asks asks same) done.0 done.1)
      by (inr stays) = stays ∙ gone

    lock_stays : entry.actor ≡ Lock → Asking plan journal Lock entry.asked → Gone
    lock_stays same asks =
        lock_about plan journal entry together run work tool_phase work_stands asks Gone
        (λ request is_about kind. kept_so Lock request same is_about (subst (λ (t : List ℕ). keeps_table (ghost_name t) request ≡ true) own_table (locker_keeps work.cutover.table work.cutover.hold work.cutover.phase request kind)))

    abbrev Both : Type 0
    Both = Gone × NoMake (now_has Insp).waits

    insp_one : entry.actor ≡ Insp → (request : Request) → IsAbout request (has Insp) entry.asked → inspector_asks request ≡ true → makes request ≡ false → Gone
    insp_one same (requests.Do statement) is_about kind off = kept_so Insp (requests.Do statement) same is_about refl
    insp_one same (requests.Ends table) is_about kind off = kept_so Insp (requests.Ends table) same is_about refl
    insp_one same (requests.Create schema) is_about kind off = absurd (true≢false off)
    insp_one same (requests.Drop name) is_about kind off = dropped_so Insp name same is_about
    insp_one same requests.LogEnd is_about kind off = kept_so Insp requests.LogEnd same is_about refl
    insp_one same requests.ShowTables is_about kind off = kept_so Insp requests.ShowTables same is_about refl
    insp_one same requests.ShowWaiting is_about kind off = kept_so Insp requests.ShowWaiting same is_about refl
    insp_one same (requests.ShowCounter table) is_about kind off = kept_so Insp (requests.ShowCounter table) same is_about refl
    insp_one same (requests.SetCounter table least) is_about kind off = kept_so Insp (requests.SetCounter table least) same is_about refl
    insp_one same request is_about kind off = absurd cc

    insp_waits : entry.actor ≡ Insp → (request : Request) → IsAbout request (has Insp) entry.asked → makes request ≡ false → NoMake (now_has Insp).waits
    insp_waits same request is_about off = by (following request entry.answer (has Insp)) where
      waits_now : (now_has Insp).waits ≡ (answered request entry.answer (has Insp)).waits
      waits_now = ap (λ (s : Standing). s.waits) (has_now plan journal entry together run Insp request same is_about)

      by : Following request entry.answer (has Insp) → NoMake (now_has Insp).waits
      by (rests none) = subst NoMake (sym (waits_now ∙ none)) tt
      by (waits_on one is) = subst NoMake (sym (waits_now ∙ ap (λ (a : Answer). (answered request a (has Insp)).waits) is)) off

    asks_kind : (request : Request) → inspector_waits request ≡ true → inspector_asks request ≡ true
    asks_kind (requests.Do statement) is = refl
    asks_kind (requests.Ends table) is = refl
    asks_kind (requests.Create schema) is = refl
    asks_kind (requests.Drop name) is = refl
    asks_kind (requests.SetCounter table least) is = refl
    asks_kind request is = absurd cc

    insp_both : entry.actor ≡ Insp → Asking plan journal Insp entry.asked → Both
    unfolding cutovers.next
    insp_both same (calls_so request asks idle call) =
        let here : inspect_call plan journal now.tool work ≡ Some request = ap (λ (c : ToolPhase). tool_call plan now.server journal now.tool c Insp) (sym tool_phase) ∙ call in
        let off : makes request ≡ false = inspects_or plan journal now.tool work request (makes request ≡ false) here (λ note resting. ap makes note.is) (λ next. call_makes work.cutover work.cutover.phase request next) in
        (insp_one same request (is_called asks idle) (inspector_called plan journal now.tool work request here).0 off, insp_waits same request (is_called asks idle) off)
    insp_both same (polls_so request asks some) =
        let off : makes request ≡ false = subst NoMake some unmade in
        (insp_one same request (is_polled asks some) (asks_kind request (waits_asks inspector_waits (has Insp).waits request work_stands.inspector.waits some)) off, insp_waits same request (is_polled asks some) off)

    others_wait : same_actor entry.actor Insp ≡ false → NoMake (now_has Insp).waits
    others_wait other = subst (λ (s : Standing). NoMake s.waits) (sym (others_stand plan journal entry together.known served Insp other)) unmade

    asked_both : (actor : Actor) → entry.actor ≡ actor → given plan journal actor ≡ Some entry.asked → (entry.asked ≡ Cut → ⊥) → ((word : OperatorWord) → entry.asked ≡ Command word → ⊥) → Both
    unfolding given
    asked_both (Client c) same gives called commands = (quiet_stay plan journal entry known.marking.tabled.all known.marking.tabled.quiet run (Client c) same refl gives called commands (ghost_name plan.table) ∙ gone, others_wait (ap (λ (a : Actor). same_actor a Insp) same))
    asked_both Op same gives called commands = (quiet_stay plan journal entry known.marking.tabled.all known.marking.tabled.quiet run Op same refl gives called commands (ghost_name plan.table) ∙ gone, others_wait (ap (λ (a : Actor). same_actor a Insp) same))
    asked_both Copy same gives called commands = (quiet_stay plan journal entry known.marking.tabled.all known.marking.tabled.quiet run Copy same refl gives called commands (ghost_name plan.table) ∙ gone, others_wait (ap (λ (a : Actor). same_actor a Insp) same))
    asked_both Apply same gives called commands = (quiet_stay plan journal entry known.marking.tabled.all known.marking.tabled.quiet run Apply same refl gives called commands (ghost_name plan.table) ∙ gone, others_wait (ap (λ (a : Actor). same_actor a Insp) same))
    asked_both Lock same gives called commands = (lock_stays same (asking plan journal Lock entry.asked together.server gives), others_wait (ap (λ (a : Actor). same_actor a Insp) same))
    asked_both Ren same gives called commands = (ren_stays same (asking plan journal Ren entry.asked together.server gives), others_wait (ap (λ (a : Actor). same_actor a Insp) same))
    asked_both Insp same gives called commands = insp_both same (asking plan journal Insp entry.asked together.server gives)

    cut_both : entry.asked ≡ Cut → Both
    cut_both cut = (still (ap may_lose cut), by (same_actor entry.actor Insp) refl) where
      by : (b : Bool) → same_actor entry.actor Insp ≡ b → NoMake (now_has Insp).waits
      by false other = others_wait other
      by true same =
          let one : entry.actor ≡ Insp = same_actor_is entry.actor Insp same in
          subst (λ (s : Standing). NoMake s.waits) (sym (subst (λ (a : Actor). now_has a ≡ free) one (own_lost plan journal entry together.known served cut))) tt

    commanded_both : (word : OperatorWord) → entry.asked ≡ Command word → Both
    unfolding given
    commanded_both word asks = (still (ap may_lose asks), others_wait (by (same_actor entry.actor Insp) refl)) where
      gives : IsGiven plan journal entry (Command word)
      gives = subst (IsGiven plan journal entry) asks run.followed.given

      by : (b : Bool) → same_actor entry.actor Insp ≡ b → b ≡ false
      by true same = absurd (never_commands plan journal Insp word (subst (λ (a : Actor). given plan journal a ≡ Some (Command word)) (same_actor_is entry.actor Insp same) gives))
      by false other = refl

    both_now : Both
    both_now = by entry.asked refl run.followed.given where
      called : (entry.asked ≡ Cut → ⊥) → ((word : OperatorWord) → entry.asked ≡ Command word → ⊥) → Both
      called uncut uncommanded = asked_both entry.actor refl (gives_asked plan journal entry entry.asked run.followed.given refl uncut) uncut uncommanded

      by : (asked : Asked) → entry.asked ≡ asked → IsGiven plan journal entry asked → Both
      by (Command word) asks gives = commanded_both word asks
      by Cut asks gives = cut_both asks
      by (Call request) asks gives = called (λ cut. no_cut (sym asks ∙ cut)) (λ word same. no_command word (sym asks ∙ same)) where
        no_cut : Call request ≡ Cut → ⊥
        no_cut same = cc

        no_command : (word : OperatorWord) → Call request ≡ Command word → ⊥
        no_command word same = cc
      by Poll asks gives = called (λ cut. no_cut (sym asks ∙ cut)) (λ word same. no_command word (sym asks ∙ same)) where
        no_cut : Poll ≡ Cut → ⊥
        no_cut same = cc

        no_command : (word : OperatorWord) → Poll ≡ Command word → ⊥
        no_command word same = cc

    -- it isn't the ALTER
    never_alters : list_any is_alter (entry_adds plan journal entry) ≡ true → ⊥
    unfolding given
    never_alters altering = by entry.actor refl where
      tool_case : is_client entry.actor ≡ false → ⊥
      tool_case off = by_reported (histories.about journal entry) (answer_in entry.asked entry.side entry.answer entry.missed) refl refl
          (ap (list_any is_alter) (sym (tool_adds plan serial journal entry runs.fitting known run off entry.actor off)) ∙ altering) where
            done : (pairs : List Pair) (count : ℕ) → histories.about journal entry ≡ Some (requests.Rename pairs) → answer_in entry.asked entry.side entry.answer entry.missed ≡ Some (answers.Ok count) → ⊥
            done pairs count found heard = renamed pairs count found heard (about_asked plan serial journal entry runs.fitting known run off (requests.Rename pairs) found) where
              renamed : (pairs : List Pair) (count : ℕ) → histories.about journal entry ≡ Some (requests.Rename pairs) → answer_in entry.asked entry.side entry.answer entry.missed ≡ Some (answers.Ok count) → (entry.actor ≡ Ren) × (requests.Rename pairs ≡ exchange plan.table) → ⊥
              renamed pairs count found heard is = asked_ren entry.asked refl run.followed.given where
                asked_ren : (asked : Asked) → entry.asked ≡ asked → IsGiven plan journal entry asked → ⊥
                asked_ren (Call request) asks gives = never_reported (ren_asks (asking plan journal Ren entry.asked together.server (subst (λ (a : Actor). given plan journal a ≡ Some entry.asked) is.0 (gives ∙ ap Some (sym asks)))) is.0) count heard
                asked_ren Poll asks gives = never_reported (ren_asks (asking plan journal Ren entry.asked together.server (subst (λ (a : Actor). given plan journal a ≡ Some entry.asked) is.0 (gives ∙ ap Some (sym asks)))) is.0) count heard
                asked_ren (Command word) asks gives = never_commands plan journal Ren word (subst (λ (a : Actor). given plan journal a ≡ Some (Command word)) is.0 gives)
                asked_ren Cut asks gives = none_reported (sym (ap (λ (a : Asked). answer_in a entry.side entry.answer entry.missed) asks) ∙ heard) where
                  none_reported : None ≡ Some (answers.Ok count) → ⊥
                  none_reported same = cc

            by_reported : (request : Option Request) (reported : Option Answer) → histories.about journal entry ≡ request → answer_in entry.asked entry.side entry.answer entry.missed ≡ reported → list_any is_alter (alters plan request reported) ≡ true → ⊥
            by_reported (Some (requests.Rename pairs)) (Some (answers.Ok count)) is reported alter = done pairs count is reported
            by_reported request (Some (answers.Ok count)) is reported alter = cc
            by_reported request reported is statement_result alter = cc

      by : (actor : Actor) → entry.actor ≡ actor → ⊥
      by (Client number) same = true≢false (sym (ap (λ (a : Actor). list_any is_alter (histories.adds plan journal entry a)) (sym same) ∙ altering) ∙ of_client plan journal entry number)
      by Op same = tool_case (ap is_client same)
      by Insp same = tool_case (ap is_client same)
      by Copy same = tool_case (ap is_client same)
      by Apply same = tool_case (ap is_client same)
      by Lock same = tool_case (ap is_client same)
      by Ren same = tool_case (ap is_client same)

-- *One turn more*, and it isn't the ALTER
pub record GoesPast (plan : PlanData) (journal : List Entry) (entry : Entry) : Type 0 where
  pub past : IsPast plan (journal ++ entry ∷ [])
  pub unaltered : list_any is_alter (entry_adds plan journal entry) ≡ true → ⊥

pub goes_past : DefinitionsAreDone → (plan : PlanData) (journal : List Entry) (entry : Entry) → IsSerialPlan plan → IsRunnable plan → IsKnownAsked plan journal → IsRun plan journal entry → IsPast plan journal → GoesPast plan journal entry
goes_past done plan journal entry serial runs known run past = by (moment plan journal).tool.tool_phase refl past where
  by : (tool_phase : ToolPhase) → (moment plan journal).tool.tool_phase ≡ tool_phase → ToolPhasePast plan (state_at plan journal).tables (standing_of plan journal Insp).waits tool_phase → GoesPast plan journal entry
  by (SettingUp setup tries) tool_phase at = absurd at
  by (Migrating work) tool_phase at = record { past = past_with plan journal entry work tool_phase (both_now done plan journal entry serial runs known run work tool_phase at.0 at.1); unaltered = never_alters done plan journal entry serial runs known run work tool_phase at.0 at.1 }
