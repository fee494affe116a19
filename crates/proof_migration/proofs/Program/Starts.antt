-- From the opening on: while the tool sets up the migrated table is its log's, and where it is ready the migration goes.
use Rattle.std.proofs.Common.{◌≡◌, ◌⊎◌, ◌≤◌, ◌<◌, ℕ, Bool, true, false, cond, List, [], ◌∷◌, ◌++◌, length, Option, Some, None, refl, sym, ap, ◌∙◌, subst, inl, inr, arith, append_assoc, append-nil}
use Rattle.std.specs.Str.{bytes_eq}
use Rattle.std.proofs.lemmas.Bool.{true≢false, false≢true}
use Rattle.base_values.specs.declared.gho_schema.schema.Schema.{Schema}
use Rattle.base_values.specs.GhoSchema.Rows.{key_of, key_places}
use Rattle.table_store.specs.Databases.{TableRows, find_table}
use Rattle.base_script.specs.declared.actor.Actor.{Actor}
use Rattle.base_script.specs.declared.actor.Side.{Side}
use Rattle.base_script.specs.declared.actor.Actor.TheVariants.{Op, Insp, Copy, Apply, Lock, Ren, Client}
use Rattle.server_model.specs.declared.answer.Answer.{Answer}
use Rattle.server_model.specs.declared.answer.Answer.TheVariants as answers
use Rattle.server_model.specs.declared.answer.KeyRange.{KeyRange}
use Rattle.server_model.specs.declared.entry.Asked.{Asked}
use Rattle.server_model.specs.declared.entry.Asked.TheVariants.{Call, Poll, Command, Cut}
use Rattle.server_model.specs.declared.entry.Entry.{Entry}
use Rattle.server_model.specs.declared.request.Request.{Request}
use Rattle.server_model.specs.declared.request.Request.TheVariants as requests
use Rattle.server_model.specs.Chunks.{ends_of, keys_of, last_of}
use Rattle.server_model.specs.Effects.{of_table}
use Rattle.server_model.specs.Entries.{is_command, is_cut, same_actor}
use Rattle.server_model.specs.Operations.{table_of}
use Rattle.server_model.specs.States.{State}
use Rattle.plan_data.specs.PlanData.{PlanData}
use Rattle.base_values.specs.ToolNames.{ghost_name, log_name}
use Rattle.tool_changelog.specs.ToolTables.{log_schema}
use Rattle.tool_program.specs.JournalWords.Journals.{opens, state_at, state_after}
use Rattle.tool_program.specs.JournalWords.Sessions.{live_session}
use Rattle.tool_program.specs.declared.cutover_core.cutover.Leftovers.{Leftovers}
use Rattle.tool_program.specs.CutoverCore.Attempts.{first_name, is_clear, without_first}
use Rattle.tool_program.specs.CutoverCore.CutOvers.{is_bad}
use Rattle.tool_program.specs.Programs.{IsGiven, given, tool_asks, tool_call}
use Rattle.tool_program.specs.Setups.{Setup, Listing, Clearing, MakingLog, MakingGhost, Marking, Reaching, Ready, clearing, listed, setup_call, setup_step}
use Rattle.tool_program.specs.Tools.{ToolPhase, Migrating, SettingUp, Work, tool_phase_of, is_reverting, moment, new_work}
use Rattle.tool_program.proofs.OnlineCalls.Naming.{not_first, not_ghost, not_log}
use Rattle.proof_journals.specs.Plans.{limits_of, scene_of}
use Rattle.proof_journals.specs.Scenes.{Stored, no_hold}
use Rattle.proof_journals.specs.Holdings.{face_of, stored}
use Rattle.proof_journals.specs.Turns.{ClientAsks, IsSceneRun, about, reported_at}
use Rattle.proof_journals.proofs.Journals.{journal_holds}
use Rattle.proof_journals.specs.Ghost.Rows.Moments.{Row, rows_at}
use Rattle.proof_journals.specs.Ghost.Rows.Timelines.{Migration}
use Rattle.proof_journals.specs.Ghost.Copies.{range_of}
use Rattle.proof_journals.specs.Ghost.HeldKeys.{Clustered}
use Rattle.proof_journals.specs.Ghost.Tool.CopyState.{Waiting}
use Rattle.proof_journals.proofs.Ghost.Keeping.{TableExists, table_opens}
use Rattle.proof_migration.specs.Migration.Copier.CopierPlace.{copy_state}
use Rattle.proof_journals.specs.Run.Kept.{IsKept}
use Rattle.proof_journals.specs.Machine.Machines.{ToolPhaseStands, SetupStands}
use Rattle.proof_journals.specs.Machine.Standings.{MayTake, Standing, free, is_polled, standing_in, standing_of}
use Rattle.proof_journals.specs.Machine.MigrationTables.{ToolPhaseTables, SetupTables, ghost_schema, past_ghost}
use Rattle.proof_journals.proofs.Machine.Asking.{some_request, unless_called}
use Rattle.proof_journals.proofs.Machine.Journals.{Asking, IsRun, IsTogether, asking, calls_so, polls_so}
use Rattle.proof_journals.proofs.Machine.Keyed.{all_keyed}
use Rattle.proof_journals.proofs.Machine.Seated.{others_stand, own_missed}
use Rattle.proof_journals.proofs.Machine.Staying.{tables_stay}
use Rattle.proof_journals.proofs.Machine.Tabling.{Passes, makes, passed, step_past}
use Rattle.proof_migration.specs.Migration.Machines.{IsMigrationStart, hold_at}
use Rattle.proof_migration.proofs.Migration.Leaves.{WritesAway}
use Rattle.proof_migration.proofs.Migration.Migrating.{starts}
use Rattle.proof_migration.proofs.Migration.Others.{LeavesName}
use Rattle.server_model.proofs.LockedRows.Tests.{turned_bytes}
use Rattle.proof_migration.specs.ToolPhase.Unaltered.{IsUnaltered}
use Rattle.proof_migration.proofs.ToolPhase.Unaltered.Asking.{AskedAs}
use Rattle.proof_migration.proofs.ToolPhase.Unaltered.Away.{IsKnownAsked, all_asked, unaltered_front}
use Rattle.proof_migration.specs.Program.Turns.Goes.{ActorStates, machines_in}
use Rattle.proof_migration.specs.Program.Turns.Laws.{GoesSomehow, IsMigrationOf}
use Rattle.proof_migration.proofs.Program.Turns.Asked.{about_called, asked_as, gave, waits_with}
use Rattle.proof_migration.proofs.Program.Turns.Follows.{kept_front, kept_run, kept_scene}
use Rattle.proof_migration.proofs.Program.Turns.GoingOn.{followers_go_on}
use Rattle.proof_migration.proofs.Program.Turns.Others.{client_name, ghost_named}
use Rattle.proof_migration.proofs.Program.Turns.Reverting.{going_front}
use Rattle.proof_migration.proofs.Program.Turns.ActorStates.{new_holds}
use Rattle.proof_migration.specs.Program.Laws.{FollowersGo}
use Rattle.proof_migration.proofs.Program.Courses.{SetupTo, begins_again, rests_so, setup_turn, steps_on}
use Rattle.proof_migration.proofs.Program.Leaving.{Left, NoneWrote, left}
use Rattle.proof_migration.proofs.Program.Said.{EndsSaid, ends_said, log_said, made_said}

-- the position that was asked for is in the log
abbrev pub NotedIn : Setup → ℕ → Type 0
NotedIn (Reaching position) end = position ≤ end
NotedIn setup end = Unit {0}

-- *The setup stands*: the migrated table is its opening rows behind the log, which fits it; no session has written a row of the
-- new table, which is empty once it is made
record SetupGoes (plan : PlanData) (m : Migration) (rows : List Row) (journal : List Entry) (setup : Setup) : Type 0 where
  table : TableExists m rows (stored (state_at plan journal))
  away : NoneWrote m (state_at plan journal)
  empty : past_ghost setup ≡ true → find_table m.new.name (state_at plan journal).tables ≡ Some (record { schema = m.new; rows = [] })
  noted : NotedIn setup (length (state_at plan journal).log)

pub grows : (setup : Setup) (end later : ℕ) → end ≤ later → NotedIn setup end → NotedIn setup later
grows (Reaching position) end later more noted = omega (arith, more, noted)
grows Listing end later more noted = tt
grows (Clearing some) end later more noted = tt
grows MakingLog end later more noted = tt
grows MakingGhost end later more noted = tt
grows Marking end later more noted = tt
grows (Ready position range) end later more noted = tt

-- THE RANGE

-- the range that was told is that of the rows
range_is : (places : List ℕ) (rows : List Row) (range : Option KeyRange) (journal : List Entry) (plan : PlanData) (size position : ℕ) → answers.Ends range ≡ ends_of (keys_of places rows) → copy_state journal (new_work plan size position range).copier ≡ Waiting (range_of places rows)
range_is places [] range journal plan size position is = let one : range ≡ None = cc in ap (λ (r : Option KeyRange). copy_state journal (new_work plan size position r).copier) one
range_is places (first ∷ others) range journal plan size position is =
    let one : range ≡ Some (record { least = key_of places first; greatest = last_of (key_of places first) (keys_of places others) }) = cc in ap (λ (r : Option KeyRange). copy_state journal (new_work plan size position r).copier) one

-- ONE TURN OF THE SETUP

module _ (plan : PlanData) (m : Migration) (at : Clustered m.schema) (rows : List Row) (of : IsMigrationOf plan m rows) (journal : List Entry) (entry : Entry) (kept : IsKept plan (journal ++ entry ∷ [])) (off : IsUnaltered plan (journal ++ entry ∷ [])) (going : is_reverting (moment plan (journal ++ entry ∷ [])).tool.reason ≡ false)
    (setup : Setup) (tries : List ℕ) (tool_phase : (moment plan journal).tool.tool_phase ≡ SettingUp setup tries) (was : SetupGoes plan m rows journal setup) where
  abbrev more : List Entry
  more = journal ++ entry ∷ []

  abbrev now : State
  now = state_at plan journal

  abbrev then : State
  then = state_at plan more

  abbrev has : Actor → Standing
  has = standing_of plan journal

  abbrev reported : Option Answer
  reported = reported_at entry.side entry.answer entry.missed

  before : IsKept plan journal
  before = kept_front plan journal (entry ∷ []) kept

  known : IsKnownAsked plan journal
  known = all_asked plan journal of.runs before.faithful before.follows

  then_known : IsKnownAsked plan more
  then_known = all_asked plan more of.runs kept.faithful kept.follows

  run : IsRun plan journal entry
  run = kept_run plan journal entry kept

  scene_run : IsSceneRun (limits_of plan) (scene_of plan more) more
  scene_run = kept_scene plan m rows of more kept off

  together : IsTogether plan journal
  together = known.marking.tabled.all.tool

  stands : SetupStands has
  stands = subst (ToolPhaseStands journal has (is_reverting (moment plan journal).tool.reason)) tool_phase together.stands

  tables : SetupTables plan now.tables has setup
  tables = subst (ToolPhaseTables plan now.tables has) tool_phase known.marking.tabled.tables

  abbrev About : Request → Type 0
  About request = about (opens entry now) entry.session entry.asked ≡ Some request

  -- clients ask of their tables, and the inspector the setup's call
  abbrev Asks : Request → Type 0
  Asks request = ClientAsks (scene_of plan []) request ⊎ (setup_call plan setup ≡ Some request)

  -- an actor that has nothing, and is given no call
  none_waits : (actor : Actor) (request : Request) → entry.actor ≡ actor → has actor ≡ free → (has entry.actor).waits ≡ Some request → ⊥
  none_waits actor request same none some = no (sym (ap (λ (s : Standing). s.waits) none) ∙ ap (λ (a : Actor). (has a).waits) (sym same) ∙ some) where
    no : None ≡ Some request → ⊥
    no both = cc

  free_asks : (actor : Actor) (request : Request) → entry.actor ≡ actor → has actor ≡ free → ((called : Request) → given plan journal actor ≡ Some (Call called) → ⊥) → About request → Asks request
  free_asks actor request same none uncalled is = by entry.asked refl run.followed.given is where
    by : (asked : Asked) → entry.asked ≡ asked → IsGiven plan journal entry asked → about (opens entry now) entry.session asked ≡ Some request → Asks request
    by (Call called) asks gives is = absurd (uncalled called (subst (λ (a : Actor). given plan journal a ≡ Some (Call called)) same gives))
    by Poll asks gives is = absurd (none_waits actor request same none (waits_with plan of.serial of.runs.fitting journal entry known run off (ap is_command asks) request is))
    by Cut asks gives is = absurd (none_waits actor request same none (waits_with plan of.serial of.runs.fitting journal entry known run off (ap is_command asks) request is))
    by (Command word) asks gives is = absurd cc

  -- while the setup goes on the others are given nothing
  uncalled : (actor : Actor) → ((c : ToolPhase) → c ≡ SettingUp setup tries → tool_call plan (moment plan journal).server journal (moment plan journal).tool c actor ≡ None) → (called : Request) → tool_asks plan journal (moment plan journal) actor ≡ Some (Call called) → ⊥
  uncalled actor none called gives = by (asking plan journal actor (Call called) together.server gives) where
    by : Asking plan journal actor (Call called) → ⊥
    by (calls_so other one idle call) = no (sym (none (moment plan journal).tool.tool_phase tool_phase) ∙ call) where
      no : None ≡ Some other → ⊥
      no both = cc
    by (polls_so other one some) = no one where
      no : Call called ≡ Poll → ⊥
      no both = cc

  none_of : (actor : Actor) → tool_call plan (moment plan journal).server journal (moment plan journal).tool (SettingUp setup tries) actor ≡ None → (c : ToolPhase) → c ≡ SettingUp setup tries → tool_call plan (moment plan journal).server journal (moment plan journal).tool c actor ≡ None
  none_of actor none c same = ap (λ (c : ToolPhase). tool_call plan (moment plan journal).server journal (moment plan journal).tool c actor) same ∙ none

  insp_call : (request : Request) → tool_call plan (moment plan journal).server journal (moment plan journal).tool (moment plan journal).tool.tool_phase Insp ≡ Some request → setup_call plan setup ≡ Some request
  insp_call request call = unless_called (is_reverting (moment plan journal).tool.reason) (setup_call plan setup) request (ap (λ (c : ToolPhase). tool_call plan (moment plan journal).server journal (moment plan journal).tool c Insp) (sym tool_phase) ∙ call)

  insp_waits : (request : Request) → entry.actor ≡ Insp → (has entry.actor).waits ≡ Some request → setup_call plan setup ≡ Some request
  insp_waits request same some = tables.waits request (ap (λ (a : Actor). (has a).waits) (sym same) ∙ some)

  insp_asks : (request : Request) → entry.actor ≡ Insp → About request → setup_call plan setup ≡ Some request
  unfolding given
  insp_asks request same is = by entry.asked refl run.followed.given is where
    called_so : (called : Request) → given plan journal Insp ≡ Some (Call called) → called ≡ request → setup_call plan setup ≡ Some request
    called_so called gives one = by (asking plan journal Insp (Call called) together.server gives) where
      by : Asking plan journal Insp (Call called) → setup_call plan setup ≡ Some request
      by (calls_so other two idle call) = let both : other ≡ called = cc in insp_call request (call ∙ ap Some (both ∙ one))
      by (polls_so other two some) = absurd (no two) where
        no : Call called ≡ Poll → ⊥
        no both = cc

    by : (asked : Asked) → entry.asked ≡ asked → IsGiven plan journal entry asked → about (opens entry now) entry.session asked ≡ Some request → setup_call plan setup ≡ Some request
    by (Call called) asks gives is = called_so called (subst (λ (a : Actor). given plan journal a ≡ Some (Call called)) same gives) (let one : called ≡ request = cc in one)
    by Poll asks gives is = insp_waits request same (waits_with plan of.serial of.runs.fitting journal entry known run off (ap is_command asks) request is)
    by Cut asks gives is = insp_waits request same (waits_with plan of.serial of.runs.fitting journal entry known run off (ap is_command asks) request is)
    by (Command word) asks gives is = absurd cc

  turn_asks : (request : Request) → About request → Asks request
  unfolding given
  turn_asks request is = by entry.actor refl (asked_as plan of.serial of.runs.fitting journal entry known run off request is) where
    by : (actor : Actor) → entry.actor ≡ actor → AskedAs plan actor request → Asks request
    by (Client c) same asks = inl asks
    by Op same asks = absurd asks
    by Insp same asks = inr (insp_asks request same is)
    by Copy same asks = free_asks Copy request same stands.copier (λ called gives. uncalled Copy (none_of Copy refl) called gives) is
    by Apply same asks = free_asks Apply request same stands.applier (λ called gives. uncalled Apply (none_of Apply refl) called gives) is
    by Lock same asks = free_asks Lock request same stands.locker (λ called gives. uncalled Lock (none_of Lock refl) called gives) is
    by Ren same asks = free_asks Ren request same stands.renamer (λ called gives. uncalled Ren (none_of Ren refl) called gives) is

  -- WHAT THE TURN LEAVES

  client_writes : (request : Request) → ClientAsks (scene_of plan []) request → WritesAway m request
  client_writes (requests.Do statement) asks = client_name plan of.serial m of.of (table_of statement) asks
  client_writes (requests.CopyRow from into map key) asks = absurd asks
  client_writes request asks = tt

  setup_writes : (setup : Setup) (request : Request) → setup_call plan setup ≡ Some request → WritesAway m request
  setup_writes Listing request is = some_request (WritesAway m) _ request is tt
  setup_writes (Clearing some) request is = some_request (WritesAway m) _ request is tt
  setup_writes MakingLog request is = some_request (WritesAway m) _ request is tt
  setup_writes MakingGhost request is = some_request (WritesAway m) _ request is tt
  setup_writes Marking request is = some_request (WritesAway m) _ request is tt
  setup_writes (Reaching position) request is = some_request (WritesAway m) _ request is tt
  setup_writes (Ready position range) request is = absurd cc

  writes : (request : Request) → About request → WritesAway m request
  writes request is = by (turn_asks request is) where
    by : Asks request → WritesAway m request
    by (inl asks) = client_writes request asks
    by (inr call) = setup_writes setup request call

  client_leaves : (name : List ℕ) (request : Request) → ClientAsks (scene_of plan []) request → LeavesName name reported request
  client_leaves name (requests.Create schema) asks = absurd asks
  client_leaves name (requests.Drop gone) asks = absurd asks
  client_leaves name (requests.Rename pairs) asks = absurd asks
  client_leaves name request asks = tt

  abbrev LeavesOld : Request → Type 0
  LeavesOld request = LeavesName m.name reported request

  setup_leaves : (setup : Setup) (request : Request) → setup_call plan setup ≡ Some request → LeavesOld request
  unfolding log_schema
  setup_leaves Listing request is = some_request LeavesOld _ request is tt
  setup_leaves (Clearing some) request is = some_request LeavesOld _ request is (ap (λ (n : List ℕ). bytes_eq n (first_name plan.table some)) of.of.name ∙ not_first plan.table some)
  setup_leaves MakingLog request is = some_request LeavesOld _ request is (ap (λ (n : List ℕ). bytes_eq n (log_name plan.table)) of.of.name ∙ not_log plan.table)
  setup_leaves MakingGhost request is = some_request LeavesOld _ request is (ap (λ (n : List ℕ). bytes_eq n (ghost_name plan.table)) of.of.name ∙ not_ghost plan.table)
  setup_leaves Marking request is = some_request LeavesOld _ request is tt
  setup_leaves (Reaching position) request is = some_request LeavesOld _ request is tt
  setup_leaves (Ready position range) request is = absurd cc

  leaves_old : (request : Request) → About request → LeavesOld request
  leaves_old request is = by (turn_asks request is) where
    by : Asks request → LeavesOld request
    by (inl asks) = client_leaves m.name request asks
    by (inr call) = setup_leaves setup request call

  -- once the new table is made the setup leaves it
  past_leaves : (setup : Setup) (request : Request) → past_ghost setup ≡ true → setup_call plan setup ≡ Some request → LeavesName m.new.name reported request
  past_leaves Marking request past is = some_request (LeavesName m.new.name reported) _ request is tt
  past_leaves (Reaching position) request past is = some_request (LeavesName m.new.name reported) _ request is tt
  past_leaves (Ready position range) request past is = absurd cc
  past_leaves setup request past is = absurd (false≢true past)

  leaves_ghost : past_ghost setup ≡ true → (request : Request) → About request → LeavesName m.new.name reported request
  leaves_ghost past request is = by (turn_asks request is) where
    by : Asks request → LeavesName m.new.name reported request
    by (inl asks) = client_leaves m.new.name request asks
    by (inr call) = past_leaves setup request past call

  left_now : Left m rows (limits_of plan) (scene_of plan more) journal entry scene_run
  left_now = left m rows (limits_of plan) (scene_of plan more) journal entry scene_run run.answered.sides writes leaves_old was.table was.away

  ghost_stays : past_ghost setup ≡ true → find_table m.new.name then.tables ≡ Some (record { schema = m.new; rows = [] })
  ghost_stays past = left_now.ghost (leaves_ghost past) ∙ was.empty past

  setup_with : (next : Setup) → (past_ghost next ≡ true → find_table m.new.name then.tables ≡ Some (record { schema = m.new; rows = [] })) → NotedIn next (length then.log) → SetupGoes plan m rows more next
  setup_with next empty noted = record { table = left_now.table; away = left_now.away; empty = empty; noted = noted }

  -- THE INSPECTOR'S ANSWER

  module _ (insp : entry.actor ≡ Insp) (uncut : is_cut entry.asked ≡ false) (good : is_bad entry.answer ≡ false) where
    heard : entry.side ≡ None
    heard = by entry.side refl where
      by : (side : Option Side) → entry.side ≡ side → side ≡ None
      by None same = refl
      by (Some side) same = absurd (true≢false (sym (ap is_bad (own_missed plan journal entry together.known (record { answered = run.answered; seated = record { session = run.followed.session } }) side same)) ∙ good))

    record InspAsks : Type 0 where
      request : Request
      asked : About request
      call : setup_call plan setup ≡ Some request

    insp_turn : InspAsks
    unfolding given
    insp_turn = by (asking plan journal Insp entry.asked together.server (gave plan of.serial of.runs.fitting journal entry known run off Insp insp uncut)) where
      by : Asking plan journal Insp entry.asked → InspAsks
      by (calls_so request asks idle call) = record { request = request; asked = ap (about (opens entry now) entry.session) asks; call = insp_call request call }
      by (polls_so request asks some) =
          record { request = request; asked = about_called plan of.serial of.runs.fitting journal entry known run off Insp request insp (is_polled asks some); call = tables.waits request some }

    -- what is asked is the setup's call
    about_is : (one : Request) → setup_call plan setup ≡ Some one → About one
    about_is one call = insp_turn.asked ∙ sym insp_turn.call ∙ call

    made : setup ≡ MakingGhost → (count : ℕ) → entry.answer ≡ answers.Ok count → find_table m.new.name then.tables ≡ Some (record { schema = m.new; rows = [] })
    made making count is =
        subst (λ (s : Schema). find_table s.name then.tables ≡ Some (record { schema = s; rows = [] })) (sym of.of.new)
        (made_said (limits_of plan) (scene_of plan more) journal entry scene_run heard (ghost_schema plan) count (about_is (requests.Create (ghost_schema plan)) (ap (setup_call plan) making)) is)

    empty_on : past_ghost (setup_step plan.table setup entry.answer) ≡ true → find_table m.new.name then.tables ≡ Some (record { schema = m.new; rows = [] })
    empty_on past = by (step_past plan.table setup entry.answer past) where
      by : Passes setup entry.answer → find_table m.new.name then.tables ≡ Some (record { schema = m.new; rows = [] })
      by (passed before) = ghost_stays before
      by (makes count making is) = made making count is

    clears_noted : (some : Leftovers) (end : ℕ) → NotedIn (clearing some) end
    clears_noted some end = by (is_clear some) where
      by : (b : Bool) → NotedIn (cond b MakingLog (Clearing some)) end
      by true = tt
      by false = tt

    noted_on : (from : Setup) (answer : Answer) → NotedIn from (length now.log) → ((position : ℕ) → from ≡ Marking → answer ≡ answers.At position → position ≤ length then.log) → NotedIn (setup_step plan.table from answer) (length then.log)
    noted_on Listing (answers.Tables shown) was_noted marks = clears_noted (listed plan.table shown) (length then.log)
    noted_on (Clearing some) (answers.Ok count) was_noted marks = clears_noted (without_first some) (length then.log)
    noted_on MakingLog (answers.Ok count) was_noted marks = tt
    noted_on MakingGhost (answers.Ok count) was_noted marks = tt
    noted_on Marking (answers.At position) was_noted marks = marks position refl refl
    noted_on (Reaching position) (answers.Ends range) was_noted marks = tt
    noted_on from answer was_noted marks = grows from (length now.log) (length then.log) left_now.longer was_noted

    marked : (position : ℕ) → setup ≡ Marking → entry.answer ≡ answers.At position → position ≤ length then.log
    marked position marking is =
        let end : position ≡ length now.log = log_said (limits_of plan) (scene_of plan more) journal entry scene_run heard position (about_is requests.LogEnd (ap (setup_call plan) marking)) is in
        let longer : length now.log ≤ length then.log = left_now.longer in omega (arith, end, longer)

    goes_setting : SetupGoes plan m rows more (setup_step plan.table setup entry.answer)
    goes_setting = setup_with (setup_step plan.table setup entry.answer) empty_on (noted_on setup entry.answer was.noted marked)

    -- THE START

    module _ (position : ℕ) (range : Option KeyRange) (reaching : setup ≡ Reaching position) (ends : entry.answer ≡ answers.Ends range) (tries_then : List ℕ) (then_tool_phase : (moment plan more).tool.tool_phase ≡ Migrating (new_work plan (moment plan journal).tool.operator.size position range)) where
      abbrev work : Work
      work = new_work plan (moment plan journal).tool.operator.size position range

      said : EndsSaid (limits_of plan) (scene_of plan more) journal entry scene_run heard plan.table
      said = ends_said (limits_of plan) (scene_of plan more) journal entry scene_run heard plan.table range (about_is (requests.Ends plan.table) (ap (setup_call plan) reaching)) ends

      abbrev rows_before : List Row
      rows_before = rows_at m.name (key_places m.schema) rows now.log (length now.log)

      found : find_table plan.table now.tables ≡ Some (record { schema = m.schema; rows = rows_before })
      found = ap (λ (n : List ℕ). find_table n now.tables) (sym of.of.name) ∙ was.table.found

      ends_are : answers.Ends range ≡ ends_of (keys_of (key_places m.schema) rows_before)
      ends_are = sym ends ∙ said.answer ∙ ap (λ (o : Option TableRows). of_table o (λ t. ends_of (keys_of (key_places t.schema) t.rows))) found

      ranged : copy_state more work.copier ≡ Waiting (range_of (key_places m.schema) (rows_at m.name (key_places m.schema) rows then.log (length then.log)))
      ranged =
          range_is (key_places m.schema) rows_before range more plan (moment plan journal).tool.operator.size position ends_are
          ∙ ap (λ (s : Stored). Waiting (range_of (key_places m.schema) (rows_at m.name (key_places m.schema) rows s.log (length s.log)))) (sym said.same)

      noted : position ≤ length then.log
      noted = let before : position ≤ length now.log = subst (λ (s : Setup). NotedIn s (length now.log)) reaching was.noted in let longer : length now.log ≤ length then.log = left_now.longer in omega (arith, before, longer)

      then_free : (actor : Actor) → same_actor Insp actor ≡ false → has actor ≡ free → standing_of plan more actor ≡ free
      then_free actor differ none = others_stand plan journal entry together.known (record { answered = run.answered; seated = record { session = run.followed.session } }) actor (ap (λ (a : Actor). same_actor a actor) insp ∙ differ) ∙ none

      -- a session that has nothing holds nothing
      holds_none : (actor : Actor) (n : ℕ) → standing_of plan more actor ≡ free → MayTake more n (live_session more actor) → hold_at then n ≡ no_hold
      holds_none actor n none may = by (live_session more actor) refl may where
        by : (live : Option ℕ) → live_session more actor ≡ live → MayTake more n live → hold_at then n ≡ no_hold
        by None lives above = new_holds plan more n then_known.marking.tabled.all.tool.known above
        by (Some session) lives is =
            (((journal_holds (limits_of plan) (scene_of plan more) more scene_run).holds.fits n).rests (ap (λ (k : ℕ). (face_of then.sessions k).busy) is ∙ ap (λ (o : Option ℕ). (standing_in then o).busy) (sym lives) ∙ ap (λ (s : Standing). s.busy) none)).0

      named_new : m.new.name ≡ ghost_name m.name
      named_new = ghost_named plan m of.of ∙ ap ghost_name (sym of.of.name)

      differ : bytes_eq m.new.name m.name ≡ false
      differ = ap (λ (n : List ℕ). bytes_eq n m.name) named_new ∙ turned_bytes m.name (ghost_name m.name) (not_ghost m.name)

      sized : 0 < (moment plan journal).tool.operator.size
      sized = let keyed : 1 ≤ (moment plan journal).tool.operator.size = (all_keyed plan journal of.runs.fitting of.runs.stands (tables_stay plan journal of.runs.fitting of.runs.tables before.faithful before.follows) before.faithful before.follows).sized in omega (arith, keyed)

      batched : 0 < plan.options.dml_batch_size
      batched = let batch : 1 ≤ plan.options.dml_batch_size = of.runs.fitting.batch in omega (arith, batch)

      starts_now : (copier applier : ℕ) → ActorStates more copier applier → IsMigrationStart m rows (limits_of plan) (scene_of plan []) more (machines_in work copier applier)
      starts_now copier applier actor_states = record {
        start = record {
          fits = left_now.table.log_fits;
          noted = noted;
          old = left_now.table.found;
          empty = ghost_stays (ap past_ghost reaching);
          range = ranged;
          resting = refl;
          copier_rests = holds_none Copy copier (then_free Copy refl stands.copier) actor_states.copy;
          applier_rests = holds_none Apply applier (then_free Apply refl stands.applier) actor_states.apply;
          differ = differ;
          two = actor_states.two;
        };
        named = named_new;
        following = refl;
        choosing = refl;
        sized = sized;
        reading = refl;
        batched = batched;
        away = λ n no_copier no_applier. left_now.away n;
      }

      none_then : (actor : Actor) (request : Request) → standing_of plan more actor ≡ free → (standing_of plan more actor).waits ≡ Some request → ⊥
      none_then actor request none some = no (sym (ap (λ (s : Standing). s.waits) none) ∙ some) where
        no : None ≡ Some request → ⊥
        no both = cc

      goes_now : GoesSomehow plan m at rows more
      goes_now = record {
        work = work;
        tool_phase = then_tool_phase;
        goes = record {
          stands = λ copier applier actor_states. starts m at rows of.planned (limits_of plan) (scene_of plan []) more (machines_in work copier applier) (starts_now copier applier actor_states);
          copy_waits = λ request some. absurd (none_then Copy request (then_free Copy refl stands.copier) some);
          apply_waits = λ request some. absurd (none_then Apply request (then_free Apply refl stands.applier) some);
          map = sym of.of.columns;
          schema = sym of.of.new;
          apply_map = sym of.of.columns;
        };
      }

-- FROM THE OPENING ON

-- the tool sets up, or the migration goes
data StandsSo (plan : PlanData) (m : Migration) (at : Clustered m.schema) (rows : List Row) (journal : List Entry) : Type 0 where
  sets_up : (setup : Setup) (tries : List ℕ) → (moment plan journal).tool.tool_phase ≡ SettingUp setup tries → SetupGoes plan m rows journal setup → StandsSo plan m at rows journal
  goes_so : GoesSomehow plan m at rows journal → StandsSo plan m at rows journal

-- how a setup is ready
data ReadyBy (setup : Setup) (answer : Answer) (position : ℕ) (range : Option KeyRange) : Type 0 where
  reached_so : setup ≡ Reaching position → answer ≡ answers.Ends range → ReadyBy setup answer position range
  was_so : setup ≡ Ready position range → ReadyBy setup answer position range

ready_by : (table : List ℕ) (setup : Setup) (answer : Answer) (position : ℕ) (range : Option KeyRange) → setup_step table setup answer ≡ Ready position range → ReadyBy setup answer position range
ready_by table (Reaching from) (answers.Ends ends) position range is = let one : from ≡ position = cc in let other : ends ≡ range = cc in reached_so (ap Reaching one) (ap answers.Ends other)
ready_by table (Ready from ends) answer position range is = was_so is
ready_by table Listing (answers.Tables shown) position range is = absurd (clears (listed table shown) is) where
  clears : (some : Leftovers) → clearing some ≡ Ready position range → ⊥
  clears some is = by (is_clear some) is where
    by : (b : Bool) → cond b MakingLog (Clearing some) ≡ Ready position range → ⊥
    by true is = cc
    by false is = cc
ready_by table (Clearing some_left) (answers.Ok count) position range is = absurd (clears (without_first some_left) is) where
  clears : (some : Leftovers) → clearing some ≡ Ready position range → ⊥
  clears some is = by (is_clear some) is where
    by : (b : Bool) → cond b MakingLog (Clearing some) ≡ Ready position range → ⊥
    by true is = cc
    by false is = cc
ready_by table MakingLog (answers.Ok count) position range is = absurd cc
ready_by table MakingGhost (answers.Ok count) position range is = absurd cc
ready_by table Marking (answers.At end) position range is = absurd cc
ready_by table setup answer position range is = absurd cc

setup_more : (plan : PlanData) (m : Migration) (at : Clustered m.schema) (rows : List Row) (of : IsMigrationOf plan m rows) (journal : List Entry) (entry : Entry) (kept : IsKept plan (journal ++ entry ∷ [])) (off : IsUnaltered plan (journal ++ entry ∷ [])) (going : is_reverting (moment plan (journal ++ entry ∷ [])).tool.reason ≡ false)
    (setup : Setup) (tries : List ℕ) (tool_phase : (moment plan journal).tool.tool_phase ≡ SettingUp setup tries) (was : SetupGoes plan m rows journal setup) → StandsSo plan m at rows (journal ++ entry ∷ [])
setup_more plan m at rows of journal entry kept off going setup tries tool_phase was = by (setup_turn plan journal entry setup tries tool_phase going) where
  size : ℕ
  size = (moment plan journal).tool.operator.size

  stepped : (next : Setup) → setup_step plan.table setup entry.answer ≡ next → (some : List ℕ) → entry.actor ≡ Insp → is_cut entry.asked ≡ false → is_bad entry.answer ≡ false → (moment plan (journal ++ entry ∷ [])).tool.tool_phase ≡ tool_phase_of plan size next some → StandsSo plan m at rows (journal ++ entry ∷ [])
  stepped next is some insp uncut good then = to next is then where
    goes_on : SetupGoes plan m rows (journal ++ entry ∷ []) (setup_step plan.table setup entry.answer)
    goes_on = goes_setting plan m at rows of journal entry kept off going setup tries tool_phase was insp uncut good

    setting : (next : Setup) → setup_step plan.table setup entry.answer ≡ next → (moment plan (journal ++ entry ∷ [])).tool.tool_phase ≡ SettingUp next some → StandsSo plan m at rows (journal ++ entry ∷ [])
    setting next is then = sets_up next some then (subst (SetupGoes plan m rows (journal ++ entry ∷ [])) is goes_on)

    ready : (position : ℕ) (range : Option KeyRange) → ReadyBy setup entry.answer position range → (moment plan (journal ++ entry ∷ [])).tool.tool_phase ≡ Migrating (new_work plan size position range) → StandsSo plan m at rows (journal ++ entry ∷ [])
    ready position range (reached_so reaching ends) then = goes_so (goes_now plan m at rows of journal entry kept off going setup tries tool_phase was insp uncut good position range reaching ends some then)
    ready position range (was_so same) then = absurd (no (sym (ap (setup_call plan) same) ∙ (insp_turn plan m at rows of journal entry kept off going setup tries tool_phase was insp uncut good).call)) where
      no : None ≡ Some (insp_turn plan m at rows of journal entry kept off going setup tries tool_phase was insp uncut good).request → ⊥
      no both = cc

    to : (next : Setup) → setup_step plan.table setup entry.answer ≡ next → (moment plan (journal ++ entry ∷ [])).tool.tool_phase ≡ tool_phase_of plan size next some → StandsSo plan m at rows (journal ++ entry ∷ [])
    to (Ready position range) is then = ready position range (ready_by plan.table setup entry.answer position range is) then
    to Listing is then = setting Listing is then
    to (Clearing some_left) is then = setting (Clearing some_left) is then
    to MakingLog is then = setting MakingLog is then
    to MakingGhost is then = setting MakingGhost is then
    to Marking is then = setting Marking is then
    to (Reaching position) is then = setting (Reaching position) is then

  by : SetupTo plan entry size setup (moment plan (journal ++ entry ∷ [])).tool.tool_phase → StandsSo plan m at rows (journal ++ entry ∷ [])
  by (rests_so some then) =
      sets_up setup some then
      (setup_with plan m at rows of journal entry kept off going setup tries tool_phase was setup (ghost_stays plan m at rows of journal entry kept off going setup tries tool_phase was)
      (grows setup _ _ (left_now plan m at rows of journal entry kept off going setup tries tool_phase was).longer was.noted))
  by (begins_again some then) = sets_up Listing some then (setup_with plan m at rows of journal entry kept off going setup tries tool_phase was Listing (λ past. absurd (false≢true past)) tt)
  by (steps_on some insp uncut good then) = stepped (setup_step plan.table setup entry.answer) refl some insp uncut good then

stands_more : (plan : PlanData) (m : Migration) (at : Clustered m.schema) (rows : List Row) → IsMigrationOf plan m rows → (journal : List Entry) (entry : Entry) → IsKept plan (journal ++ entry ∷ []) → IsUnaltered plan (journal ++ entry ∷ []) → is_reverting (moment plan (journal ++ entry ∷ [])).tool.reason ≡ false
    → StandsSo plan m at rows journal → StandsSo plan m at rows (journal ++ entry ∷ [])
stands_more plan m at rows of journal entry kept off going (goes_so was) = goes_so (followers_go_on plan m at rows of journal (entry ∷ []) kept off going was)
stands_more plan m at rows of journal entry kept off going (sets_up setup tries tool_phase was) = setup_more plan m at rows of journal entry kept off going setup tries tool_phase was

all_exist : (plan : PlanData) (m : Migration) (at : Clustered m.schema) (rows : List Row) → IsMigrationOf plan m rows → (journal rest : List Entry) → IsKept plan (journal ++ rest) → IsUnaltered plan (journal ++ rest) → is_reverting (moment plan (journal ++ rest)).tool.reason ≡ false → StandsSo plan m at rows journal → StandsSo plan m at rows (journal ++ rest)
all_exist plan m at rows of journal [] kept off going was = subst (StandsSo plan m at rows) (sym (append-nil journal)) was
all_exist plan m at rows of journal (entry ∷ rest) kept off going was =
    let same : (journal ++ entry ∷ []) ++ rest ≡ journal ++ entry ∷ rest = append_assoc journal (entry ∷ []) rest in
    let kept_all : IsKept plan ((journal ++ entry ∷ []) ++ rest) = subst (IsKept plan) (sym same) kept in
    let off_all : IsUnaltered plan ((journal ++ entry ∷ []) ++ rest) = subst (IsUnaltered plan) (sym same) off in
    let going_all : is_reverting (moment plan ((journal ++ entry ∷ []) ++ rest)).tool.reason ≡ false = subst (λ (j : List Entry). is_reverting (moment plan j).tool.reason ≡ false) (sym same) going in
    subst (StandsSo plan m at rows) same
    (all_exist plan m at rows of (journal ++ entry ∷ []) rest kept_all off_all going_all
    (stands_more plan m at rows of journal entry (kept_front plan (journal ++ entry ∷ []) rest kept_all) (unaltered_front plan (journal ++ entry ∷ []) rest off_all) (going_front plan (journal ++ entry ∷ []) rest going_all) was))

opens_so : (plan : PlanData) (m : Migration) (at : Clustered m.schema) (rows : List Row) → find_table m.name plan.tables ≡ Some (record { schema = m.schema; rows = rows }) → StandsSo plan m at rows []
unfolding moment state_after
opens_so plan m at rows found = sets_up Listing [] refl (record { table = table_opens m rows plan.tables found; away = λ n. tt; empty = λ past. absurd (false≢true past); noted = tt })

-- *Followers go*
pub followers_go : FollowersGo
followers_go plan m at rows of found journal work kept off going tool_phase = by (all_exist plan m at rows of [] journal kept off going (opens_so plan m at rows found)) where
  by : StandsSo plan m at rows journal → GoesSomehow plan m at rows journal
  by (goes_so was) = was
  by (sets_up setup tries is was) = absurd (no (sym is ∙ tool_phase)) where
    no : SettingUp setup tries ≡ Migrating work → ⊥
    no same = cc
