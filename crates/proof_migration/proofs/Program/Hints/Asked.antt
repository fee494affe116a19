-- What a turn asks and logs, of the changelog.
use Rattle.proof_migration.proofs.ToolServes.{tool_serves}
use Rattle.std.proofs.Common.{◌≡◌, ◌⊎◌, ℕ, Bool, true, false, cond, List, [], ◌∷◌, ◌++◌, Option, Some, None, refl, sym, ap, ◌∙◌, subst, inl, inr}
use Rattle.std.specs.Str.{bytes_eq}
use Rattle.std.proofs.lemmas.Bool.{true≢false, false_from_ne_true}
use Rattle.std.proofs.lemmas.Option.{none-some}
use Rattle.base_script.specs.declared.actor.Actor.{Actor}
use Rattle.base_script.specs.declared.actor.Actor.TheVariants.{Op, Insp, Copy, Apply, Lock, Ren, Client}
use Rattle.base_script.specs.declared.statement.Statement.{Statement}
use Rattle.server_model.specs.declared.entry.Asked.{Asked}
use Rattle.server_model.specs.declared.entry.Asked.TheVariants.{Call, Poll, Command, Cut}
use Rattle.server_model.specs.declared.entry.Entry.{Entry}
use Rattle.server_model.specs.declared.request.Request.{Request}
use Rattle.server_model.specs.declared.request.Request.TheVariants as requests
use Rattle.server_model.specs.Entries.{is_command, is_cut, same_actor, is_client}
use Rattle.server_model.specs.Operations.{table_of}
use Rattle.server_model.specs.States.{State, is_of_tool, session_of}
use Rattle.plan_data.specs.PlanData.{PlanData}
use Rattle.base_values.specs.ToolNames.{is_tool_name, log_name, ghost_name}
use Rattle.tool_program.specs.JournalWords.Journals.{may_lose, opens, state_at}
use Rattle.tool_program.specs.declared.cutover_core.cutover.Clearing.{Clearing}
use Rattle.tool_program.specs.declared.cutover_core.cutover.Clearing.TheVariants.{Looking, Drops}
use Rattle.tool_program.specs.declared.cutover_core.cutover.CutOver.{CutOver}
use Rattle.tool_program.specs.declared.cutover_core.cutover.Phase.{Phase}
use Rattle.tool_program.specs.declared.cutover_core.cutover.Phase.TheVariants.{Resting, Attempting, Ending, Finishing, Finished}
use Rattle.tool_program.specs.declared.cutover_core.cutover.Role.TheVariants.{Inspector}
use Rattle.tool_program.specs.declared.cutover_core.cutover.Stage.TheVariants.{Hinting, Showing, ReadingCounter, SettingCounter}
use Rattle.tool_program.specs.CutoverCore.Attempts as cutovers
use Rattle.tool_program.specs.Programs.{IsGiven, given, tool_call}
use Rattle.tool_program.specs.Setups.{Setup, Listing, Clearing as Clears, MakingLog, MakingGhost, Marking, Reaching, Ready, setup_call}
use Rattle.tool_program.specs.Tools.{ToolPhase, Migrating, SettingUp, Work, is_reverting, moment}
use Rattle.tool_program.proofs.OnlineCalls.Machines.{ToolPhaseIsNamed, named}
use Rattle.proof_journals.specs.Plans.{IsSerialPlan, limits_of, scene_of}
use Rattle.proof_journals.specs.Holdings.{face_in, face_of}
use Rattle.proof_journals.specs.Turns.{ClientAsks, IsSceneRun, about}
use Rattle.proof_journals.proofs.Actors.{Begins, Commands, GoesOn, Placed, placed}
use Rattle.proof_journals.proofs.PlanJournals.{plan_runs_are_scene_runs}
use Rattle.proof_migration.proofs.Migration.Leaves.{WritesAway}
use Rattle.proof_journals.specs.Run.Kept.{IsKept}
use Rattle.proof_journals.specs.Machine.Machines.{ToolPhaseStands, WorkStands}
use Rattle.proof_journals.specs.Machine.Runnable.{IsRunnable}
use Rattle.proof_journals.specs.Machine.Standings.{Standing, standing_in, standing_of}
use Rattle.proof_journals.specs.Machine.MigrationTables.{ToolPhaseTables, SetupTables}
use Rattle.proof_journals.proofs.Machine.Asking.{some_request, unless_called}
use Rattle.proof_journals.proofs.Machine.Inspecting.{IsNote, inspects_or}
use Rattle.proof_journals.proofs.Machine.Journals.{Asking, IsRun, IsTogether, asking, calls_so, polls_so}
use Rattle.proof_journals.proofs.Machine.Marks.{ghost_not_log}
use Rattle.proof_journals.proofs.Machine.Seated.{IsServed}
use Rattle.server_model.proofs.LockedRows.Tests.{are_same}
use Rattle.proof_migration.specs.ToolPhase.Unaltered.{IsUnaltered}
use Rattle.proof_migration.proofs.ToolPhase.Unaltered.Asking.{AskedAs, ToolCall}
use Rattle.proof_migration.proofs.ToolPhase.Unaltered.Away.{IsKnownAsked, all_asked, log_is_tool, tool_not_mine}
use Rattle.proof_migration.proofs.ToolPhase.Unaltered.Runs.{unaltered_runs}
use Rattle.proof_migration.proofs.Program.Turns.Asked.{asked_as, waits_with}
use Rattle.proof_migration.proofs.Program.Turns.Follows.{kept_front, kept_run}
use Rattle.proof_migration.proofs.Program.Hints.Logging.{LeavesAway, LeavesHint, LeavesNote, LogsAway, LogsHint, LogsNote, NoneWrote, away_left, cut_left, hint_left, note_left, watched}
use Rattle.proof_migration.proofs.Program.Hints.Phases.{AsksHint, WaitsHint, may_hint, note_asks}
use Rattle.proof_migration.proofs.Program.Hints.Writes.{hint_insert}

-- WHAT THE INSPECTOR CALLS

insp_called : (t : List ℕ) (cutover : CutOver) (request : Request) → cutover.table ≡ t → cutovers.next Inspector cutover ≡ Some request → AsksHint t cutover.attempts cutover.phase request
unfolding cutovers.next
insp_called t cutover request own is = by cutover.phase is where
  clears : (phase : Phase) (clearing : Clearing) → cutovers.clears cutover.table clearing ≡ Some request → AsksHint t cutover.attempts phase request
  clears phase Looking is = some_request (AsksHint t cutover.attempts phase) requests.ShowTables request is tt
  clears phase (Drops left) is = some_request (AsksHint t cutover.attempts phase) (requests.Drop (cutovers.first_name cutover.table left)) request is tt

  ends : (b : Bool) (clearing : Clearing) → cond b (cutovers.clears cutover.table clearing) None ≡ Some request → AsksHint t cutover.attempts (Ending clearing) request
  ends true clearing is = clears (Ending clearing) clearing is
  ends false clearing is = absurd cc

  by : (phase : Phase) → cutovers.inspector_call cutover phase ≡ Some request → AsksHint t cutover.attempts phase request
  by (Attempting Hinting) is = some_request (AsksHint t cutover.attempts (Attempting Hinting)) (cutovers.writes_hint cutover.table cutover.attempts) request is (inl (ap (λ (n : List ℕ). hint_insert n cutover.attempts) own, refl))
  by (Attempting (ReadingCounter drain)) is = some_request (AsksHint t cutover.attempts (Attempting (ReadingCounter drain))) (requests.ShowCounter cutover.table) request is tt
  by (Attempting (SettingCounter number drain)) is = some_request (AsksHint t cutover.attempts (Attempting (SettingCounter number drain))) (requests.SetCounter (ghost_name cutover.table) number) request is tt
  by (Attempting Showing) is = some_request (AsksHint t cutover.attempts (Attempting Showing)) requests.ShowWaiting request is tt
  by (Attempting stage) is = absurd cc
  by (Ending clearing) is = ends (cutovers.is_free cutover.hold cutover.renamer_waits) clearing is
  by (Finishing clearing) is = clears (Finishing clearing) clearing is
  by Resting is = absurd cc
  by Finished is = absurd cc

-- the setup writes no row
pub setup_away : (plan : PlanData) (t : List ℕ) (setup : Setup) (request : Request) → setup_call plan setup ≡ Some request → WritesAway (watched t) request
setup_away plan t Listing request is = some_request (WritesAway (watched t)) _ request is tt
setup_away plan t (Clears left) request is = some_request (WritesAway (watched t)) _ request is tt
setup_away plan t MakingLog request is = some_request (WritesAway (watched t)) _ request is tt
setup_away plan t MakingGhost request is = some_request (WritesAway (watched t)) _ request is tt
setup_away plan t Marking request is = some_request (WritesAway (watched t)) _ request is tt
setup_away plan t (Reaching position) request is = some_request (WritesAway (watched t)) _ request is tt
setup_away plan t (Ready position range) request is = absurd cc

-- A TURN

module _ (plan : PlanData) (runs : IsRunnable plan) (serial : IsSerialPlan plan) (journal : List Entry) (entry : Entry) (kept : IsKept plan (journal ++ entry ∷ [])) (off : IsUnaltered plan (journal ++ entry ∷ [])) where
  abbrev t : List ℕ
  t = plan.table

  abbrev more : List Entry
  more = journal ++ entry ∷ []

  abbrev now : State
  now = state_at plan journal

  abbrev then : State
  then = state_at plan more

  abbrev has : Actor → Standing
  has = standing_of plan journal

  pub before : IsKept plan journal
  before = kept_front plan journal (entry ∷ []) kept

  pub known : IsKnownAsked plan journal
  known = all_asked plan journal runs before.faithful before.follows

  pub run : IsRun plan journal entry
  run = kept_run plan journal entry kept

  pub scene_run : IsSceneRun (limits_of plan) (scene_of plan more) more
  scene_run = plan_runs_are_scene_runs plan more (unaltered_runs plan more runs serial kept off)

  pub together : IsTogether plan journal
  together = known.marking.tabled.all.tool

  pub served : IsServed plan journal entry
  served = record { answered = run.answered; seated = record { session = run.followed.session } }

  abbrev About : Request → Type 0
  About request = about (opens entry now) entry.session entry.asked ≡ Some request

  -- a turn about a request is no command
  pub uncommanded : (request : Request) → About request → is_command entry.asked ≡ false
  uncommanded request is = by entry.asked refl is where
    by : (asked : Asked) → entry.asked ≡ asked → about (opens entry now) entry.session asked ≡ Some request → is_command entry.asked ≡ false
    by (Call called) asks is = ap is_command asks
    by Poll asks is = ap is_command asks
    by Cut asks is = ap is_command asks
    by (Command word) asks is = absurd cc

  -- the inspector's request was called now, or waits
  pub insp_from : (P : Type 0) (request : Request) → entry.actor ≡ Insp → About request → (tool_call plan (moment plan journal).server journal (moment plan journal).tool (moment plan journal).tool.tool_phase Insp ≡ Some request → P) → ((has Insp).waits ≡ Some request → P) → P
  unfolding given
  insp_from P request same is calls waits = by entry.asked refl run.followed.given is where
    waited : is_command entry.asked ≡ false → about (opens entry now) entry.session Poll ≡ Some request → P
    waited called is = waits (ap (λ (a : Actor). (has a).waits) (sym same) ∙ waits_with plan serial runs.fitting journal entry known run off called request is)

    called_so : (called : Request) → given plan journal Insp ≡ Some (Call called) → called ≡ request → P
    called_so called gives one = by (asking plan journal Insp (Call called) together.server gives) where
      by : Asking plan journal Insp (Call called) → P
      by (calls_so other two idle call) = let both : other ≡ called = cc in calls (call ∙ ap Some (both ∙ one))
      by (polls_so other two some) = absurd (no two) where
        no : Call called ≡ Poll → ⊥
        no both = cc

    by : (asked : Asked) → entry.asked ≡ asked → IsGiven plan journal entry asked → about (opens entry now) entry.session asked ≡ Some request → P
    by (Call called) asks gives is = called_so called (subst (λ (a : Actor). given plan journal a ≡ Some (Call called)) same gives) (let one : called ≡ request = cc in one)
    by Poll asks gives is = waited (ap is_command asks) is
    by Cut asks gives is = waited (ap is_command asks) is
    by (Command word) asks gives is = absurd cc

  -- while the setup goes on it is the setup's call
  pub insp_setup : (setup : Setup) (tries : List ℕ) (request : Request) → (moment plan journal).tool.tool_phase ≡ SettingUp setup tries → entry.actor ≡ Insp → About request → setup_call plan setup ≡ Some request
  insp_setup setup tries request tool_phase same is =
      insp_from (setup_call plan setup ≡ Some request) request same is
      (λ call. unless_called (is_reverting (moment plan journal).tool.reason) (setup_call plan setup) request (ap (λ (c : ToolPhase). tool_call plan (moment plan journal).server journal (moment plan journal).tool c Insp) (sym tool_phase) ∙ call))
      (λ some. tables.waits request some) where
        tables : SetupTables plan now.tables has setup
        tables = subst (ToolPhaseTables plan now.tables has) tool_phase known.marking.tabled.tables

  -- afterwards it is the cut-over's, or a note
  pub insp_work : (work : Work) (request : Request) → (moment plan journal).tool.tool_phase ≡ Migrating work → WaitsHint t work.cutover.attempts work.cutover.phase (has Insp).waits → entry.actor ≡ Insp → About request → AsksHint t work.cutover.attempts work.cutover.phase request
  insp_work work request tool_phase waits same is =
      insp_from (AsksHint t work.cutover.attempts work.cutover.phase request) request same is
      (λ call. inspects_or plan journal (moment plan journal).tool work request (AsksHint t work.cutover.attempts work.cutover.phase request) (ap (λ (c : ToolPhase). tool_call plan (moment plan journal).server journal (moment plan journal).tool c Insp) (sym tool_phase) ∙ call)
      (λ note resting. note_asks t work.cutover.attempts work.cutover.phase request note) (λ next. insp_called t work.cutover request (subst (ToolPhaseIsNamed plan) tool_phase (named plan journal)).cutover next)) (λ some. waits request some)

  -- WHO WRITES NO ROW OF THE CHANGELOG

  client_away : (request : Request) → ClientAsks (scene_of plan []) request → WritesAway (watched t) request
  client_away (requests.Do statement) asks = false_from_ne_true (bytes_eq (table_of statement) (log_name t)) (λ same. true≢false (sym asks ∙ tool_not_mine plan (table_of statement) serial (ap (is_tool_name t) (are_same (table_of statement) (log_name t) same) ∙ log_is_tool t)))
  client_away (requests.CopyRow from into map key) asks = absurd asks
  client_away request asks = tt

  tool_away : (request : Request) (actor : Actor) → same_actor actor Insp ≡ false → ToolCall plan request actor → WritesAway (watched t) request
  tool_away (requests.Do statement) Apply other asks = ap (λ (n : List ℕ). bytes_eq n (log_name t)) asks ∙ ghost_not_log t
  tool_away (requests.Do statement) Insp other asks = absurd (true≢false other)
  tool_away (requests.Do statement) Op other asks = absurd asks
  tool_away (requests.Do statement) Copy other asks = absurd asks
  tool_away (requests.Do statement) Lock other asks = absurd asks
  tool_away (requests.Do statement) Ren other asks = absurd asks
  tool_away (requests.Do statement) (Client c) other asks = absurd asks
  tool_away (requests.CopyRow from into map key) Copy other asks = ap (λ (n : List ℕ). bytes_eq n (log_name t)) asks ∙ ghost_not_log t
  tool_away (requests.CopyRow from into map key) Op other asks = absurd asks
  tool_away (requests.CopyRow from into map key) Insp other asks = absurd asks
  tool_away (requests.CopyRow from into map key) Apply other asks = absurd asks
  tool_away (requests.CopyRow from into map key) Lock other asks = absurd asks
  tool_away (requests.CopyRow from into map key) Ren other asks = absurd asks
  tool_away (requests.CopyRow from into map key) (Client c) other asks = absurd asks
  tool_away request actor other asks = tt

  others_away : same_actor entry.actor Insp ≡ false → (request : Request) → About request → WritesAway (watched t) request
  others_away other request is = by entry.actor other (asked_as plan serial runs.fitting journal entry known run off request is) where
    by : (actor : Actor) → same_actor actor Insp ≡ false → AskedAs plan actor request → WritesAway (watched t) request
    by (Client c) other asks = client_away request asks
    by Op other asks = absurd asks
    by Insp other asks = absurd (true≢false other)
    by Copy other asks = tool_away request Copy other asks
    by Apply other asks = tool_away request Apply other asks
    by Lock other asks = tool_away request Lock other asks
    by Ren other asks = tool_away request Ren other asks

  -- WHAT THE TURN LEAVES

  module _ (none : NoneWrote t now) where
    leaves_away : ((request : Request) → About request → WritesAway (watched t) request) → LeavesAway t now then
    leaves_away writes = away_left t (limits_of plan) (scene_of plan more) journal entry scene_run run.answered.sides none writes

    pub others_left : same_actor entry.actor Insp ≡ false → LeavesAway t now then
    others_left other = leaves_away (others_away other)

    pub lost_left : entry.asked ≡ Cut → LeavesAway t now then
    lost_left cut = cut_left t (limits_of plan) (scene_of plan more) journal entry scene_run run.answered.sides none (ap is_cut cut) (ap may_lose cut)

    pub setup_left : (setup : Setup) (tries : List ℕ) → (moment plan journal).tool.tool_phase ≡ SettingUp setup tries → entry.actor ≡ Insp → LeavesAway t now then
    setup_left setup tries tool_phase same = leaves_away (λ request is. setup_away plan t setup request (insp_setup setup tries request tool_phase same is))

    -- the inspector's turn behind the setup
    pub record InspLeft (work : Work) : Type 0 where
      pub logs : LogsAway t now then ⊎ (LogsNote t now then ⊎ (LogsHint t work.cutover.attempts entry.answer now then × (may_hint work.cutover.phase ≡ true)))
      pub wrote : NoneWrote t then

    away_so : (work : Work) → LeavesAway t now then → InspLeft work
    away_so work left = record { logs = inl left.logs; wrote = left.none }

    -- its session is in no transaction
    idle_face : entry.actor ≡ Insp → (has Insp).busy ≡ false → is_command entry.asked ≡ false → (face_of now.sessions entry.session).busy ≡ false
    idle_face same idle called = by (placed journal entry served.seated) ∙ ap (λ (a : Actor). (has a).busy) same ∙ idle where
      by : Placed journal entry → (face_of now.sessions entry.session).busy ≡ (has entry.actor).busy
      by (Commands command zero) = absurd (true≢false (sym command ∙ called))
      by (GoesOn calls live) = ap (λ (o : Option ℕ). (standing_in now o).busy) (sym live)
      by (Begins calls uncut live above) = ap (λ s. (face_in s).busy) (together.known.fresh entry.session above) ∙ ap (λ (o : Option ℕ). (standing_in now o).busy) (sym live)

    statement_so : (work : Work) (statement : Statement) → (moment plan journal).tool.tool_phase ≡ Migrating work → entry.actor ≡ Insp → is_cut entry.asked ≡ false → About (requests.Do statement) → AsksHint t work.cutover.attempts work.cutover.phase (requests.Do statement) → InspLeft work
    statement_so work statement tool_phase same uncut is asks = by asks where
      stands : WorkStands journal (is_reverting (moment plan journal).tool.reason) has work
      stands = subst (ToolPhaseStands journal has (is_reverting (moment plan journal).tool.reason)) tool_phase together.stands

      idle : (face_of now.sessions entry.session).busy ≡ false
      idle = idle_face same stands.inspector.busy (uncommanded (requests.Do statement) is)

      of_tool : is_of_tool (session_of entry.session (opens entry now).sessions) ≡ true
      of_tool = tool_serves plan journal entry before together run (uncommanded (requests.Do statement) is) (ap is_client same)

      hint_so : statement ≡ hint_insert t work.cutover.attempts → may_hint work.cutover.phase ≡ true → InspLeft work
      hint_so hint may = record { logs = by_hint left.logs; wrote = left.none } where
        left : LeavesHint t work.cutover.attempts entry.answer now then
        left = hint_left t (limits_of plan) (scene_of plan more) journal entry scene_run run.answered.sides none work.cutover.attempts uncut (is ∙ ap (λ (s : Statement). Some (requests.Do s)) hint) idle of_tool

        by_hint : LogsAway t now then ⊎ LogsHint t work.cutover.attempts entry.answer now then → LogsAway t now then ⊎ (LogsNote t now then ⊎ (LogsHint t work.cutover.attempts entry.answer now then × (may_hint work.cutover.phase ≡ true)))
        by_hint (inl away) = inl away
        by_hint (inr logged) = inr (inr (logged, may))

      note_so : IsNote t (requests.Do statement) → InspLeft work
      note_so note = record { logs = by_note left.logs; wrote = left.none } where
        left : LeavesNote t now then
        left = note_left t (limits_of plan) (scene_of plan more) journal entry scene_run run.answered.sides none note.row note.kind uncut (is ∙ ap Some note.is) idle of_tool

        by_note : LogsAway t now then ⊎ LogsNote t now then → LogsAway t now then ⊎ (LogsNote t now then ⊎ (LogsHint t work.cutover.attempts entry.answer now then × (may_hint work.cutover.phase ≡ true)))
        by_note (inl away) = inl away
        by_note (inr logged) = inr (inl logged)

      by : ((statement ≡ hint_insert t work.cutover.attempts) × (may_hint work.cutover.phase ≡ true)) ⊎ IsNote t (requests.Do statement) → InspLeft work
      by (inl hint) = hint_so hint.0 hint.1
      by (inr note) = note_so note

    same_about : (one other : Request) → About one → About other → one ≡ other
    same_about one other is also = let both : Some one ≡ Some other = sym is ∙ also in cc

    pub insp_left : (work : Work) → (moment plan journal).tool.tool_phase ≡ Migrating work → WaitsHint t work.cutover.attempts work.cutover.phase (has Insp).waits → entry.actor ≡ Insp → is_cut entry.asked ≡ false → InspLeft work
    insp_left work tool_phase waits same uncut = by (about (opens entry now) entry.session entry.asked) refl where
      only : (request : Request) → About request → WritesAway (watched t) request → InspLeft work
      only request is away = away_so work (leaves_away (λ other also. subst (WritesAway (watched t)) (same_about request other is also) away))

      asked_so : (request : Request) → About request → AsksHint t work.cutover.attempts work.cutover.phase request → ToolCall plan request Insp → InspLeft work
      asked_so (requests.Do statement) is asks call = statement_so work statement tool_phase same uncut is asks
      asked_so (requests.CopyRow from into map key) is asks call = absurd call
      asked_so request is asks call = only request is tt

      by : (asks : Option Request) → about (opens entry now) entry.session entry.asked ≡ asks → InspLeft work
      by None is = away_so work (leaves_away (λ request some. absurd (none-some request (sym is ∙ some))))
      by (Some request) is = asked_so request is (insp_work work request tool_phase waits same is) (subst (λ (a : Actor). AskedAs plan a request) same (asked_as plan serial runs.fitting journal entry known run off request is))
