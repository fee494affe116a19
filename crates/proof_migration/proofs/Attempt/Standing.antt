-- What stands on the server in each phase, behind every journal: so the sentry's CREATE and the RENAME wait until they are
-- done.
use Rattle.std.proofs.Common.{◌≡◌, ◌⊎◌, ℕ, ◌+◌, Bool, true, false, cond, not, List, [], ◌∷◌, ◌++◌, Option, Some, None, refl, sym, ap, ◌∙◌, subst, inl, inr}
use Rattle.std.specs.List.{list_any}
use Rattle.std.specs.Str.{bytes_eq}
use Rattle.std.proofs.lemmas.Bool.{true≢false, false≢true, or_left}
use Rattle.std.proofs.lemmas.Option.{none-some}
use Rattle.base_script.specs.declared.actor.Actor.{Actor}
use Rattle.base_script.specs.declared.actor.Actor.TheVariants.{Op, Insp, Copy, Apply, Lock, Ren, Client}
use Rattle.base_script.specs.declared.operator.OperatorWord.{OperatorWord}
use Rattle.base_script.specs.declared.operator.OperatorWord.TheVariants.{ChunkSize}
use Rattle.table_store.specs.Databases.{Database}
use Rattle.server_model.specs.Along.{Along, Along-keeps}
use Rattle.server_model.specs.declared.answer.Answer.{Answer}
use Rattle.server_model.specs.declared.answer.Answer.TheVariants as answers
use Rattle.server_model.specs.declared.entry.Asked.TheVariants.{Command, Cut}
use Rattle.server_model.specs.declared.entry.Entry.{Entry}
use Rattle.server_model.specs.declared.listing.TableName.{TableName}
use Rattle.server_model.specs.declared.request.Request.{Request}
use Rattle.server_model.specs.declared.request.Request.TheVariants as requests
use Rattle.server_model.specs.Entries.{same_actor, is_cut}
use Rattle.server_model.specs.Listings.{tables_shown}
use Rattle.server_model.specs.States.{State, has_work}
use Rattle.plan_data.specs.PlanData.{PlanData}
use Rattle.base_values.specs.ToolNames.{ghost_name, old_name}
use Rattle.tool_changelog.specs.ToolTables.{sentry_schema}
use Rattle.tool_program.specs.JournalWords.Journals.{state_at, may_lose, IsFaithful}
use Rattle.tool_program.specs.declared.cutover_core.cutover.Clearing.{Clearing as Cleared}
use Rattle.tool_program.specs.declared.cutover_core.cutover.Clearing.TheVariants.{Looking, Drops}
use Rattle.tool_program.specs.declared.cutover_core.cutover.Hold.{Hold}
use Rattle.tool_program.specs.declared.cutover_core.cutover.Leftovers.{Leftovers}
use Rattle.tool_program.specs.declared.cutover_core.cutover.Hold.TheVariants.{Nothing, WaitsToGuard, WaitsToLock, Locks}
use Rattle.tool_program.specs.declared.cutover_core.cutover.Phase.{Phase}
use Rattle.tool_program.specs.declared.cutover_core.cutover.Phase.TheVariants.{Resting, Attempting, Ending, Finishing, Finished}
use Rattle.tool_program.specs.declared.cutover_core.cutover.Role.TheVariants.{Inspector, Locker, Renamer}
use Rattle.tool_program.specs.declared.cutover_core.cutover.Stage.TheVariants.{Guarding, Locking, Hinting, Drained, Showing, Dropping, Unlocking, Exchanging, ReadingCounter, SettingCounter}
use Rattle.tool_program.specs.CutoverCore.Attempts as attempts
use Rattle.tool_program.specs.CutoverCore.Attempts.{exchange, clears, first_name, is_free}
use Rattle.tool_program.specs.CutoverCore.CutOvers as cutovers
use Rattle.tool_program.specs.CutoverCore.CutOvers.{is_wait, applier_turn, reverted}
use Rattle.tool_program.specs.Programs.{inspect_call, tool_call, given, IsGiven, Follows}
use Rattle.tool_program.specs.Setups.{Setup, Listing, Clearing, MakingLog, MakingGhost, Marking, Reaching, Ready, setup_call, setup_step}
use Rattle.tool_program.specs.Tools.{Work, ToolPhase, SettingUp, Migrating, Tool, Moment, stopped, is_reverting, tool_phase_of, moment}
use Rattle.tool_program.proofs.OnlineCalls.Machines.{ToolPhaseIsNamed, named}
use Rattle.proof_journals.proofs.Machine.Inspecting.{inspects_or}
use Rattle.proof_journals.proofs.Actors.{same_actor_is}
use Rattle.proof_journals.proofs.Run.Living.{Both, both_more, living_begin}
use Rattle.proof_journals.proofs.Actors.{sessions_begin}
use Rattle.server_model.proofs.LockedRows.Tests.{same_bytes}
use Rattle.proof_journals.specs.Machine.FormedPlans.{IsFitting}
use Rattle.proof_journals.specs.Machine.Machines.{ToolPhaseStands, WorkStands, SetupStands, PhaseHolds, inspector_waits, waits_so, both_names, held, renaming}
use Rattle.proof_journals.specs.Machine.Standings.{Standing, free, standing_in, standing_of, answered, answers_to, IsAbout, is_called, is_polled}
use Rattle.proof_journals.specs.Machine.MigrationTables.{schema_of, ghost_schema, TablesExist, past_ghost, SetupTables, ToolPhaseTables, TableExists}
use Rattle.proof_journals.proofs.Machine.Asking.{some_request}
use Rattle.proof_journals.proofs.Machine.CuttingOver.{LockerAsks}
use Rattle.proof_journals.proofs.Machine.Journals.{IsRun, all_runs, Asking, calls_so, polls_so, asking, lock_about, ren_about}
use Rattle.proof_journals.proofs.Machine.Polling.{waits_same}
use Rattle.proof_journals.proofs.Machine.Schemas.{keeps_table, is_quiet, quiet_keeps, schema_stays, schema_rests}
use Rattle.proof_journals.proofs.Machine.Seated.{IsKnown, IsServed, others_stand, own_stands, own_fits, own_lost, own_session, own_waiting}
use Rattle.proof_journals.proofs.Machine.Tabling.{may_define, IsTabled, tabled_more, tabled_begins, quiet_stay, free_idle, setup_keeps, past_keeps, Passes, passed, makes, step_past, step_waits, Following, waits_on, rests, following}
use Rattle.proof_migration.proofs.ToolPhase.ToolPhaseTurns.{Kept, UnfitKeeps, CopyKeeps, ApplyKeeps, SetupKeeps, AnswerKeeps, ResizeKeeps, turn_kept, gives_asked}
use Rattle.proof_migration.proofs.ToolPhase.Owners.{commands_operator}
use Rattle.proof_migration.specs.Attempt.Laws.{AttemptsWait}
use Rattle.proof_migration.proofs.Attempt.Blocking.{IsUnrefused, rename_waits}
use Rattle.proof_migration.proofs.Attempt.InspectorAnswers.{Inspects, ListsWell, inspector_at}
use Rattle.proof_migration.proofs.Attempt.Leaving.{AllStay, ShowLeaves, Left, heard, lost, missed, create_left, drop_left, exchange_left, show_left}
use Rattle.proof_migration.proofs.Attempt.LockerAnswers.{LockerLeaves, locker_at, locker_lost_at, create_keeps}
use Rattle.proof_migration.proofs.Attempt.RenamerAnswers.{AsksAt, IsLockedAt, fails_at, renamer_at}
use Rattle.proof_migration.proofs.Attempt.SetupAnswers.{SetupFree, SetupLeaves, setup_stays, step_free}
use Rattle.proof_migration.proofs.Attempt.Stages.{RenamerAt, HoldAt, LeftAt, InspectorAt, StandsAt, ended_at, drained_at, stands_stay}

-- of the tool's course
abbrev pub ToolPhaseAt : PlanData → Database → Option Request → ToolPhase → Type 0
ToolPhaseAt plan tables inspects (SettingUp setup tries) = SetupFree plan tables setup
ToolPhaseAt plan tables inspects (Migrating work) = StandsAt plan tables inspects work.cutover.phase work.cutover.hold work.cutover.renamer_waits work.cutover.is_asked

-- what is so behind every journal
pub record IsStanding (plan : PlanData) (journal : List Entry) : Type 0 where
  pub tabled : IsTabled plan journal
  pub both : Both plan journal
  pub tool_phase : ToolPhaseAt plan (state_at plan journal).tables (standing_of plan journal Insp).waits (moment plan journal).tool.tool_phase

pub none_some : {A : Type 0} (request : Request) (waits : Option Request) → waits ≡ None → waits ≡ Some request → A
none_some request waits none some = absurd (no (sym none ∙ some)) where
  no : None ≡ Some request → ⊥
  no same = cc

module _ (plan : PlanData) (journal : List Entry) (entry : Entry) (is : IsStanding plan journal) (run : IsRun plan journal entry) where
  abbrev now : Moment
  now = moment plan journal

  abbrev tool : Tool
  tool = record now.tool { turns = now.tool.turns + 1 }

  abbrev more : List Entry
  more = journal ++ entry ∷ []

  abbrev has : Actor → Standing
  has = standing_of plan journal

  abbrev now_has : Actor → Standing
  now_has = standing_of plan more

  abbrev before : Database
  before = (state_at plan journal).tables

  abbrev after : Database
  after = (state_at plan more).tables

  abbrev New : Kept
  New = λ b tool_phase. ToolPhaseAt plan after (now_has Insp).waits tool_phase

  served : IsServed plan journal entry
  served = record { answered = run.answered; seated = record { session = run.followed.session } }

  known : IsKnown plan journal
  known = is.tabled.all.tool.known

  at_tool_phase : (tool_phase : ToolPhase) → now.tool.tool_phase ≡ tool_phase → ToolPhaseAt plan before (has Insp).waits tool_phase
  at_tool_phase tool_phase eq = subst (ToolPhaseAt plan before (has Insp).waits) eq is.tool_phase

  work_stands : (work : Work) → now.tool.tool_phase ≡ Migrating work → WorkStands journal (is_reverting now.tool.reason) has work
  work_stands work eq = subst (ToolPhaseStands journal has (is_reverting now.tool.reason)) eq is.tabled.all.tool.stands

  setup_has : (setup : Setup) (tries : List ℕ) → now.tool.tool_phase ≡ SettingUp setup tries → SetupStands has
  setup_has setup tries eq = subst (ToolPhaseStands journal has (is_reverting now.tool.reason)) eq is.tabled.all.tool.stands

  setup_tables : (setup : Setup) (tries : List ℕ) → now.tool.tool_phase ≡ SettingUp setup tries → SetupTables plan before has setup
  setup_tables setup tries eq = subst (ToolPhaseTables plan before has) eq is.tabled.tables

  own_table : (work : Work) → now.tool.tool_phase ≡ Migrating work → work.cutover.table ≡ plan.table
  own_table work eq = (subst (ToolPhaseIsNamed plan) eq (named plan journal)).cutover

  -- A TURN ABOUT A REQUEST

  pub about_own : (actor : Actor) (request : Request) → entry.actor ≡ actor → IsAbout request (has actor) entry.asked → IsAbout request (has entry.actor) entry.asked
  about_own actor request same about = subst (λ (a : Actor). IsAbout request (has a) entry.asked) (sym same) about

  stays : (name : List ℕ) (request : Request) → IsAbout request (has entry.actor) entry.asked → keeps_table name request ≡ true → schema_of name after ≡ schema_of name before
  stays name request about keeps = schema_stays plan journal entry served (own_waiting plan journal entry known served) name request about keeps

  pub quiet_stays : (request : Request) → IsAbout request (has entry.actor) entry.asked → is_quiet request ≡ true → AllStay before after
  quiet_stays request about quiet name = stays name request about (quiet_keeps name request quiet)

  pub rest : may_lose entry.asked ≡ false → AllStay before after
  rest nothing name = schema_rests plan journal entry served (own_waiting plan journal entry known served) name nothing

  -- the tables are listed by SHOW TABLES, as they stand
  pub shows : (request : Request) → IsAbout request (has entry.actor) entry.asked → (tables : List TableName) → entry.answer ≡ answers.Tables tables → request ≡ requests.ShowTables
  shows request about tables lists = by request (ap (answers_to request) (sym lists) ∙ own_fits plan journal entry known served request about) where
    by : (request : Request) → answers_to request (answers.Tables tables) ≡ true → request ≡ requests.ShowTables
    by requests.ShowTables fits = refl
    by request fits = absurd cc

  pub listed : (request : Request) → IsAbout request (has entry.actor) entry.asked → (tables : List TableName) → entry.answer ≡ answers.Tables tables → tables ≡ tables_shown before
  listed request about tables lists = by (show_left plan journal entry known served (subst (λ (r : Request). IsAbout r (has entry.actor) entry.asked) (shows request about tables lists) about)) where
    not_lost : entry.answer ≡ answers.Lost → ⊥
    not_lost is_lost = no (sym lists ∙ is_lost) where
      no : answers.Tables tables ≡ answers.Lost → ⊥
      no both = cc

    by : Left (ShowLeaves before) before entry.answer after → tables ≡ tables_shown before
    by (heard shown) = subst (λ (a : Answer). ShowLeaves before a after) lists shown
    by (lost is_lost stay) = absurd (not_lost is_lost)
    by (missed inner is_lost shown) = absurd (not_lost is_lost)

  inspector_same : (actor : Actor) → entry.actor ≡ actor → same_actor actor Insp ≡ false → now_has Insp ≡ has Insp
  inspector_same actor same differ = others_stand plan journal entry known served Insp (ap (λ (a : Actor). same_actor a Insp) same ∙ differ)

  fewer_same : now_has Insp ≡ has Insp → (request : Request) → (now_has Insp).waits ≡ Some request → (has Insp).waits ≡ Some request
  fewer_same same request some = ap (λ (s : Standing). s.waits) (sym same) ∙ some

  still : (tool_phase : ToolPhase) → now.tool.tool_phase ≡ tool_phase → AllStay before after → ((request : Request) → (now_has Insp).waits ≡ Some request → (has Insp).waits ≡ Some request) → ToolPhaseAt plan after (now_has Insp).waits tool_phase
  still (SettingUp setup tries) eq stay fewer = by setup (at_tool_phase (SettingUp setup tries) eq) where
    by : (setup : Setup) → SetupFree plan before setup → SetupFree plan after setup
    by Listing none = tt
    by (Clearing left) none = λ off. stay (old_name plan.table) ∙ none off
    by MakingLog none = stay (old_name plan.table) ∙ none
    by MakingGhost none = stay (old_name plan.table) ∙ none
    by Marking none = stay (old_name plan.table) ∙ none
    by (Reaching position) none = stay (old_name plan.table) ∙ none
    by (Ready position range) none = stay (old_name plan.table) ∙ none
  still (Migrating work) eq stay fewer = stands_stay plan before after (has Insp).waits (now_has Insp).waits work.cutover.phase work.cutover.hold work.cutover.renamer_waits work.cutover.is_asked stay fewer (at_tool_phase (Migrating work) eq)

  -- A REVERT, AND THE DRAIN

  back : (b : Bool) (tool_phase : ToolPhase) → New b tool_phase → New true (stopped tool_phase)
  unfolding reverted
  back b (SettingUp setup tries) at = at
  back b (Migrating work) at = ended_at plan after (now_has Insp).waits work.cutover.hold work.cutover.renamer_waits work.cutover.is_asked work.cutover.phase at

  drain : (b : Bool) (work : Work) (tries : List ℕ) → New b (Migrating work) → New b (Migrating (record work { cutover = applier_turn work.applier.hint work.cutover; attempt_tries = tries }))
  unfolding applier_turn
  drain b work tries at = drained_at plan after (now_has Insp).waits work.cutover.hold work.cutover.renamer_waits work.cutover.is_asked work.cutover work.applier.hint work.cutover.phase at

  -- THE COPIER AND THE APPLIER

  unfit_at : (work : Work) → New false (Migrating work) → UnfitKeeps New work
  unfit_at work at = record { renamed = λ renamed. at; reverts = back false (Migrating work) at }

  copy_at : (answer : Answer) (work : Work) → New false (Migrating work) → CopyKeeps New answer tool work
  copy_at answer work at = record { reverting = λ reverting. at; unfit = λ going place number unfit. unfit_at work at; took = λ going fits tries. at }

  apply_at : (answer : Answer) (work : Work) → New false (Migrating work) → ApplyKeeps New answer tool work
  apply_at answer work at = record { reverting = λ reverting. at; unfit = λ going place number unfit. unfit_at work at; took = λ going fits tries. at }

  -- THE SETUP

  -- where the setup is over the two tables stand, and the inspector doesn't wait
  record ReadyWith : Type 0 where
    stand : TablesExist plan after
    rests : (now_has Insp).waits ≡ None

  abbrev IfReady : Setup → Type 0
  IfReady (Ready position range) = ReadyWith
  IfReady setup = Unit {0}

  begins : (size : ℕ) (tries : List ℕ) (setup : Setup) → SetupFree plan after setup → IfReady setup → ToolPhaseAt plan after (now_has Insp).waits (tool_phase_of plan size setup tries)
  begins size tries (Ready position range) none ready = record {
    tables = record { stand = ready.stand; free = none };
    renamer = refl;
    asked = tt;
    hold = tt;
    left = tt;
    inspector = λ request some. none_some request (now_has Insp).waits ready.rests some;
  }
  begins size tries Listing none ready = tt
  begins size tries (Clearing left) none ready = none
  begins size tries MakingLog none ready = none
  begins size tries MakingGhost none ready = none
  begins size tries Marking none ready = none
  begins size tries (Reaching position) none ready = none

  module _ (setup : Setup) (tries : List ℕ) (eq : now.tool.tool_phase ≡ SettingUp setup tries) (request : Request) (about : IsAbout request (has entry.actor) entry.asked) (call : setup_call plan setup ≡ Some request) (same : entry.actor ≡ Insp) where
    leaves : SetupLeaves plan before after request entry.answer
    leaves = record {
      keeps = λ name keeps. stays name request about keeps;
      drops = λ drops. drop_left plan journal entry known served (old_name plan.table) (subst (λ (r : Request). IsAbout r (has entry.actor) entry.asked) drops about);
      lists = λ tables lists. listed request about tables lists;
    }

    ready_with : (next : Setup) → setup_step plan.table setup entry.answer ≡ next → IfReady next
    ready_with (Ready position range) is_ready = record {
      stand = record { old = stays plan.table request about (setup_keeps plan setup request call) ∙ (setup_tables setup tries eq).old; ghost = passes (step_past plan.table setup entry.answer (ap past_ghost is_ready)) };
      rests = waits_none (following request entry.answer (has entry.actor));
    } where
      not_marking : Marking ≡ Ready position range → ⊥
      not_marking both = cc

      passes : Passes setup entry.answer → schema_of (ghost_name plan.table) after ≡ Some (ghost_schema plan)
      passes (passed past) = stays (ghost_name plan.table) request about (past_keeps plan setup request past call) ∙ (setup_tables setup tries eq).ghost past
      passes (makes count at_making reported) = absurd (not_marking (sym (ap (λ (s : Setup). setup_step plan.table s entry.answer) at_making ∙ ap (setup_step plan.table MakingGhost) reported) ∙ is_ready))

      no_request : None ≡ Some request → ⊥
      no_request both = cc

      waits_none : Following request entry.answer (has entry.actor) → (now_has Insp).waits ≡ None
      waits_none (rests none) = ap (λ (a : Actor). (now_has a).waits) (sym same) ∙ ap (λ (s : Standing). s.waits) (own_stands plan journal entry known served request about) ∙ none
      waits_none (waits_on by waits) = absurd (no_request (ap (setup_call plan) (sym is_ready ∙ ap (setup_step plan.table setup) waits ∙ step_waits plan.table setup by) ∙ call))
    ready_with Listing is_so = tt
    ready_with (Clearing left) is_so = tt
    ready_with MakingLog is_so = tt
    ready_with MakingGhost is_so = tt
    ready_with Marking is_so = tt
    ready_with (Reaching position) is_so = tt

    setup_heard : SetupKeeps plan New entry.answer tool setup tries
    setup_heard = record {
      reverting = λ reverting. setup_stays plan before after request entry.answer leaves setup call (at_tool_phase (SettingUp setup tries) eq);
      again = λ going bad more_tries. tt;
      goes = λ going good.
          subst (λ (b : Bool). ToolPhaseAt plan after (now_has Insp).waits (tool_phase_of plan tool.operator.size (cond b Listing (setup_step plan.table setup entry.answer)) tries)) (sym good)
          (begins tool.operator.size tries (setup_step plan.table setup entry.answer) (step_free plan before after request entry.answer leaves setup entry.answer refl call (at_tool_phase (SettingUp setup tries) eq)) (ready_with (setup_step plan.table setup entry.answer) refl));
    }

  unreverted : (b : Bool) (call : Option Request) (request : Request) → cond b None call ≡ Some request → call ≡ Some request
  unreverted true call request is_call = absurd cc
  unreverted false call request is_call = is_call

  setup_turn : (setup : Setup) (tries : List ℕ) → now.tool.tool_phase ≡ SettingUp setup tries → entry.actor ≡ Insp → Asking plan journal Insp entry.asked → SetupKeeps plan New entry.answer tool setup tries
  setup_turn setup tries eq same (calls_so request asks idle call) =
      setup_heard setup tries eq request (about_own Insp request same (is_called asks idle)) (unreverted (is_reverting now.tool.reason) (setup_call plan setup) request (ap (λ (c : ToolPhase). tool_call plan now.server journal now.tool c Insp) (sym eq) ∙ call)) same
  setup_turn setup tries eq same (polls_so request asks some) = setup_heard setup tries eq request (about_own Insp request same (is_polled asks some)) ((setup_tables setup tries eq).waits request some) same

  -- BEHIND THE SETUP

  module _ (work : Work) (eq : now.tool.tool_phase ≡ Migrating work) where
    stands : WorkStands journal (is_reverting now.tool.reason) has work
    stands = work_stands work eq

    at : StandsAt plan before (has Insp).waits work.cutover.phase work.cutover.hold work.cutover.renamer_waits work.cutover.is_asked
    at = at_tool_phase (Migrating work) eq

    -- THE INSPECTOR

    -- what the cut-over calls
    pub inspector_calls : (request : Request) → attempts.next Inspector work.cutover ≡ Some request → InspectorAt plan work.cutover.phase request
    unfolding attempts.next
    inspector_calls request call = by work.cutover.phase call at.left where
      ends : (b : Bool) (clearing : Cleared) → cond b (clears work.cutover.table clearing) None ≡ Some request → LeftAt (Ending clearing) → InspectorAt plan (Ending clearing) request
      ends true Looking call left = some_request (λ r. is_quiet r ≡ true) _ request call refl
      ends true (Drops some) call left =
          some_request (λ r. r ≡ requests.Drop (old_name plan.table)) _ request call
          (ap (λ (l : Leftovers). requests.Drop (first_name work.cutover.table l)) left ∙ ap (λ (t : List ℕ). requests.Drop (old_name t)) (own_table work eq))
      ends false clearing call left = absurd cc

      by : (phase : Phase) → attempts.inspector_call work.cutover phase ≡ Some request → LeftAt phase → InspectorAt plan phase request
      by (Attempting Hinting) call left = some_request (λ r. is_quiet r ≡ true) _ request call refl
      by (Attempting (ReadingCounter drain)) call left = some_request (λ r. is_quiet r ≡ true) _ request call refl
      by (Attempting (SettingCounter number drain)) call left = some_request (λ r. is_quiet r ≡ true) _ request call refl
      by (Attempting Showing) call left = some_request (λ r. is_quiet r ≡ true) _ request call refl
      by (Attempting stage) call left = absurd cc
      by (Ending clearing) call left = ends (is_free work.cutover.hold work.cutover.renamer_waits) clearing call left
      by (Finishing clearing) call left = tt
      by Finished call left = tt
      by Resting call left = absurd cc

    -- where it lists the tables the RENAME doesn't wait
    free_renames : (hold : Hold) (renames : Bool) → is_free hold renames ≡ true → renames ≡ false
    free_renames Nothing false frees = refl
    free_renames Nothing true frees = absurd (false≢true frees)
    free_renames hold renames frees = absurd (false≢true frees)

    looks_free : (request : Request) → attempts.next Inspector work.cutover ≡ Some request → work.cutover.phase ≡ Ending Looking → work.cutover.renamer_waits ≡ false
    unfolding attempts.next
    looks_free request call looking = by (is_free work.cutover.hold work.cutover.renamer_waits) refl (ap (attempts.inspector_call work.cutover) (sym looking) ∙ call) where
      by : (b : Bool) → is_free work.cutover.hold work.cutover.renamer_waits ≡ b → cond b (Some requests.ShowTables) None ≡ Some request → work.cutover.renamer_waits ≡ false
      by true frees call = free_renames work.cutover.hold work.cutover.renamer_waits frees
      by false held call = absurd cc

    -- a note among it
    pub inspector_asks : (request : Request) → inspect_call plan journal now.tool work ≡ Some request → InspectorAt plan work.cutover.phase request
    inspector_asks request call =
        inspects_or plan journal now.tool work request (InspectorAt plan work.cutover.phase request) call (λ note resting. subst (λ (p : Phase). InspectorAt plan p request) (sym resting) (ap is_quiet note.is)) (λ next. inspector_calls request next)

    asks_free : (request : Request) → inspect_call plan journal now.tool work ≡ Some request → work.cutover.phase ≡ Ending Looking → work.cutover.renamer_waits ≡ false
    asks_free request call looking = inspects_or plan journal now.tool work request (work.cutover.renamer_waits ≡ false) call (λ note resting. absurd (apart (sym resting ∙ looking))) (λ next. looks_free request next looking) where
      apart : Resting ≡ Ending Looking → ⊥
      apart both = cc

    module _ (request : Request) (about : IsAbout request (has entry.actor) entry.asked) (same : entry.actor ≡ Insp) where
      -- what it leaves
      inspects_at : (phase : Phase) → InspectorAt plan phase request → Inspects plan before after (has Insp).waits (now_has Insp).waits work.cutover.hold work.cutover.renamer_waits work.cutover.is_asked phase entry.answer
      inspects_at Resting quiet = quiet_stays request about quiet
      inspects_at (Attempting stage) quiet = quiet_stays request about quiet
      inspects_at (Ending Looking) quiet = quiet_stays request about quiet
      inspects_at (Ending (Drops left)) drops =
          let about_drop : IsAbout (requests.Drop (old_name plan.table)) (has entry.actor) entry.asked = subst (λ (r : Request). IsAbout r (has entry.actor) entry.asked) drops about in
          ((λ name off. stays name (requests.Drop (old_name plan.table)) about_drop (ap not off)), drop_left plan journal entry known served (old_name plan.table) about_drop)
      inspects_at (Finishing clearing) any = tt
      inspects_at Finished any = tt

      waits_at : (phase : Phase) → InspectorAt plan phase request → (other : Request) → (now_has Insp).waits ≡ Some other → InspectorAt plan phase other × (is_wait entry.answer ≡ true)
      waits_at phase asks other some =
          (waits_same (InspectorAt plan phase) request other entry.answer (has entry.actor) asks waiting, is_waiting entry.answer waiting) where
            waiting : (answered request entry.answer (has entry.actor)).waits ≡ Some other
            waiting = ap (λ (s : Standing). s.waits) (sym (own_stands plan journal entry known served request about)) ∙ ap (λ (a : Actor). (now_has a).waits) same ∙ some

            is_waiting : (answer : Answer) → (answered request answer (has entry.actor)).waits ≡ Some other → is_wait answer ≡ true
            is_waiting (answers.Waits by) some = refl
            is_waiting answers.Lost some = absurd cc
            is_waiting (answers.TimedOut waited) some = absurd cc
            is_waiting answer some = absurd cc

      lists_at : (phase : Phase) (answer : Answer) → entry.answer ≡ answer → ((tables : List TableName) → phase ≡ Ending Looking → answer ≡ answers.Tables tables → work.cutover.renamer_waits ≡ false)
          → ListsWell plan before after (has Insp).waits (now_has Insp).waits work.cutover.hold work.cutover.renamer_waits work.cutover.is_asked phase answer
      lists_at (Ending Looking) (answers.Tables tables) is_so frees = (listed request about tables is_so, frees tables refl refl)
      lists_at (Ending Looking) answer is_so frees = tt
      lists_at (Ending (Drops left)) answer is_so frees = tt
      lists_at Resting answer is_so frees = tt
      lists_at (Attempting stage) answer is_so frees = tt
      lists_at (Finishing clearing) answer is_so frees = tt
      lists_at Finished answer is_so frees = tt

      inspector_heard : InspectorAt plan work.cutover.phase request → ((tables : List TableName) → work.cutover.phase ≡ Ending Looking → entry.answer ≡ answers.Tables tables → work.cutover.renamer_waits ≡ false) → (tries : List ℕ)
          → New (is_reverting now.tool.reason) (Migrating (record work { cutover = cutovers.took Inspector work.cutover entry.answer; attempt_tries = tries }))
      unfolding cutovers.took
      inspector_heard asks frees tries =
          inspector_at plan before after (has Insp).waits (now_has Insp).waits work.cutover.hold work.cutover.renamer_waits work.cutover.is_asked work.cutover work.cutover.phase entry.answer (own_table work eq)
          (inspects_at work.cutover.phase asks) (lists_at work.cutover.phase entry.answer refl frees) (waits_at work.cutover.phase asks) at

    inspector_turn : entry.actor ≡ Insp → Asking plan journal Insp entry.asked → (tries : List ℕ) → New (is_reverting now.tool.reason) (Migrating (record work { cutover = cutovers.took Inspector work.cutover entry.answer; attempt_tries = tries }))
    inspector_turn same (calls_so request asks idle call) tries =
        inspector_heard request (about_own Insp request same (is_called asks idle)) same (inspector_asks request here) (λ tables looking lists. asks_free request here looking) tries where
          here : inspect_call plan journal now.tool work ≡ Some request
          here = ap (λ (c : ToolPhase). tool_call plan now.server journal now.tool c Insp) (sym eq) ∙ call
    inspector_turn same (polls_so request asks some) tries =
        inspector_heard request (about_own Insp request same (is_polled asks some)) same (at.inspector request some) (λ tables looking lists. absurd (never tables lists)) tries where
          never : (tables : List TableName) → entry.answer ≡ answers.Tables tables → ⊥
          never tables lists = true≢false (sym stands.inspector.waits ∙ ap (waits_so inspector_waits) (some ∙ ap Some (shows request (about_own Insp request same (is_polled asks some)) tables lists)))

    -- THE LOCKER

    -- what it leaves, by what it asks
    module _ (request : Request) (about : IsAbout request (has entry.actor) entry.asked) (same : entry.actor ≡ Lock) where
      has_locked : has entry.actor ≡ held work.cutover.table work.cutover.hold
      has_locked = ap has same ∙ stands.locker

      about_one : (one : Request) → request ≡ one → IsAbout one (has entry.actor) entry.asked
      about_one one is_one = subst (λ (r : Request). IsAbout r (has entry.actor) entry.asked) is_one about

      leaves_create : request ≡ requests.Create (sentry_schema plan.table) → (has entry.actor).locked ≡ [] → LockerLeaves plan before after request entry.answer
      leaves_create is_create unlocked =
          subst (λ (r : Request). LockerLeaves plan before after r entry.answer) (sym is_create) (
            (λ name off. stays name (requests.Create (sentry_schema plan.table)) (about_one (requests.Create (sentry_schema plan.table)) is_create) (create_keeps plan before after name off)),
            create_left plan journal entry known served (sentry_schema plan.table) (about_one (requests.Create (sentry_schema plan.table)) is_create) unlocked,
          )

      leaves_drop : request ≡ requests.Drop (old_name plan.table) → LockerLeaves plan before after request entry.answer
      leaves_drop is_drop =
          subst (λ (r : Request). LockerLeaves plan before after r entry.answer) (sym is_drop)
          ((λ name off. stays name (requests.Drop (old_name plan.table)) (about_one (requests.Drop (old_name plan.table)) is_drop) (ap not off)), drop_left plan journal entry known served (old_name plan.table) (about_one (requests.Drop (old_name plan.table)) is_drop))

      leaves_lock : request ≡ requests.LockTables (both_names plan.table) → LockerLeaves plan before after request entry.answer
      leaves_lock is_lock = subst (λ (r : Request). LockerLeaves plan before after r entry.answer) (sym is_lock) (quiet_stays (requests.LockTables (both_names plan.table)) (about_one (requests.LockTables (both_names plan.table)) is_lock) refl)

      leaves_unlock : request ≡ requests.Unlock → LockerLeaves plan before after request entry.answer
      leaves_unlock is_unlock = subst (λ (r : Request). LockerLeaves plan before after r entry.answer) (sym is_unlock) (quiet_stays requests.Unlock (about_one requests.Unlock is_unlock) refl)

      unlocked_in : (hold : Hold) → work.cutover.hold ≡ hold → (held work.cutover.table hold).locked ≡ [] → (has entry.actor).locked ≡ []
      unlocked_in hold is_hold none = ap (λ (s : Standing). s.locked) has_locked ∙ ap (λ (h : Hold). (held work.cutover.table h).locked) is_hold ∙ none

      pub locker_leaves : LockerAsks plan.table work.cutover.hold work.cutover.phase request → LockerLeaves plan before after request entry.answer
      locker_leaves asks = by work.cutover.hold work.cutover.phase refl asks where
        by : (hold : Hold) (phase : Phase) → work.cutover.hold ≡ hold → LockerAsks plan.table hold phase request → LockerLeaves plan before after request entry.answer
        by Nothing Resting is_hold asks = leaves_create asks (unlocked_in Nothing is_hold refl)
        by Nothing (Attempting Locking) is_hold asks = leaves_lock asks
        by Nothing phase is_hold asks = absurd asks
        by WaitsToGuard phase is_hold asks = leaves_create asks (unlocked_in WaitsToGuard is_hold refl)
        by WaitsToLock phase is_hold asks = leaves_lock asks
        by Locks (Attempting Dropping) is_hold asks = leaves_drop asks
        by Locks (Attempting Unlocking) is_hold asks = leaves_unlock asks
        by Locks (Ending clearing) is_hold asks = leaves_unlock asks
        by Locks phase is_hold asks = absurd asks

    inspects_same : entry.actor ≡ Lock ⊎ (entry.actor ≡ Ren) → (now_has Insp).waits ≡ (has Insp).waits
    inspects_same (inl same) = ap (λ (s : Standing). s.waits) (inspector_same Lock same refl)
    inspects_same (inr same) = ap (λ (s : Standing). s.waits) (inspector_same Ren same refl)

    locker_turn : entry.actor ≡ Lock → Asking plan journal Lock entry.asked → (tries : List ℕ) → New (is_reverting now.tool.reason) (Migrating (record work { cutover = cutovers.took Locker work.cutover entry.answer; attempt_tries = tries }))
    unfolding cutovers.took
    locker_turn same asks tries =
        lock_about plan journal entry is.tabled.all.tool run work eq stands asks (ToolPhaseAt plan after (now_has Insp).waits (Migrating (record work { cutover = cutovers.took Locker work.cutover entry.answer; attempt_tries = tries })))
        (λ request about kind.
        let own_about : IsAbout request (has entry.actor) entry.asked = about_own Lock request same about in
        let asks_own : LockerAsks plan.table work.cutover.hold work.cutover.phase request = subst (λ (t : List ℕ). LockerAsks t work.cutover.hold work.cutover.phase request) (own_table work eq) kind in
        subst (λ (w : Option Request). ToolPhaseAt plan after w (Migrating (record work { cutover = cutovers.took Locker work.cutover entry.answer; attempt_tries = tries }))) (sym (inspects_same (inl same)))
        (locker_at plan before after (has Insp).waits work.cutover.renamer_waits work.cutover.is_asked work.cutover.hold work.cutover.phase request entry.answer stands.phase asks_own (own_fits plan journal entry known served request own_about) (locker_leaves request own_about same asks_own) at))

    -- THE RENAMER

    renamer_drained : (request : Request) → attempts.next Renamer work.cutover ≡ Some request → work.cutover.phase ≡ Attempting Drained
    unfolding attempts.next
    renamer_drained request call = by work.cutover.phase call where
      by : (phase : Phase) → attempts.renamer_call work.cutover phase ≡ Some request → phase ≡ Attempting Drained
      by (Attempting Drained) call = refl
      by (Attempting stage) call = absurd cc
      by Resting call = absurd cc
      by (Ending clearing) call = absurd cc
      by (Finishing clearing) call = absurd cc
      by Finished call = absurd cc

    renames_on : (request : Request) → (has Ren).waits ≡ Some request → work.cutover.renamer_waits ≡ true
    renames_on request some = by work.cutover.renamer_waits (ap (λ (s : Standing). s.waits) (sym stands.renamer) ∙ some) where
      by : (b : Bool) → (renaming work.cutover.table b).waits ≡ Some request → b ≡ true
      by true some = refl
      by false some = absurd cc

    pub asks_at : Asking plan journal Ren entry.asked → AsksAt work.cutover.phase work.cutover.renamer_waits
    asks_at (calls_so request asks idle call) = inl (renamer_drained request (ap (λ (c : ToolPhase). tool_call plan now.server journal now.tool c Ren) (sym eq) ∙ call))
    asks_at (polls_so request asks some) = inr (renames_on request some)

    pub renamer_unlocked : (has Ren).locked ≡ []
    renamer_unlocked = ap (λ (s : Standing). s.locked) stands.renamer ∙ by work.cutover.renamer_waits where
      by : (b : Bool) → (renaming work.cutover.table b).locked ≡ []
      by true = refl
      by false = refl

    -- while the locker has locked the table the RENAME waits
    locks_at : IsLockedAt work.cutover.phase → work.cutover.hold ≡ Locks
    locks_at locked = by work.cutover.phase stands.phase locked where
      by : (phase : Phase) → PhaseHolds phase work.cutover.hold → IsLockedAt phase → work.cutover.hold ≡ Locks
      by (Attempting Showing) holds locked = holds
      by (Attempting Dropping) holds locked = holds
      by phase holds locked = absurd locked

    unrefused_at : entry.actor ≡ Ren → Asking plan journal Ren entry.asked → IsLockedAt work.cutover.phase → IsUnrefused entry.answer
    unrefused_at same (calls_so request asks idle call) locked = absurd (undrained work.cutover.phase (renamer_drained request (ap (λ (c : ToolPhase). tool_call plan now.server journal now.tool c Ren) (sym eq) ∙ call)) locked) where
      undrained : (phase : Phase) → phase ≡ Attempting Drained → IsLockedAt phase → ⊥
      undrained (Attempting Showing) drained locked = cc
      undrained (Attempting Dropping) drained locked = cc
      undrained phase drained locked = locked
    unrefused_at same (polls_so request asks some) locked =
        rename_waits plan journal entry known served is.both.living.apart Lock work.cutover.table asks
        (ap (λ (a : Actor). (has a).waits) same ∙ ap (λ (s : Standing). s.waits) stands.renamer ∙ ap (λ (b : Bool). (renaming work.cutover.table b).waits) (renames_on request some))
        (ap (λ (a : Actor). (has a).locked) same ∙ renamer_unlocked) (ap (λ (a : Actor). same_actor a Lock) same)
        (ap (λ (s : Standing). list_any (bytes_eq work.cutover.table) s.locked) stands.locker ∙ ap (λ (h : Hold). list_any (bytes_eq work.cutover.table) (held work.cutover.table h).locked) (locks_at locked) ∙ first) where
          first : list_any (bytes_eq work.cutover.table) (both_names work.cutover.table) ≡ true
          first = or_left (bytes_eq work.cutover.table work.cutover.table) _ (same_bytes work.cutover.table)

    renamer_turn : entry.actor ≡ Ren → Asking plan journal Ren entry.asked → (tries : List ℕ) → New (is_reverting now.tool.reason) (Migrating (record work { cutover = cutovers.took Renamer work.cutover entry.answer; attempt_tries = tries }))
    unfolding cutovers.took
    renamer_turn same asks tries =
        ren_about plan journal entry is.tabled.all.tool run work eq stands asks (ToolPhaseAt plan after (now_has Insp).waits (Migrating (record work { cutover = cutovers.took Renamer work.cutover entry.answer; attempt_tries = tries })))
        (λ request about kind.
        let own_about : IsAbout (exchange plan.table) (has entry.actor) entry.asked = about_own Ren (exchange plan.table) same (subst (λ (r : Request). IsAbout r (has Ren) entry.asked) (kind ∙ ap exchange (own_table work eq)) about) in
        subst (λ (w : Option Request). ToolPhaseAt plan after w (Migrating (record work { cutover = cutovers.took Renamer work.cutover entry.answer; attempt_tries = tries }))) (sym (inspects_same (inr same)))
        (renamer_at plan before after (has Insp).waits work.cutover.hold work.cutover.renamer_waits work.cutover.is_asked work.cutover.phase entry.answer (asks_at asks) (own_fits plan journal entry known served (exchange plan.table) own_about)
        (exchange_left plan journal entry known served plan.table own_about (ap (λ (a : Actor). (has a).locked) same ∙ renamer_unlocked)) (unrefused_at same asks) at))

    -- A SESSION IS LOST BETWEEN CALLS

    inspector_lost : AllStay before after → (now_has Insp).waits ≡ None → (tries : List ℕ) → New (is_reverting now.tool.reason) (Migrating (record work { cutover = cutovers.took Inspector work.cutover answers.Lost; attempt_tries = tries }))
    unfolding cutovers.took
    inspector_lost stay none tries =
        inspector_at plan before after (has Insp).waits (now_has Insp).waits work.cutover.hold work.cutover.renamer_waits work.cutover.is_asked work.cutover work.cutover.phase answers.Lost (own_table work eq) (inspects work.cutover.phase) (lists work.cutover.phase)
        (λ request some. none_some request (now_has Insp).waits none some) at where
          inspects : (phase : Phase) → Inspects plan before after (has Insp).waits (now_has Insp).waits work.cutover.hold work.cutover.renamer_waits work.cutover.is_asked phase answers.Lost
          inspects Resting = stay
          inspects (Attempting stage) = stay
          inspects (Ending Looking) = stay
          inspects (Ending (Drops left)) = ((λ name off. stay name), lost refl stay)
          inspects (Finishing clearing) = tt
          inspects Finished = tt

          lists : (phase : Phase) → ListsWell plan before after (has Insp).waits (now_has Insp).waits work.cutover.hold work.cutover.renamer_waits work.cutover.is_asked phase answers.Lost
          lists (Ending Looking) = tt
          lists (Ending (Drops left)) = tt
          lists Resting = tt
          lists (Attempting stage) = tt
          lists (Finishing clearing) = tt
          lists Finished = tt

    locker_lost : AllStay before after → entry.actor ≡ Lock → (tries : List ℕ) → New (is_reverting now.tool.reason) (Migrating (record work { cutover = cutovers.took Locker work.cutover answers.Lost; attempt_tries = tries }))
    unfolding cutovers.took
    locker_lost stay same tries =
        subst (λ (w : Option Request). ToolPhaseAt plan after w (Migrating (record work { cutover = cutovers.took Locker work.cutover answers.Lost; attempt_tries = tries }))) (sym (inspects_same (inl same)))
        (locker_lost_at plan before after (has Insp).waits work.cutover.renamer_waits work.cutover.is_asked work.cutover.hold work.cutover.phase stay at)

    renamer_lost : AllStay before after → entry.actor ≡ Ren → entry.asked ≡ Cut → has_work now.server entry.session ≡ true → (tries : List ℕ) → New (is_reverting now.tool.reason) (Migrating (record work { cutover = cutovers.took Renamer work.cutover answers.Lost; attempt_tries = tries }))
    unfolding cutovers.took
    renamer_lost stay same cut worked tries =
        subst (λ (w : Option Request). ToolPhaseAt plan after w (Migrating (record work { cutover = cutovers.took Renamer work.cutover answers.Lost; attempt_tries = tries }))) (sym (inspects_same (inr same)))
        (fails_at plan before after (has Insp).waits work.cutover.hold work.cutover.renamer_waits work.cutover.is_asked work.cutover.phase answers.Lost (lost refl stay) (inr (waits_on_it work.cutover.renamer_waits refl)) at) where
          waits_on_it : (b : Bool) → work.cutover.renamer_waits ≡ b → b ≡ true
          waits_on_it true on = refl
          waits_on_it false off =
              absurd (true≢false (sym worked ∙ ap (λ (s : State). has_work s entry.session) is.tabled.all.tool.server
              ∙ free_idle (state_at plan journal) entry.session (ap (standing_in (state_at plan journal)) (sym (own_session plan journal entry known served (ap is_cut cut))) ∙ ap has same ∙ stands.renamer ∙ ap (renaming work.cutover.table) off)))

  -- EVERY ACTOR

  pub no_asking : (actor : Actor) → has actor ≡ free → ((request : Request) → tool_call plan now.server journal now.tool now.tool.tool_phase actor ≡ Some request → ⊥) → Asking plan journal actor entry.asked → ⊥
  no_asking actor none no_call (calls_so request asks idle call) = no_call request call
  no_asking actor none no_call (polls_so request asks some) = none_some request (has actor).waits (ap (λ (s : Standing). s.waits) none) some

  pub quiet_still : (actor : Actor) → entry.actor ≡ actor → may_define actor ≡ false → given plan journal actor ≡ Some entry.asked → (entry.asked ≡ Cut → ⊥) → ((word : OperatorWord) → entry.asked ≡ Command word → ⊥) → (tool_phase : ToolPhase) → now.tool.tool_phase ≡ tool_phase → same_actor actor Insp ≡ false
      → ToolPhaseAt plan after (now_has Insp).waits tool_phase
  quiet_still actor same none gives called commanded tool_phase eq differ =
      still tool_phase eq (quiet_stay plan journal entry is.tabled.all is.tabled.quiet run actor same none gives called commanded) (fewer_same (inspector_same actor same differ))

  heard_at : (actor : Actor) → entry.actor ≡ actor → given plan journal actor ≡ Some entry.asked → (entry.asked ≡ Cut → ⊥) → ((word : OperatorWord) → entry.asked ≡ Command word → ⊥) → (tool_phase : ToolPhase) → now.tool.tool_phase ≡ tool_phase → AnswerKeeps plan New entry.answer tool actor tool_phase
  unfolding given
  heard_at Insp same gives called commanded (SettingUp setup tries) eq = setup_turn setup tries eq same (asking plan journal Insp entry.asked is.tabled.all.tool.server gives)
  heard_at Insp same gives called commanded (Migrating work) eq = inspector_turn work eq same (asking plan journal Insp entry.asked is.tabled.all.tool.server gives)
  heard_at Copy same gives called commanded (SettingUp setup tries) eq = quiet_still Copy same refl gives called commanded (SettingUp setup tries) eq refl
  heard_at Copy same gives called commanded (Migrating work) eq = copy_at entry.answer work (quiet_still Copy same refl gives called commanded (Migrating work) eq refl)
  heard_at Apply same gives called commanded (SettingUp setup tries) eq = quiet_still Apply same refl gives called commanded (SettingUp setup tries) eq refl
  heard_at Apply same gives called commanded (Migrating work) eq = apply_at entry.answer work (quiet_still Apply same refl gives called commanded (Migrating work) eq refl)
  heard_at Lock same gives called commanded (SettingUp setup tries) eq =
      absurd (no_asking Lock (setup_has setup tries eq).locker (λ request call. none-some request (ap (λ (c : ToolPhase). tool_call plan now.server journal now.tool c Lock) (sym eq) ∙ call)) (asking plan journal Lock entry.asked is.tabled.all.tool.server gives))
  heard_at Lock same gives called commanded (Migrating work) eq = locker_turn work eq same (asking plan journal Lock entry.asked is.tabled.all.tool.server gives)
  heard_at Ren same gives called commanded (SettingUp setup tries) eq =
      absurd (no_asking Ren (setup_has setup tries eq).renamer (λ request call. none-some request (ap (λ (c : ToolPhase). tool_call plan now.server journal now.tool c Ren) (sym eq) ∙ call)) (asking plan journal Ren entry.asked is.tabled.all.tool.server gives))
  heard_at Ren same gives called commanded (Migrating work) eq = renamer_turn work eq same (asking plan journal Ren entry.asked is.tabled.all.tool.server gives)
  heard_at Op same gives called commanded (SettingUp setup tries) eq = quiet_still Op same refl gives called commanded (SettingUp setup tries) eq refl
  heard_at Op same gives called commanded (Migrating work) eq = quiet_still Op same refl gives called commanded (Migrating work) eq refl
  heard_at (Client c) same gives called commanded (SettingUp setup tries) eq = quiet_still (Client c) same refl gives called commanded (SettingUp setup tries) eq refl
  heard_at (Client c) same gives called commanded (Migrating work) eq = quiet_still (Client c) same refl gives called commanded (Migrating work) eq refl

  pub cut_stay : entry.asked ≡ Cut → AllStay before after
  cut_stay cut = rest (ap may_lose cut)

  -- a session that is lost waits with nothing more
  cut_fewer : entry.asked ≡ Cut → (request : Request) → (now_has Insp).waits ≡ Some request → (has Insp).waits ≡ Some request
  cut_fewer cut request some = by (same_actor entry.actor Insp) refl where
    by : (b : Bool) → same_actor entry.actor Insp ≡ b → (has Insp).waits ≡ Some request
    by false differ = ap (λ (s : Standing). s.waits) (sym (others_stand plan journal entry known served Insp differ)) ∙ some
    by true same = none_some request (now_has Insp).waits (ap (λ (a : Actor). (now_has a).waits) (sym (same_actor_is entry.actor Insp same)) ∙ ap (λ (s : Standing). s.waits) (own_lost plan journal entry known served cut)) some

  cut_still : entry.asked ≡ Cut → (tool_phase : ToolPhase) → now.tool.tool_phase ≡ tool_phase → ToolPhaseAt plan after (now_has Insp).waits tool_phase
  cut_still cut tool_phase eq = still tool_phase eq (cut_stay cut) (cut_fewer cut)

  lost_at : entry.asked ≡ Cut → has_work now.server entry.session ≡ true → (actor : Actor) → entry.actor ≡ actor → (tool_phase : ToolPhase) → now.tool.tool_phase ≡ tool_phase → AnswerKeeps plan New answers.Lost tool actor tool_phase
  lost_at cut worked Insp same (SettingUp setup tries) eq = record {
    reverting = λ reverting. cut_still cut (SettingUp setup tries) eq;
    again = λ going bad more_tries. tt;
    goes = λ going good. absurd (true≢false good);
  }
  lost_at cut worked Insp same (Migrating work) eq = inspector_lost work eq (cut_stay cut) (ap (λ (a : Actor). (now_has a).waits) (sym same) ∙ ap (λ (s : Standing). s.waits) (own_lost plan journal entry known served cut))
  lost_at cut worked Copy same (SettingUp setup tries) eq = cut_still cut (SettingUp setup tries) eq
  lost_at cut worked Copy same (Migrating work) eq = copy_at answers.Lost work (cut_still cut (Migrating work) eq)
  lost_at cut worked Apply same (SettingUp setup tries) eq = cut_still cut (SettingUp setup tries) eq
  lost_at cut worked Apply same (Migrating work) eq = apply_at answers.Lost work (cut_still cut (Migrating work) eq)
  lost_at cut worked Lock same (SettingUp setup tries) eq = cut_still cut (SettingUp setup tries) eq
  lost_at cut worked Lock same (Migrating work) eq = locker_lost work eq (cut_stay cut) same
  lost_at cut worked Ren same (SettingUp setup tries) eq = cut_still cut (SettingUp setup tries) eq
  lost_at cut worked Ren same (Migrating work) eq = renamer_lost work eq (cut_stay cut) same cut worked
  lost_at cut worked Op same (SettingUp setup tries) eq = cut_still cut (SettingUp setup tries) eq
  lost_at cut worked Op same (Migrating work) eq = cut_still cut (Migrating work) eq
  lost_at cut worked (Client c) same (SettingUp setup tries) eq = cut_still cut (SettingUp setup tries) eq
  lost_at cut worked (Client c) same (Migrating work) eq = cut_still cut (Migrating work) eq

  -- a command is the operator's
  command_still : (word : OperatorWord) → entry.asked ≡ Command word → (tool_phase : ToolPhase) → now.tool.tool_phase ≡ tool_phase → ToolPhaseAt plan after (now_has Insp).waits tool_phase
  command_still word asks tool_phase eq = still tool_phase eq (rest (ap may_lose asks)) (fewer_same (inspector_same Op (commands_operator plan journal entry.actor word (subst (IsGiven plan journal entry) asks run.followed.given)) refl))

  resize_at : (size : ℕ) → entry.asked ≡ Command (ChunkSize size) → (tool_phase : ToolPhase) → now.tool.tool_phase ≡ tool_phase → ResizeKeeps New tool size tool_phase
  resize_at size asks (SettingUp setup tries) eq = command_still _ asks (SettingUp setup tries) eq
  resize_at size asks (Migrating work) eq = command_still _ asks (Migrating work) eq

  pub standing_more : IsStanding plan more
  standing_more = record {
    tabled = tabled_more plan journal entry run is.tabled;
    both = both_more plan journal entry (run.answered, served.seated) is.both;
    tool_phase =
        turn_kept plan New back journal entry drain
        (record {
          commanded = λ word asks unsized. command_still word asks now.tool.tool_phase refl;
          resized = λ size asks. resize_at size asks now.tool.tool_phase refl;
          idle = λ asks none. cut_still asks now.tool.tool_phase refl;
          lost = λ asks worked. lost_at asks worked entry.actor refl now.tool.tool_phase refl;
          heard = λ called commanded. heard_at entry.actor refl (gives_asked plan journal entry entry.asked run.followed.given refl called) called commanded now.tool.tool_phase refl;
        });
  }

standing_begins : (plan : PlanData) → IsFitting plan → TableExists plan → IsStanding plan []
unfolding moment
standing_begins plan fit stands = record { tabled = tabled_begins plan fit stands; both = record { known = sessions_begin; living = living_begin plan }; tool_phase = tt }

pub standing_along : (plan : PlanData) (journal : List Entry) → IsFitting plan → TableExists plan → Along (IsRun plan) [] journal → IsStanding plan journal
standing_along plan journal fit stands runs = Along-keeps (IsRun plan) (IsStanding plan) (λ before entry run is. standing_more plan before entry is run) [] journal runs (standing_begins plan fit stands)

pub all_standing : (plan : PlanData) (journal : List Entry) → IsFitting plan → TableExists plan → IsFaithful plan journal → Follows plan journal → IsStanding plan journal
unfolding Follows
all_standing plan journal fit stands faithful follows = standing_along plan journal fit stands (all_runs plan [] journal faithful follows)

-- *Attempts wait*
pub all_wait : AttemptsWait
all_wait plan journal work fit stands faithful follows tool_phase = record { guards = λ phase. holds phase; exchanges = λ phase. waits phase } where
  at : StandsAt plan (state_at plan journal).tables (standing_of plan journal Insp).waits work.cutover.phase work.cutover.hold work.cutover.renamer_waits work.cutover.is_asked
  at = subst (ToolPhaseAt plan (state_at plan journal).tables (standing_of plan journal Insp).waits) tool_phase (all_standing plan journal fit stands faithful follows).tool_phase

  holds : work.cutover.phase ≡ Attempting Guarding → work.cutover.hold ≡ WaitsToGuard
  holds phase = subst (λ (p : Phase). HoldAt p work.cutover.hold) phase at.hold

  waits : work.cutover.phase ≡ Attempting Exchanging → work.cutover.renamer_waits ≡ true
  waits phase = subst (λ (p : Phase). RenamerAt p work.cutover.renamer_waits) phase at.renamer
