-- Behind every kept journal in which the RENAME isn't done: what the inspector waits with fits the phase, and the changelog
-- stands with its schema.
use Rattle.std.proofs.Common.{◌≡◌, ◌⊎◌, ◌+◌, ℕ, Bool, true, false, cond, not, List, [], ◌∷◌, ◌++◌, Option, Some, None, refl, sym, ap, ◌∙◌, subst, inl, inr, append_assoc}
use Rattle.std.specs.List.{list_any}
use Rattle.std.proofs.lemmas.Bool.{true≢false, false≢true}
use Rattle.std.proofs.lemmas.Option.{none-some}
use Rattle.table_store.specs.Databases.{Database}
use Rattle.table_store.specs.declared.renames.Pair.{Pair}
use Rattle.base_script.specs.declared.actor.Actor.{Actor}
use Rattle.base_script.specs.declared.actor.Actor.TheVariants.{Apply, Client, Copy, Insp, Lock, Op, Ren}
use Rattle.base_script.specs.declared.actor.Side.{Side}
use Rattle.base_script.specs.declared.operator.OperatorWord.{OperatorWord}
use Rattle.base_script.specs.declared.operator.OperatorWord.TheVariants.{ChunkSize}
use Rattle.server_model.specs.Along.{Along, Along-keeps}
use Rattle.server_model.specs.Entries.{is_client, same_actor}
use Rattle.server_model.specs.States.{names_in}
use Rattle.server_model.specs.declared.answer.Answer.{Answer}
use Rattle.server_model.specs.declared.answer.Answer.TheVariants as answers
use Rattle.server_model.specs.declared.entry.Asked.{Asked}
use Rattle.server_model.specs.declared.entry.Asked.TheVariants.{Command, Cut}
use Rattle.server_model.specs.declared.entry.Entry.{Entry}
use Rattle.server_model.specs.declared.request.Request.{Request}
use Rattle.server_model.specs.declared.request.Request.TheVariants as requests
use Rattle.plan_data.specs.PlanData.{PlanData}
use Rattle.base_values.specs.ToolNames.{log_name}
use Rattle.tool_changelog.specs.ToolTables.{log_schema}
use Rattle.tool_program.specs.CutoverCore.Attempts as cutovers
use Rattle.tool_program.specs.CutoverCore.Attempts.{exchange}
use Rattle.tool_program.specs.CutoverCore.CutOvers as cuts
use Rattle.tool_program.specs.declared.cutover_core.cutover.Role.TheVariants.{Inspector, Locker, Renamer}
use Rattle.tool_program.specs.JournalWords.Histories as histories
use Rattle.tool_program.specs.JournalWords.Histories.{Alter, alters, asked_about, is_alter, request_waiting, takes_away, answer_in}
use Rattle.tool_program.specs.JournalWords.Journals.{may_lose, state_at}
use Rattle.tool_program.specs.JournalWords.Sessions.{live_session}
use Rattle.tool_program.specs.Programs.{Follows, IsGiven, given, tool_call}
use Rattle.tool_program.specs.Setups.{Setup, Listing, Clearing, MakingLog, MakingGhost, Marking, Reaching, Ready, clearing, setup_call, setup_step}
use Rattle.tool_program.specs.declared.cutover_core.cutover.Phase.TheVariants.{Resting}
use Rattle.tool_program.specs.Tools.{ToolPhase, Migrating, Moment, SettingUp, Tool, Work, tool_phase_of, is_reverting, moment, stopped}
use Rattle.tool_program.proofs.OnlineCalls.Machines.{ToolPhaseIsNamed, named}
use Rattle.proof_journals.specs.Plans.{IsSerialPlan}
use Rattle.proof_journals.proofs.Actors.{same_actor_is}
use Rattle.proof_journals.proofs.Joined.{reported_answer}
use Rattle.proof_journals.specs.Run.Kept.{IsKept}
use Rattle.proof_journals.specs.Machine.Machines.{ToolPhaseStands, SetupStands, WorkStands}
use Rattle.proof_journals.specs.Machine.Runnable.{IsRunnable}
use Rattle.proof_journals.specs.Machine.Standings.{IsAbout, Standing, answered, answers_to, free, is_called, is_polled, standing_of}
use Rattle.proof_journals.specs.Machine.MigrationTables.{ToolPhaseTables, SetupTables, schema_of}
use Rattle.proof_journals.proofs.Waiting.{IsDone}
use Rattle.proof_journals.proofs.Machine.Asking.{some_request, unless_called}
use Rattle.proof_journals.proofs.Machine.Inspecting.{IsNote, inspects_or}
use Rattle.proof_journals.proofs.Machine.Journals.{Asking, IsRun, IsTogether, all_runs, asking, calls_so, has_now, lock_about, never_commands, polls_so, ren_about}
use Rattle.proof_journals.proofs.Machine.Marks.{Unmarked, ghost_not_log}
use Rattle.proof_journals.proofs.Machine.Renaming.{renamed_or_stays}
use Rattle.proof_journals.proofs.Machine.Schemas.{schema_made, schema_rests, schema_stays}
use Rattle.proof_journals.proofs.Machine.Seated.{IsServed, others_stand, own_fits, own_given, own_lost, own_missed, own_waiting}
use Rattle.proof_journals.proofs.Machine.Tabling.{Following, following, quiet_stay, rests, step_waits, waits_on}
use Rattle.proof_migration.specs.ToolPhase.Unaltered.{IsUnaltered}
use Rattle.proof_migration.proofs.ToolPhase.Unaltered.Asking.{exchange_takes}
use Rattle.proof_migration.proofs.ToolPhase.Unaltered.Away.{IsKnownAsked, asked_begins, asked_more, tool_adds, unaltered_entry, unaltered_front}
use Rattle.proof_migration.proofs.HeldNames.Changelog.{log_at_once}
use Rattle.proof_migration.proofs.HeldNames.Holders.{all_held_well}
use Rattle.proof_migration.proofs.Program.Turns.Follows.{kept_front, unmarked_now}
use Rattle.proof_migration.proofs.ToolPhase.ToolPhaseTurns.{AnswerKeeps, ApplyKeeps, CopyKeeps, CutKeeps, Kept, ResizeKeeps, SetupKeeps, TurnKeeps, UnfitKeeps, gives_asked, turn_kept}
use Rattle.proof_migration.proofs.Program.InspectorTurns.Fitting.{AsksAt, KeepsLog, SparesLog, WaitsAt, asked_waits, asks_keep, call_asks, drained_spares, drained_waits, ended_spares, ended_waits, inspector_spares, locker_keeps_log, locker_spares, locker_waits, renamer_spares, renamer_waits, waits_asks}

-- WHAT IS KEPT

-- the changelog was made
abbrev pub past_log : Setup → Bool
past_log Listing = false
past_log (Clearing left) = false
past_log MakingLog = false
past_log MakingGhost = true
past_log Marking = true
past_log (Reaching position) = true
past_log (Ready position range) = true

abbrev pub LogStands : PlanData → Database → Type 0
LogStands plan tables = schema_of (log_name plan.table) tables ≡ Some (log_schema plan.table)

pub record WorkFits (plan : PlanData) (tables : Database) (waiting : Option Request) (work : Work) : Type 0 where
  pub waits : WaitsAt waiting work.cutover.table work.cutover.attempts work.cutover.phase
  pub spares : SparesLog work.cutover.phase
  pub log : LogStands plan tables

abbrev pub ToolPhaseFits : PlanData → Database → Option Request → ToolPhase → Type 0
ToolPhaseFits plan tables waits (SettingUp setup tries) = past_log setup ≡ true → LogStands plan tables
ToolPhaseFits plan tables waits (Migrating work) = WorkFits plan tables waits work

abbrev pub IsFit : PlanData → List Entry → Type 0
IsFit plan journal = ToolPhaseFits plan (state_at plan journal).tables (standing_of plan journal Insp).waits (moment plan journal).tool.tool_phase

-- THE SETUP'S STEPS

pub data PassesLog (setup : Setup) (answer : Answer) : Type 0 where
  passed_log : past_log setup ≡ true → PassesLog setup answer
  makes_log : (count : ℕ) → setup ≡ MakingLog → answer ≡ answers.Ok count → PassesLog setup answer

clearing_none : (left : _) → past_log (clearing left) ≡ false
clearing_none left = by (cutovers.is_clear left) where
  by : (b : Bool) → past_log (cond b MakingLog (Clearing left)) ≡ false
  by true = refl
  by false = refl

step_log : (table : List ℕ) (setup : Setup) (answer : Answer) → past_log (setup_step table setup answer) ≡ true → PassesLog setup answer
step_log table Listing (answers.Tables tables) past = absurd (true≢false (sym past ∙ clearing_none _))
step_log table Listing answer past = absurd (false≢true past)
step_log table (Clearing left) (answers.Ok count) past = absurd (true≢false (sym past ∙ clearing_none _))
step_log table (Clearing left) answer past = absurd (false≢true past)
step_log table MakingLog (answers.Ok count) past = makes_log count refl refl
step_log table MakingLog answer past = absurd (false≢true past)
step_log table MakingGhost answer past = passed_log refl
step_log table Marking answer past = passed_log refl
step_log table (Reaching position) answer past = passed_log refl
step_log table (Ready position range) answer past = passed_log refl

setup_keeps_log : (plan : PlanData) (setup : Setup) (request : Request) → past_log setup ≡ true → setup_call plan setup ≡ Some request → KeepsLog plan.table request
setup_keeps_log plan Listing request past is = absurd (false≢true past)
setup_keeps_log plan (Clearing left) request past is = absurd (false≢true past)
setup_keeps_log plan MakingLog request past is = absurd (false≢true past)
setup_keeps_log plan MakingGhost request past is = some_request (KeepsLog plan.table) _ request is (ap not (ghost_not_log plan.table))
setup_keeps_log plan Marking request past is = some_request (KeepsLog plan.table) _ request is refl
setup_keeps_log plan (Reaching position) request past is = some_request (KeepsLog plan.table) _ request is refl
setup_keeps_log plan (Ready position range) request past is = absurd cc

-- nothing waits
none_fits : (plan : PlanData) (tables : Database) (waits : Option Request) (work : Work) → waits ≡ None → SparesLog work.cutover.phase → LogStands plan tables → WorkFits plan tables waits work
none_fits plan tables waits work none spares log = record { waits = subst (λ (w : Option Request). WaitsAt w work.cutover.table work.cutover.attempts work.cutover.phase) (sym none) tt; spares = spares; log = log }

-- ONE TURN

module _ (plan : PlanData) (journal : List Entry) (entry : Entry) (serial : IsSerialPlan plan) (runs : IsRunnable plan) (known : IsKnownAsked plan journal) (run : IsRun plan journal entry) (off : IsUnaltered plan (journal ++ entry ∷ [])) (fit : IsFit plan journal) (kept : IsKept plan journal) where
  abbrev now : Moment
  now = moment plan journal

  abbrev tool : Tool
  tool = record now.tool { turns = now.tool.turns + 1 }

  abbrev more : List Entry
  more = journal ++ entry ∷ []

  abbrev has : Actor → Standing
  has = standing_of plan journal

  abbrev now_has : Actor → Standing
  now_has = standing_of plan more

  abbrev before : Database
  before = (state_at plan journal).tables

  abbrev after : Database
  after = (state_at plan more).tables

  together : IsTogether plan journal
  together = known.marking.tabled.all.tool

  served : IsServed plan journal entry
  served = record { answered = run.answered; seated = record { session = run.followed.session } }

  work_stands : (work : Work) → now.tool.tool_phase ≡ Migrating work → WorkStands journal (is_reverting now.tool.reason) has work
  work_stands work tool_phase = subst (ToolPhaseStands journal has (is_reverting now.tool.reason)) tool_phase together.stands

  setup_stands : (setup : Setup) (tries : List ℕ) → now.tool.tool_phase ≡ SettingUp setup tries → SetupStands has
  setup_stands setup tries tool_phase = subst (ToolPhaseStands journal has (is_reverting now.tool.reason)) tool_phase together.stands

  own_table : (work : Work) → now.tool.tool_phase ≡ Migrating work → work.cutover.table ≡ plan.table
  own_table work tool_phase = (subst (ToolPhaseIsNamed plan) tool_phase (named plan journal)).cutover

  work_fits : (work : Work) → now.tool.tool_phase ≡ Migrating work → WorkFits plan before (has Insp).waits work
  work_fits work tool_phase = subst (ToolPhaseFits plan before (has Insp).waits) tool_phase fit

  setup_fits : (setup : Setup) (tries : List ℕ) → now.tool.tool_phase ≡ SettingUp setup tries → past_log setup ≡ true → LogStands plan before
  setup_fits setup tries tool_phase = subst (ToolPhaseFits plan before (has Insp).waits) tool_phase fit

  unmarked : (work : Work) → now.tool.tool_phase ≡ Migrating work → Unmarked plan journal work
  unmarked work tool_phase = unmarked_now plan journal work known (unaltered_front plan journal (entry ∷ []) off) tool_phase

  -- THE CHANGELOG

  abbrev Stays : Type 0
  Stays = schema_of (log_name plan.table) after ≡ schema_of (log_name plan.table) before

  about_own : (actor : Actor) (request : Request) → entry.actor ≡ actor → IsAbout request (has actor) entry.asked → IsAbout request (has entry.actor) entry.asked
  about_own actor request same is_about = subst (λ (a : Actor). IsAbout request (has a) entry.asked) (sym same) is_about

  kept_so : (actor : Actor) (request : Request) → entry.actor ≡ actor → IsAbout request (has actor) entry.asked → KeepsLog plan.table request → Stays
  kept_so actor request same is_about keeps = schema_stays plan journal entry served (own_waiting plan journal entry together.known served) (log_name plan.table) request (about_own actor request same is_about) keeps

  -- the RENAME isn't done
  never_done : entry.actor ≡ Ren → (pairs : List Pair) → histories.about journal entry ≡ Some (requests.Rename pairs) → takes_away plan.table pairs ≡ true → (count : ℕ) → answer_in entry.asked entry.side entry.answer entry.missed ≡ Some (answers.Ok count) → ⊥
  never_done same pairs about takes count reported =
      true≢false (sym alters_here ∙ ap (list_any is_alter) (sym (tool_adds plan serial journal entry runs.fitting known run (ap is_client same) entry.actor (ap is_client same))) ∙ unaltered_entry plan journal entry off) where
        alters_here : list_any is_alter (alters plan (histories.about journal entry) (answer_in entry.asked entry.side entry.answer entry.missed)) ≡ true
        alters_here =
            ap (λ (r : Option Request). list_any is_alter (alters plan r (answer_in entry.asked entry.side entry.answer entry.missed))) about
            ∙ ap (λ (t : Option Answer). list_any is_alter (alters plan (Some (requests.Rename pairs)) t)) reported ∙ ap (λ (b : Bool). list_any is_alter (cond b (Alter ∷ []) [])) takes

  about_in : (request : Request) → entry.actor ≡ Ren → IsAbout request (has Ren) entry.asked → histories.about journal entry ≡ Some request
  about_in request same (is_called asks none) = ap (λ (a : Asked). asked_about a (request_waiting journal entry.actor)) asks
  about_in request same (is_polled asks some) = ap (λ (a : Asked). asked_about a (request_waiting journal entry.actor)) asks ∙ ap (request_waiting journal) same ∙ known.marking.agree Ren ∙ some

  ren_stays : (work : Work) → now.tool.tool_phase ≡ Migrating work → entry.actor ≡ Ren → Asking plan journal Ren entry.asked → Stays
  ren_stays work tool_phase same asks =
      ren_about plan journal entry together run work tool_phase (work_stands work tool_phase) asks Stays
      (λ request is_about kind. let exchanges : request ≡ exchange plan.table = kind ∙ ap exchange (own_table work tool_phase) in
      by request is_about exchanges
      (renamed_or_stays plan journal entry served (own_waiting plan journal entry together.known served) (log_name plan.table) _ (subst (λ (r : Request). IsAbout r (has entry.actor) entry.asked) exchanges (about_own Ren request same is_about)) (reported_answer (state_at plan journal) entry run.answered))) where
        by : (request : Request) → IsAbout request (has Ren) entry.asked → request ≡ exchange plan.table → ((count : ℕ) × (answer_in entry.asked entry.side entry.answer entry.missed ≡ Some (answers.Ok count))) ⊎ Stays → Stays
        by request is_about exchanges (inl reported) = absurd (never_done same _ (about_in request same is_about ∙ ap Some exchanges) (exchange_takes plan.table _ refl) reported.0 reported.1)
        by request is_about exchanges (inr stays) = stays

  lock_stays : (work : Work) → now.tool.tool_phase ≡ Migrating work → entry.actor ≡ Lock → Asking plan journal Lock entry.asked → Stays
  lock_stays work tool_phase same asks =
      lock_about plan journal entry together run work tool_phase (work_stands work tool_phase) asks Stays
      (λ request is_about kind. kept_so Lock request same is_about (subst (λ (t : List ℕ). KeepsLog t request) (own_table work tool_phase) (locker_keeps_log work.cutover.table work.cutover.hold work.cutover.phase request kind)))

  -- while the setup goes on only the inspector is asked
  setup_none : (actor : Actor) → has actor ≡ free → ((request : Request) → tool_call plan now.server journal now.tool now.tool.tool_phase actor ≡ Some request → ⊥) → Asking plan journal actor entry.asked → ⊥
  setup_none actor had none (calls_so request asks idle call) = none request call
  setup_none actor had none (polls_so request asks some) = no (sym (ap (λ (s : Standing). s.waits) had) ∙ some) where
    no : None ≡ Some request → ⊥
    no same = cc

  lock_or : (tool_phase : ToolPhase) → now.tool.tool_phase ≡ tool_phase → entry.actor ≡ Lock → Asking plan journal Lock entry.asked → Stays
  lock_or (Migrating work) tool_phase same asks = lock_stays work tool_phase same asks
  lock_or (SettingUp setup tries) tool_phase same asks =
      absurd (setup_none Lock (setup_stands setup tries tool_phase).locker (λ request call. none-some request (ap (λ (c : ToolPhase). tool_call plan now.server journal now.tool c Lock) (sym tool_phase) ∙ call)) asks)

  ren_or : (tool_phase : ToolPhase) → now.tool.tool_phase ≡ tool_phase → entry.actor ≡ Ren → Asking plan journal Ren entry.asked → Stays
  ren_or (Migrating work) tool_phase same asks = ren_stays work tool_phase same asks
  ren_or (SettingUp setup tries) tool_phase same asks =
      absurd (setup_none Ren (setup_stands setup tries tool_phase).renamer (λ request call. none-some request (ap (λ (c : ToolPhase). tool_call plan now.server journal now.tool c Ren) (sym tool_phase) ∙ call)) asks)

  others_stay : (actor : Actor) → entry.actor ≡ actor → same_actor actor Insp ≡ false → given plan journal actor ≡ Some entry.asked → (entry.asked ≡ Cut → ⊥) → ((word : OperatorWord) → entry.asked ≡ Command word → ⊥) → Stays
  unfolding given
  others_stay (Client c) same other gives called commands = quiet_stay plan journal entry known.marking.tabled.all known.marking.tabled.quiet run (Client c) same refl gives called commands (log_name plan.table)
  others_stay Op same other gives called commands = quiet_stay plan journal entry known.marking.tabled.all known.marking.tabled.quiet run Op same refl gives called commands (log_name plan.table)
  others_stay Copy same other gives called commands = quiet_stay plan journal entry known.marking.tabled.all known.marking.tabled.quiet run Copy same refl gives called commands (log_name plan.table)
  others_stay Apply same other gives called commands = quiet_stay plan journal entry known.marking.tabled.all known.marking.tabled.quiet run Apply same refl gives called commands (log_name plan.table)
  others_stay Lock same other gives called commands = lock_or now.tool.tool_phase refl same (asking plan journal Lock entry.asked together.server gives)
  others_stay Ren same other gives called commands = ren_or now.tool.tool_phase refl same (asking plan journal Ren entry.asked together.server gives)
  others_stay Insp same other gives called commands = absurd (true≢false other)

  still : may_lose entry.asked ≡ false → Stays
  still quiet = schema_rests plan journal entry served (own_waiting plan journal entry together.known served) (log_name plan.table) quiet

  -- WHERE NOTHING OF IT CHANGES

  abbrev New : Kept
  New b tool_phase = ToolPhaseFits plan after (now_has Insp).waits tool_phase

  abbrev SameWaits : Type 0
  SameWaits = (now_has Insp).waits ≡ (has Insp).waits

  waits_there : same_actor entry.actor Insp ≡ false → SameWaits
  waits_there other = ap (λ (s : Standing). s.waits) (others_stand plan journal entry together.known served Insp other)

  fits_on : Stays → SameWaits → (work : Work) → now.tool.tool_phase ≡ Migrating work → WorkFits plan after (now_has Insp).waits work
  fits_on stays waits work tool_phase =
      let had : WorkFits plan before (has Insp).waits work = work_fits work tool_phase in
      record { waits = subst (λ (w : Option Request). WaitsAt w work.cutover.table work.cutover.attempts work.cutover.phase) (sym waits) had.waits; spares = had.spares; log = stays ∙ had.log }

  on : Stays → SameWaits → (b : Bool) (tool_phase : ToolPhase) → now.tool.tool_phase ≡ tool_phase → New b tool_phase
  on stays waits b (SettingUp setup tries) tool_phase = λ past. stays ∙ setup_fits setup tries tool_phase past
  on stays waits b (Migrating work) tool_phase = fits_on stays waits work tool_phase

  back : (b : Bool) (tool_phase : ToolPhase) → New b tool_phase → New true (stopped tool_phase)
  unfolding cuts.reverted
  back b (SettingUp setup tries) at = at
  back b (Migrating work) at = record { waits = ended_waits (now_has Insp).waits work.cutover.table work.cutover.attempts work.cutover.phase at.waits; spares = ended_spares work.cutover.phase at.spares; log = at.log }

  drain : (b : Bool) (work : Work) (tries : List ℕ) → New b (Migrating work) → New b (Migrating (record work { cutover = cuts.applier_turn work.applier.hint work.cutover; attempt_tries = tries }))
  unfolding cuts.applier_turn
  drain b work tries at = record {
    waits = drained_waits work.cutover work.applier.hint (now_has Insp).waits work.cutover.table work.cutover.attempts work.cutover.phase at.waits;
    spares = drained_spares work.cutover work.applier.hint work.cutover.phase at.spares;
    log = at.log;
  }

  -- OTHERS' ANSWERS

  lock_keeps : Stays → SameWaits → (answer : Answer) (work : Work) → now.tool.tool_phase ≡ Migrating work → CutKeeps New answer tool Locker work
  unfolding cuts.took
  lock_keeps stays waits answer work tool_phase =
      let at : WorkFits plan after (now_has Insp).waits work = fits_on stays waits work tool_phase in
      λ tries. record { waits = locker_waits (now_has Insp).waits work.cutover.table work.cutover.attempts work.cutover.phase answer at.waits; spares = locker_spares work.cutover.phase answer at.spares; log = at.log }

  ren_keeps : Stays → SameWaits → (answer : Answer) (work : Work) → now.tool.tool_phase ≡ Migrating work → CutKeeps New answer tool Renamer work
  unfolding cuts.took
  ren_keeps stays waits answer work tool_phase =
      let at : WorkFits plan after (now_has Insp).waits work = fits_on stays waits work tool_phase in
      λ tries. record { waits = renamer_waits (now_has Insp).waits work.cutover.table work.cutover.attempts work.cutover.phase answer at.waits; spares = renamer_spares work.cutover.phase answer at.spares; log = at.log }

  unfit_keeps : (work : Work) → WorkFits plan after (now_has Insp).waits work → UnfitKeeps New work
  unfit_keeps work at = record { renamed = λ renamed. at; reverts = back false (Migrating work) at }

  copy_keeps : Stays → SameWaits → (answer : Answer) (work : Work) → now.tool.tool_phase ≡ Migrating work → CopyKeeps New answer tool work
  copy_keeps stays waits answer work tool_phase =
      let at : WorkFits plan after (now_has Insp).waits work = fits_on stays waits work tool_phase in
      record { reverting = λ reverting. at; unfit = λ going place number unfit. unfit_keeps work at; took = λ going fits tries. record { waits = at.waits; spares = at.spares; log = at.log } }

  apply_keeps : Stays → SameWaits → (answer : Answer) (work : Work) → now.tool.tool_phase ≡ Migrating work → ApplyKeeps New answer tool work
  apply_keeps stays waits answer work tool_phase =
      let at : WorkFits plan after (now_has Insp).waits work = fits_on stays waits work tool_phase in
      record { reverting = λ reverting. at; unfit = λ going place number unfit. unfit_keeps work at; took = λ going fits tries. record { waits = at.waits; spares = at.spares; log = at.log } }

  other_keeps : Stays → SameWaits → (answer : Answer) (actor : Actor) → same_actor actor Insp ≡ false → (tool_phase : ToolPhase) → now.tool.tool_phase ≡ tool_phase → AnswerKeeps plan New answer tool actor tool_phase
  other_keeps stays waits answer Insp other tool_phase at = absurd (true≢false other)
  other_keeps stays waits answer Lock other (Migrating work) at = lock_keeps stays waits answer work at
  other_keeps stays waits answer Ren other (Migrating work) at = ren_keeps stays waits answer work at
  other_keeps stays waits answer Copy other (Migrating work) at = copy_keeps stays waits answer work at
  other_keeps stays waits answer Apply other (Migrating work) at = apply_keeps stays waits answer work at
  other_keeps stays waits answer Op other (Migrating work) at = fits_on stays waits work at
  other_keeps stays waits answer (Client c) other (Migrating work) at = fits_on stays waits work at
  other_keeps stays waits answer Lock other (SettingUp setup tries) at = on stays waits (is_reverting now.tool.reason) (SettingUp setup tries) at
  other_keeps stays waits answer Ren other (SettingUp setup tries) at = on stays waits (is_reverting now.tool.reason) (SettingUp setup tries) at
  other_keeps stays waits answer Copy other (SettingUp setup tries) at = on stays waits (is_reverting now.tool.reason) (SettingUp setup tries) at
  other_keeps stays waits answer Apply other (SettingUp setup tries) at = on stays waits (is_reverting now.tool.reason) (SettingUp setup tries) at
  other_keeps stays waits answer Op other (SettingUp setup tries) at = on stays waits (is_reverting now.tool.reason) (SettingUp setup tries) at
  other_keeps stays waits answer (Client c) other (SettingUp setup tries) at = on stays waits (is_reverting now.tool.reason) (SettingUp setup tries) at

  -- THE INSPECTOR'S, BEHIND THE SETUP

  -- what it asks
  pub insp_asks : (work : Work) → now.tool.tool_phase ≡ Migrating work → Asking plan journal Insp entry.asked → (P : Type 0) → ((request : Request) → IsAbout request (has Insp) entry.asked → AsksAt request work.cutover.table work.cutover.attempts work.cutover.phase → P) → P
  unfolding cutovers.next
  insp_asks work tool_phase (calls_so request asks idle call) P then =
      then request (is_called asks idle)
      (inspects_or plan journal now.tool work request (AsksAt request work.cutover.table work.cutover.attempts work.cutover.phase) (ap (λ (c : ToolPhase). tool_call plan now.server journal now.tool c Insp) (sym tool_phase) ∙ call)
      (λ note resting. subst (AsksAt request work.cutover.table work.cutover.attempts) (sym resting) (subst (λ (t : List ℕ). IsNote t request) (sym (own_table work tool_phase)) note)) (λ next. call_asks work.cutover work.cutover.phase request next))
  insp_asks work tool_phase (polls_so request asks some) P then =
      then request (is_polled asks some) (waits_asks request work.cutover.table work.cutover.attempts work.cutover.phase (subst (λ (w : Option Request). WaitsAt w work.cutover.table work.cutover.attempts work.cutover.phase) some (work_fits work tool_phase).waits))

  -- a note doesn't wait
  heard_side : (entry.answer ≡ answers.Lost → ⊥) → entry.side ≡ None
  heard_side heard = by entry.side refl where
    by : (side : Option Side) → entry.side ≡ side → side ≡ None
    by None at_side = refl
    by (Some side) at_side = absurd (heard (own_missed plan journal entry together.known served side at_side))

  notes_rest : entry.actor ≡ Insp → (work : Work) → now.tool.tool_phase ≡ Migrating work → work.cutover.phase ≡ Resting → (request : Request) → IsAbout request (has Insp) entry.asked → AsksAt request work.cutover.table work.cutover.attempts work.cutover.phase → (other : ℕ) → entry.answer ≡ answers.Waits other → ⊥
  notes_rest same work tool_phase resting request (is_called asks idle) kind other waits =
      let note : IsNote work.cutover.table request = subst (AsksAt request work.cutover.table work.cutover.attempts) resting kind in
      subst IsDone waits
      (log_at_once plan runs journal entry kept run (all_held_well plan journal runs serial kept) same request (ap names_in note.is ∙ ap (λ (t : List ℕ). log_name t ∷ []) (own_table work tool_phase)) asks (heard_side (λ lost. not_lost (sym lost ∙ waits)))) where
        not_lost : answers.Lost ≡ answers.Waits other → ⊥
        not_lost both = cc
  notes_rest same work tool_phase resting request (is_polled asks some) kind other waits =
      subst (WaitsAt (Some request) work.cutover.table work.cutover.attempts) resting (subst (λ (w : Option Request). WaitsAt w work.cutover.table work.cutover.attempts work.cutover.phase) some (work_fits work tool_phase).waits)

  insp_keeps : entry.actor ≡ Insp → (work : Work) → now.tool.tool_phase ≡ Migrating work → Asking plan journal Insp entry.asked → CutKeeps New entry.answer tool Inspector work
  unfolding cuts.took
  insp_keeps same work tool_phase asks = insp_asks work tool_phase asks (CutKeeps New entry.answer tool Inspector work) (λ request is_about kind tries. record {
    waits = by request is_about kind (ap (λ (s : Standing). s.waits) (has_now plan journal entry together run Insp request same is_about)) (own_fits plan journal entry together.known served request (about_own Insp request same is_about)) (following request entry.answer (has Insp));
    spares = inspector_spares work.cutover work.cutover.phase entry.answer (work_fits work tool_phase).spares;
    log = kept_so Insp request same is_about (subst (λ (t : List ℕ). KeepsLog t request) (own_table work tool_phase) (asks_keep request work.cutover.table work.cutover.attempts work.cutover.phase (unmarked work tool_phase).undone.undone (work_fits work tool_phase).spares kind)) ∙ (work_fits work tool_phase).log;
  }) where
    by : (request : Request) → IsAbout request (has Insp) entry.asked → AsksAt request work.cutover.table work.cutover.attempts work.cutover.phase → (now_has Insp).waits ≡ (answered request entry.answer (has Insp)).waits → answers_to request entry.answer ≡ true → Following request entry.answer (has Insp)
        → WaitsAt (now_has Insp).waits work.cutover.table work.cutover.attempts (cuts.inspector_phase work.cutover work.cutover.phase entry.answer)
    by request is_about kind now_so fits (rests none) = subst (λ (w : Option Request). WaitsAt w work.cutover.table work.cutover.attempts (cuts.inspector_phase work.cutover work.cutover.phase entry.answer)) (sym (now_so ∙ none)) tt
    by request is_about kind now_so fits (waits_on one is) =
        subst (λ (w : Option Request). WaitsAt w work.cutover.table work.cutover.attempts (cuts.inspector_phase work.cutover work.cutover.phase entry.answer)) (sym (now_so ∙ ap (λ (a : Answer). (answered request a (has Insp)).waits) is))
        (subst (λ (a : Answer). WaitsAt (Some request) work.cutover.table work.cutover.attempts (cuts.inspector_phase work.cutover work.cutover.phase a)) (sym is)
        (asked_waits work.cutover request work.cutover.table work.cutover.attempts one work.cutover.phase kind (subst (λ (a : Answer). answers_to request a ≡ true) is fits) (λ resting. notes_rest same work tool_phase resting request is_about kind one is)))

  insp_lost : now_has Insp ≡ free → Stays → (work : Work) → now.tool.tool_phase ≡ Migrating work → CutKeeps New answers.Lost tool Inspector work
  unfolding cuts.took
  insp_lost none stays work tool_phase = λ tries. record {
    waits = subst (λ (w : Option Request). WaitsAt w work.cutover.table work.cutover.attempts (cuts.inspector_phase work.cutover work.cutover.phase answers.Lost)) (sym (ap (λ (s : Standing). s.waits) none)) tt;
    spares = inspector_spares work.cutover work.cutover.phase answers.Lost (work_fits work tool_phase).spares;
    log = stays ∙ (work_fits work tool_phase).log;
  }

  -- IN THE SETUP

  made : (size : ℕ) (setup : Setup) (tries : List ℕ) → (past_log setup ≡ true → LogStands plan after) → ((position : ℕ) (range : _) → setup ≡ Ready position range → (now_has Insp).waits ≡ None) → New false (tool_phase_of plan size setup tries)
  made size (Ready position range) tries log none = none_fits plan after (now_has Insp).waits _ (none position range refl) tt (log refl)
  made size Listing tries log none = log
  made size (Clearing left) tries log none = log
  made size MakingLog tries log none = log
  made size MakingGhost tries log none = log
  made size Marking tries log none = log
  made size (Reaching position) tries log none = log

  module _ (same : entry.actor ≡ Insp) (setup : Setup) (tries : List ℕ) (tool_phase : now.tool.tool_phase ≡ SettingUp setup tries) (request : Request) (is_about : IsAbout request (has Insp) entry.asked) (call : setup_call plan setup ≡ Some request) where
    past_stands : past_log setup ≡ true → LogStands plan after
    past_stands past = kept_so Insp request same is_about (setup_keeps_log plan setup request past call) ∙ setup_fits setup tries tool_phase past

    no_side : (count : ℕ) → entry.answer ≡ answers.Ok count → entry.side ≡ None
    no_side count reported = by entry.side refl where
      no : answers.Lost ≡ answers.Ok count → ⊥
      no both = cc

      by : (side : Option Side) → entry.side ≡ side → side ≡ None
      by None at_side = refl
      by (Some side) at_side = absurd (no (sym (own_missed plan journal entry together.known served side at_side) ∙ reported))

    made_stands : (count : ℕ) → setup ≡ MakingLog → entry.answer ≡ answers.Ok count → LogStands plan after
    unfolding log_schema
    made_stands count at_making reported =
        let one : request ≡ requests.Create (log_schema plan.table) = some_request (λ (r : Request). r ≡ requests.Create (log_schema plan.table)) _ request (ap (setup_call plan) (sym at_making) ∙ call) refl in
        schema_made plan journal entry served (own_waiting plan journal entry together.known served) (log_schema plan.table) count (about_own Insp (requests.Create (log_schema plan.table)) same (subst (λ (r : Request). IsAbout r (has Insp) entry.asked) one is_about)) (no_side count reported)
        (own_given plan journal entry together.known served (no_side count reported) ∙ reported)

    step_stands : past_log (setup_step plan.table setup entry.answer) ≡ true → LogStands plan after
    step_stands past = by (step_log plan.table setup entry.answer past) where
      by : PassesLog setup entry.answer → LogStands plan after
      by (passed_log past) = past_stands past
      by (makes_log count at_making reported) = made_stands count at_making reported

    ready_waits : (position : ℕ) (range : _) → setup_step plan.table setup entry.answer ≡ Ready position range → (now_has Insp).waits ≡ None
    ready_waits position range ready = by (following request entry.answer (has Insp)) where
      waits_now : (now_has Insp).waits ≡ (answered request entry.answer (has Insp)).waits
      waits_now = ap (λ (s : Standing). s.waits) (has_now plan journal entry together run Insp request same is_about)

      by : Following request entry.answer (has Insp) → (now_has Insp).waits ≡ None
      by (rests none) = waits_now ∙ none
      by (waits_on one is) = absurd (none-some request (ap (setup_call plan) (sym ready ∙ ap (setup_step plan.table setup) is ∙ step_waits plan.table setup one) ∙ call))

    setup_keeps : SetupKeeps plan New entry.answer tool setup tries
    setup_keeps = record {
      reverting = λ reverting. past_stands;
      again = λ going bad tries past. absurd (false≢true past);
      goes = λ going good. subst (λ (b : Bool). New false (tool_phase_of plan now.tool.operator.size (cond b Listing (setup_step plan.table setup entry.answer)) tries)) (sym good) (made now.tool.operator.size (setup_step plan.table setup entry.answer) tries step_stands ready_waits);
    }

  setup_lost : Stays → (setup : Setup) (tries : List ℕ) → now.tool.tool_phase ≡ SettingUp setup tries → SetupKeeps plan New answers.Lost tool setup tries
  setup_lost stays setup tries tool_phase = record {
    reverting = λ reverting past. stays ∙ setup_fits setup tries tool_phase past;
    again = λ going bad more past. absurd (false≢true past);
    goes = λ going good. absurd (true≢false good);
  }

  setup_tables : (setup : Setup) (tries : List ℕ) → now.tool.tool_phase ≡ SettingUp setup tries → SetupTables plan before has setup
  setup_tables setup tries tool_phase = subst (ToolPhaseTables plan before has) tool_phase known.marking.tabled.tables

  setup_asked : entry.actor ≡ Insp → (setup : Setup) (tries : List ℕ) → now.tool.tool_phase ≡ SettingUp setup tries → Asking plan journal Insp entry.asked → SetupKeeps plan New entry.answer tool setup tries
  setup_asked same setup tries tool_phase (calls_so request asks idle call) =
      setup_keeps same setup tries tool_phase request (is_called asks idle) (unless_called (is_reverting now.tool.reason) (setup_call plan setup) request (ap (λ (c : ToolPhase). tool_call plan now.server journal now.tool c Insp) (sym tool_phase) ∙ call))
  setup_asked same setup tries tool_phase (polls_so request asks some) = setup_keeps same setup tries tool_phase request (is_polled asks some) ((setup_tables setup tries tool_phase).waits request some)

  -- THE WHOLE TURN

  insp_heard : entry.actor ≡ Insp → Asking plan journal Insp entry.asked → (tool_phase : ToolPhase) → now.tool.tool_phase ≡ tool_phase → AnswerKeeps plan New entry.answer tool Insp tool_phase
  insp_heard same asks (SettingUp setup tries) at = setup_asked same setup tries at asks
  insp_heard same asks (Migrating work) at = insp_keeps same work at asks

  insp_cut : now_has Insp ≡ free → Stays → (tool_phase : ToolPhase) → now.tool.tool_phase ≡ tool_phase → AnswerKeeps plan New answers.Lost tool Insp tool_phase
  insp_cut none stays (SettingUp setup tries) at = setup_lost stays setup tries at
  insp_cut none stays (Migrating work) at = insp_lost none stays work at

  -- a session of the inspector's that had nothing has nothing
  none_on : now_has Insp ≡ free → Stays → (b : Bool) (tool_phase : ToolPhase) → now.tool.tool_phase ≡ tool_phase → New b tool_phase
  none_on none stays b (SettingUp setup tries) tool_phase = λ past. stays ∙ setup_fits setup tries tool_phase past
  none_on none stays b (Migrating work) tool_phase = none_fits plan after (now_has Insp).waits work (ap (λ (s : Standing). s.waits) none) (work_fits work tool_phase).spares (stays ∙ (work_fits work tool_phase).log)

  lost_free : entry.asked ≡ Cut → (actor : Actor) → entry.actor ≡ actor → now_has actor ≡ free
  lost_free cut actor same = subst (λ (a : Actor). now_has a ≡ free) same (own_lost plan journal entry together.known served cut)

  cut_lost : entry.asked ≡ Cut → AnswerKeeps plan New answers.Lost tool entry.actor now.tool.tool_phase
  cut_lost cut = by (same_actor entry.actor Insp) refl where
    by : (b : Bool) → same_actor entry.actor Insp ≡ b → AnswerKeeps plan New answers.Lost tool entry.actor now.tool.tool_phase
    by true same =
        let one : entry.actor ≡ Insp = same_actor_is entry.actor Insp same in
        subst (λ (a : Actor). AnswerKeeps plan New answers.Lost tool a now.tool.tool_phase) (sym one) (insp_cut (lost_free cut Insp one) (still (ap may_lose cut)) now.tool.tool_phase refl)
    by false other = other_keeps (still (ap may_lose cut)) (waits_there other) answers.Lost entry.actor other now.tool.tool_phase refl

  cut_idle : entry.asked ≡ Cut → New (is_reverting now.tool.reason) now.tool.tool_phase
  cut_idle cut = by (same_actor entry.actor Insp) refl where
    by : (b : Bool) → same_actor entry.actor Insp ≡ b → New (is_reverting now.tool.reason) now.tool.tool_phase
    by true same = none_on (lost_free cut Insp (same_actor_is entry.actor Insp same)) (still (ap may_lose cut)) (is_reverting now.tool.reason) now.tool.tool_phase refl
    by false other = on (still (ap may_lose cut)) (waits_there other) (is_reverting now.tool.reason) now.tool.tool_phase refl

  heard_keeps : (entry.asked ≡ Cut → ⊥) → ((word : OperatorWord) → entry.asked ≡ Command word → ⊥) → AnswerKeeps plan New entry.answer tool entry.actor now.tool.tool_phase
  unfolding given
  heard_keeps called commands = by (same_actor entry.actor Insp) refl where
    gives : given plan journal entry.actor ≡ Some entry.asked
    gives = gives_asked plan journal entry entry.asked run.followed.given refl called

    by : (b : Bool) → same_actor entry.actor Insp ≡ b → AnswerKeeps plan New entry.answer tool entry.actor now.tool.tool_phase
    by true same =
        let one : entry.actor ≡ Insp = same_actor_is entry.actor Insp same in
        subst (λ (a : Actor). AnswerKeeps plan New entry.answer tool a now.tool.tool_phase) (sym one)
        (insp_heard one (asking plan journal Insp entry.asked together.server (subst (λ (a : Actor). given plan journal a ≡ Some entry.asked) one gives)) now.tool.tool_phase refl)
    by false other = other_keeps (others_stay entry.actor refl other gives called commands) (waits_there other) entry.answer entry.actor other now.tool.tool_phase refl

  -- a command isn't the inspector's
  commanded_other : (word : OperatorWord) → entry.asked ≡ Command word → same_actor entry.actor Insp ≡ false
  unfolding given
  commanded_other word asks = by (same_actor entry.actor Insp) refl where
    gives : IsGiven plan journal entry (Command word)
    gives = subst (IsGiven plan journal entry) asks run.followed.given

    by : (b : Bool) → same_actor entry.actor Insp ≡ b → b ≡ false
    by true same = absurd (never_commands plan journal Insp word (subst (λ (a : Actor). given plan journal a ≡ Some (Command word)) (same_actor_is entry.actor Insp same) gives))
    by false other = refl

  commanded_on : (word : OperatorWord) → entry.asked ≡ Command word → (b : Bool) (tool_phase : ToolPhase) → now.tool.tool_phase ≡ tool_phase → New b tool_phase
  commanded_on word asks b tool_phase at = on (still (ap may_lose asks)) (waits_there (commanded_other word asks)) b tool_phase at

  resized_on : (size : ℕ) → entry.asked ≡ Command (ChunkSize size) → (tool_phase : ToolPhase) → now.tool.tool_phase ≡ tool_phase → ResizeKeeps New tool size tool_phase
  resized_on size asks (SettingUp setup tries) at = commanded_on (ChunkSize size) asks (is_reverting now.tool.reason) (SettingUp setup tries) at
  resized_on size asks (Migrating work) at =
      let kept : WorkFits plan after (now_has Insp).waits work = commanded_on (ChunkSize size) asks (is_reverting now.tool.reason) (Migrating work) at in record { waits = kept.waits; spares = kept.spares; log = kept.log }

  turn_keeps : TurnKeeps plan New now.server entry tool
  turn_keeps = record {
    commanded = λ word asks unsized. commanded_on word asks (is_reverting now.tool.reason) now.tool.tool_phase refl;
    resized = λ size asks. resized_on size asks now.tool.tool_phase refl;
    idle = λ cut rested. cut_idle cut;
    lost = λ cut worked. cut_lost cut;
    heard = heard_keeps;
  }

  pub fit_more : IsFit plan more
  fit_more = turn_kept plan New back journal entry drain turn_keeps

-- WHOLE JOURNALS

fit_begins : (plan : PlanData) → IsFit plan []
unfolding moment live_session
fit_begins plan = λ past. absurd (false≢true past)

-- what is so of each entry of such a journal
abbrev IsGood : PlanData → List Entry → Entry → Type 0
IsGood plan before one = IsRun plan before one × IsUnaltered plan (before ++ one ∷ []) × IsKept plan before

abbrev IsKnownFit : PlanData → List Entry → Type 0
IsKnownFit plan journal = IsKnownAsked plan journal × IsFit plan journal

all_good : (plan : PlanData) (before journal : List Entry) → Along (IsRun plan) before journal → IsUnaltered plan (before ++ journal) → IsKept plan (before ++ journal) → Along (IsGood plan) before journal
all_good plan some [] runs off kept = tt
all_good plan some (entry ∷ journal) runs off kept =
    let later : IsUnaltered plan ((some ++ entry ∷ []) ++ journal) = subst (IsUnaltered plan) (sym (append_assoc some (entry ∷ []) journal)) off in (
      (runs.0, unaltered_front plan (some ++ entry ∷ []) journal later, kept_front plan some (entry ∷ journal) kept),
      all_good plan (some ++ entry ∷ []) journal runs.1 later (subst (IsKept plan) (sym (append_assoc some (entry ∷ []) journal)) kept),
    )

-- *Behind every such journal*
pub all_fit : (plan : PlanData) (journal : List Entry) → IsRunnable plan → IsSerialPlan plan → IsKept plan journal → IsUnaltered plan journal → IsFit plan journal
unfolding Follows
all_fit plan journal runs serial kept off =
    (Along-keeps (IsGood plan) (IsKnownFit plan) (λ before entry good is. (asked_more plan before entry good.0 is.0, fit_more plan before entry serial runs is.0 good.0 good.1 is.1 good.2)) [] journal (all_good plan [] journal (all_runs plan [] journal kept.faithful kept.follows) off kept) (asked_begins plan runs, fit_begins plan)).1
