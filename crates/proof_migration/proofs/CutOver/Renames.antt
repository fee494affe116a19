-- The RENAME that is done is the renamer's exchange, and by the sentry relation it comes at the mark.
use Rattle.std.proofs.Common.{◌≡◌, ℕ, true, false, not, List, [], ◌∷◌, ◌++◌, drop, Option, Some, None, Result, Ok, Err, refl, sym, ap, ◌∙◌, subst, append-nil, append_assoc}
use Rattle.std.specs.List.{list_any}
use Rattle.std.proofs.lemmas.Bool.{true≢false}
use Rattle.base_values.specs.declared.mysql_errors.TheConstants.{ER_TABLE_NOT_LOCKED}
use Rattle.table_store.specs.Databases.{Database, rename_tables}
use Rattle.table_store.specs.declared.renames.Pair.{Pair}
use Rattle.base_script.specs.declared.actor.Actor.{Actor}
use Rattle.base_script.specs.declared.actor.Actor.TheVariants.{Op, Insp, Copy, Apply, Lock, Ren, Client}
use Rattle.base_script.specs.declared.actor.Side.{Side}
use Rattle.base_script.specs.declared.actor.Side.TheVariants.{Before, After}
use Rattle.server_model.specs.Along.{Along, Along-more}
use Rattle.server_model.specs.Answers.{ok, refuses}
use Rattle.server_model.specs.Effects.{effect, defined, renamed_or}
use Rattle.server_model.specs.Entries.{is_client, is_command, is_cut}
use Rattle.server_model.specs.States.{State, waiting_of}
use Rattle.server_model.specs.declared.answer.Answer.{Answer}
use Rattle.server_model.specs.declared.answer.Answer.TheVariants as answers
use Rattle.server_model.specs.declared.entry.Asked.{Asked}
use Rattle.server_model.specs.declared.entry.Asked.TheVariants.{Call, Poll, Command, Cut}
use Rattle.server_model.specs.declared.entry.Entry.{Entry}
use Rattle.server_model.specs.declared.request.Request.{Request}
use Rattle.server_model.specs.declared.request.Request.TheVariants as requests
use Rattle.server_model.specs.declared.session.Waiting.{Waiting}
use Rattle.plan_data.specs.PlanData.{PlanData}
use Rattle.tool_program.specs.CutoverCore.Attempts.{exchange}
use Rattle.tool_program.specs.EventApplier.Appliers as appliers
use Rattle.tool_program.specs.EventApplier.Appliers.{events_of}
use Rattle.tool_program.specs.declared.event_applier.applier.ApplyStep.{ApplyStep}
use Rattle.tool_program.specs.declared.event_applier.applier.ApplyStep.TheVariants.{Reading, Beginning, Applying, Committing}
use Rattle.tool_program.specs.JournalWords.Histories as histories
use Rattle.tool_program.specs.JournalWords.Histories.{adds, alters, asked_about, is_alter, request_waiting, answer_in}
use Rattle.tool_program.specs.JournalWords.Journals.{opens, state_at}
use Rattle.tool_program.specs.Programs.{Follows, IsFollowed, IsGiven, given, tool_call}
use Rattle.tool_program.specs.Tools.{ToolPhase, Migrating, SettingUp, Work, is_reverting, moment}
use Rattle.proof_journals.specs.Plans.{IsSerialPlan, limits_of, scene_of}
use Rattle.proof_journals.specs.Turns.{IsSceneRun, IsReported, about, request_of, reported_at}
use Rattle.proof_journals.proofs.Joined.{reported_answer, reported_missed, reported_draw}
use Rattle.proof_journals.proofs.Journals.{opened_waits}
use Rattle.proof_journals.proofs.PlanJournals.{plan_runs_are_scene_runs}
use Rattle.proof_journals.proofs.Moves.{renamed_ok}
use Rattle.proof_journals.specs.ServerTurns.Others.{DefinitionsAreDone, ExclusiveIsAlone, WasDone}
use Rattle.proof_journals.specs.Ghost.EffectStates.{effect_answer, where_done}
use Rattle.proof_journals.proofs.Ghost.Undone.{effects_answer}
use Rattle.proof_migration.proofs.Migration.Copier.Served.{Deeded, deeded}
use Rattle.proof_migration.proofs.Migration.Copier.Served.Deeded.{outside_so, within_so}
use Rattle.proof_journals.specs.Run.Kept.{IsKept}
use Rattle.run_actors.proofs.AlterTurns.{of_client}
use Rattle.proof_journals.specs.Machine.Machines.{ToolPhaseStands, SetupStands}
use Rattle.proof_journals.specs.Machine.Runnable.{IsRunnable}
use Rattle.proof_journals.specs.Machine.Standings.{Standing, free, standing_of}
use Rattle.proof_journals.proofs.Machine.Journals.{Asking, IsRun, IsTogether, asking, calls_so, polls_so}
use Rattle.proof_journals.proofs.Machine.Seated.{IsServed, own_waiting}
use Rattle.proof_journals.specs.Sentry.TurnResults.{IsGuarded, IsRenamed, IsTurned, IsWhole, WaitsSay}
use Rattle.proof_journals.proofs.Sentry.Agreeing.{renames_follow}
use Rattle.proof_journals.proofs.Sentry.Inductions.{all_guarded}
use Rattle.proof_journals.proofs.Sentry.Serving.{exchanged, is_renamed}
use Rattle.proof_migration.specs.ToolPhase.Unaltered.{IsUnaltered}
use Rattle.proof_migration.proofs.ToolPhase.Unaltered.Away.{IsKnownAsked, about_asked, all_asked, tool_adds, unaltered_front}
use Rattle.proof_migration.proofs.ToolPhase.Unaltered.Runs.{unaltered_runs}
use Rattle.proof_migration.specs.Program.Turns.Laws.{IsMark}
use Rattle.proof_migration.proofs.Program.Turns.Follows.{kept_front, kept_run}
use Rattle.proof_migration.specs.ToolPhase.Waits.{WaitsAreReported}
use Rattle.proof_migration.specs.Program.LockerTurns.{LockersAreTurned, RenamersAreTurned}
use Rattle.proof_migration.specs.Program.InspectorTurns.{InspectorsAreTurned}
use Rattle.proof_migration.specs.Program.BatchTurns.{AppliersAreTurned, CopiersAreTurned}
use Rattle.proof_migration.specs.CutOver.{ClientsAreTurned, IsRename, JournalsAreTurned, OperatorsAreTurned, RenamesComeAtTheMark}

-- an applier that may read next is reading
pub reads : (step : ApplyStep) → appliers.is_reading step ≡ true → step ≡ Reading
reads Reading is = refl
reads (Beginning batch) is = absurd cc
reads (Applying batch done part) is = absurd cc
reads (Committing batch) is = absurd cc

-- EACH TURN IS SUCH A TURN

pub record TurnLaws : Type 0 where
  pub clients : ClientsAreTurned
  pub operators : OperatorsAreTurned
  pub lockers : LockersAreTurned
  pub renamers : RenamersAreTurned
  pub inspectors : InspectorsAreTurned
  pub copiers : CopiersAreTurned
  pub appliers : AppliersAreTurned

one_turned : TurnLaws → (plan : PlanData) (journal : List Entry) (entry : Entry) → IsRunnable plan → IsSerialPlan plan → IsKept plan (journal ++ entry ∷ []) → IsUnaltered plan (journal ++ entry ∷ []) → IsGuarded plan journal → IsTurned plan journal entry
one_turned laws plan journal entry runs serial kept off guarded = by entry.actor refl where
  by : (actor : Actor) → entry.actor ≡ actor → IsTurned plan journal entry
  by (Client number) same = laws.clients plan journal entry (ap is_client same) runs serial kept off
  by Op same = laws.operators plan journal entry same runs serial kept off
  by Lock same = laws.lockers plan journal entry same runs serial kept off
  by Ren same = laws.renamers plan journal entry same runs serial kept off guarded
  by Insp same = laws.inspectors plan journal entry same runs serial kept off
  by Copy same = laws.copiers plan journal entry same runs serial kept off
  by Apply same = laws.appliers plan journal entry same runs serial kept off

all_turned : TurnLaws → (plan : PlanData) → IsRunnable plan → IsSerialPlan plan → (some journal : List Entry) → Along (IsTurned plan) [] some → IsKept plan (some ++ journal) → IsUnaltered plan (some ++ journal) → Along (IsTurned plan) [] (some ++ journal)
all_turned laws plan runs serial some [] turned kept off = subst (Along (IsTurned plan) []) (sym (append-nil some)) turned
all_turned laws plan runs serial some (entry ∷ journal) turned kept off =
    let same : (some ++ entry ∷ []) ++ journal ≡ some ++ entry ∷ journal = append_assoc some (entry ∷ []) journal in
    let later : IsKept plan ((some ++ entry ∷ []) ++ journal) = subst (IsKept plan) (sym same) kept in
    let later_off : IsUnaltered plan ((some ++ entry ∷ []) ++ journal) = subst (IsUnaltered plan) (sym same) off in
    let one : IsTurned plan some entry = one_turned laws plan some entry runs serial (kept_front plan (some ++ entry ∷ []) journal later) (unaltered_front plan (some ++ entry ∷ []) journal later_off) (all_guarded plan some turned) in
    subst (Along (IsTurned plan) []) same (all_turned laws plan runs serial (some ++ entry ∷ []) journal (Along-more (IsTurned plan) [] some entry turned one) later later_off)

-- *Journals are turned*
pub journals_turned : TurnLaws → JournalsAreTurned
journals_turned laws plan journal runs serial kept off = all_turned laws plan runs serial [] journal tt kept off

-- what the sentry relation asks of each turn
all_three : (plan : PlanData) (some journal : List Entry) → Along (IsTurned plan) some journal → Along (IsFollowed plan) some journal → Along (WaitsSay plan) some journal → Along (λ before one. IsTurned plan before one × IsFollowed plan before one × WaitsSay plan before one) some journal
all_three plan some [] turned followed said = tt
all_three plan some (entry ∷ journal) turned followed said = ((turned.0, followed.0, said.0), all_three plan (some ++ entry ∷ []) journal turned.1 followed.1 said.1)

-- *What the RENAME finds*: all of the table is in the new one, nobody else holds it, and the old table's name is free
pub record Found (plan : PlanData) (journal : List Entry) (entry : Entry) : Type 0 where
  pub work : Work
  pub tool_phase : (moment plan journal).tool.tool_phase ≡ Migrating work
  pub whole : IsWhole plan (moment plan journal).server entry.session work
  pub renamed : IsRenamed plan (state_at plan journal) entry.session
  pub asks : Asking plan journal Ren entry.asked

module _ (exclusive_is_alone : ExclusiveIsAlone) (definitions_are_done : DefinitionsAreDone) (waits_are_reported : WaitsAreReported) (journals_are_turned : JournalsAreTurned) (plan : PlanData) (journal : List Entry) (entry : Entry) (runs : IsRunnable plan) (serial : IsSerialPlan plan) (rename : IsRename plan journal entry) where
  abbrev now : State
  now = state_at plan journal

  abbrev has : Actor → Standing
  has = standing_of plan journal

  before : IsKept plan journal
  before = kept_front plan journal (entry ∷ []) rename.kept

  known : IsKnownAsked plan journal
  known = all_asked plan journal runs before.faithful before.follows

  run : IsRun plan journal entry
  run = kept_run plan journal entry rename.kept

  together : IsTogether plan journal
  together = known.marking.tabled.all.tool

  served : IsServed plan journal entry
  served = record { answered = run.answered; seated = record { session = run.followed.session } }

  scene_run : IsSceneRun (limits_of plan) (scene_of plan journal) journal
  scene_run = plan_runs_are_scene_runs plan journal (unaltered_runs plan journal runs serial before rename.unaltered)

  entry_reported : IsReported (limits_of plan) (scene_of plan journal) journal entry
  entry_reported = record { answer = reported_answer now entry run.answered; missed = reported_missed now entry run.answered; draw = reported_draw now entry run.answered }

  -- WHOSE TURN IT IS

  tool : is_client entry.actor ≡ false
  tool = by entry.actor rename.alters where
    by : (actor : Actor) → list_any is_alter (adds plan journal entry actor) ≡ true → is_client actor ≡ false
    by (Client number) is = absurd (true≢false (sym is ∙ of_client plan journal entry number))
    by Op is = refl
    by Insp is = refl
    by Copy is = refl
    by Apply is = refl
    by Lock is = refl
    by Ren is = refl

  -- what the turn is about, and what was told
  record Renaming : Type 0 where
    pairs : List Pair
    is_about : histories.about journal entry ≡ Some (requests.Rename pairs)
    count : ℕ
    is_reported : answer_in entry.asked entry.side entry.answer entry.missed ≡ Some (answers.Ok count)

  renaming : Renaming
  renaming = by (histories.about journal entry) (answer_in entry.asked entry.side entry.answer entry.missed) refl refl (ap (list_any is_alter) (sym (tool_adds plan serial journal entry runs.fitting known run tool entry.actor tool)) ∙ rename.alters) where
    by : (request : Option Request) (reported : Option Answer) → histories.about journal entry ≡ request → answer_in entry.asked entry.side entry.answer entry.missed ≡ reported → list_any is_alter (alters plan request reported) ≡ true → Renaming
    by (Some (requests.Rename pairs)) (Some (answers.Ok count)) is reported alter = record { pairs = pairs; is_about = is; count = count; is_reported = reported }
    by request (Some (answers.Ok count)) is reported alter = absurd cc
    by request reported is statement_result alter = absurd cc

  exchanges : (entry.actor ≡ Ren) × (requests.Rename renaming.pairs ≡ exchange plan.table)
  exchanges = about_asked plan serial journal entry runs.fitting known run tool (requests.Rename renaming.pairs) renaming.is_about

  uncut : is_cut entry.asked ≡ false
  uncut = by entry.asked renaming.is_reported where
    by : (asked : Asked) → answer_in asked entry.side entry.answer entry.missed ≡ Some (answers.Ok renaming.count) → is_cut asked ≡ false
    by Cut is = absurd cc
    by (Call request) is = refl
    by Poll is = refl
    by (Command word) is = refl

  -- ON THE SERVER

  about_here : about (opens entry now) entry.session entry.asked ≡ Some (exchange plan.table)
  about_here = by entry.asked refl (renaming.is_about ∙ ap Some exchanges.1) where
    waits : is_command entry.asked ≡ false → request_of (waiting_of entry.session (opens entry now).waiting) ≡ request_waiting journal entry.actor
    waits called =
        ap (λ (w : List Waiting). request_of (waiting_of entry.session w)) (opened_waits (is_command entry.asked) (not (is_client entry.actor)) entry.session now) ∙ own_waiting plan journal entry together.known served called ∙ sym (known.marking.agree entry.actor)

    by : (asked : Asked) → entry.asked ≡ asked → asked_about asked (request_waiting journal entry.actor) ≡ Some (exchange plan.table) → about (opens entry now) entry.session asked ≡ Some (exchange plan.table)
    by (Call request) asks is = is
    by Poll asks is = waits (ap is_command asks) ∙ is
    by Cut asks is = waits (ap is_command asks) ∙ is
    by (Command word) asks is = absurd cc

  reported_here : reported_at entry.side entry.answer entry.missed ≡ Some (answers.Ok renaming.count)
  reported_here = by entry.asked entry.side renaming.is_reported where
    heard : (side : Option Side) → answer_in Poll side entry.answer entry.missed ≡ Some (answers.Ok renaming.count) → reported_at side entry.answer entry.missed ≡ Some (answers.Ok renaming.count)
    heard None is = is
    heard (Some Before) is = absurd cc
    heard (Some After) is = is

    by : (asked : Asked) (side : Option Side) → answer_in asked side entry.answer entry.missed ≡ Some (answers.Ok renaming.count) → reported_at side entry.answer entry.missed ≡ Some (answers.Ok renaming.count)
    by Cut side is = absurd cc
    by Poll side is = heard side is
    by (Call request) None is = is
    by (Call request) (Some Before) is = absurd cc
    by (Call request) (Some After) is = is
    by (Command word) None is = is
    by (Command word) (Some Before) is = absurd cc
    by (Command word) (Some After) is = is

  -- it was done with ok 0
  count_is : answers.Ok renaming.count ≡ ok
  count_is = by (deeded entry now (exchange plan.table)) where
    statement_result : answers.Ok renaming.count ≡ effect_answer (effect (where_done entry.asked entry.session (opens entry now)) entry.session (exchange plan.table))
    statement_result = effects_answer (limits_of plan) (scene_of plan journal) journal entry (exchange plan.table) (answers.Ok renaming.count) scene_run entry_reported about_here reported_here refl

    refused : (number : ℕ) → answers.Ok renaming.count ≡ refuses number → ⊥
    refused number same = cc

    result : (r : Result Database ℕ) → effect (where_done entry.asked entry.session (opens entry now)) entry.session (exchange plan.table) ≡ defined r → answers.Ok renaming.count ≡ ok
    result (Ok made) is = statement_result ∙ ap effect_answer is
    result (Err number) is = absurd (refused number (statement_result ∙ ap effect_answer is))

    by : Deeded now entry.session (exchange plan.table) (effect (where_done entry.asked entry.session (opens entry now)) entry.session (exchange plan.table)) → answers.Ok renaming.count ≡ ok
    by (outside_so out) = absurd (refused ER_TABLE_NOT_LOCKED (statement_result ∙ ap effect_answer out))
    by (within_so there same log within) = result (renamed_or (rename_tables (exchanged plan.table) there.tables)) within

  done : WasDone entry
  done = reported_here ∙ ap Some count_is

  renamed : IsRenamed plan now entry.session
  renamed =
      is_renamed plan entry.session now (state_at plan (journal ++ entry ∷ []))
      (renamed_ok (rename_tables (exchanged plan.table) now.tables) (state_at plan (journal ++ entry ∷ [])).tables
      (definitions_are_done (limits_of plan) (scene_of plan journal) journal entry (exchange plan.table) (renamed_or (rename_tables (exchanged plan.table) now.tables)) entry_reported about_here refl done))
      (exclusive_is_alone (limits_of plan) (scene_of plan journal) journal entry (exchange plan.table) scene_run entry_reported about_here refl done)

  -- IN THE PROGRAM

  gives : given plan journal Ren ≡ Some entry.asked
  gives = subst (λ (a : Actor). given plan journal a ≡ Some entry.asked) exchanges.0 (by entry.asked refl run.followed.given) where
    by : (asked : Asked) → entry.asked ≡ asked → IsGiven plan journal entry asked → given plan journal entry.actor ≡ Some entry.asked
    by (Call request) asks gives = gives ∙ ap Some (sym asks)
    by Poll asks gives = gives ∙ ap Some (sym asks)
    by (Command word) asks gives = gives ∙ ap Some (sym asks)
    by Cut asks gives = absurd (true≢false (sym (ap is_cut asks) ∙ uncut))

  asks_now : Asking plan journal Ren entry.asked
  unfolding given
  asks_now = asking plan journal Ren entry.asked together.server gives

  record Working : Type 0 where
    work : Work
    tool_phase : (moment plan journal).tool.tool_phase ≡ Migrating work

  -- the renamer is asked for nothing in the setup
  working : Working
  working = by (moment plan journal).tool.tool_phase refl where
    setting : (tool_phase : ToolPhase) → (moment plan journal).tool.tool_phase ≡ tool_phase → has Ren ≡ free → tool_call plan (moment plan journal).server journal (moment plan journal).tool tool_phase Ren ≡ None → Asking plan journal Ren entry.asked → ⊥
    setting tool_phase at rests none (calls_so request asks idle call) = no (sym none ∙ ap (λ (c : ToolPhase). tool_call plan (moment plan journal).server journal (moment plan journal).tool c Ren) (sym at) ∙ call) where
      no : None ≡ Some request → ⊥
      no same = cc
    setting tool_phase at rests none (polls_so request asks some) = no (sym (ap (λ (s : Standing). s.waits) rests) ∙ some) where
      no : None ≡ Some request → ⊥
      no same = cc

    by : (tool_phase : ToolPhase) → (moment plan journal).tool.tool_phase ≡ tool_phase → Working
    by (Migrating work) at = record { work = work; tool_phase = at }
    by (SettingUp setup tries) at =
        let stands : SetupStands has = subst (ToolPhaseStands journal has (is_reverting (moment plan journal).tool.reason)) at together.stands in absurd (setting (SettingUp setup tries) at stands.renamer refl asks_now)

  whole : IsWhole plan (moment plan journal).server entry.session working.work
  unfolding Follows
  whole =
      renames_follow plan journal entry working.work
      (all_three plan [] journal (journals_are_turned plan journal runs serial before rename.unaltered) before.follows (waits_are_reported plan journal before.faithful before.follows)) run.followed exchanges.0 uncut
      working.tool_phase (subst (λ (s : State). IsRenamed plan s entry.session) (sym together.server) renamed)

  mark : is_reverting (moment plan journal).tool.reason ≡ false → IsMark plan journal
  mark going = record {
    work = working.work;
    tool_phase = working.tool_phase;
    going = going;
    unaltered = rename.unaltered;
    copied = whole.copied;
    idle = reads working.work.applier.step whole.idle;
    applied = subst (λ (s : State). events_of plan.table (drop working.work.applier.position s.log) ≡ []) together.server whole.applied;
  }

  found : Found plan journal entry
  found = record { work = working.work; tool_phase = working.tool_phase; whole = whole; renamed = renamed; asks = asks_now }

-- *Renames come at the mark*
pub renames_marked : ExclusiveIsAlone → DefinitionsAreDone → WaitsAreReported → JournalsAreTurned → RenamesComeAtTheMark
renames_marked alone done reported turned plan journal entry runs serial rename going = mark alone done reported turned plan journal entry runs serial rename going

-- whatever is reverted
pub renames_found : ExclusiveIsAlone → DefinitionsAreDone → WaitsAreReported → JournalsAreTurned → (plan : PlanData) (journal : List Entry) (entry : Entry) → IsRunnable plan → IsSerialPlan plan → IsRename plan journal entry → Found plan journal entry
renames_found alone done reported turned plan journal entry runs serial rename = found alone done reported turned plan journal entry runs serial rename
