-- No smooth turn gives the tool a ground to revert.
use Rattle.std.proofs.Common.{◌≡◌, ◌≢◌, ℕ, ◌+◌, ◌==◌, Bool, true, false, cond, List, [], ◌∷◌, ◌++◌, length, Option, Some, None, refl, sym, ap, ◌∙◌, subst}
use Rattle.std.specs.List.{list_any}
use Rattle.std.proofs.lemmas.Bool.{true≢false, false≢true}
use Rattle.base_script.specs.declared.actor.Actor.{Actor}
use Rattle.base_script.specs.declared.actor.Actor.TheVariants.{Op, Insp, Copy, Apply, Lock, Ren, Client}
use Rattle.base_script.specs.declared.operator.OperatorWord.{OperatorWord}
use Rattle.base_script.specs.declared.operator.OperatorWord.TheVariants.{Throttle, NoThrottle, ChunkSize, Unpostpone, Panic, Wait}
use Rattle.server_model.specs.Along.{Along-both, Along-keeps}
use Rattle.server_model.specs.declared.answer.Answer.{Answer}
use Rattle.server_model.specs.declared.answer.Answer.TheVariants as answers
use Rattle.server_model.specs.declared.entry.Asked.{Asked}
use Rattle.server_model.specs.declared.entry.Asked.TheVariants.{Call, Poll, Command, Cut}
use Rattle.server_model.specs.declared.entry.Entry.{Entry}
use Rattle.server_model.specs.declared.outcome.Cause.{Cause}
use Rattle.server_model.specs.declared.outcome.Progress.{Progress}
use Rattle.server_model.specs.declared.outcome.Progress.TheVariants.{Going, TaskDone, TaskFailed, Unfit}
use Rattle.server_model.specs.declared.outcome.Task.{Task}
use Rattle.server_model.specs.declared.outcome.Task.TheVariants as tasks
use Rattle.server_model.specs.declared.outcome.Verdict.TheVariants as verdicts
use Rattle.base_values.specs.declared.gho_schema.schema.Schema.{Schema}
use Rattle.server_model.specs.declared.request.Request.{Request}
use Rattle.server_model.specs.declared.request.Request.TheVariants as requests
use Rattle.server_model.specs.Entries.{is_client}
use Rattle.server_model.specs.States.{State, has_work}
use Rattle.plan_data.specs.PlanData.{PlanData}
use Rattle.tool_changelog.specs.ToolTables.{sentry_schema}
use Rattle.tool_program.specs.JournalWords.Histories.{history, is_alter}
use Rattle.tool_program.specs.JournalWords.Journals.{IsFaithful}
use Rattle.tool_program.specs.ChunkCopier.Copiers as copiers
use Rattle.tool_program.specs.declared.chunk_copier.copier.Copier.{Copier}
use Rattle.tool_program.specs.declared.chunk_copier.copier.CopyStep.{CopyStep}
use Rattle.tool_program.specs.declared.chunk_copier.copier.CopyStep.TheVariants as copying
use Rattle.tool_program.specs.EventApplier.Appliers as appliers
use Rattle.tool_program.specs.declared.event_applier.applier.Applier.{Applier}
use Rattle.tool_program.specs.declared.event_applier.applier.ApplyStep.{ApplyStep}
use Rattle.tool_program.specs.declared.event_applier.applier.ApplyStep.TheVariants as applying
use Rattle.tool_program.specs.CutoverCore.CutOvers as cutovers
use Rattle.tool_program.specs.CutoverCore.CutOvers.{is_bad, is_ending, may_succeed}
use Rattle.tool_program.specs.CutoverCore.Attempts.{is_clear, without_first}
use Rattle.tool_program.specs.declared.cutover_core.cutover.Clearing.{Clearing as ClearingStep}
use Rattle.tool_program.specs.declared.cutover_core.cutover.Clearing.TheVariants.{Looking, Drops}
use Rattle.tool_program.specs.declared.cutover_core.cutover.CutOver.{CutOver}
use Rattle.tool_program.specs.declared.cutover_core.cutover.Hold.{Hold}
use Rattle.tool_program.specs.declared.cutover_core.cutover.Leftovers.{Leftovers}
use Rattle.tool_program.specs.declared.cutover_core.cutover.Phase.{Phase}
use Rattle.tool_program.specs.declared.cutover_core.cutover.Phase.TheVariants.{Resting, Attempting, Ending, Finishing, Finished}
use Rattle.tool_program.specs.declared.cutover_core.cutover.Role.{Role}
use Rattle.tool_program.specs.declared.cutover_core.cutover.Role.TheVariants.{Inspector, Locker, Renamer}
use Rattle.tool_program.specs.declared.cutover_core.cutover.Stage.TheVariants.{Drained}
use Rattle.tool_program.specs.Operators.{commanded}
use Rattle.tool_program.specs.Online.{attempt_goes_on}
use Rattle.tool_program.specs.Programs.{given, Follows}
use Rattle.tool_program.specs.Setups.{Setup, Listing, Clearing, MakingLog, MakingGhost, Marking, Reaching, Ready, setup_after}
use Rattle.tool_program.specs.Tools.{Work, ToolPhase, SettingUp, Migrating, Reason, CopyUnfit, ApplyUnfit, Spent, Panicked, Tool, Moment, first_reason, stopped, is_renamed, reverts, spends, is_reverting, working, copy_after, apply_after, attempt_after, is_failure, cutover_took, drains, tool_phase_of, actor_took, turn_counts, resizes, command_took, asked_took, took, moment}
use Rattle.tool_program.specs.Verdicts.{reverted_by, ended_so, has_ended, verdict_of}
use Rattle.proof_journals.specs.Machine.FormedPlans.{IsFitting}
use Rattle.proof_journals.specs.Machine.Laws.{TellsAlter, VerdictsTellTheAlter}
use Rattle.proof_journals.specs.Machine.Machines.{ToolPhaseStands, WorkStands, PhaseHolds}
use Rattle.proof_journals.specs.Machine.Standings.{standing_of, answers_to, IsAbout}
use Rattle.proof_journals.specs.Machine.MigrationTables.{TableExists}
use Rattle.proof_journals.proofs.Machine.CuttingOver.{LockerAsks}
use Rattle.proof_journals.proofs.Machine.Journals.{IsRun, all_runs, asking, lock_about, about}
use Rattle.proof_journals.proofs.Machine.Seated.{IsServed, own_fits}
use Rattle.proof_migration.proofs.ToolPhase.ToolPhaseTurns.{gives_asked}
use Rattle.proof_migration.proofs.Attempt.Standing.{IsStanding, standing_more, all_standing}
use Rattle.proof_migration.proofs.Attempt.Causes.Sentry.{sentry_unrefused}
use Rattle.proof_journals.proofs.Sentry.Inductions.{moment_more}
use Rattle.proof_plans.specs.Complete.Laws.{gives_up, is_copying, is_applying, has_row, is_unfit, IsSmooth, SmoothRunsAreDone}

-- WHAT A SMOOTH ANSWER MEANS FOR A TASK

-- the task goes on, or is done
abbrev IsGoing : Progress → Type 0
IsGoing Going = Unit {0}
IsGoing TaskDone = Unit {0}
IsGoing TaskFailed = ⊥
IsGoing (Unfit place number) = ⊥

copy_goes : (copier : Copier) (answer : Answer) → is_bad answer ≡ false → (is_copying copier.step ≡ true → is_unfit answer ≡ false) → IsGoing (copiers.progress copier answer)
unfolding copiers.progress
copy_goes copier answer good fits = by copier.step answer good fits where
  by : (step : CopyStep) (answer : Answer) → is_bad answer ≡ false → (is_copying step ≡ true → is_unfit answer ≡ false) → IsGoing (copiers.progress_at step answer)
  by step answers.Lost good fits = absurd (true≢false good)
  by step (answers.TimedOut waited) good fits = absurd (true≢false good)
  by copying.Choosing answer good fits = tt
  by (copying.Spanning reported size) answer good fits = tt
  by (copying.Copying chunk done) (answers.Refused number (Some place)) good fits = absurd (true≢false (fits refl))
  by (copying.Copying chunk done) answer good fits = tt
  by (copying.Committing chunk) (answers.Ok count) good fits = tt
  by (copying.Committing chunk) answer good fits = tt

apply_goes : (applier : Applier) (answer : Answer) → is_bad answer ≡ false → (is_applying applier.step ≡ true → is_unfit answer ≡ false) → IsGoing (appliers.progress applier answer)
unfolding appliers.progress
apply_goes applier answer good fits = by applier.step answer good fits where
  planned : (b : Bool) → IsGoing (cond b TaskDone Going)
  planned true = tt
  planned false = tt

  by : (step : ApplyStep) (answer : Answer) → is_bad answer ≡ false → (is_applying step ≡ true → is_unfit answer ≡ false) → IsGoing (appliers.progress_at applier step answer)
  by step answers.Lost good fits = absurd (true≢false good)
  by step (answers.TimedOut waited) good fits = absurd (true≢false good)
  by applying.Reading (answers.Events events following) good fits = planned (length (appliers.planned applier events) == 0)
  by applying.Reading answer good fits = tt
  by (applying.Beginning batch) answer good fits = tt
  by (applying.Applying batch done part) (answers.Refused number (Some place)) good fits = absurd (true≢false (fits refl))
  by (applying.Applying batch done part) answer good fits = tt
  by (applying.Committing batch) (answers.Ok count) good fits = tt
  by (applying.Committing batch) answer good fits = tt

-- WHERE AN ATTEMPT GAVE UP

-- it stood, and has ended now
record GaveUp (before after : Phase) : Type 0 where
  stood : may_succeed before ≡ true
  ends : is_ending after ≡ true

turn_fails : (hint : ℕ) (cutover : CutOver) → is_failure cutover.phase (cutovers.applier_turn hint cutover).phase ≡ true → GaveUp cutover.phase (cutovers.applier_turn hint cutover).phase
unfolding cutovers.applier_turn
turn_fails hint cutover fails = by cutover.phase fails where
  by : (phase : Phase) → is_failure phase (cutovers.drained cutover hint phase) ≡ true → GaveUp phase (cutovers.drained cutover hint phase)
  by (Attempting stage) fails = record { stood = refl; ends = fails }
  by Resting fails = absurd (false≢true fails)
  by (Ending clearing) fails = absurd (false≢true fails)
  by (Finishing clearing) fails = absurd (false≢true fails)
  by Finished fails = absurd (false≢true fails)

-- no answer but a loss and a time-out ends an attempt, nor does any that its sentry's CREATE gets unless it is refused
unbad : (after : Phase) (b : Bool) → b ≡ false → is_ending after ≡ false → is_ending (cond b (Ending Looking) after) ≡ false
unbad after true good on = absurd (true≢false good)
unbad after false good on = on

calm_took : (role : Role) (cutover : CutOver) (answer : Answer) → is_bad answer ≡ false → (role ≡ Locker → cutover.phase ≡ Resting → is_ending (cutovers.begun answer) ≡ false) → is_failure cutover.phase (cutovers.took role cutover answer).phase ≡ false
unfolding cutovers.took
calm_took role cutover answer good begins = by role refl where
  renamer : (phase : Phase) (answer : Answer) → is_bad answer ≡ false → is_failure phase (cutovers.renamer_phase phase answer) ≡ false
  renamer phase answers.Lost good = absurd (true≢false good)
  renamer phase (answers.TimedOut waited) good = absurd (true≢false good)
  renamer Resting (answers.Ok count) good = refl
  renamer (Attempting stage) (answers.Ok count) good = refl
  renamer (Ending clearing) (answers.Ok count) good = refl
  renamer (Finishing clearing) (answers.Ok count) good = refl
  renamer Finished (answers.Ok count) good = refl
  renamer Resting (answers.Waits by) good = refl
  renamer (Attempting Drained) (answers.Waits by) good = refl
  renamer (Attempting stage) (answers.Waits by) good = refl
  renamer (Ending clearing) (answers.Waits by) good = refl
  renamer (Finishing clearing) (answers.Waits by) good = refl
  renamer Finished (answers.Waits by) good = refl
  renamer Resting answer good = refl
  renamer (Attempting stage) answer good = refl
  renamer (Ending clearing) answer good = refl
  renamer (Finishing clearing) answer good = refl
  renamer Finished answer good = refl

  inspector : (phase : Phase) → is_failure phase (cutovers.inspector_phase cutover phase answer) ≡ false
  inspector Resting = refl
  inspector (Attempting stage) = unbad (Attempting (cutovers.inspector_stage cutover.has_counter stage answer)) (is_bad answer) good refl
  inspector (Ending clearing) = refl
  inspector (Finishing clearing) = refl
  inspector Finished = refl

  locker : role ≡ Locker → (phase : Phase) → cutover.phase ≡ phase → is_failure phase (cutovers.locker_phase phase answer) ≡ false
  locker who Resting at = begins who at
  locker who (Attempting stage) at = unbad (Attempting (cutovers.locker_stage stage answer)) (is_bad answer) good refl
  locker who (Ending clearing) at = refl
  locker who (Finishing clearing) at = refl
  locker who Finished at = refl

  by : (one : Role) → role ≡ one → is_failure cutover.phase (cutovers.took one cutover answer).phase ≡ false
  by Inspector who = inspector cutover.phase
  by Locker who = locker who cutover.phase refl
  by Renamer who = renamer cutover.phase answer good

-- what the sentry's CREATE is answered begins an attempt
sentry_begins : (schema : Schema) (answer : Answer) → answers_to (requests.Create schema) answer ≡ true → is_bad answer ≡ false → ((number : ℕ) (column : Option ℕ) → answer ≡ answers.Refused number column → ⊥) → is_ending (cutovers.begun answer) ≡ false
sentry_begins schema answers.Lost fits good unrefused = absurd (true≢false good)
sentry_begins schema (answers.TimedOut waited) fits good unrefused = absurd (true≢false good)
sentry_begins schema (answers.Refused number column) fits good unrefused = absurd (unrefused number column refl)
sentry_begins schema (answers.Ok count) fits good unrefused = refl
sentry_begins schema (answers.Waits by) fits good unrefused = refl
sentry_begins schema answer fits good unrefused = absurd cc

-- an attempt that didn't fail now doesn't end
quiet_after : (before after : Phase) → cutovers.is_done before ≡ false → is_ending before ≡ false → is_failure before after ≡ false → is_ending after ≡ false
quiet_after Resting after going on calm = calm
quiet_after (Attempting stage) after going on calm = calm
quiet_after (Ending clearing) after going on calm = absurd (true≢false on)
quiet_after (Finishing clearing) after going on calm = absurd (true≢false going)
quiet_after Finished after going on calm = absurd (true≢false going)

ending_stays : (phase : Phase) → is_ending phase ≡ true → is_ending (cutovers.ended phase) ≡ true
ending_stays (Ending clearing) is = refl
ending_stays Resting is = absurd (false≢true is)
ending_stays (Attempting stage) is = absurd (false≢true is)
ending_stays (Finishing clearing) is = absurd (false≢true is)
ending_stays Finished is = absurd (false≢true is)

stopped_stays : (tool_phase : ToolPhase) → gives_up tool_phase ≡ true → gives_up (stopped tool_phase) ≡ true
unfolding cutovers.reverted
stopped_stays (SettingUp setup tries) is = absurd (false≢true is)
stopped_stays (Migrating work) is = ending_stays work.cutover.phase is

spends_stays : (plan : PlanData) (task : Task) (tries : List ℕ) (other : Tool) → gives_up other.tool_phase ≡ true → gives_up (spends plan task tries other).tool_phase ≡ true
spends_stays plan task tries other is = by (length tries == plan.options.default_retries) where
  reverting : (b : Bool) → gives_up (cond b other (record other { reason = first_reason other.reason (Spent task tries); tool_phase = stopped other.tool_phase })).tool_phase ≡ true
  reverting true = is
  reverting false = stopped_stays other.tool_phase is

  by : (b : Bool) → gives_up (cond b (reverts (Spent task tries) other) other).tool_phase ≡ true
  by true = reverting (is_renamed other.tool_phase)
  by false = is

-- ONE TURN

-- no ground to revert, and no attempt that ends
pub record IsOn (one : Tool) : Type 0 where
  pub none : one.reason ≡ None
  pub on : gives_up one.tool_phase ≡ false

module _ (plan : PlanData) (journal : List Entry) (entry : Entry) (is : IsStanding plan journal) (run : IsRun plan journal entry) (smooth : IsSmooth plan journal entry) (going : is_renamed (moment plan journal).tool.tool_phase ≡ false) (was : IsOn (moment plan journal).tool) where
  abbrev now : Moment
  now = moment plan journal

  abbrev tool : Tool
  tool = record now.tool { turns = now.tool.turns + 1 }

  abbrev more : List Entry
  more = journal ++ entry ∷ []

  unchanged : IsOn tool
  unchanged = record { none = was.none; on = was.on }

  served : IsServed plan journal entry
  served = record { answered = run.answered; seated = record { session = run.followed.session } }

  never_bad : is_client entry.actor ≡ false → is_bad entry.answer ≡ true → ⊥
  never_bad kind bad = true≢false (sym bad ∙ smooth.heard kind)

  -- the cut-over neither ends an attempt nor is done
  undone : (work : Work) → now.tool.tool_phase ≡ Migrating work → cutovers.is_done work.cutover.phase ≡ false
  undone work eq = ap is_renamed (sym eq) ∙ going

  unended : (work : Work) → now.tool.tool_phase ≡ Migrating work → is_ending work.cutover.phase ≡ false
  unended work eq = ap gives_up (sym eq) ∙ was.on

  -- the sentry's CREATE is done, or waits
  begins : entry.asked ≢ Cut → (work : Work) → now.tool.tool_phase ≡ Migrating work → work.cutover.phase ≡ Resting → entry.actor ≡ Lock → is_ending (cutovers.begun entry.answer) ≡ false
  unfolding given
  begins uncut work eq resting who =
      lock_about plan journal entry is.tabled.all.tool run work eq stands
      (asking plan journal Lock entry.asked is.tabled.all.tool.server (subst (λ (a : Actor). given plan journal a ≡ Some entry.asked) who (gives_asked plan journal entry entry.asked run.followed.given refl uncut))) (is_ending (cutovers.begun entry.answer) ≡ false) reported where
        stands : WorkStands journal (is_reverting now.tool.reason) (standing_of plan journal) work
        stands = subst (ToolPhaseStands journal (standing_of plan journal) (is_reverting now.tool.reason)) eq is.tabled.all.tool.stands

        creates : (request : Request) → LockerAsks work.cutover.table work.cutover.hold work.cutover.phase request → request ≡ requests.Create (sentry_schema work.cutover.table)
        creates request asks =
            subst (λ (h : Hold). LockerAsks work.cutover.table h Resting request) (subst (λ (p : Phase). PhaseHolds p work.cutover.hold) resting stands.phase) (subst (λ (p : Phase). LockerAsks work.cutover.table work.cutover.hold p request) resting asks)

        reported : (request : Request) → IsAbout request (standing_of plan journal Lock) entry.asked → LockerAsks work.cutover.table work.cutover.hold work.cutover.phase request → is_ending (cutovers.begun entry.answer) ≡ false
        reported request is_about asks =
            sentry_begins (sentry_schema work.cutover.table) entry.answer
            (ap (λ (r : Request). answers_to r entry.answer) (sym (creates request asks)) ∙ own_fits plan journal entry is.tabled.all.tool.known served request (about plan journal entry is.tabled.all.tool run Lock request who is_about))
            (smooth.heard (ap is_client who)) (λ number column refused. sentry_unrefused plan journal entry is run work eq resting who number column refused)

  cut_on : entry.asked ≢ Cut → (role : Role) (work : Work) → now.tool.tool_phase ≡ Migrating work → is_client entry.actor ≡ false → (role ≡ Locker → entry.actor ≡ Lock) → IsOn (cutover_took plan role entry.answer work tool)
  cut_on uncut role work eq kind locks =
      subst (λ (b : Bool). IsOn (attempt_after plan b work (cutovers.took role work.cutover entry.answer) tool)) (sym calm)
      (record { none = was.none; on = quiet_after work.cutover.phase (cutovers.took role work.cutover entry.answer).phase (undone work eq) (unended work eq) calm }) where
        calm : is_failure work.cutover.phase (cutovers.took role work.cutover entry.answer).phase ≡ false
        calm = calm_took role work.cutover entry.answer (smooth.heard kind) (λ who resting. begins uncut work eq resting (locks who))

  tool_phase_on : (setup : Setup) (tries : List ℕ) → gives_up (tool_phase_of plan tool.operator.size setup tries) ≡ false
  tool_phase_on (Ready position range) tries = refl
  tool_phase_on Listing tries = refl
  tool_phase_on (Clearing left) tries = refl
  tool_phase_on MakingLog tries = refl
  tool_phase_on MakingGhost tries = refl
  tool_phase_on Marking tries = refl
  tool_phase_on (Reaching position) tries = refl

  setup_on : entry.actor ≡ Insp → (setup : Setup) (tries : List ℕ) → IsOn (actor_took plan Insp entry.answer (SettingUp setup tries) tool)
  setup_on who setup tries = by (is_reverting tool.reason) (is_bad entry.answer) refl where
    by : (a b : Bool) → is_bad entry.answer ≡ b
        → IsOn (cond a tool (cond b (spends plan tasks.Setup (tries ++ tool.turns ∷ []) (record tool { tool_phase = SettingUp Listing (tries ++ tool.turns ∷ []) })) (record tool { tool_phase = tool_phase_of plan tool.operator.size (setup_after plan.table setup entry.answer) tries })))
    by true b bad = unchanged
    by false true bad = absurd (never_bad (ap is_client who) bad)
    by false false good = record { none = was.none; on = tool_phase_on (setup_after plan.table setup entry.answer) tries }

  copy_on : entry.actor ≡ Copy → (work : Work) → now.tool.tool_phase ≡ Migrating work → IsOn (actor_took plan Copy entry.answer (Migrating work) tool)
  copy_on who work eq = by (is_reverting tool.reason) where
    copier : Copier
    copier = copiers.took tool.turns work.copier entry.answer

    reported : (progress : Progress) → IsGoing progress → IsOn (copy_after plan work progress copier tool)
    reported Going goes = record { none = was.none; on = unended work eq }
    reported TaskDone goes = record { none = was.none; on = unended work eq }
    reported TaskFailed goes = absurd goes
    reported (Unfit place number) goes = absurd goes

    fits : is_copying work.copier.step ≡ true → is_unfit entry.answer ≡ false
    fits copies = smooth.fits (ap (λ (a : Actor). has_row a now.tool.tool_phase) who ∙ ap (has_row Copy) eq ∙ copies)

    by : (a : Bool) → IsOn (cond a tool (copy_after plan work (copiers.progress work.copier entry.answer) copier tool))
    by true = unchanged
    by false = reported (copiers.progress work.copier entry.answer) (copy_goes work.copier entry.answer (smooth.heard (ap is_client who)) fits)

  -- behind the applier's answer the cut-over is as before
  record Applied (one : Tool) : Type 0 where
    on : IsOn one
    same : (work : Work) → one.tool_phase ≡ Migrating work → (old : Work) × (now.tool.tool_phase ≡ Migrating old) × (old.cutover ≡ work.cutover)

  unapplied : Applied tool
  unapplied = record { on = unchanged; same = λ work eq. (work, eq, refl) }

  apply_on : entry.actor ≡ Apply → (tool_phase : ToolPhase) → now.tool.tool_phase ≡ tool_phase → Applied (actor_took plan Apply entry.answer tool_phase tool)
  apply_on who (SettingUp setup tries) eq = unapplied
  apply_on who (Migrating work) eq = by (is_reverting tool.reason) where
    applier : Applier
    applier = appliers.took tool.turns work.applier entry.answer

    one_work : (a b : Work) → Migrating a ≡ Migrating b → a ≡ b
    one_work a b same = cc

    kept : (tries : List ℕ) → Applied (working (record work { applier = applier; batch_tries = tries }) tool)
    kept tries = record {
      on = record { none = was.none; on = unended work eq };
      same = λ other same. (work, eq, ap (λ (w : Work). w.cutover) (one_work (record work { applier = applier; batch_tries = tries }) other same));
    }

    reported : (progress : Progress) → IsGoing progress → Applied (apply_after plan work progress applier tool)
    reported Going goes = kept work.batch_tries
    reported TaskDone goes = kept []
    reported TaskFailed goes = absurd goes
    reported (Unfit place number) goes = absurd goes

    fits : is_applying work.applier.step ≡ true → is_unfit entry.answer ≡ false
    fits statement_result = smooth.fits (ap (λ (a : Actor). has_row a now.tool.tool_phase) who ∙ ap (has_row Apply) eq ∙ statement_result)

    by : (a : Bool) → Applied (cond a tool (apply_after plan work (appliers.progress work.applier entry.answer) applier tool))
    by true = unapplied
    by false = reported (appliers.progress work.applier entry.answer) (apply_goes work.applier entry.answer (smooth.heard (ap is_client who)) fits)

  drain_on : entry.actor ≡ Apply → (other : Tool) → Applied other → (moment plan more).tool ≡ drains plan other.tool_phase other → (tool_phase : ToolPhase) → other.tool_phase ≡ tool_phase → IsOn (drains plan tool_phase other)
  drain_on who other at final (SettingUp setup tries) eq = at.on
  drain_on who other at final (Migrating work) eq = by (is_failure work.cutover.phase turned.phase) refl where
    turned : CutOver
    turned = cutovers.applier_turn work.applier.hint work.cutover

    old : (one : Work) × (now.tool.tool_phase ≡ Migrating one) × (one.cutover ≡ work.cutover)
    old = at.same work eq

    phase_same : old.0.cutover.phase ≡ work.cutover.phase
    phase_same = ap (λ (c : CutOver). c.phase) old.2

    gone : is_failure work.cutover.phase turned.phase ≡ true → GaveUp work.cutover.phase turned.phase → ⊥
    gone fails gave =
        true≢false
        (sym (ap (λ (t : Tool). gives_up t.tool_phase) (final ∙ ap (λ (c : ToolPhase). drains plan c other) eq ∙ ap (λ (b : Bool). attempt_after plan b work turned other) fails)
        ∙ spends_stays plan tasks.CutOver (work.attempt_tries ++ other.turns ∷ []) (working (record work { cutover = turned; attempt_tries = work.attempt_tries ++ other.turns ∷ [] }) other) gave.ends)
        ∙ smooth.drained who (ap attempt_goes_on old.1 ∙ ap may_succeed phase_same ∙ gave.stood))

    by : (b : Bool) → is_failure work.cutover.phase turned.phase ≡ b → IsOn (attempt_after plan b work turned other)
    by false calm = record { none = at.on.none; on = quiet_after work.cutover.phase turned.phase (ap cutovers.is_done (sym phase_same) ∙ undone old.0 old.1) (ap is_ending (sym phase_same) ∙ unended old.0 old.1) calm }
    by true fails = absurd (gone fails (turn_fails work.applier.hint work.cutover fails))

  actor_on : entry.asked ≢ Cut → (actor : Actor) (tool_phase : ToolPhase) → now.tool.tool_phase ≡ tool_phase → entry.actor ≡ actor → IsOn (actor_took plan actor entry.answer tool_phase tool)
  actor_on uncut Insp (SettingUp setup tries) eq who = setup_on who setup tries
  actor_on uncut Insp (Migrating work) eq who = cut_on uncut Inspector work eq (ap is_client who) (λ role. absurd cc)
  actor_on uncut Copy (Migrating work) eq who = copy_on who work eq
  actor_on uncut Apply (Migrating work) eq who = (apply_on who (Migrating work) eq).on
  actor_on uncut Lock (Migrating work) eq who = cut_on uncut Locker work eq (ap is_client who) (λ role. who)
  actor_on uncut Ren (Migrating work) eq who = cut_on uncut Renamer work eq (ap is_client who) (λ role. absurd cc)
  actor_on uncut Op (Migrating work) eq who = unchanged
  actor_on uncut (Client c) (Migrating work) eq who = unchanged
  actor_on uncut Op (SettingUp setup tries) eq who = unchanged
  actor_on uncut (Client c) (SettingUp setup tries) eq who = unchanged
  actor_on uncut Copy (SettingUp setup tries) eq who = unchanged
  actor_on uncut Apply (SettingUp setup tries) eq who = unchanged
  actor_on uncut Lock (SettingUp setup tries) eq who = unchanged
  actor_on uncut Ren (SettingUp setup tries) eq who = unchanged

  counts_on : entry.asked ≢ Cut → (actor : Actor) → entry.actor ≡ actor → (moment plan more).tool ≡ turn_counts plan actor (actor_took plan actor entry.answer now.tool.tool_phase tool) → IsOn (turn_counts plan actor (actor_took plan actor entry.answer now.tool.tool_phase tool))
  counts_on uncut Apply who final = drain_on who (actor_took plan Apply entry.answer now.tool.tool_phase tool) (apply_on who now.tool.tool_phase refl) final (actor_took plan Apply entry.answer now.tool.tool_phase tool).tool_phase refl
  counts_on uncut actor who final = actor_on uncut actor now.tool.tool_phase refl who

  -- a loss between calls is a client's
  lost_on : (actor : Actor) → is_client actor ≡ true → (tool_phase : ToolPhase) → IsOn (actor_took plan actor answers.Lost tool_phase tool)
  lost_on (Client c) kind (SettingUp setup tries) = unchanged
  lost_on (Client c) kind (Migrating work) = unchanged
  lost_on Op kind tool_phase = absurd (false≢true kind)
  lost_on Insp kind tool_phase = absurd (false≢true kind)
  lost_on Copy kind tool_phase = absurd (false≢true kind)
  lost_on Apply kind tool_phase = absurd (false≢true kind)
  lost_on Lock kind tool_phase = absurd (false≢true kind)
  lost_on Ren kind tool_phase = absurd (false≢true kind)

  cut_client : entry.asked ≡ Cut → (b : Bool) → is_client entry.actor ≡ b → is_client entry.actor ≡ true
  cut_client cut true kind = kind
  cut_client cut false kind = absurd (smooth.uncut kind cut)

  resized_on : (size : ℕ) (tool_phase : ToolPhase) → gives_up tool_phase ≡ false → gives_up (resizes (ChunkSize size) tool_phase) ≡ false
  resized_on size (SettingUp setup tries) on = on
  resized_on size (Migrating work) on = on

  asked_on : (asked : Asked) → entry.asked ≡ asked → (moment plan more).tool ≡ asked_took plan now.server entry asked tool → IsOn (asked_took plan now.server entry asked tool)
  asked_on (Command word) asks final = by word asks where
    by : (word : OperatorWord) → entry.asked ≡ Command word → IsOn (command_took word tool)
    by Panic asks = absurd (smooth.calm asks)
    by Throttle asks = record { none = was.none; on = was.on }
    by NoThrottle asks = record { none = was.none; on = was.on }
    by (ChunkSize size) asks = record { none = was.none; on = resized_on size now.tool.tool_phase was.on }
    by Unpostpone asks = record { none = was.none; on = was.on }
    by Wait asks = record { none = was.none; on = was.on }
  asked_on Cut asks final = by (has_work now.server entry.session) where
    by : (b : Bool) → IsOn (cond b (actor_took plan entry.actor answers.Lost tool.tool_phase tool) tool)
    by true = lost_on entry.actor (cut_client asks (is_client entry.actor) refl) now.tool.tool_phase
    by false = unchanged
  asked_on (Call request) asks final = counts_on (λ cut. no_cut (sym asks ∙ cut)) entry.actor refl final where
    no_cut : Call request ≡ Cut → ⊥
    no_cut same = cc
  asked_on Poll asks final = counts_on (λ cut. no_cut (sym asks ∙ cut)) entry.actor refl final where
    no_cut : Poll ≡ Cut → ⊥
    no_cut same = cc

  -- *One turn more*
  pub smooth_more : IsOn (moment plan more).tool
  unfolding took
  smooth_more =
      let final : (moment plan more).tool ≡ asked_took plan now.server entry entry.asked tool = ap (λ (m : Moment). m.tool) (moment_more plan journal entry) in
      subst IsOn (sym final) (asked_on entry.asked refl final)

-- ONCE THE RENAME IS KNOWN

-- nothing is reverted any more
reverts_rests : (reason : Reason) (one : Tool) → is_renamed one.tool_phase ≡ true → reverts reason one ≡ one
reverts_rests reason one done = by (is_renamed one.tool_phase) done where
  by : (b : Bool) → b ≡ true → cond b one (record one { reason = first_reason one.reason reason; tool_phase = stopped one.tool_phase }) ≡ one
  by true done = refl
  by false done = absurd (false≢true done)

spends_rests : (plan : PlanData) (task : Task) (tries : List ℕ) (one : Tool) → is_renamed one.tool_phase ≡ true → spends plan task tries one ≡ one
spends_rests plan task tries one done = by (length tries == plan.options.default_retries) where
  by : (b : Bool) → cond b (reverts (Spent task tries) one) one ≡ one
  by true = reverts_rests (Spent task tries) one done
  by false = refl

done_calm : (phase after : Phase) → cutovers.is_done phase ≡ true → is_failure phase after ≡ false
done_calm Resting after done = absurd (false≢true done)
done_calm (Attempting stage) after done = absurd (false≢true done)
done_calm (Ending clearing) after done = absurd (false≢true done)
done_calm (Finishing clearing) after done = refl
done_calm Finished after done = refl

-- the RENAME is known, and there is no ground to revert
pub record Rests (one : Tool) : Type 0 where
  pub none : one.reason ≡ None
  pub done : is_renamed one.tool_phase ≡ true

reverts_still : (reason : Reason) (one : Tool) → Rests one → Rests (reverts reason one)
reverts_still reason one is = subst Rests (sym (reverts_rests reason one is.done)) is

spends_still : (plan : PlanData) (task : Task) (tries : List ℕ) (one : Tool) → Rests one → Rests (spends plan task tries one)
spends_still plan task tries one is = subst Rests (sym (spends_rests plan task tries one is.done)) is

drained_stays : (hint : ℕ) (cutover : CutOver) → cutovers.is_done cutover.phase ≡ true → cutovers.is_done (cutovers.applier_turn hint cutover).phase ≡ true
unfolding cutovers.applier_turn
drained_stays hint cutover done = by cutover.phase done where
  by : (phase : Phase) → cutovers.is_done phase ≡ true → cutovers.is_done (cutovers.drained cutover hint phase) ≡ true
  by (Finishing clearing) done = refl
  by Finished done = refl
  by Resting done = absurd (false≢true done)
  by (Attempting stage) done = absurd (false≢true done)
  by (Ending clearing) done = absurd (false≢true done)

done_stays : (role : Role) (cutover : CutOver) (answer : Answer) → cutovers.is_done cutover.phase ≡ true → cutovers.is_done (cutovers.took role cutover answer).phase ≡ true
unfolding cutovers.took
done_stays role cutover answer done = by role where
  finishing : (left : Leftovers) → cutovers.is_done (cutovers.finishing left) ≡ true
  finishing left = at (is_clear left) where
    at : (b : Bool) → cutovers.is_done (cond b Finished (Finishing (Drops left))) ≡ true
    at true = refl
    at false = refl

  looked : (clearing : ClearingStep) (answer : Answer) → cutovers.is_done (cutovers.finishing_after cutover clearing answer) ≡ true
  looked clearing answers.Lost = refl
  looked clearing (answers.TimedOut waited) = refl
  looked Looking (answers.Tables tables) = finishing (cutovers.left_at_end cutover tables)
  looked (Drops left) (answers.Ok count) = finishing (without_first left)
  looked Looking answer = refl
  looked (Drops left) answer = refl

  renamer : (phase : Phase) (answer : Answer) → cutovers.is_done phase ≡ true → cutovers.is_done (cutovers.renamer_phase phase answer) ≡ true
  renamer Resting answer done = absurd (false≢true done)
  renamer (Attempting stage) answer done = absurd (false≢true done)
  renamer (Ending clearing) answer done = absurd (false≢true done)
  renamer (Finishing clearing) (answers.Ok count) done = refl
  renamer (Finishing clearing) (answers.Waits by) done = refl
  renamer (Finishing clearing) answers.Lost done = refl
  renamer (Finishing clearing) (answers.TimedOut waited) done = refl
  renamer (Finishing clearing) answer done = refl
  renamer Finished (answers.Ok count) done = refl
  renamer Finished (answers.Waits by) done = refl
  renamer Finished answers.Lost done = refl
  renamer Finished (answers.TimedOut waited) done = refl
  renamer Finished answer done = refl

  inspector : (phase : Phase) → cutovers.is_done phase ≡ true → cutovers.is_done (cutovers.inspector_phase cutover phase answer) ≡ true
  inspector (Finishing clearing) done = looked clearing answer
  inspector Finished done = refl
  inspector Resting done = absurd (false≢true done)
  inspector (Attempting stage) done = absurd (false≢true done)
  inspector (Ending clearing) done = absurd (false≢true done)

  locker : (phase : Phase) → cutovers.is_done phase ≡ true → cutovers.is_done (cutovers.locker_phase phase answer) ≡ true
  locker (Finishing clearing) done = refl
  locker Finished done = refl
  locker Resting done = absurd (false≢true done)
  locker (Attempting stage) done = absurd (false≢true done)
  locker (Ending clearing) done = absurd (false≢true done)

  by : (role : Role) → cutovers.is_done (cutovers.took role cutover answer).phase ≡ true
  by Inspector = inspector cutover.phase done
  by Locker = locker cutover.phase done
  by Renamer = renamer cutover.phase answer done

module _ (plan : PlanData) (tool : Tool) (is : Rests tool) where
  work_done : (work : Work) → tool.tool_phase ≡ Migrating work → cutovers.is_done work.cutover.phase ≡ true
  work_done work eq = ap is_renamed (sym eq) ∙ is.done

  cut_rests : (role : Role) (answer : Answer) (work : Work) → tool.tool_phase ≡ Migrating work → Rests (cutover_took plan role answer work tool)
  cut_rests role answer work eq =
      subst (λ (b : Bool). Rests (attempt_after plan b work (cutovers.took role work.cutover answer) tool)) (sym (done_calm work.cutover.phase (cutovers.took role work.cutover answer).phase (work_done work eq)))
      (record { none = is.none; done = done_stays role work.cutover answer (work_done work eq) })

  copy_rests : (answer : Answer) (work : Work) → tool.tool_phase ≡ Migrating work → Rests (actor_took plan Copy answer (Migrating work) tool)
  copy_rests answer work eq = by (is_reverting tool.reason) where
    copier : Copier
    copier = copiers.took tool.turns work.copier answer

    at : (tries : List ℕ) → Rests (working (record work { copier = copier; chunk_tries = tries }) tool)
    at tries = record { none = is.none; done = work_done work eq }

    reported : (progress : Progress) → Rests (copy_after plan work progress copier tool)
    reported Going = at work.chunk_tries
    reported TaskDone = at []
    reported TaskFailed = spends_still plan (tasks.Chunk copier.number) (work.chunk_tries ++ tool.turns ∷ []) (working (record work { copier = copier; chunk_tries = work.chunk_tries ++ tool.turns ∷ [] }) tool) (at (work.chunk_tries ++ tool.turns ∷ []))
    reported (Unfit place number) = reverts_still (CopyUnfit tool.turns place number) tool is

    by : (a : Bool) → Rests (cond a tool (copy_after plan work (copiers.progress work.copier answer) copier tool))
    by true = is
    by false = reported (copiers.progress work.copier answer)

  apply_rests : (answer : Answer) (tool_phase : ToolPhase) → tool.tool_phase ≡ tool_phase → Rests (actor_took plan Apply answer tool_phase tool)
  apply_rests answer (SettingUp setup tries) eq = is
  apply_rests answer (Migrating work) eq = by (is_reverting tool.reason) where
    applier : Applier
    applier = appliers.took tool.turns work.applier answer

    at : (tries : List ℕ) → Rests (working (record work { applier = applier; batch_tries = tries }) tool)
    at tries = record { none = is.none; done = work_done work eq }

    reported : (progress : Progress) → Rests (apply_after plan work progress applier tool)
    reported Going = at work.batch_tries
    reported TaskDone = at []
    reported TaskFailed = spends_still plan (tasks.Batch applier.position) (work.batch_tries ++ tool.turns ∷ []) (working (record work { applier = applier; batch_tries = work.batch_tries ++ tool.turns ∷ [] }) tool) (at (work.batch_tries ++ tool.turns ∷ []))
    reported (Unfit place number) = reverts_still (ApplyUnfit tool.turns place number) tool is

    by : (a : Bool) → Rests (cond a tool (apply_after plan work (appliers.progress work.applier answer) applier tool))
    by true = is
    by false = reported (appliers.progress work.applier answer)

  drain_rests : (other : Tool) → Rests other → (tool_phase : ToolPhase) → other.tool_phase ≡ tool_phase → Rests (drains plan tool_phase other)
  drain_rests other rests (SettingUp setup tries) eq = rests
  drain_rests other rests (Migrating work) eq =
      let done : cutovers.is_done work.cutover.phase ≡ true = ap is_renamed (sym eq) ∙ rests.done in
      subst (λ (b : Bool). Rests (attempt_after plan b work (cutovers.applier_turn work.applier.hint work.cutover) other))
      (sym (done_calm work.cutover.phase (cutovers.applier_turn work.applier.hint work.cutover).phase done)) (record { none = rests.none; done = drained_stays work.applier.hint work.cutover done })

  actor_rests : (answer : Answer) (actor : Actor) (tool_phase : ToolPhase) → tool.tool_phase ≡ tool_phase → Rests (actor_took plan actor answer tool_phase tool)
  actor_rests answer Insp (SettingUp setup tries) eq = absurd (false≢true (ap is_renamed (sym eq) ∙ is.done))
  actor_rests answer Insp (Migrating work) eq = cut_rests Inspector answer work eq
  actor_rests answer Copy (Migrating work) eq = copy_rests answer work eq
  actor_rests answer Apply (Migrating work) eq = apply_rests answer (Migrating work) eq
  actor_rests answer Lock (Migrating work) eq = cut_rests Locker answer work eq
  actor_rests answer Ren (Migrating work) eq = cut_rests Renamer answer work eq
  actor_rests answer Op (Migrating work) eq = is
  actor_rests answer (Client c) (Migrating work) eq = is
  actor_rests answer Op (SettingUp setup tries) eq = is
  actor_rests answer (Client c) (SettingUp setup tries) eq = is
  actor_rests answer Copy (SettingUp setup tries) eq = is
  actor_rests answer Apply (SettingUp setup tries) eq = is
  actor_rests answer Lock (SettingUp setup tries) eq = is
  actor_rests answer Ren (SettingUp setup tries) eq = is

  counts_rest : (answer : Answer) (actor : Actor) → Rests (turn_counts plan actor (actor_took plan actor answer tool.tool_phase tool))
  counts_rest answer Apply = drain_rests (actor_took plan Apply answer tool.tool_phase tool) (apply_rests answer tool.tool_phase refl) (actor_took plan Apply answer tool.tool_phase tool).tool_phase refl
  counts_rest answer actor = actor_rests answer actor tool.tool_phase refl

  resized_done : (size : ℕ) (tool_phase : ToolPhase) → is_renamed tool_phase ≡ true → is_renamed (resizes (ChunkSize size) tool_phase) ≡ true
  resized_done size (SettingUp setup tries) done = done
  resized_done size (Migrating work) done = done

  asked_rests : (state : State) (entry : Entry) (asked : Asked) → Rests (asked_took plan state entry asked tool)
  asked_rests state entry (Command word) = by word where
    by : (word : OperatorWord) → Rests (command_took word tool)
    by Panic = reverts_still (Panicked tool.turns) (record tool { operator = commanded Panic tool.operator; tool_phase = tool.tool_phase }) (record { none = is.none; done = is.done })
    by Throttle = record { none = is.none; done = is.done }
    by NoThrottle = record { none = is.none; done = is.done }
    by (ChunkSize size) = record { none = is.none; done = resized_done size tool.tool_phase is.done }
    by Unpostpone = record { none = is.none; done = is.done }
    by Wait = record { none = is.none; done = is.done }
  asked_rests state entry Cut = by (has_work state entry.session) where
    by : (b : Bool) → Rests (cond b (actor_took plan entry.actor answers.Lost tool.tool_phase tool) tool)
    by true = actor_rests answers.Lost entry.actor tool.tool_phase refl
    by false = is
  asked_rests state entry (Call request) = counts_rest entry.answer entry.actor
  asked_rests state entry Poll = counts_rest entry.answer entry.actor

done_on : (tool_phase : ToolPhase) → is_renamed tool_phase ≡ true → gives_up tool_phase ≡ false
done_on (SettingUp setup tries) done = refl
done_on (Migrating work) done = by work.cutover.phase done where
  by : (phase : Phase) → cutovers.is_done phase ≡ true → is_ending phase ≡ false
  by (Finishing clearing) done = refl
  by Finished done = refl
  by Resting done = refl
  by (Attempting stage) done = refl
  by (Ending clearing) done = absurd (false≢true done)

-- *Once the RENAME is known* no turn gives a ground to revert
pub renamed_more : (plan : PlanData) (journal : List Entry) (entry : Entry) → is_renamed (moment plan journal).tool.tool_phase ≡ true → (moment plan journal).tool.reason ≡ None → Rests (moment plan (journal ++ entry ∷ [])).tool
unfolding took
renamed_more plan journal entry done none =
    subst (λ (m : Moment). Rests m.tool) (sym (moment_more plan journal entry))
    (asked_rests plan (record (moment plan journal).tool { turns = (moment plan journal).tool.turns + 1 }) (record { none = none; done = done }) (moment plan journal).server entry entry.asked)

-- WHOLE JOURNALS

pub record IsCalm (plan : PlanData) (journal : List Entry) : Type 0 where
  pub stands : IsStanding plan journal
  pub on : IsOn (moment plan journal).tool

pub calm_more : (plan : PlanData) (journal : List Entry) (entry : Entry) → IsRun plan journal entry → (is_renamed (moment plan journal).tool.tool_phase ≡ false → IsSmooth plan journal entry) → IsCalm plan journal → IsCalm plan (journal ++ entry ∷ [])
calm_more plan journal entry run smooth is = record { stands = standing_more plan journal entry is.stands run; on = by (is_renamed (moment plan journal).tool.tool_phase) refl } where
  by : (b : Bool) → is_renamed (moment plan journal).tool.tool_phase ≡ b → IsOn (moment plan (journal ++ entry ∷ [])).tool
  by true done = let rests = renamed_more plan journal entry done is.on.none in record { none = rests.none; on = done_on (moment plan (journal ++ entry ∷ [])).tool.tool_phase rests.done }
  by false going = smooth_more plan journal entry is.stands run (smooth going) going is.on

pub calm_begins : (plan : PlanData) → IsFitting plan → TableExists plan → IsCalm plan []
unfolding moment Follows
calm_begins plan fit stands = record { stands = all_standing plan [] fit stands tt tt; on = record { none = refl; on = refl } }

-- without a ground there is no revert
pub unreverted : VerdictsTellTheAlter → (plan : PlanData) (journal : List Entry) → IsFitting plan → TableExists plan → IsFaithful plan journal → Follows plan journal → (moment plan journal).tool.reason ≡ None → has_ended plan journal ≡ true → verdict_of plan journal ≡ verdicts.Done
unfolding verdict_of
unreverted tells plan journal fit stands faithful follows none ended = by (list_any is_alter (history plan journal)) refl where
  tell : TellsAlter plan journal
  tell = tells plan journal fit stands faithful follows ended

  never : (cause : Cause) → verdict_of plan journal ≡ verdicts.Reverted cause → list_any is_alter (history plan journal) ≡ false → ⊥
  never cause reverted off =
      no (sym (ap (λ (b : Bool). cond b (ended_so plan journal (moment plan journal).tool) verdicts.Unfinished) ended ∙ ap (λ (b : Bool). cond b verdicts.Done (reverted_by plan journal (moment plan journal).tool (moment plan journal).tool.reason)) off ∙ ap (reverted_by plan journal (moment plan journal).tool) none) ∙ reverted) where
        no : verdicts.Unfinished ≡ verdicts.Reverted cause → ⊥
        no same = cc

  by : (b : Bool) → list_any is_alter (history plan journal) ≡ b → verdict_of plan journal ≡ verdicts.Done
  by true marked = tell.done marked
  by false off = let reverted = tell.reverted off in absurd (never reverted.0 reverted.1 off)

-- *Smooth runs are done*
pub smooth_are_done : VerdictsTellTheAlter → SmoothRunsAreDone
unfolding Follows
smooth_are_done tells plan journal fit stands faithful follows smooth ended =
    unreverted tells plan journal fit stands faithful follows
    (Along-keeps (λ before entry. IsRun plan before entry × (is_renamed (moment plan before).tool.tool_phase ≡ false → IsSmooth plan before entry)) (IsCalm plan) (λ before entry one is. calm_more plan before entry one.0 one.1 is) [] journal
    (Along-both (IsRun plan) (λ before entry. is_renamed (moment plan before).tool.tool_phase ≡ false → IsSmooth plan before entry) [] journal (all_runs plan [] journal faithful follows) smooth) (calm_begins plan fit stands)).on.none ended
