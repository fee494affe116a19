-- Behind every journal: a row without an image was found in a turn of the copier's or of the applier's, before which nothing was
-- reverted; and the copier's step and the applier stay as they were then.
use Rattle.std.proofs.Common.{◌≡◌, ◌⊎◌, ℕ, ◌+◌, ◌==◌, Bool, true, false, cond, List, [], ◌∷◌, ◌++◌, length, Option, Some, None, refl, sym, ap, ◌∙◌, subst, inl, inr, append_assoc}
use Rattle.base_script.specs.declared.actor.Actor.{Actor}
use Rattle.base_script.specs.declared.actor.Actor.TheVariants.{Op, Insp, Copy, Apply, Lock, Ren, Client}
use Rattle.base_script.specs.declared.operator.OperatorWord.{OperatorWord}
use Rattle.base_script.specs.declared.operator.OperatorWord.TheVariants.{Throttle, NoThrottle, ChunkSize, Unpostpone, Panic, Wait}
use Rattle.server_model.specs.Along.{Along, Along-keeps}
use Rattle.server_model.specs.declared.answer.Answer.{Answer}
use Rattle.server_model.specs.declared.answer.Answer.TheVariants as answers
use Rattle.server_model.specs.declared.entry.Asked.{Asked}
use Rattle.server_model.specs.declared.entry.Asked.TheVariants.{Call, Poll, Command, Cut}
use Rattle.server_model.specs.declared.entry.Entry.{Entry}
use Rattle.server_model.specs.declared.outcome.Progress.{Progress}
use Rattle.server_model.specs.declared.outcome.Progress.TheVariants.{Going, TaskDone, TaskFailed, Unfit}
use Rattle.server_model.specs.declared.outcome.Task.{Task}
use Rattle.server_model.specs.declared.outcome.Task.TheVariants as tasks
use Rattle.server_model.specs.States.{has_work}
use Rattle.plan_data.specs.PlanData.{PlanData}
use Rattle.tool_program.specs.ChunkCopier.Copiers as copiers
use Rattle.tool_program.specs.declared.chunk_copier.copier.Copier.{Copier}
use Rattle.tool_program.specs.declared.chunk_copier.copier.CopyStep.{CopyStep}
use Rattle.tool_program.specs.declared.chunk_copier.copier.CopyStep.TheVariants.{Choosing, Spanning, Copying, Committing}
use Rattle.tool_program.specs.EventApplier.Appliers as appliers
use Rattle.tool_program.specs.declared.event_applier.applier.Applier.{Applier}
use Rattle.tool_program.specs.declared.event_applier.applier.ApplyStep.{ApplyStep}
use Rattle.tool_program.specs.declared.event_applier.applier.ApplyStep.TheVariants as applying
use Rattle.tool_program.specs.CutoverCore.CutOvers as cutovers
use Rattle.tool_program.specs.CutoverCore.CutOvers.{is_bad}
use Rattle.tool_program.specs.declared.cutover_core.cutover.CutOver.{CutOver}
use Rattle.tool_program.specs.declared.cutover_core.cutover.Role.{Role}
use Rattle.tool_program.specs.declared.cutover_core.cutover.Role.TheVariants.{Inspector, Locker, Renamer}
use Rattle.tool_program.specs.Operators.{commanded}
use Rattle.tool_program.specs.Setups.{Setup, Listing, setup_after}
use Rattle.tool_program.specs.Tools.{Work, ToolPhase, SettingUp, Migrating, Reason, CopyUnfit, ApplyUnfit, Spent, Panicked, Tool, Moment, first_reason, stopped, is_renamed, reverts, spends, is_reverting, working, copy_after, copy_took, apply_after, apply_took, attempt_after, is_failure, cutover_took, drains, tool_phase_of, setup_took, actor_took, turn_counts, resizes, panics, command_took, asked_took, took, moment}
use Rattle.proof_journals.proofs.Machine.Journals.{IsRun, IsTogether, together_more, together_begins}
use Rattle.proof_journals.proofs.Sentry.Inductions.{moment_more}

-- what stays of the tool's work once all is reverted
pub record Stood : Type 0 where
  pub step : CopyStep
  pub applier : Applier

abbrev pub stood_at : Work → Stood
stood_at work = record { step = work.copier.step; applier = work.applier }

abbrev pub stood_in : ToolPhase → Option Stood
stood_in (SettingUp setup tries) = None
stood_in (Migrating work) = Some (stood_at work)

-- what the answer means for the copier's task, or for the applier's
abbrev pub progress_of : Actor → Work → Answer → Progress
progress_of Copy work answer = copiers.progress work.copier answer
progress_of Apply work answer = appliers.progress work.applier answer
progress_of actor work answer = Going

-- the journal has this turn, behind these
pub record HasTurn (journal : List Entry) (turn : ℕ) (front : List Entry) (entry : Entry) : Type 0 where
  pub rest : List Entry
  pub whole : journal ≡ front ++ entry ∷ rest
  pub numbered : turn ≡ length front + 1

-- in this turn the copier, or the applier, was refused a value, and the work stays so
pub record IsUnfitTurn (plan : PlanData) (journal : List Entry) (stood : Option Stood) (who : Actor) (turn place number : ℕ) : Type 0 where
  pub front : List Entry
  pub entry : Entry
  pub has : HasTurn journal turn front entry
  pub actor : entry.actor ≡ who
  pub uncut : entry.asked ≡ Cut → ⊥
  pub work : Work
  pub tool_phase : (moment plan front).tool.tool_phase ≡ Migrating work
  pub going : (moment plan front).tool.reason ≡ None
  pub unfit : progress_of who work entry.answer ≡ Unfit place number
  pub stays : stood ≡ Some (stood_at work)

abbrev pub GroundStands : PlanData → List Entry → Option Stood → Option Reason → Type 0
GroundStands plan journal stood None = Unit {0}
GroundStands plan journal stood (Some (Spent task turns)) = Unit {0}
GroundStands plan journal stood (Some (Panicked turn)) = Unit {0}
GroundStands plan journal stood (Some (CopyUnfit turn place number)) = IsUnfitTurn plan journal stood Copy turn place number
GroundStands plan journal stood (Some (ApplyUnfit turn place number)) = IsUnfitTurn plan journal stood Apply turn place number

-- another ground
abbrev IsOther : Reason → Type 0
IsOther (Spent task turns) = Unit {0}
IsOther (Panicked turn) = Unit {0}
IsOther (CopyUnfit turn place number) = ⊥
IsOther (ApplyUnfit turn place number) = ⊥

stopped_stood : (tool_phase : ToolPhase) → stood_in (stopped tool_phase) ≡ stood_in tool_phase
stopped_stood (SettingUp setup tries) = refl
stopped_stood (Migrating work) = refl

resized_stood : (word : OperatorWord) (tool_phase : ToolPhase) → stood_in (resizes word tool_phase) ≡ stood_in tool_phase
resized_stood (ChunkSize size) (Migrating work) = refl
resized_stood (ChunkSize size) (SettingUp setup tries) = refl
resized_stood Throttle tool_phase = refl
resized_stood NoThrottle tool_phase = refl
resized_stood Unpostpone tool_phase = refl
resized_stood Panic tool_phase = refl
resized_stood Wait tool_phase = refl

-- a loss isn't a refusal
pub lost_copies : (step : CopyStep) (place number : ℕ) → copiers.progress_at step answers.Lost ≡ Unfit place number → ⊥
lost_copies Choosing place number is = cc
lost_copies (Spanning reported size) place number is = cc
lost_copies (Copying chunk copied) place number is = cc
lost_copies (Committing chunk) place number is = cc

lost_applies : (applier : Applier) (step : ApplyStep) (place number : ℕ) → appliers.progress_at applier step answers.Lost ≡ Unfit place number → ⊥
lost_applies applier applying.Reading place number is = cc
lost_applies applier (applying.Beginning batch) place number is = cc
lost_applies applier (applying.Applying batch done part) place number is = cc
lost_applies applier (applying.Committing batch) place number is = cc

lost_fits : (who : Actor) (work : Work) (place number : ℕ) → progress_of who work answers.Lost ≡ Unfit place number → ⊥
unfolding copiers.progress appliers.progress
lost_fits Copy work place number is = lost_copies work.copier.step place number is
lost_fits Apply work place number is = lost_applies work.applier work.applier.step place number is
lost_fits Op work place number is = cc
lost_fits Insp work place number is = cc
lost_fits Lock work place number is = cc
lost_fits Ren work place number is = cc
lost_fits (Client client) work place number is = cc

-- ONE TURN MORE

module _ (plan : PlanData) (journal : List Entry) (entry : Entry) (numbered : (moment plan journal).tool.turns ≡ length journal) (was : GroundStands plan journal (stood_in (moment plan journal).tool.tool_phase) (moment plan journal).tool.reason) where
  abbrev more : List Entry
  more = journal ++ entry ∷ []

  abbrev now : Moment
  now = moment plan journal

  abbrev tool : Tool
  tool = record now.tool { turns = now.tool.turns + 1 }

  abbrev New : Tool → Type 0
  New other = GroundStands plan more (stood_in other.tool_phase) other.reason

  turn_more : (turn : ℕ) (front : List Entry) (one : Entry) → HasTurn journal turn front one → HasTurn more turn front one
  turn_more turn front one has = record { rest = has.rest ++ entry ∷ []; whole = ap (λ (j : List Entry). j ++ entry ∷ []) has.whole ∙ append_assoc front (one ∷ has.rest) (entry ∷ []); numbered = has.numbered }

  unfit_more : (stood : Option Stood) (who : Actor) (turn place number : ℕ) → IsUnfitTurn plan journal stood who turn place number → IsUnfitTurn plan more stood who turn place number
  unfit_more stood who turn place number is = record {
    front = is.front;
    entry = is.entry;
    has = turn_more turn is.front is.entry is.has;
    actor = is.actor;
    uncut = is.uncut;
    work = is.work;
    tool_phase = is.tool_phase;
    going = is.going;
    unfit = is.unfit;
    stays = is.stays;
  }

  grown : (stood : Option Stood) (reason : Option Reason) → GroundStands plan journal stood reason → GroundStands plan more stood reason
  grown stood None is = tt
  grown stood (Some (Spent task turns)) is = tt
  grown stood (Some (Panicked turn)) is = tt
  grown stood (Some (CopyUnfit turn place number)) is = unfit_more stood Copy turn place number is
  grown stood (Some (ApplyUnfit turn place number)) is = unfit_more stood Apply turn place number is

  kept : New tool
  kept = grown (stood_in now.tool.tool_phase) now.tool.reason was

  here : HasTurn more tool.turns journal entry
  here = record { rest = []; whole = refl; numbered = ap (λ (n : ℕ). n + 1) numbered }

  none_new : (other : Tool) → other.reason ≡ None → New other
  none_new other none = subst (GroundStands plan more (stood_in other.tool_phase)) (sym none) tt

  at_work : (work : Work) → now.tool.tool_phase ≡ Migrating work → GroundStands plan more (Some (stood_at work)) now.tool.reason
  at_work work tool_phase = subst (λ (c : ToolPhase). GroundStands plan more (stood_in c) now.tool.reason) tool_phase kept

  -- the first ground stays
  first_stays : (reason : Reason) → ((stood : Option Stood) → GroundStands plan more stood (Some reason)) → (old : Option Reason) (stood : Option Stood) → GroundStands plan more stood old → GroundStands plan more stood (first_reason old reason)
  first_stays reason new None stood is = new stood
  first_stays reason new (Some one) stood is = is

  other_stands : (reason : Reason) → IsOther reason → (stood : Option Stood) → GroundStands plan more stood (Some reason)
  other_stands (Spent task turns) is stood = tt
  other_stands (Panicked turn) is stood = tt
  other_stands (CopyUnfit turn place number) is stood = absurd is
  other_stands (ApplyUnfit turn place number) is stood = absurd is

  reverts_new : (reason : Reason) → IsOther reason → (other : Tool) → New other → New (reverts reason other)
  reverts_new reason is other holds = by (is_renamed other.tool_phase) where
    by : (b : Bool) → New (cond b other (record other { reason = first_reason other.reason reason; tool_phase = stopped other.tool_phase }))
    by true = holds
    by false = subst (λ (s : Option Stood). GroundStands plan more s (first_reason other.reason reason)) (sym (stopped_stood other.tool_phase)) (first_stays reason (other_stands reason is) other.reason (stood_in other.tool_phase) holds)

  spends_new : (task : Task) (tries : List ℕ) (other : Tool) → New other → New (spends plan task tries other)
  spends_new task tries other holds = by (length tries == plan.options.default_retries) where
    by : (b : Bool) → New (cond b (reverts (Spent task tries) other) other)
    by true = reverts_new (Spent task tries) tt other holds
    by false = holds

  attempt_new : (b : Bool) (work : Work) (cutover : CutOver) (other : Tool) → GroundStands plan more (Some (stood_at work)) other.reason → New (attempt_after plan b work cutover other)
  attempt_new true work cutover other holds = spends_new tasks.CutOver (work.attempt_tries ++ other.turns ∷ []) (working (record work { cutover = cutover; attempt_tries = work.attempt_tries ++ other.turns ∷ [] }) other) holds
  attempt_new false work cutover other holds = holds

  role_new : (role : Role) (answer : Answer) (work : Work) → now.tool.tool_phase ≡ Migrating work → New (cutover_took plan role answer work tool)
  role_new role answer work tool_phase = attempt_new (is_failure work.cutover.phase (cutovers.took role work.cutover answer).phase) work (cutovers.took role work.cutover answer) tool (at_work work tool_phase)

  drains_new : (other : Tool) → New other → New (drains plan other.tool_phase other)
  drains_new other holds = by other.tool_phase refl where
    by : (tool_phase : ToolPhase) → other.tool_phase ≡ tool_phase → New (drains plan tool_phase other)
    by (SettingUp setup tries) same = holds
    by (Migrating work) same =
        let turned : CutOver = cutovers.applier_turn work.applier.hint work.cutover in attempt_new (is_failure work.cutover.phase turned.phase) work turned other (subst (λ (c : ToolPhase). GroundStands plan more (stood_in c) other.reason) same holds)

  -- in a revert nothing is taken
  unless_new : (other : Tool) → (now.tool.reason ≡ None → New other) → New (cond (is_reverting now.tool.reason) tool other)
  unless_new other new = by now.tool.reason refl where
    by : (reason : Option Reason) → now.tool.reason ≡ reason → New (cond (is_reverting reason) tool other)
    by None same = new same
    by (Some reason) same = kept

  setup_new : (setup : Setup) (tries : List ℕ) (answer : Answer) → now.tool.reason ≡ None → New (setup_took plan setup tries answer tool)
  setup_new setup tries answer none = by (is_bad answer) where
    again : Tool
    again = record tool { tool_phase = SettingUp Listing (tries ++ tool.turns ∷ []) }

    by : (b : Bool) → New (cond b (spends plan tasks.Setup (tries ++ tool.turns ∷ []) again) (record tool { tool_phase = tool_phase_of plan tool.operator.size (setup_after plan.table setup answer) tries }))
    by true = spends_new tasks.Setup (tries ++ tool.turns ∷ []) again (none_new again none)
    by false = none_new (record tool { tool_phase = tool_phase_of plan tool.operator.size (setup_after plan.table setup answer) tries }) none

  -- the answer is the turn's, or the session is lost between calls
  abbrev Heard : Answer → Type 0
  Heard answer = (answer ≡ answers.Lost) ⊎ ((answer ≡ entry.answer) × (entry.asked ≡ Cut → ⊥))

  -- a value is refused in this turn, the first ground of a revert
  unfit_new : (who : Actor) (answer : Answer) (work : Work) → now.tool.tool_phase ≡ Migrating work → entry.actor ≡ who → Heard answer → now.tool.reason ≡ None → (place number : ℕ) → progress_of who work answer ≡ Unfit place number → (stood : Option Stood) → stood ≡ Some (stood_at work)
      → IsUnfitTurn plan more stood who tool.turns place number
  unfit_new who answer work tool_phase same (inl lost) none place number unfit stood stays = absurd (lost_fits who work place number (ap (progress_of who work) (sym lost) ∙ unfit))
  unfit_new who answer work tool_phase same (inr (heard, uncut)) none place number unfit stood stays = record {
    front = journal;
    entry = entry;
    has = here;
    actor = same;
    uncut = uncut;
    work = work;
    tool_phase = tool_phase;
    going = none;
    unfit = ap (progress_of who work) (sym heard) ∙ unfit;
    stays = stays;
  }

  -- unless the RENAME was done
  unless_done : (reason : Reason) → now.tool.reason ≡ None → GroundStands plan more (stood_in (stopped now.tool.tool_phase)) (Some reason) → (b : Bool) → New (cond b tool (record tool { reason = first_reason now.tool.reason reason; tool_phase = stopped now.tool.tool_phase }))
  unless_done reason none new true = kept
  unless_done reason none new false = subst (λ (old : Option Reason). GroundStands plan more (stood_in (stopped now.tool.tool_phase)) (first_reason old reason)) (sym none) new

  stays_stood : (work : Work) → now.tool.tool_phase ≡ Migrating work → stood_in (stopped now.tool.tool_phase) ≡ Some (stood_at work)
  stays_stood work tool_phase = stopped_stood now.tool.tool_phase ∙ ap stood_in tool_phase

  copy_new : (answer : Answer) (work : Work) → now.tool.tool_phase ≡ Migrating work → entry.actor ≡ Copy → Heard answer → now.tool.reason ≡ None → New (copy_took plan answer work tool)
  copy_new answer work tool_phase who heard none = reported (copiers.progress work.copier answer) refl where
    copier : Copier
    copier = copiers.took tool.turns work.copier answer

    failed : Tool
    failed = working (record work { copier = copier; chunk_tries = work.chunk_tries ++ tool.turns ∷ [] }) tool

    reported : (progress : Progress) → copiers.progress work.copier answer ≡ progress → New (copy_after plan work progress copier tool)
    reported Going is = none_new (working (record work { copier = copier }) tool) none
    reported TaskDone is = none_new (working (record work { copier = copier; chunk_tries = [] }) tool) none
    reported TaskFailed is = spends_new (tasks.Chunk copier.number) (work.chunk_tries ++ tool.turns ∷ []) failed (none_new failed none)
    reported (Unfit place number) is =
        unless_done (CopyUnfit tool.turns place number) none (unfit_new Copy answer work tool_phase who heard none place number is (stood_in (stopped now.tool.tool_phase)) (stays_stood work tool_phase)) (is_renamed now.tool.tool_phase)

  apply_new : (answer : Answer) (work : Work) → now.tool.tool_phase ≡ Migrating work → entry.actor ≡ Apply → Heard answer → now.tool.reason ≡ None → New (apply_took plan answer work tool)
  apply_new answer work tool_phase who heard none = reported (appliers.progress work.applier answer) refl where
    applier : Applier
    applier = appliers.took tool.turns work.applier answer

    failed : Tool
    failed = working (record work { applier = applier; batch_tries = work.batch_tries ++ tool.turns ∷ [] }) tool

    reported : (progress : Progress) → appliers.progress work.applier answer ≡ progress → New (apply_after plan work progress applier tool)
    reported Going is = none_new (working (record work { applier = applier }) tool) none
    reported TaskDone is = none_new (working (record work { applier = applier; batch_tries = [] }) tool) none
    reported TaskFailed is = spends_new (tasks.Batch applier.position) (work.batch_tries ++ tool.turns ∷ []) failed (none_new failed none)
    reported (Unfit place number) is =
        unless_done (ApplyUnfit tool.turns place number) none (unfit_new Apply answer work tool_phase who heard none place number is (stood_in (stopped now.tool.tool_phase)) (stays_stood work tool_phase)) (is_renamed now.tool.tool_phase)

  actor_new : (answer : Answer) → Heard answer → (actor : Actor) → entry.actor ≡ actor → (tool_phase : ToolPhase) → now.tool.tool_phase ≡ tool_phase → New (actor_took plan actor answer tool_phase tool)
  actor_new answer heard Insp who (SettingUp setup tries) same = unless_new (setup_took plan setup tries answer tool) (setup_new setup tries answer)
  actor_new answer heard Insp who (Migrating work) same = role_new Inspector answer work same
  actor_new answer heard Copy who (Migrating work) same = unless_new (copy_took plan answer work tool) (copy_new answer work same who heard)
  actor_new answer heard Apply who (Migrating work) same = unless_new (apply_took plan answer work tool) (apply_new answer work same who heard)
  actor_new answer heard Lock who (Migrating work) same = role_new Locker answer work same
  actor_new answer heard Ren who (Migrating work) same = role_new Renamer answer work same
  actor_new answer heard Op who (Migrating work) same = kept
  actor_new answer heard (Client c) who (Migrating work) same = kept
  actor_new answer heard Op who (SettingUp setup tries) same = kept
  actor_new answer heard (Client c) who (SettingUp setup tries) same = kept
  actor_new answer heard Copy who (SettingUp setup tries) same = kept
  actor_new answer heard Apply who (SettingUp setup tries) same = kept
  actor_new answer heard Lock who (SettingUp setup tries) same = kept
  actor_new answer heard Ren who (SettingUp setup tries) same = kept

  counts_new : (actor : Actor) (other : Tool) → New other → New (turn_counts plan actor other)
  counts_new Apply other holds = drains_new other holds
  counts_new actor other holds = holds

  abbrev taken : OperatorWord → Tool
  taken word = record tool { operator = commanded word tool.operator; tool_phase = resizes word tool.tool_phase }

  command_new : (word : OperatorWord) → New (command_took word tool)
  command_new word = by word (resized word) where
    resized : (word : OperatorWord) → New (taken word)
    resized word = subst (λ (s : Option Stood). GroundStands plan more s now.tool.reason) (sym (resized_stood word now.tool.tool_phase)) kept

    by : (word : OperatorWord) → New (taken word) → New (panics word (taken word))
    by Panic holds = reverts_new (Panicked tool.turns) tt (taken Panic) holds
    by Throttle holds = holds
    by NoThrottle holds = holds
    by (ChunkSize size) holds = holds
    by Unpostpone holds = holds
    by Wait holds = holds

  heard_new : (entry.asked ≡ Cut → ⊥) → New (turn_counts plan entry.actor (actor_took plan entry.actor entry.answer tool.tool_phase tool))
  heard_new uncut = counts_new entry.actor (actor_took plan entry.actor entry.answer tool.tool_phase tool) (actor_new entry.answer (inr (refl, uncut)) entry.actor refl now.tool.tool_phase refl)

  asked_new : (asked : Asked) → entry.asked ≡ asked → New (asked_took plan now.server entry asked tool)
  asked_new (Command word) asks = command_new word
  asked_new Cut asks = by (has_work now.server entry.session) where
    by : (b : Bool) → New (cond b (actor_took plan entry.actor answers.Lost tool.tool_phase tool) tool)
    by true = actor_new answers.Lost (inl refl) entry.actor refl now.tool.tool_phase refl
    by false = kept
  asked_new (Call request) asks = heard_new (λ cut. no (sym asks ∙ cut)) where
    no : Call request ≡ Cut → ⊥
    no same = cc
  asked_new Poll asks = heard_new (λ cut. no (sym asks ∙ cut)) where
    no : Poll ≡ Cut → ⊥
    no same = cc

  ground_more : New (moment plan more).tool
  unfolding took
  ground_more = subst New (sym (ap (λ (m : Moment). m.tool) (moment_more plan journal entry))) (asked_new entry.asked refl)

-- BEHIND EVERY JOURNAL

pub record IsGrounded (plan : PlanData) (journal : List Entry) : Type 0 where
  pub together : IsTogether plan journal
  pub ground : GroundStands plan journal (stood_in (moment plan journal).tool.tool_phase) (moment plan journal).tool.reason

grounded_more : (plan : PlanData) (journal : List Entry) (entry : Entry) → IsRun plan journal entry → IsGrounded plan journal → IsGrounded plan (journal ++ entry ∷ [])
grounded_more plan journal entry run is = record { together = together_more plan journal entry is.together run; ground = ground_more plan journal entry is.together.turns is.ground }

grounded_begins : (plan : PlanData) → IsGrounded plan []
unfolding moment
grounded_begins plan = record { together = together_begins plan; ground = tt }

pub all_grounded : (plan : PlanData) (journal : List Entry) → Along (IsRun plan) [] journal → IsGrounded plan journal
all_grounded plan journal runs = Along-keeps (IsRun plan) (IsGrounded plan) (λ before entry run is. grounded_more plan before entry run is) [] journal runs (grounded_begins plan)
