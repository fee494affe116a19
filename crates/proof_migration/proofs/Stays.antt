-- Where all is reverted the applier stays where it is; so it does in the turn that reverts all, where it is reading.
use Rattle.std.proofs.Common.{◌≡◌, ◌⊎◌, ◌+◌, ℕ, Bool, true, false, cond, List, [], ◌∷◌, ◌++◌, refl, sym, ◌∙◌, subst, inl, inr}
use Rattle.std.specs.Prelude.{◌==◌, length}
use Rattle.std.proofs.lemmas.Bool.{true≢false}
use Rattle.base_script.specs.declared.actor.Actor.{Actor}
use Rattle.base_script.specs.declared.actor.Actor.TheVariants.{Apply, Client, Copy, Insp, Lock, Op, Ren}
use Rattle.base_script.specs.declared.operator.OperatorWord.{OperatorWord}
use Rattle.base_script.specs.declared.operator.OperatorWord.TheVariants.{ChunkSize, NoThrottle, Panic, Throttle, Unpostpone, Wait}
use Rattle.server_model.specs.declared.answer.Answer.{Answer}
use Rattle.server_model.specs.declared.answer.Answer.TheVariants as answers
use Rattle.server_model.specs.declared.entry.Asked.{Asked}
use Rattle.server_model.specs.declared.entry.Asked.TheVariants.{Call, Command, Cut, Poll}
use Rattle.server_model.specs.declared.entry.Entry.{Entry}
use Rattle.server_model.specs.declared.outcome.Progress.{Progress}
use Rattle.server_model.specs.declared.outcome.Progress.TheVariants.{Going, TaskDone, TaskFailed}
use Rattle.server_model.specs.States.{State, has_work}
use Rattle.plan_data.specs.PlanData.{PlanData}
use Rattle.tool_program.specs.ChunkCopier.Copiers as copiers
use Rattle.tool_program.specs.declared.cutover_core.cutover.Phase.{Phase}
use Rattle.tool_program.specs.declared.cutover_core.cutover.Phase.TheVariants.{Attempting, Ending, Finished, Finishing, Resting}
use Rattle.tool_program.specs.declared.cutover_core.cutover.Role.{Role}
use Rattle.tool_program.specs.declared.cutover_core.cutover.Role.TheVariants.{Inspector, Locker, Renamer}
use Rattle.tool_program.specs.declared.cutover_core.cutover.Stage.TheVariants.{Drained, ReadingCounter, SettingCounter, Draining, Dropping, Exchanging, Guarding, Hinting, Locking, Showing, Unlocking}
use Rattle.tool_program.specs.declared.cutover_core.cutover.Drain.TheVariants.{Turns, Passed}
use Rattle.tool_program.specs.CutoverCore.CutOvers as cutovers
use Rattle.tool_program.specs.declared.event_applier.applier.Applier.{Applier}
use Rattle.tool_program.specs.declared.event_applier.applier.ApplyStep.{ApplyStep}
use Rattle.tool_program.specs.declared.event_applier.applier.ApplyStep.TheVariants.{Reading}
use Rattle.tool_program.specs.EventApplier.Appliers as appliers
use Rattle.tool_program.specs.Operators.{commanded}
use Rattle.tool_program.specs.Tools.{ToolPhase, Migrating, Moment, Panicked, SettingUp, Tool, Work, actor_took, apply_after, apply_took, asked_took, attempt_after, command_took, copy_took, cutover_took, drains, is_failure, is_reverting, moment, resizes, stopped, took, turn_counts}
use Rattle.proof_journals.proofs.Sentry.Inductions.{moment_more}
use Rattle.proof_journals.proofs.Machine.Lifting.{apply_keeps, attempt_keeps, copy_keeps, drains_keeps, reverts_keeps}

-- the applier is at this position
abbrev pub StandsAt : ℕ → ToolPhase → Type 0
StandsAt position (SettingUp setup tries) = ⊥
StandsAt position (Migrating work) = work.applier.position ≡ position

-- no attempt's events are being drained
abbrev pub IsUndrained : Phase → Type 0
IsUndrained (Attempting (Draining turns)) = ⊥
IsUndrained (Attempting (ReadingCounter (Turns turns))) = ⊥
IsUndrained (Attempting (SettingCounter number (Turns turns))) = ⊥
IsUndrained phase = Unit {0}

module _ (plan : PlanData) (position : ℕ) where
  abbrev At : Bool → ToolPhase → Type 0
  At b tool_phase = StandsAt position tool_phase

  back : (b : Bool) (tool_phase : ToolPhase) → At b tool_phase → At true (stopped tool_phase)
  back b (SettingUp setup tries) at = at
  back b (Migrating work) at = at

  role_at : (role : Role) (answer : Answer) (work : Work) (tool : Tool) → work.applier.position ≡ position → StandsAt position (cutover_took plan role answer work tool).tool_phase
  role_at role answer work tool at = attempt_keeps At back plan (is_failure work.cutover.phase (cutovers.took role work.cutover answer).phase) work (cutovers.took role work.cutover answer) tool (λ tries. at)

  copy_at : (answer : Answer) (work : Work) (tool : Tool) → tool.tool_phase ≡ Migrating work → work.applier.position ≡ position → StandsAt position (cond (is_reverting tool.reason) tool (copy_took plan answer work tool)).tool_phase
  copy_at answer work tool tool_phase at = by (is_reverting tool.reason) where
    here : StandsAt position tool.tool_phase
    here = subst (StandsAt position) (sym tool_phase) at

    by : (b : Bool) → StandsAt position (cond b tool (copy_took plan answer work tool)).tool_phase
    by true = here
    by false = copy_keeps At back plan work (copiers.progress work.copier answer) (copiers.took tool.turns work.copier answer) tool (λ place number unfit. here) (λ tries. at)

  counts_at : (actor : Actor) (tool : Tool) → StandsAt position tool.tool_phase → StandsAt position (turn_counts plan actor tool).tool_phase
  counts_at Apply tool at = drains_keeps At back plan tool.tool_phase tool refl (λ b work tries so. so) at
  counts_at (Client c) tool at = at
  counts_at Op tool at = at
  counts_at Insp tool at = at
  counts_at Copy tool at = at
  counts_at Lock tool at = at
  counts_at Ren tool at = at

  command_at : (word : OperatorWord) (tool : Tool) (work : Work) → tool.tool_phase ≡ Migrating work → work.applier.position ≡ position → StandsAt position (command_took word tool).tool_phase
  command_at Panic tool work tool_phase at = reverts_keeps At back (Panicked tool.turns) (record tool { operator = commanded Panic tool.operator; tool_phase = tool.tool_phase }) (subst (StandsAt position) (sym tool_phase) at)
  command_at (ChunkSize size) tool work tool_phase at = subst (λ (c : ToolPhase). StandsAt position (resizes (ChunkSize size) c)) (sym tool_phase) at
  command_at Throttle tool work tool_phase at = subst (StandsAt position) (sym tool_phase) at
  command_at NoThrottle tool work tool_phase at = subst (StandsAt position) (sym tool_phase) at
  command_at Unpostpone tool work tool_phase at = subst (StandsAt position) (sym tool_phase) at
  command_at Wait tool work tool_phase at = subst (StandsAt position) (sym tool_phase) at

-- THE APPLIER'S OWN ANSWER

-- the drain reverts nothing where nothing is drained
undrained : (plan : PlanData) (work : Work) (tool : Tool) → IsUndrained work.cutover.phase → is_reverting tool.reason ≡ false → is_reverting (drains plan (Migrating work) tool).reason ≡ false
unfolding cutovers.applier_turn
undrained plan work tool none off = by work.cutover.phase none where
  by : (phase : Phase) → IsUndrained phase → is_reverting (attempt_after plan (is_failure phase (cutovers.drained work.cutover work.applier.hint phase)) work (cutovers.applier_turn work.applier.hint work.cutover) tool).reason ≡ false
  by Resting none = off
  by (Attempting Guarding) none = off
  by (Attempting Locking) none = off
  by (Attempting Hinting) none = off
  by (Attempting (Draining turns)) none = absurd none
  by (Attempting (ReadingCounter (Turns turns))) none = absurd none
  by (Attempting (SettingCounter number (Turns turns))) none = absurd none
  by (Attempting Drained) none = off
  by (Attempting (ReadingCounter Passed)) none = off
  by (Attempting (SettingCounter number Passed)) none = off
  by (Attempting Showing) none = off
  by (Attempting Dropping) none = off
  by (Attempting Unlocking) none = off
  by (Attempting Exchanging) none = off
  by (Ending clearing) none = off
  by (Finishing clearing) none = off
  by Finished none = off

-- what the turn leaves: nothing is reverted, or the applier stays
abbrev Leaves : PlanData → Work → Tool → Progress → Applier → Type 0
Leaves plan work tool progress applier = (is_reverting (turn_counts plan Apply (apply_after plan work progress applier tool)).reason ≡ false) ⊎ StandsAt work.applier.position (apply_after plan work progress applier tool).tool_phase

module _ (plan : PlanData) (work : Work) (tool : Tool) (tool_phase : tool.tool_phase ≡ Migrating work) (none : IsUndrained work.cutover.phase) (off : is_reverting tool.reason ≡ false) where
  lost_at : (progress : Progress) (applier : Applier) → applier.position ≡ work.applier.position → Leaves plan work tool progress applier
  lost_at progress applier same =
      inr (apply_keeps (At plan work.applier.position) (back plan work.applier.position) plan work progress applier tool (λ place number unfit. subst (StandsAt work.applier.position) (sym tool_phase) refl) (λ tries. same))

  batch_at : (b : Bool) (applier : Applier) → Leaves plan work tool (cond b TaskDone Going) applier
  batch_at true applier = inl (undrained plan (record work { applier = applier; batch_tries = [] }) (record tool { tool_phase = Migrating (record work { applier = applier; batch_tries = [] }) }) none off)
  batch_at false applier = inl (undrained plan (record work { applier = applier }) (record tool { tool_phase = Migrating (record work { applier = applier }) }) none off)

  answered_at : (answer : Answer) → Leaves plan work tool (appliers.progress_at work.applier Reading answer) (appliers.after_answer tool.turns work.applier Reading answer)
  answered_at answers.Lost = lost_at TaskFailed work.applier refl
  answered_at (answers.TimedOut waited) = lost_at TaskFailed work.applier refl
  answered_at (answers.Events events following) = batch_at (length (appliers.planned work.applier events) == 0) (appliers.after_answer tool.turns work.applier Reading (answers.Events events following))
  answered_at answer = inr refl

  -- where it is reading: the turn that reverts all moves it no further
  reads_at : (answer : Answer) → work.applier.step ≡ Reading → Leaves plan work tool (appliers.progress work.applier answer) (appliers.took tool.turns work.applier answer)
  unfolding appliers.took appliers.progress
  reads_at answers.Lost reading = lost_at TaskFailed (record (work.applier) { step = Reading }) refl
  reads_at (answers.TimedOut waited) reading = lost_at TaskFailed (record (work.applier) { step = Reading }) refl
  reads_at answer reading = subst (λ (s : ApplyStep). Leaves plan work tool (appliers.progress_at work.applier s answer) (appliers.after_answer tool.turns work.applier s answer)) (sym reading) (answered_at answer)

-- ONE TURN

-- all was reverted, or the applier is reading while nothing is drained
abbrev pub MayStay : Bool → Work → Type 0
MayStay reverting work = (reverting ≡ true) ⊎ ((work.applier.step ≡ Reading) × IsUndrained work.cutover.phase)

module _ (plan : PlanData) (work : Work) (tool : Tool) (tool_phase : tool.tool_phase ≡ Migrating work) (may : MayStay (is_reverting tool.reason) work) where
  abbrev Stays : Tool → Type 0
  Stays after = StandsAt work.applier.position after.tool_phase

  here : Stays tool
  here = subst (StandsAt work.applier.position) (sym tool_phase) refl

  -- an answer, and the drain behind it
  apply_stays : (answer : Answer) → is_reverting (turn_counts plan Apply (cond (is_reverting tool.reason) tool (apply_took plan answer work tool))).reason ≡ true → Stays (cond (is_reverting tool.reason) tool (apply_took plan answer work tool))
  apply_stays answer on = by (is_reverting tool.reason) refl on may where
    by : (b : Bool) → is_reverting tool.reason ≡ b → is_reverting (turn_counts plan Apply (cond b tool (apply_took plan answer work tool))).reason ≡ true → MayStay b work → Stays (cond b tool (apply_took plan answer work tool))
    by true is on may = here
    by false is on (inl never) = absurd (true≢false (sym never))
    by false is on (inr reading) = left (reads_at plan work tool tool_phase reading.1 is answer reading.0) where
      left : Leaves plan work tool (appliers.progress work.applier answer) (appliers.took tool.turns work.applier answer) → Stays (apply_took plan answer work tool)
      left (inl off) = absurd (true≢false (sym on ∙ off))
      left (inr at) = at

  actor_stays : (actor : Actor) (answer : Answer) → is_reverting (turn_counts plan actor (actor_took plan actor answer (Migrating work) tool)).reason ≡ true → Stays (actor_took plan actor answer (Migrating work) tool)
  actor_stays Insp answer on = role_at plan work.applier.position Inspector answer work tool refl
  actor_stays Copy answer on = copy_at plan work.applier.position answer work tool tool_phase refl
  actor_stays Apply answer on = apply_stays answer on
  actor_stays Lock answer on = role_at plan work.applier.position Locker answer work tool refl
  actor_stays Ren answer on = role_at plan work.applier.position Renamer answer work tool refl
  actor_stays Op answer on = here
  actor_stays (Client c) answer on = here

  counted_stays : (actor : Actor) (answer : Answer) → is_reverting (turn_counts plan actor (actor_took plan actor answer tool.tool_phase tool)).reason ≡ true → Stays (turn_counts plan actor (actor_took plan actor answer tool.tool_phase tool))
  counted_stays actor answer on =
      subst (λ (c : ToolPhase). is_reverting (turn_counts plan actor (actor_took plan actor answer c tool)).reason ≡ true → Stays (turn_counts plan actor (actor_took plan actor answer c tool))) (sym tool_phase)
      (λ on. counts_at plan work.applier.position actor (actor_took plan actor answer (Migrating work) tool) (actor_stays actor answer on)) on

  -- a session that is lost between its calls, and had work
  lost_stays : (actor : Actor) → is_reverting (actor_took plan actor answers.Lost (Migrating work) tool).reason ≡ true → Stays (actor_took plan actor answers.Lost (Migrating work) tool)
  unfolding appliers.took
  lost_stays Insp on = role_at plan work.applier.position Inspector answers.Lost work tool refl
  lost_stays Copy on = copy_at plan work.applier.position answers.Lost work tool tool_phase refl
  lost_stays Apply on = by (is_reverting tool.reason) where
    by : (b : Bool) → Stays (cond b tool (apply_took plan answers.Lost work tool))
    by true = here
    by false =
        apply_keeps (At plan work.applier.position) (back plan work.applier.position) plan work (appliers.progress work.applier answers.Lost) (appliers.took tool.turns work.applier answers.Lost) tool (λ place number unfit. here) (λ tries. refl)
  lost_stays Lock on = role_at plan work.applier.position Locker answers.Lost work tool refl
  lost_stays Ren on = role_at plan work.applier.position Renamer answers.Lost work tool refl
  lost_stays Op on = here
  lost_stays (Client c) on = here

  asked_stays : (state : State) (entry : Entry) (asked : Asked) → is_reverting (asked_took plan state entry asked tool).reason ≡ true → Stays (asked_took plan state entry asked tool)
  asked_stays state entry (Command word) on = command_at plan work.applier.position word tool work tool_phase refl
  asked_stays state entry Cut on = by (has_work state entry.session) on where
    by : (b : Bool) → is_reverting (cond b (actor_took plan entry.actor answers.Lost tool.tool_phase tool) tool).reason ≡ true → Stays (cond b (actor_took plan entry.actor answers.Lost tool.tool_phase tool) tool)
    by true on =
        subst (λ (c : ToolPhase). is_reverting (actor_took plan entry.actor answers.Lost c tool).reason ≡ true → Stays (actor_took plan entry.actor answers.Lost c tool)) (sym tool_phase) (lost_stays entry.actor) on
    by false on = here
  asked_stays state entry (Call request) on = counted_stays entry.actor entry.answer on
  asked_stays state entry Poll on = counted_stays entry.actor entry.answer on

-- *The applier stays* where all is reverted behind the turn
pub applier_stays : (plan : PlanData) (journal : List Entry) (entry : Entry) (work : Work) → (moment plan journal).tool.tool_phase ≡ Migrating work → MayStay (is_reverting (moment plan journal).tool.reason) work → is_reverting (moment plan (journal ++ entry ∷ [])).tool.reason ≡ true
    → StandsAt work.applier.position (moment plan (journal ++ entry ∷ [])).tool.tool_phase
unfolding took
applier_stays plan journal entry work tool_phase may on =
    let tool : Tool = record (moment plan journal).tool { turns = (moment plan journal).tool.turns + 1 } in
    subst (λ (m : Moment). is_reverting m.tool.reason ≡ true → StandsAt work.applier.position m.tool.tool_phase) (sym (moment_more plan journal entry)) (asked_stays plan work tool tool_phase may (moment plan journal).server entry entry.asked) on
