-- The ground of a revert is kept, and was taken in its last turn.
use Rattle.std.proofs.Common.{◌≡◌, ◌⊎◌, ℕ, ◌+◌, ◌==◌, Bool, true, false, cond, List, [], ◌∷◌, ◌++◌, length, Option, Some, None, refl, sym, subst, inl, inr}
use Rattle.std.proofs.lemmas.List.Sums.{fold-append}
use Rattle.base_script.specs.declared.actor.Actor.{Actor}
use Rattle.base_script.specs.declared.actor.Actor.TheVariants.{Insp, Copy, Apply, Lock, Ren}
use Rattle.base_script.specs.declared.operator.OperatorWord.{OperatorWord}
use Rattle.base_script.specs.declared.operator.OperatorWord.TheVariants.{Panic}
use Rattle.server_model.specs.declared.answer.Answer.{Answer}
use Rattle.server_model.specs.declared.answer.Answer.TheVariants as answers
use Rattle.server_model.specs.declared.entry.Asked.{Asked}
use Rattle.server_model.specs.declared.entry.Asked.TheVariants.{Command, Cut}
use Rattle.server_model.specs.declared.entry.Entry.{Entry}
use Rattle.server_model.specs.declared.outcome.Progress.{Progress}
use Rattle.server_model.specs.declared.outcome.Progress.TheVariants.{Going, TaskDone, TaskFailed, Unfit}
use Rattle.server_model.specs.declared.outcome.Task.{Task}
use Rattle.server_model.specs.declared.outcome.Task.TheVariants as tasks
use Rattle.server_model.specs.States.{State, has_work}
use Rattle.plan_data.specs.PlanData.{PlanData}
use Rattle.tool_program.specs.declared.chunk_copier.copier.Copier.{Copier}
use Rattle.tool_program.specs.ChunkCopier.Copiers as copiers
use Rattle.tool_program.specs.declared.event_applier.applier.Applier.{Applier}
use Rattle.tool_program.specs.EventApplier.Appliers as appliers
use Rattle.tool_program.specs.declared.cutover_core.cutover.CutOver.{CutOver}
use Rattle.tool_program.specs.declared.cutover_core.cutover.Role.TheVariants.{Inspector, Locker, Renamer}
use Rattle.tool_program.specs.CutoverCore.CutOvers as cutovers
use Rattle.tool_program.specs.Operators.{commanded}
use Rattle.tool_program.specs.Setups.{Setup, Listing, setup_after}
use Rattle.tool_program.specs.Tools.{Work, ToolPhase, SettingUp, Migrating, Reason, CopyUnfit, ApplyUnfit, Spent, Panicked, Tool, Moment, first_reason, stopped, is_renamed, reverts, spends, is_reverting, working, copy_after, apply_after, attempt_after, is_failure, drains, tool_phase_of, setup_took, actor_took, turn_counts, resizes, panics, asked_took, took, moment}
use Rattle.proof_journals.proofs.Sentry.Inductions.{moment_more}
use Rattle.proof_order.specs.LeastCauses.{last_of}

-- the turn in which a ground was taken
abbrev pub turn_of : Reason → ℕ
turn_of (CopyUnfit turn place number) = turn
turn_of (ApplyUnfit turn place number) = turn
turn_of (Spent task turns) = last_of turns
turn_of (Panicked turn) = turn

last_pushed : (turns : List ℕ) (turn : ℕ) → last_of (turns ++ turn ∷ []) ≡ turn
last_pushed turns turn = fold-append (λ last one. one) 0 turns (turn ∷ [])

-- a ground of this turn
abbrev pub IsNow : ℕ → Option Reason → Type 0
IsNow turn None = ⊥
IsNow turn (Some reason) = turn_of reason ≡ turn

-- it is the one before, or there was none and it is of this turn
abbrev pub Follows : ℕ → Option Reason → Option Reason → Type 0
Follows turn before after = (after ≡ before) ⊎ ((before ≡ None) × IsNow turn after)

module _ (before : Option Reason) (turn : ℕ) where
  abbrev Holds : Tool → Type 0
  Holds tool = Follows turn before tool.reason

  first_holds : (old : Option Reason) (reason : Reason) → turn_of reason ≡ turn → Follows turn before old → Follows turn before (first_reason old reason)
  first_holds None reason now (inl same) = inr (sym same, now)
  first_holds None reason now (inr none) = absurd none.1
  first_holds (Some first) reason now is = is

  reverts_holds : (reason : Reason) (tool : Tool) → turn_of reason ≡ turn → Holds tool → Holds (reverts reason tool)
  reverts_holds reason tool now is = by (is_renamed tool.tool_phase) where
    by : (b : Bool) → Holds (cond b tool (record tool { reason = first_reason tool.reason reason; tool_phase = stopped tool.tool_phase }))
    by true = is
    by false = first_holds tool.reason reason now is

  spends_holds : (plan : PlanData) (task : Task) (tries : List ℕ) (tool : Tool) → Holds tool → Holds (spends plan task (tries ++ turn ∷ []) tool)
  spends_holds plan task tries tool is = by (length (tries ++ turn ∷ []) == plan.options.default_retries) where
    by : (b : Bool) → Holds (cond b (reverts (Spent task (tries ++ turn ∷ [])) tool) tool)
    by true = reverts_holds (Spent task (tries ++ turn ∷ [])) tool (last_pushed tries turn) is
    by false = is

module _ (plan : PlanData) (before : Option Reason) (tool : Tool) (is : Follows tool.turns before tool.reason) where
  abbrev Now : Tool → Type 0
  Now after = Follows tool.turns before after.reason

  copy_holds : (work : Work) (progress : Progress) (copier : Copier) → Now (copy_after plan work progress copier tool)
  copy_holds work Going copier = is
  copy_holds work TaskDone copier = is
  copy_holds work TaskFailed copier = spends_holds before tool.turns plan (tasks.Chunk copier.number) work.chunk_tries (working (record work { copier = copier; chunk_tries = work.chunk_tries ++ tool.turns ∷ [] }) tool) is
  copy_holds work (Unfit place number) copier = reverts_holds before tool.turns (CopyUnfit tool.turns place number) tool refl is

  apply_holds : (work : Work) (progress : Progress) (applier : Applier) → Now (apply_after plan work progress applier tool)
  apply_holds work Going applier = is
  apply_holds work TaskDone applier = is
  apply_holds work TaskFailed applier = spends_holds before tool.turns plan (tasks.Batch applier.position) work.batch_tries (working (record work { applier = applier; batch_tries = work.batch_tries ++ tool.turns ∷ [] }) tool) is
  apply_holds work (Unfit place number) applier = reverts_holds before tool.turns (ApplyUnfit tool.turns place number) tool refl is

  attempt_holds : (fails : Bool) (work : Work) (cutover : CutOver) → Now (attempt_after plan fails work cutover tool)
  attempt_holds true work cutover = spends_holds before tool.turns plan tasks.CutOver work.attempt_tries (working (record work { cutover = cutover; attempt_tries = work.attempt_tries ++ tool.turns ∷ [] }) tool) is
  attempt_holds false work cutover = is

  setup_holds : (setup : Setup) (tries : List ℕ) (answer : Answer) → Now (setup_took plan setup tries answer tool)
  setup_holds setup tries answer = by (cutovers.is_bad answer) where
    by : (b : Bool)
        → Now (cond b (spends plan tasks.Setup (tries ++ tool.turns ∷ []) (record tool { tool_phase = SettingUp Listing (tries ++ tool.turns ∷ []) })) (record tool { tool_phase = tool_phase_of plan tool.operator.size (setup_after plan.table setup answer) tries }))
    by true = spends_holds before tool.turns plan tasks.Setup tries (record tool { tool_phase = SettingUp Listing (tries ++ tool.turns ∷ []) }) is
    by false = is

  unless : (held : Bool) (after : Tool) → Now after → Now (cond held tool after)
  unless true after now = is
  unless false after now = now

  actor_holds : (actor : Actor) (answer : Answer) (tool_phase : ToolPhase) → Now (actor_took plan actor answer tool_phase tool)
  actor_holds Insp answer (SettingUp setup tries) = unless (is_reverting tool.reason) (setup_took plan setup tries answer tool) (setup_holds setup tries answer)
  actor_holds Insp answer (Migrating work) = attempt_holds (is_failure work.cutover.phase (cutovers.took Inspector work.cutover answer).phase) work (cutovers.took Inspector work.cutover answer)
  actor_holds Copy answer (Migrating work) =
      unless (is_reverting tool.reason) (copy_after plan work (copiers.progress work.copier answer) (copiers.took tool.turns work.copier answer) tool) (copy_holds work (copiers.progress work.copier answer) (copiers.took tool.turns work.copier answer))
  actor_holds Apply answer (Migrating work) =
      unless (is_reverting tool.reason) (apply_after plan work (appliers.progress work.applier answer) (appliers.took tool.turns work.applier answer) tool) (apply_holds work (appliers.progress work.applier answer) (appliers.took tool.turns work.applier answer))
  actor_holds Lock answer (Migrating work) = attempt_holds (is_failure work.cutover.phase (cutovers.took Locker work.cutover answer).phase) work (cutovers.took Locker work.cutover answer)
  actor_holds Ren answer (Migrating work) = attempt_holds (is_failure work.cutover.phase (cutovers.took Renamer work.cutover answer).phase) work (cutovers.took Renamer work.cutover answer)
  actor_holds actor answer tool_phase = is

module _ (plan : PlanData) (before : Option Reason) where
  drains_holds : (tool_phase : ToolPhase) (tool : Tool) → Follows tool.turns before tool.reason → Follows tool.turns before (drains plan tool_phase tool).reason
  drains_holds (SettingUp setup tries) tool is = is
  drains_holds (Migrating work) tool is = attempt_holds plan before tool is (is_failure work.cutover.phase (cutovers.applier_turn work.applier.hint work.cutover).phase) work (cutovers.applier_turn work.applier.hint work.cutover)

  pub counts_holds : (actor : Actor) (tool : Tool) → Follows tool.turns before tool.reason → Follows tool.turns before (turn_counts plan actor tool).reason
  counts_holds Apply tool is = drains_holds tool.tool_phase tool is
  counts_holds actor tool is = is

  -- no answer changes the number of the turn
  turns_reverts : (reason : Reason) (tool : Tool) → (reverts reason tool).turns ≡ tool.turns
  turns_reverts reason tool = by (is_renamed tool.tool_phase) where
    by : (b : Bool) → (cond b tool (record tool { reason = first_reason tool.reason reason; tool_phase = stopped tool.tool_phase })).turns ≡ tool.turns
    by true = refl
    by false = refl

  turns_spends : (task : Task) (tries : List ℕ) (tool : Tool) → (spends plan task tries tool).turns ≡ tool.turns
  turns_spends task tries tool = by (length tries == plan.options.default_retries) where
    by : (b : Bool) → (cond b (reverts (Spent task tries) tool) tool).turns ≡ tool.turns
    by true = turns_reverts (Spent task tries) tool
    by false = refl

  turns_apply : (work : Work) (progress : Progress) (applier : Applier) (tool : Tool) → (apply_after plan work progress applier tool).turns ≡ tool.turns
  turns_apply work Going applier tool = refl
  turns_apply work TaskDone applier tool = refl
  turns_apply work TaskFailed applier tool = turns_spends (tasks.Batch applier.position) (work.batch_tries ++ tool.turns ∷ []) (working (record work { applier = applier; batch_tries = work.batch_tries ++ tool.turns ∷ [] }) tool)
  turns_apply work (Unfit place number) applier tool = turns_reverts (ApplyUnfit tool.turns place number) tool

  -- of the applier's answer
  turns_applier : (answer : Answer) (tool_phase : ToolPhase) (tool : Tool) → (actor_took plan Apply answer tool_phase tool).turns ≡ tool.turns
  turns_applier answer (SettingUp setup tries) tool = refl
  turns_applier answer (Migrating work) tool = by (is_reverting tool.reason) where
    by : (b : Bool) → (cond b tool (apply_after plan work (appliers.progress work.applier answer) (appliers.took tool.turns work.applier answer) tool)).turns ≡ tool.turns
    by true = refl
    by false = turns_apply work (appliers.progress work.applier answer) (appliers.took tool.turns work.applier answer) tool

  heard_holds : (actor : Actor) (answer : Answer) (tool : Tool) → Follows tool.turns before tool.reason → Follows tool.turns before (turn_counts plan actor (actor_took plan actor answer tool.tool_phase tool)).reason
  heard_holds Apply answer tool is =
      subst (λ (n : ℕ). Follows n before (turn_counts plan Apply (actor_took plan Apply answer tool.tool_phase tool)).reason) (turns_applier answer tool.tool_phase tool)
      (counts_holds Apply (actor_took plan Apply answer tool.tool_phase tool)
      (subst (λ (n : ℕ). Follows n before (actor_took plan Apply answer tool.tool_phase tool).reason) (sym (turns_applier answer tool.tool_phase tool)) (actor_holds plan before tool is Apply answer tool.tool_phase)))
  heard_holds Insp answer tool is = actor_holds plan before tool is Insp answer tool.tool_phase
  heard_holds Copy answer tool is = actor_holds plan before tool is Copy answer tool.tool_phase
  heard_holds Lock answer tool is = actor_holds plan before tool is Lock answer tool.tool_phase
  heard_holds Ren answer tool is = actor_holds plan before tool is Ren answer tool.tool_phase
  heard_holds actor answer tool is = actor_holds plan before tool is actor answer tool.tool_phase

  panics_holds : (word : OperatorWord) (tool : Tool) → Follows tool.turns before tool.reason → Follows tool.turns before (panics word tool).reason
  panics_holds Panic tool is = reverts_holds before tool.turns (Panicked tool.turns) tool refl is
  panics_holds word tool is = is

  asked_holds : (state : State) (entry : Entry) (asked : Asked) (tool : Tool) → Follows tool.turns before tool.reason → Follows tool.turns before (asked_took plan state entry asked tool).reason
  asked_holds state entry (Command word) tool is = panics_holds word (record tool { operator = commanded word tool.operator; tool_phase = resizes word tool.tool_phase }) is
  asked_holds state entry Cut tool is = by (has_work state entry.session) where
    by : (b : Bool) → Follows tool.turns before (cond b (actor_took plan entry.actor answers.Lost tool.tool_phase tool) tool).reason
    by true = actor_holds plan before tool is entry.actor answers.Lost tool.tool_phase
    by false = is
  asked_holds state entry asked tool is = heard_holds entry.actor entry.answer tool is

-- *One turn*: the ground stays, or it is of this turn
pub reason_more : (plan : PlanData) (journal : List Entry) (entry : Entry) → Follows ((moment plan journal).tool.turns + 1) (moment plan journal).tool.reason (moment plan (journal ++ entry ∷ [])).tool.reason
unfolding took
reason_more plan journal entry =
    subst (λ (m : Moment). Follows ((moment plan journal).tool.turns + 1) (moment plan journal).tool.reason m.tool.reason) (sym (moment_more plan journal entry))
    (asked_holds plan (moment plan journal).tool.reason (moment plan journal).server entry entry.asked (record (moment plan journal).tool { turns = (moment plan journal).tool.turns + 1 }) (inl refl))
