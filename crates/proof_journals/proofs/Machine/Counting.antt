-- The tool's turns are the journal's, and its server is the plain server behind the journal.
use Rattle.std.proofs.Common.{◌≡◌, ℕ, ◌+◌, ◌==◌, Bool, true, false, cond, List, [], ◌∷◌, ◌++◌, length, refl, ap, ◌∙◌}
use Rattle.base_script.specs.declared.actor.Actor.{Actor}
use Rattle.base_script.specs.declared.actor.Actor.TheVariants.{Insp, Copy, Apply, Lock, Ren}
use Rattle.base_script.specs.declared.operator.OperatorWord.{OperatorWord}
use Rattle.base_script.specs.declared.operator.OperatorWord.TheVariants.{Panic}
use Rattle.server_model.specs.declared.answer.Answer.{Answer}
use Rattle.server_model.specs.declared.answer.Answer.TheVariants as answers
use Rattle.server_model.specs.declared.entry.Entry.{Entry}
use Rattle.server_model.specs.declared.entry.Asked.{Asked}
use Rattle.server_model.specs.declared.entry.Asked.TheVariants.{Call, Poll, Command, Cut}
use Rattle.server_model.specs.declared.outcome.Task.{Task}
use Rattle.server_model.specs.declared.outcome.Task.TheVariants as tasks
use Rattle.server_model.specs.declared.outcome.Progress.{Progress}
use Rattle.server_model.specs.declared.outcome.Progress.TheVariants.{Going, TaskDone, TaskFailed, Unfit}
use Rattle.server_model.specs.States.{State, has_work}
use Rattle.plan_data.specs.PlanData.{PlanData}
use Rattle.tool_program.specs.declared.chunk_copier.copier.Copier.{Copier}
use Rattle.tool_program.specs.ChunkCopier.Copiers as copiers
use Rattle.tool_program.specs.declared.event_applier.applier.Applier.{Applier}
use Rattle.tool_program.specs.EventApplier.Appliers as appliers
use Rattle.tool_program.specs.declared.cutover_core.cutover.CutOver.{CutOver}
use Rattle.tool_program.specs.declared.cutover_core.cutover.Role.TheVariants.{Inspector, Locker, Renamer}
use Rattle.tool_program.specs.CutoverCore.CutOvers as cutovers
use Rattle.tool_program.specs.CutoverCore.CutOvers.{is_bad}
use Rattle.tool_program.specs.Setups.{Setup, Listing, setup_after}
use Rattle.server_model.specs.Entries.{is_command}
use Rattle.tool_program.specs.Operators.{Operator, commanded}
use Rattle.tool_program.specs.Tools.{Work, ToolPhase, SettingUp, Migrating, Reason, CopyUnfit, ApplyUnfit, Spent, Panicked, Tool, Moment, first_reason, stopped, is_renamed, reverts, spends, is_reverting, working, copy_after, apply_after, attempt_after, is_failure, drains, tool_phase_of, setup_took, copy_took, apply_took, actor_took, turn_counts, resizes, command_took, asked_took, took, moment}
use Rattle.proof_journals.proofs.Sentry.Inductions.{moment_more}

-- ONE TURN MORE

-- THE TURNS AND THE OPERATOR

-- what only a turn and a command change of the tool
record Base : Type 0 where
  turns : ℕ
  operator : Operator

abbrev base : Tool → Base
base tool = record { turns = tool.turns; operator = tool.operator }

reverts_turns : (reason : Reason) (tool : Tool) → base (reverts reason tool) ≡ base tool
reverts_turns reason tool = by (is_renamed tool.tool_phase) where
  by : (b : Bool) → base (cond b tool (record tool { reason = first_reason tool.reason reason; tool_phase = stopped tool.tool_phase })) ≡ base tool
  by true = refl
  by false = refl

spends_turns : (plan : PlanData) (task : Task) (tries : List ℕ) (tool : Tool) → base (spends plan task tries tool) ≡ base tool
spends_turns plan task tries tool = by (length tries == plan.options.default_retries) where
  by : (b : Bool) → base (cond b (reverts (Spent task tries) tool) tool) ≡ base tool
  by true = reverts_turns (Spent task tries) tool
  by false = refl

attempt_turns : (plan : PlanData) (fails : Bool) (work : Work) (cutover : CutOver) (tool : Tool) → base (attempt_after plan fails work cutover tool) ≡ base tool
attempt_turns plan true work cutover tool = spends_turns plan tasks.CutOver (work.attempt_tries ++ tool.turns ∷ []) (working (record work { cutover = cutover; attempt_tries = work.attempt_tries ++ tool.turns ∷ [] }) tool)
attempt_turns plan false work cutover tool = refl

copy_turns : (plan : PlanData) (work : Work) (progress : Progress) (copier : Copier) (tool : Tool) → base (copy_after plan work progress copier tool) ≡ base tool
copy_turns plan work Going copier tool = refl
copy_turns plan work TaskDone copier tool = refl
copy_turns plan work TaskFailed copier tool = spends_turns plan (tasks.Chunk copier.number) (work.chunk_tries ++ tool.turns ∷ []) (working (record work { copier = copier; chunk_tries = work.chunk_tries ++ tool.turns ∷ [] }) tool)
copy_turns plan work (Unfit place number) copier tool = reverts_turns (CopyUnfit tool.turns place number) tool

apply_turns : (plan : PlanData) (work : Work) (progress : Progress) (applier : Applier) (tool : Tool) → base (apply_after plan work progress applier tool) ≡ base tool
apply_turns plan work Going applier tool = refl
apply_turns plan work TaskDone applier tool = refl
apply_turns plan work TaskFailed applier tool = spends_turns plan (tasks.Batch applier.position) (work.batch_tries ++ tool.turns ∷ []) (working (record work { applier = applier; batch_tries = work.batch_tries ++ tool.turns ∷ [] }) tool)
apply_turns plan work (Unfit place number) applier tool = reverts_turns (ApplyUnfit tool.turns place number) tool

setup_turns : (plan : PlanData) (setup : Setup) (tries : List ℕ) (answer : Answer) (tool : Tool) → base (setup_took plan setup tries answer tool) ≡ base tool
setup_turns plan setup tries answer tool = by (is_bad answer) where
  by : (b : Bool) → base (cond b (spends plan tasks.Setup (tries ++ tool.turns ∷ []) (record tool { tool_phase = SettingUp Listing (tries ++ tool.turns ∷ []) })) (record tool { tool_phase = tool_phase_of plan tool.operator.size (setup_after plan.table setup answer) tries })) ≡ base tool
  by true = spends_turns plan tasks.Setup (tries ++ tool.turns ∷ []) (record tool { tool_phase = SettingUp Listing (tries ++ tool.turns ∷ []) })
  by false = refl

unless_turns : (held : Bool) (tool after : Tool) → base after ≡ base tool → base (cond held tool after) ≡ base tool
unless_turns true tool after same = refl
unless_turns false tool after same = same

actor_turns : (plan : PlanData) (actor : Actor) (answer : Answer) (tool_phase : ToolPhase) (tool : Tool) → base (actor_took plan actor answer tool_phase tool) ≡ base tool
actor_turns plan Insp answer (SettingUp setup tries) tool = unless_turns (is_reverting tool.reason) tool (setup_took plan setup tries answer tool) (setup_turns plan setup tries answer tool)
actor_turns plan Insp answer (Migrating work) tool = attempt_turns plan (is_failure work.cutover.phase (cutovers.took Inspector work.cutover answer).phase) work (cutovers.took Inspector work.cutover answer) tool
actor_turns plan Copy answer (Migrating work) tool = unless_turns (is_reverting tool.reason) tool (copy_took plan answer work tool) (copy_turns plan work (copiers.progress work.copier answer) (copiers.took tool.turns work.copier answer) tool)
actor_turns plan Apply answer (Migrating work) tool = unless_turns (is_reverting tool.reason) tool (apply_took plan answer work tool) (apply_turns plan work (appliers.progress work.applier answer) (appliers.took tool.turns work.applier answer) tool)
actor_turns plan Lock answer (Migrating work) tool = attempt_turns plan (is_failure work.cutover.phase (cutovers.took Locker work.cutover answer).phase) work (cutovers.took Locker work.cutover answer) tool
actor_turns plan Ren answer (Migrating work) tool = attempt_turns plan (is_failure work.cutover.phase (cutovers.took Renamer work.cutover answer).phase) work (cutovers.took Renamer work.cutover answer) tool
actor_turns plan actor answer tool_phase tool = refl

drains_turns : (plan : PlanData) (tool_phase : ToolPhase) (tool : Tool) → base (drains plan tool_phase tool) ≡ base tool
drains_turns plan (SettingUp setup tries) tool = refl
drains_turns plan (Migrating work) tool = attempt_turns plan (is_failure work.cutover.phase (cutovers.applier_turn work.applier.hint work.cutover).phase) work (cutovers.applier_turn work.applier.hint work.cutover) tool

counts_turns : (plan : PlanData) (actor : Actor) (tool : Tool) → base (turn_counts plan actor tool) ≡ base tool
counts_turns plan Apply tool = drains_turns plan tool.tool_phase tool
counts_turns plan actor tool = refl

-- a command is counted
command_base : (word : OperatorWord) (tool : Tool) → base (command_took word tool) ≡ record { turns = tool.turns; operator = commanded word tool.operator }
command_base Panic tool = reverts_turns (Panicked tool.turns) (record tool { operator = commanded Panic tool.operator; tool_phase = resizes Panic tool.tool_phase })
command_base word tool = refl

-- nothing else is
asked_base : (plan : PlanData) (state : State) (entry : Entry) (asked : Asked) (tool : Tool) → is_command asked ≡ false → base (asked_took plan state entry asked tool) ≡ base tool
asked_base plan state entry (Command word) tool called = absurd cc
asked_base plan state entry Cut tool called = by (has_work state entry.session) where
  by : (b : Bool) → base (cond b (actor_took plan entry.actor answers.Lost tool.tool_phase tool) tool) ≡ base tool
  by true = actor_turns plan entry.actor answers.Lost tool.tool_phase tool
  by false = refl
asked_base plan state entry asked tool called = counts_turns plan entry.actor (actor_took plan entry.actor entry.answer tool.tool_phase tool) ∙ actor_turns plan entry.actor entry.answer tool.tool_phase tool

asked_turns : (plan : PlanData) (state : State) (entry : Entry) (asked : Asked) (tool : Tool) → (asked_took plan state entry asked tool).turns ≡ tool.turns
asked_turns plan state entry (Command word) tool = ap (λ (b : Base). b.turns) (command_base word tool)
asked_turns plan state entry Cut tool = ap (λ (b : Base). b.turns) (asked_base plan state entry Cut tool refl)
asked_turns plan state entry Poll tool = ap (λ (b : Base). b.turns) (asked_base plan state entry Poll tool refl)
asked_turns plan state entry (Call request) tool = ap (λ (b : Base). b.turns) (asked_base plan state entry (Call request) tool refl)

-- *One turn more is one turn of the tool's*
pub turns_more : (plan : PlanData) (journal : List Entry) (entry : Entry) → (moment plan (journal ++ entry ∷ [])).tool.turns ≡ (moment plan journal).tool.turns + 1
unfolding took
turns_more plan journal entry =
    ap (λ (now : Moment). now.tool.turns) (moment_more plan journal entry) ∙ asked_turns plan (moment plan journal).server entry entry.asked (record (moment plan journal).tool { turns = (moment plan journal).tool.turns + 1 })

-- the operator takes commands alone
pub operator_more : (plan : PlanData) (journal : List Entry) (entry : Entry) → is_command entry.asked ≡ false → (moment plan (journal ++ entry ∷ [])).tool.operator ≡ (moment plan journal).tool.operator
unfolding took
operator_more plan journal entry called =
    ap (λ (now : Moment). now.tool.operator) (moment_more plan journal entry)
    ∙ ap (λ (b : Base). b.operator) (asked_base plan (moment plan journal).server entry entry.asked (record (moment plan journal).tool { turns = (moment plan journal).tool.turns + 1 }) called)

pub operator_commanded : (plan : PlanData) (journal : List Entry) (entry : Entry) (word : OperatorWord) → entry.asked ≡ Command word → (moment plan (journal ++ entry ∷ [])).tool.operator ≡ commanded word (moment plan journal).tool.operator
unfolding took
operator_commanded plan journal entry word asks =
    ap (λ (now : Moment). now.tool.operator) (moment_more plan journal entry)
    ∙ ap (λ (asked : Asked). (asked_took plan (moment plan journal).server entry asked (record (moment plan journal).tool { turns = (moment plan journal).tool.turns + 1 })).operator) asks
    ∙ ap (λ (b : Base). b.operator) (command_base word (record (moment plan journal).tool { turns = (moment plan journal).tool.turns + 1 }))
