-- *The tool*: how far it is, as a fold over the journal's entries. Each actor's machine takes what the actor was answered,
-- and nothing else; the tasks' failures are counted, and the first reason for a revert is kept.
use Rattle.std.specs.Prelude.{ℕ, ◌+◌, ◌==◌, Bool, true, false, ◌&&◌, if◌then◌else◌, List, [], ◌∷◌, ◌++◌, fold, length, Option, Some, None}
use Rattle.base_values.specs.declared.span.Bound.TheVariants.{Closed}
use Rattle.base_script.specs.declared.actor.Actor.{Actor}
use Rattle.base_script.specs.declared.actor.Actor.TheVariants.{Insp, Copy, Apply, Lock, Ren}
use Rattle.base_script.specs.declared.operator.OperatorWord.{OperatorWord}
use Rattle.base_script.specs.declared.operator.OperatorWord.TheVariants.{ChunkSize, Panic}
use Rattle.server_model.specs.declared.answer.KeyRange.{KeyRange}
use Rattle.server_model.specs.declared.answer.Answer.{Answer}
use Rattle.server_model.specs.declared.answer.Answer.TheVariants as answers
use Rattle.server_model.specs.declared.entry.Entry.{Entry}
use Rattle.server_model.specs.declared.entry.Asked.{Asked}
use Rattle.server_model.specs.declared.entry.Asked.TheVariants.{Command, Cut}
use Rattle.server_model.specs.declared.outcome.Task.{Task}
use Rattle.server_model.specs.declared.outcome.Progress.{Progress}
use Rattle.server_model.specs.declared.outcome.Progress.TheVariants.{Going, TaskDone, TaskFailed, Unfit}
use Rattle.server_model.specs.declared.outcome.Task.TheVariants as tasks
use Rattle.server_model.specs.States.{State, has_work}
use Rattle.plan_data.specs.PlanData.{PlanData, has_counter, new_schema, new_map}
use Rattle.base_values.specs.ToolNames.{ghost_name}
use Rattle.tool_program.specs.JournalWords.Journals.{opening, after_entry}
use Rattle.tool_program.specs.declared.chunk_copier.copier.Copier.{Copier}
use Rattle.tool_program.specs.declared.chunk_copier.copier.CopyRange.{CopyRange}
use Rattle.tool_program.specs.ChunkCopier.Copiers.{new_copier, resized}
use Rattle.tool_program.specs.ChunkCopier.Copiers as copiers
use Rattle.tool_program.specs.declared.event_applier.applier.Applier.{Applier}
use Rattle.tool_program.specs.EventApplier.Appliers.{new_applier}
use Rattle.tool_program.specs.EventApplier.Appliers as appliers
use Rattle.tool_program.specs.declared.cutover_core.cutover.CutOver.{CutOver}
use Rattle.tool_program.specs.declared.cutover_core.cutover.Phase.{Phase}
use Rattle.tool_program.specs.declared.cutover_core.cutover.Role.{Role}
use Rattle.tool_program.specs.declared.cutover_core.cutover.Phase.TheVariants.{Resting}
use Rattle.tool_program.specs.declared.cutover_core.cutover.Role.TheVariants.{Inspector, Locker, Renamer}
use Rattle.tool_program.specs.CutoverCore.Attempts.{new_cutover}
use Rattle.tool_program.specs.CutoverCore.CutOvers.{is_bad, may_succeed, is_done}
use Rattle.tool_program.specs.CutoverCore.CutOvers as cutovers
use Rattle.tool_program.specs.Setups.{Setup, Listing, Ready, setup_after}
use Rattle.tool_program.specs.Operators.{Operator, new_operator, commanded}

-- HOW FAR THE TOOL IS

-- the three machines, and the turns at which the chunk, the batch and the attempts failed so far
pub record Work : Type 0 where
  pub copier : Copier
  pub chunk_tries : List ℕ
  pub applier : Applier
  pub batch_tries : List ℕ
  pub cutover : CutOver
  pub attempt_tries : List ℕ

-- the setup with the turns at which it failed, or the work after it
pub data ToolPhase : Type 0 where
  SettingUp : Setup → List ℕ → ToolPhase
  Migrating : Work → ToolPhase

-- why all is reverted
pub data Reason : Type 0 where
  -- in this turn a row that the copier, or the applier, had didn't fit the new column at this place, with this number
  CopyUnfit : ℕ → ℕ → ℕ → Reason
  ApplyUnfit : ℕ → ℕ → ℕ → Reason
  -- a task failed in each of these turns
  Spent : Task → List ℕ → Reason
  -- the operator's command in this turn
  Panicked : ℕ → Reason

pub record Tool : Type 0 where
  pub turns : ℕ
  pub operator : Operator
  pub tool_phase : ToolPhase
  -- the first ground of a revert
  pub reason : Option Reason

abbrev pub new_tool : PlanData → Tool
new_tool plan = record { turns = 0; operator = new_operator plan.options; tool_phase = SettingUp Listing []; reason = None }

-- REVERTING

-- the first ground stays
abbrev pub first_reason : Option Reason → Reason → Option Reason
first_reason None reason = Some reason
first_reason (Some first) reason = Some first

abbrev pub stopped : ToolPhase → ToolPhase
stopped (SettingUp setup tries) = SettingUp setup tries
stopped (Migrating work) = Migrating (record work { cutover = cutovers.reverted work.cutover })

-- the RENAME was done, as the tool knows
abbrev pub is_renamed : ToolPhase → Bool
is_renamed (SettingUp setup tries) = false
is_renamed (Migrating work) = is_done work.cutover.phase

-- all is reverted from here on, unless the RENAME was done
abbrev pub reverts : Reason → Tool → Tool
reverts reason tool = if is_renamed tool.tool_phase then tool else record tool { reason = first_reason tool.reason reason; tool_phase = stopped tool.tool_phase }

-- a task failed in these turns: with the last try all is reverted
abbrev pub spends : PlanData → Task → List ℕ → Tool → Tool
spends plan task tries tool = if length tries == plan.options.default_retries then reverts (Spent task tries) tool else tool

abbrev pub is_reverting : Option Reason → Bool
is_reverting None = false
is_reverting (Some reason) = true

-- WHAT AN ANSWER CHANGES

abbrev pub working : Work → Tool → Tool
working work tool = record tool { tool_phase = Migrating work }

-- the copier's answer
abbrev pub copy_after : PlanData → Work → Progress → Copier → Tool → Tool
copy_after plan work Going copier tool = working (record work { copier = copier }) tool
copy_after plan work TaskDone copier tool = working (record work { copier = copier; chunk_tries = [] }) tool
copy_after plan work TaskFailed copier tool =
    spends plan (tasks.Chunk copier.number) (work.chunk_tries ++ tool.turns ∷ []) (working (record work { copier = copier; chunk_tries = work.chunk_tries ++ tool.turns ∷ [] }) tool)
copy_after plan work (Unfit place number) copier tool = reverts (CopyUnfit tool.turns place number) tool

abbrev pub copy_took : PlanData → Answer → Work → Tool → Tool
copy_took plan answer work tool = copy_after plan work (copiers.progress work.copier answer) (copiers.took tool.turns work.copier answer) tool

-- the applier's answer
abbrev pub apply_after : PlanData → Work → Progress → Applier → Tool → Tool
apply_after plan work Going applier tool = working (record work { applier = applier }) tool
apply_after plan work TaskDone applier tool = working (record work { applier = applier; batch_tries = [] }) tool
apply_after plan work TaskFailed applier tool =
    spends plan (tasks.Batch applier.position) (work.batch_tries ++ tool.turns ∷ []) (working (record work { applier = applier; batch_tries = work.batch_tries ++ tool.turns ∷ [] }) tool)
apply_after plan work (Unfit place number) applier tool = reverts (ApplyUnfit tool.turns place number) tool

abbrev pub apply_took : PlanData → Answer → Work → Tool → Tool
apply_took plan answer work tool = apply_after plan work (appliers.progress work.applier answer) (appliers.took tool.turns work.applier answer) tool

-- the cut-over became this one: where its attempt failed by that, the turn counts
abbrev pub attempt_after : PlanData → Bool → Work → CutOver → Tool → Tool
attempt_after plan true work cutover tool =
    spends plan tasks.CutOver (work.attempt_tries ++ tool.turns ∷ []) (working (record work { cutover = cutover; attempt_tries = work.attempt_tries ++ tool.turns ∷ [] }) tool)
attempt_after plan false work cutover tool = working (record work { cutover = cutover }) tool

-- an attempt that might have succeeded ends now
abbrev pub is_failure : Phase → Phase → Bool
is_failure Resting after = cutovers.is_ending after
is_failure before after = may_succeed before && cutovers.is_ending after

abbrev pub cutover_after : PlanData → CutOver → Work → Tool → Tool
cutover_after plan cutover work tool = attempt_after plan (is_failure work.cutover.phase cutover.phase) work cutover tool

abbrev pub cutover_took : PlanData → Role → Answer → Work → Tool → Tool
cutover_took plan role answer work tool = cutover_after plan (cutovers.took role work.cutover answer) work tool

-- after each turn of the applier but a loss between calls
abbrev pub drains : PlanData → ToolPhase → Tool → Tool
drains plan (SettingUp setup tries) tool = tool
drains plan (Migrating work) tool = cutover_after plan (cutovers.applier_turn work.applier.hint work.cutover) work tool

-- the range of a setup, as the copier has it
abbrev pub copy_range : Option KeyRange → Option CopyRange
copy_range None = None
copy_range (Some range) = Some (record { low = Closed range.least; top = range.greatest })

abbrev pub new_work : PlanData → ℕ → ℕ → Option KeyRange → Work
new_work plan size position range =
    record {
      copier = new_copier plan.table (new_map plan) (copy_range range) size;
      chunk_tries = [];
      applier = new_applier plan.table (record (new_schema plan) { name = ghost_name plan.table }) (new_map plan) position plan.options.dml_batch_size;
      batch_tries = [];
      cutover = new_cutover plan.table plan.options.drain_limit plan.options.ok_to_drop_table (has_counter plan);
      attempt_tries = [];
    }

abbrev pub tool_phase_of : PlanData → ℕ → Setup → List ℕ → ToolPhase
tool_phase_of plan size (Ready position range) tries = Migrating (new_work plan size position range)
tool_phase_of plan size setup tries = SettingUp setup tries

abbrev pub setup_took : PlanData → Setup → List ℕ → Answer → Tool → Tool
setup_took plan setup tries answer tool =
    if is_bad answer
    then spends plan tasks.Setup (tries ++ tool.turns ∷ []) (record tool { tool_phase = SettingUp Listing (tries ++ tool.turns ∷ []) })
    else record tool { tool_phase = tool_phase_of plan tool.operator.size (setup_after plan.table setup answer) tries }

-- a session of the tool was answered; the copier and the applier take nothing more in a revert
abbrev pub actor_took : PlanData → Actor → Answer → ToolPhase → Tool → Tool
actor_took plan Insp answer (SettingUp setup tries) tool = if is_reverting tool.reason then tool else setup_took plan setup tries answer tool
actor_took plan Insp answer (Migrating work) tool = cutover_took plan Inspector answer work tool
actor_took plan Copy answer (Migrating work) tool = if is_reverting tool.reason then tool else copy_took plan answer work tool
actor_took plan Apply answer (Migrating work) tool = if is_reverting tool.reason then tool else apply_took plan answer work tool
actor_took plan Lock answer (Migrating work) tool = cutover_took plan Locker answer work tool
actor_took plan Ren answer (Migrating work) tool = cutover_took plan Renamer answer work tool
actor_took plan actor answer tool_phase tool = tool

-- the applier's turn counts for the drain
abbrev pub turn_counts : PlanData → Actor → Tool → Tool
turn_counts plan Apply tool = drains plan tool.tool_phase tool
turn_counts plan actor tool = tool

abbrev pub resizes : OperatorWord → ToolPhase → ToolPhase
resizes (ChunkSize size) (Migrating work) = Migrating (record work { copier = resized size work.copier })
resizes word tool_phase = tool_phase

abbrev pub panics : OperatorWord → Tool → Tool
panics Panic tool = reverts (Panicked tool.turns) tool
panics word tool = tool

-- the operator's command
abbrev pub command_took : OperatorWord → Tool → Tool
command_took word tool = panics word (record tool { operator = commanded word tool.operator; tool_phase = resizes word tool.tool_phase })

-- what the turn changes, by what was asked: a loss between calls is a failed try where the session had work
abbrev pub asked_took : PlanData → State → Entry → Asked → Tool → Tool
asked_took plan state entry (Command word) tool = command_took word tool
asked_took plan state entry Cut tool = if has_work state entry.session then actor_took plan entry.actor answers.Lost tool.tool_phase tool else tool
asked_took plan state entry asked tool = turn_counts plan entry.actor (actor_took plan entry.actor entry.answer tool.tool_phase tool)

-- *Took*: how far the tool is after one turn more; the server was in this state before it
unfoldable pub took : PlanData → State → Tool → Entry → Tool
took plan state tool entry = asked_took plan state entry entry.asked (record tool { turns = tool.turns + 1 })

-- the plain server and the tool at one moment
pub record Moment : Type 0 where
  pub server : State
  pub tool : Tool

abbrev pub after_turn : PlanData → Moment → Entry → Moment
after_turn plan now entry = record { server = after_entry now.server entry; tool = took plan now.server now.tool entry }

-- *Moment*: the server and the tool after the turns of a journal
unfoldable pub moment : PlanData → List Entry → Moment
moment plan journal = fold (after_turn plan) (record { server = opening plan; tool = new_tool plan }) journal
