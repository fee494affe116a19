-- What each machine keeps of a course, every turn of the tool keeps.
use Rattle.std.proofs.Common.{ℕ, ◌+◌, ◌==◌, Bool, true, false, List, [], ◌∷◌, ◌++◌, length, Option}
use Rattle.std.specs.Prelude.{if◌then◌else◌, fold}
use Rattle.base_script.specs.declared.actor.Actor.{Actor}
use Rattle.base_script.specs.declared.actor.Actor.TheVariants.{Insp, Copy, Apply, Lock, Ren}
use Rattle.base_script.specs.declared.operator.OperatorWord.{OperatorWord}
use Rattle.base_script.specs.declared.operator.OperatorWord.TheVariants.{ChunkSize, Panic}
use Rattle.server_model.specs.declared.answer.Answer.{Answer}
use Rattle.server_model.specs.declared.answer.Answer.TheVariants as answers
use Rattle.server_model.specs.declared.answer.KeyRange.{KeyRange}
use Rattle.server_model.specs.declared.entry.Entry.{Entry}
use Rattle.server_model.specs.declared.entry.Asked.{Asked}
use Rattle.server_model.specs.declared.entry.Asked.TheVariants.{Command, Cut}
use Rattle.server_model.specs.declared.outcome.Task.{Task}
use Rattle.server_model.specs.declared.outcome.Task.TheVariants as tasks
use Rattle.server_model.specs.declared.outcome.Progress.{Progress}
use Rattle.server_model.specs.declared.outcome.Progress.TheVariants.{Going, TaskDone, TaskFailed, Unfit}
use Rattle.server_model.specs.States.{State, has_work}
use Rattle.plan_data.specs.PlanData.{PlanData}
use Rattle.tool_program.specs.JournalWords.Journals.{opening}
use Rattle.tool_program.specs.declared.chunk_copier.copier.Copier.{Copier}
use Rattle.tool_program.specs.ChunkCopier.Copiers as copiers
use Rattle.tool_program.specs.declared.event_applier.applier.Applier.{Applier}
use Rattle.tool_program.specs.EventApplier.Appliers as appliers
use Rattle.tool_program.specs.declared.cutover_core.cutover.CutOver.{CutOver}
use Rattle.tool_program.specs.declared.cutover_core.cutover.Role.{Role}
use Rattle.tool_program.specs.declared.cutover_core.cutover.Role.TheVariants.{Inspector, Locker, Renamer}
use Rattle.tool_program.specs.CutoverCore.CutOvers as cutovers
use Rattle.tool_program.specs.Setups.{Setup, Listing, Ready, setup_after}
use Rattle.tool_program.specs.Operators.{commanded}
use Rattle.tool_program.specs.Tools.{Work, ToolPhase, SettingUp, Migrating, Reason, CopyUnfit, ApplyUnfit, Spent, Panicked, Tool, Moment, new_tool, new_work, first_reason, stopped, is_renamed, reverts, spends, is_reverting, working, copy_after, apply_after, attempt_after, is_failure, cutover_after, drains, tool_phase_of, setup_took, actor_took, turn_counts, resizes, panics, asked_took, took, after_turn, moment}

-- what is kept of a course whatever its machines take
pub record Keeps (plan : PlanData) (P : ToolPhase → Type 0) : Type 0 where
  pub stops : (tool_phase : ToolPhase) → P tool_phase → P (stopped tool_phase)
  pub sets : (setup : Setup) (tries : List ℕ) → P (SettingUp setup tries)
  pub begins : (size position : ℕ) (range : Option KeyRange) → P (Migrating (new_work plan size position range))
  pub copies : (turn : ℕ) (answer : Answer) (work : Work) (tries : List ℕ) → P (Migrating work) → P (Migrating (record work { copier = copiers.took turn work.copier answer; chunk_tries = tries }))
  pub applies : (turn : ℕ) (answer : Answer) (work : Work) (tries : List ℕ) → P (Migrating work) → P (Migrating (record work { applier = appliers.took turn work.applier answer; batch_tries = tries }))
  pub cuts : (role : Role) (answer : Answer) (work : Work) (tries : List ℕ) → P (Migrating work) → P (Migrating (record work { cutover = cutovers.took role work.cutover answer; attempt_tries = tries }))
  pub drained : (work : Work) (tries : List ℕ) → P (Migrating work) → P (Migrating (record work { cutover = cutovers.applier_turn work.applier.hint work.cutover; attempt_tries = tries }))
  pub resized : (size : ℕ) (work : Work) → P (Migrating work) → P (Migrating (record work { copier = copiers.resized size work.copier }))

module _ (plan : PlanData) (P : ToolPhase → Type 0) (keeps : Keeps plan P) where
  reverts_keeps : (reason : Reason) (tool : Tool) → P tool.tool_phase → P (reverts reason tool).tool_phase
  reverts_keeps reason tool at = by (is_renamed tool.tool_phase)
    where
      by : (renamed : Bool) → P (if renamed then tool else record tool { reason = first_reason tool.reason reason; tool_phase = stopped tool.tool_phase }).tool_phase
      by true = at
      by false = keeps.stops tool.tool_phase at

  spends_keeps : (task : Task) (tries : List ℕ) (tool : Tool) → P tool.tool_phase → P (spends plan task tries tool).tool_phase
  spends_keeps task tries tool at = by (length tries == plan.options.default_retries)
    where
      by : (last : Bool) → P (if last then reverts (Spent task tries) tool else tool).tool_phase
      by true = reverts_keeps (Spent task tries) tool at
      by false = at

  copy_keeps : (work : Work) (progress : Progress) (copier : Copier) (tool : Tool) → P tool.tool_phase → ((tries : List ℕ) → P (Migrating (record work { copier = copier; chunk_tries = tries }))) → P (copy_after plan work progress copier tool).tool_phase
  copy_keeps work Going copier tool at now = now work.chunk_tries
  copy_keeps work TaskDone copier tool at now = now []
  copy_keeps work TaskFailed copier tool at now =
      spends_keeps (tasks.Chunk copier.number) (work.chunk_tries ++ tool.turns ∷ []) (working (record work { copier = copier; chunk_tries = work.chunk_tries ++ tool.turns ∷ [] }) tool) (now (work.chunk_tries ++ tool.turns ∷ []))
  copy_keeps work (Unfit place number) copier tool at now = reverts_keeps (CopyUnfit tool.turns place number) tool at

  apply_keeps : (work : Work) (progress : Progress) (applier : Applier) (tool : Tool) → P tool.tool_phase → ((tries : List ℕ) → P (Migrating (record work { applier = applier; batch_tries = tries }))) → P (apply_after plan work progress applier tool).tool_phase
  apply_keeps work Going applier tool at now = now work.batch_tries
  apply_keeps work TaskDone applier tool at now = now []
  apply_keeps work TaskFailed applier tool at now =
      spends_keeps (tasks.Batch applier.position) (work.batch_tries ++ tool.turns ∷ []) (working (record work { applier = applier; batch_tries = work.batch_tries ++ tool.turns ∷ [] }) tool) (now (work.batch_tries ++ tool.turns ∷ []))
  apply_keeps work (Unfit place number) applier tool at now = reverts_keeps (ApplyUnfit tool.turns place number) tool at

  attempt_keeps : (fails : Bool) (work : Work) (cutover : CutOver) (tool : Tool) → ((tries : List ℕ) → P (Migrating (record work { cutover = cutover; attempt_tries = tries }))) → P (attempt_after plan fails work cutover tool).tool_phase
  attempt_keeps true work cutover tool now =
      spends_keeps tasks.CutOver (work.attempt_tries ++ tool.turns ∷ []) (working (record work { cutover = cutover; attempt_tries = work.attempt_tries ++ tool.turns ∷ [] }) tool) (now (work.attempt_tries ++ tool.turns ∷ []))
  attempt_keeps false work cutover tool now = now work.attempt_tries

  cutover_keeps : (role : Role) (answer : Answer) (work : Work) (tool : Tool) → P (Migrating work) → P (cutover_after plan (cutovers.took role work.cutover answer) work tool).tool_phase
  cutover_keeps role answer work tool at =
      attempt_keeps (is_failure work.cutover.phase (cutovers.took role work.cutover answer).phase) work (cutovers.took role work.cutover answer) tool (λ tries. keeps.cuts role answer work tries at)

  tool_phase_keeps : (size : ℕ) (setup : Setup) (tries : List ℕ) → P (tool_phase_of plan size setup tries)
  tool_phase_keeps size (Ready position range) tries = keeps.begins size position range
  tool_phase_keeps size setup tries = keeps.sets setup tries

  setup_keeps : (setup : Setup) (tries : List ℕ) (answer : Answer) (tool : Tool) → P tool.tool_phase → P (setup_took plan setup tries answer tool).tool_phase
  setup_keeps setup tries answer tool at = by (cutovers.is_bad answer)
    where
      by : (bad : Bool) →
          P (if bad then spends plan tasks.Setup (tries ++ tool.turns ∷ []) (record tool { tool_phase = SettingUp Listing (tries ++ tool.turns ∷ []) }) else record tool { tool_phase = tool_phase_of plan tool.operator.size (setup_after plan.table setup answer) tries }).tool_phase
      by true = spends_keeps tasks.Setup (tries ++ tool.turns ∷ []) (record tool { tool_phase = SettingUp Listing (tries ++ tool.turns ∷ []) }) (keeps.sets Listing (tries ++ tool.turns ∷ []))
      by false = tool_phase_keeps tool.operator.size (setup_after plan.table setup answer) tries

  -- where all is reverted nothing is taken
  unless : (held : Bool) (tool after : Tool) → P tool.tool_phase → P after.tool_phase → P (if held then tool else after).tool_phase
  unless true tool after at now = at
  unless false tool after at now = now

  actor_keeps : (actor : Actor) (answer : Answer) (tool_phase : ToolPhase) (tool : Tool) → P tool_phase → P tool.tool_phase → P (actor_took plan actor answer tool_phase tool).tool_phase
  actor_keeps Insp answer (SettingUp setup tries) tool now at = unless (is_reverting tool.reason) tool (setup_took plan setup tries answer tool) at (setup_keeps setup tries answer tool at)
  actor_keeps Insp answer (Migrating work) tool now at = cutover_keeps Inspector answer work tool now
  actor_keeps Copy answer (Migrating work) tool now at =
      unless (is_reverting tool.reason) tool (copy_after plan work (copiers.progress work.copier answer) (copiers.took tool.turns work.copier answer) tool) at
      (copy_keeps work (copiers.progress work.copier answer) (copiers.took tool.turns work.copier answer) tool at (λ tries. keeps.copies tool.turns answer work tries now))
  actor_keeps Apply answer (Migrating work) tool now at =
      unless (is_reverting tool.reason) tool (apply_after plan work (appliers.progress work.applier answer) (appliers.took tool.turns work.applier answer) tool) at
      (apply_keeps work (appliers.progress work.applier answer) (appliers.took tool.turns work.applier answer) tool at (λ tries. keeps.applies tool.turns answer work tries now))
  actor_keeps Lock answer (Migrating work) tool now at = cutover_keeps Locker answer work tool now
  actor_keeps Ren answer (Migrating work) tool now at = cutover_keeps Renamer answer work tool now
  actor_keeps actor answer tool_phase tool now at = at

  drains_keeps : (tool_phase : ToolPhase) (tool : Tool) → P tool_phase → P tool.tool_phase → P (drains plan tool_phase tool).tool_phase
  drains_keeps (SettingUp setup tries) tool now at = at
  drains_keeps (Migrating work) tool now at =
      attempt_keeps (is_failure work.cutover.phase (cutovers.applier_turn work.applier.hint work.cutover).phase) work (cutovers.applier_turn work.applier.hint work.cutover) tool (λ tries. keeps.drained work tries now)

  counts_keeps : (actor : Actor) (tool : Tool) → P tool.tool_phase → P (turn_counts plan actor tool).tool_phase
  counts_keeps Apply tool at = drains_keeps tool.tool_phase tool at at
  counts_keeps actor tool at = at

  resizes_keeps : (word : OperatorWord) (tool_phase : ToolPhase) → P tool_phase → P (resizes word tool_phase)
  resizes_keeps (ChunkSize size) (Migrating work) at = keeps.resized size work at
  resizes_keeps word tool_phase at = at

  panics_keeps : (word : OperatorWord) (tool : Tool) → P tool.tool_phase → P (panics word tool).tool_phase
  panics_keeps Panic tool at = reverts_keeps (Panicked tool.turns) tool at
  panics_keeps word tool at = at

  asked_keeps : (state : State) (entry : Entry) (asked : Asked) (tool : Tool) → P tool.tool_phase → P (asked_took plan state entry asked tool).tool_phase
  asked_keeps state entry (Command word) tool at =
      panics_keeps word (record tool { operator = commanded word tool.operator; tool_phase = resizes word tool.tool_phase }) (resizes_keeps word tool.tool_phase at)
  asked_keeps state entry Cut tool at = by (has_work state entry.session)
    where
      by : (worked : Bool) → P (if worked then actor_took plan entry.actor answers.Lost tool.tool_phase tool else tool).tool_phase
      by true = actor_keeps entry.actor answers.Lost tool.tool_phase tool at at
      by false = at
  asked_keeps state entry asked tool at = counts_keeps entry.actor (actor_took plan entry.actor entry.answer tool.tool_phase tool) (actor_keeps entry.actor entry.answer tool.tool_phase tool at at)

  took_keeps : (state : State) (tool : Tool) (entry : Entry) → P tool.tool_phase → P (took plan state tool entry).tool_phase
  unfolding took
  took_keeps state tool entry at = asked_keeps state entry entry.asked (record tool { turns = tool.turns + 1 }) at

  folded : (now : Moment) (journal : List Entry) → P now.tool.tool_phase → P (fold (after_turn plan) now journal).tool.tool_phase
  folded now [] at = at
  folded now (entry ∷ journal) at = folded (after_turn plan now entry) journal (took_keeps now.server now.tool entry at)

  -- what every machine keeps holds behind every journal
  pub always : (journal : List Entry) → P (moment plan journal).tool.tool_phase
  unfolding moment
  always journal = folded (record { server = opening plan; tool = new_tool plan }) journal (keeps.sets Listing [])
