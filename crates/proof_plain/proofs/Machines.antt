-- The tool's numbers have 64 bits, and what it asks is plain, where what it was answered is.
use Rattle.std.proofs.Common.{◌≡◌, ℕ, ◌+◌, ◌-◌, ◌^◌, ◌<◌, ◌≤◌, ◌==◌, Bool, true, false, not, cond, List, [], ◌∷◌, ◌++◌, length, Option, Some, None, refl, sym, ◌∙◌, subst, arith}
use Rattle.std.specs.Prelude.{nat_le}
use Rattle.base_values.specs.declared.mysql_errors.TheConstants.{ER_DUP_ENTRY}
use Rattle.base_script.specs.declared.actor.Actor.{Actor}
use Rattle.base_script.specs.declared.actor.Actor.TheVariants.{Op, Insp, Copy, Apply, Lock, Ren, Client}
use Rattle.base_script.specs.declared.operator.OperatorWord.{OperatorWord}
use Rattle.base_script.specs.declared.operator.OperatorWord.TheVariants.{ChunkSize, Panic}
use Rattle.server_model.specs.declared.answer.Answer.{Answer}
use Rattle.server_model.specs.declared.answer.Answer.TheVariants as answers
use Rattle.server_model.specs.declared.answer.KeyRange.{KeyRange}
use Rattle.server_model.specs.declared.entry.Asked.{Asked}
use Rattle.server_model.specs.declared.entry.Asked.TheVariants.{Call, Poll, Command, Cut}
use Rattle.server_model.specs.declared.entry.Entry.{Entry}
use Rattle.server_model.specs.declared.outcome.Progress.{Progress}
use Rattle.server_model.specs.declared.outcome.Progress.TheVariants as progress
use Rattle.server_model.specs.declared.outcome.Task.{Task}
use Rattle.server_model.specs.declared.outcome.Task.TheVariants as tasks
use Rattle.server_model.specs.States.{State, has_work}
use Rattle.plan_data.specs.PlanData.{PlanData}
use Rattle.tool_program.specs.declared.chunk_copier.copier.Copier.{Copier}
use Rattle.tool_program.specs.declared.chunk_copier.copier.CopyStep.{CopyStep}
use Rattle.tool_program.specs.declared.chunk_copier.copier.CopyStep.TheVariants as copy_steps
use Rattle.tool_program.specs.declared.cutover_core.cutover.Clearing.{Clearing}
use Rattle.tool_program.specs.declared.cutover_core.cutover.Clearing.TheVariants.{Looking, Drops}
use Rattle.tool_program.specs.declared.cutover_core.cutover.CutOver.{CutOver}
use Rattle.tool_program.specs.declared.cutover_core.cutover.Drain.{Drain}
use Rattle.tool_program.specs.declared.cutover_core.cutover.Drain.TheVariants.{Turns, Passed}
use Rattle.tool_program.specs.declared.cutover_core.cutover.Leftovers.{Leftovers}
use Rattle.tool_program.specs.declared.cutover_core.cutover.Phase.{Phase}
use Rattle.tool_program.specs.declared.cutover_core.cutover.Phase.TheVariants.{Resting, Attempting, Ending, Finishing, Finished}
use Rattle.tool_program.specs.declared.cutover_core.cutover.Role.{Role}
use Rattle.tool_program.specs.declared.cutover_core.cutover.Role.TheVariants.{Inspector, Locker, Renamer}
use Rattle.tool_program.specs.declared.cutover_core.cutover.Stage.{Stage}
use Rattle.tool_program.specs.declared.cutover_core.cutover.Stage.TheVariants.{Guarding, Locking, Hinting, ReadingCounter, SettingCounter, Draining, Drained, Showing, Dropping, Unlocking, Exchanging}
use Rattle.tool_program.specs.declared.event_applier.applier.Applier.{Applier}
use Rattle.tool_program.specs.declared.event_applier.applier.ApplyStep.{ApplyStep}
use Rattle.tool_program.specs.declared.event_applier.applier.ApplyStep.TheVariants as apply_steps
use Rattle.tool_program.specs.declared.event_applier.applier.Batch.{Batch}
use Rattle.tool_program.specs.declared.event_applier.applier.Part.{Part}
use Rattle.tool_program.specs.declared.event_applier.applier.Part.TheVariants.{Whole, Removal, Return}
use Rattle.tool_program.specs.ChunkCopier.Copiers as copiers
use Rattle.tool_program.specs.CutoverCore.Attempts as attempts
use Rattle.tool_program.specs.CutoverCore.Attempts.{has_name, has_sentry, is_clear}
use Rattle.tool_program.specs.CutoverCore.CutOvers as cutovers
use Rattle.tool_program.specs.CutoverCore.CutOvers.{is_bad}
use Rattle.tool_program.specs.EventApplier.Appliers as appliers
use Rattle.tool_program.specs.Setups.{Setup, Listing, Clearing as ClearingSetup, MakingLog, MakingGhost, Marking, Reaching, Ready, setup_after, setup_step}
use Rattle.tool_program.specs.Setups as setups
use Rattle.tool_program.specs.Tools.{Reason, CopyUnfit, ApplyUnfit, Spent, Panicked, Tool, ToolPhase, SettingUp, Migrating, Work, actor_took, apply_after, apply_took, asked_took, attempt_after, command_took, copy_range, copy_after, copy_took, cutover_after, cutover_took, drains, first_reason, is_failure, is_renamed, is_reverting, panics, resizes, reverts, setup_took, spends, stopped, took, tool_phase_of, turn_counts, working}
use Rattle.proof_plain.specs.Plain.{BytesRange, PlainAnswer}
use Rattle.proof_plain.specs.Plans.{BytesCopyRange, PlainApplier, PlainPhase, PlainTool, PlainWork, SmallPhase, SmallReason, SmallSetup, SmallStage, SmallStep, SmallTask}

-- ---- the copier

-- what an answer leaves of it
record CopyKeeps (before after : Copier) : Type 0 where
  map : after.map ≡ before.map
  number : after.number ≤ before.number + 1
  range : after.range ≡ before.range

copy_same : (copier : Copier) → CopyKeeps copier copier
copy_same copier = record { map = refl; number = omega arith; range = refl }

copy_answer : (turn : ℕ) (copier : Copier) (step : CopyStep) (answer : Answer) → CopyKeeps copier (copiers.after_answer turn copier step answer)
copy_answer turn copier copy_steps.Choosing (answers.End end) = record { map = refl; number = omega arith; range = refl }
copy_answer turn copier (copy_steps.Spanning reported size) (answers.Keys keys end) = record { map = refl; number = omega arith; range = refl }
copy_answer turn copier (copy_steps.Copying chunk copied) (answers.Ok count) = record { map = refl; number = omega arith; range = refl }
copy_answer turn copier (copy_steps.Committing chunk) (answers.Ok count) = record { map = refl; number = omega arith; range = refl }
copy_answer turn copier step answer = copy_same copier

copy_keeps : (turn : ℕ) (copier : Copier) (answer : Answer) → CopyKeeps copier (copiers.took turn copier answer)
unfolding copiers.took
copy_keeps turn copier answers.Lost = record { map = refl; number = omega arith; range = refl }
copy_keeps turn copier (answers.TimedOut waited) = record { map = refl; number = omega arith; range = refl }
copy_keeps turn copier answer = copy_answer turn copier copier.step answer

-- ---- the applier

module _ (plan : PlanData) where
  abbrev IsApplier : Applier → Type 0
  IsApplier applier = PlainApplier plan applier

  stepped : (applier : Applier) (step : ApplyStep) → IsApplier applier → SmallStep step → IsApplier (record applier { step = step })
  stepped applier step is small = record { map = is.map; position = is.position; step = small }

  moved : (applier : Applier) (batch : Batch) → IsApplier applier → batch.next < 2 ^ 64 → IsApplier (appliers.moved applier batch)
  moved applier batch is small = record { map = is.map; position = small; step = tt }

  read_plain : (applier : Applier) (batch : Batch) → IsApplier applier → batch.next < 2 ^ 64 → IsApplier (appliers.read_batch applier batch)
  read_plain applier batch is small = by (batch.statements == 0) where
    by : (b : Bool) → IsApplier (cond b (appliers.moved applier batch) (record applier { step = apply_steps.Beginning batch }))
    by true = moved applier batch is small
    by false = stepped applier (apply_steps.Beginning batch) is small

  statements_small : (batch : Batch) (done : ℕ) → batch.next < 2 ^ 64 → SmallStep (appliers.after_statements batch done)
  statements_small batch done small = by (done == batch.statements) where
    by : (b : Bool) → SmallStep (cond b (apply_steps.Committing batch) (apply_steps.Applying batch done Whole))
    by true = small
    by false = small

  part_small : (batch : Batch) (done : ℕ) (part : Part) → batch.next < 2 ^ 64 → SmallStep (appliers.after_part batch done part)
  part_small batch done Removal small = small
  part_small batch done Whole small = statements_small batch (done + 1) small
  part_small batch done Return small = statements_small batch (done + 1) small

  refusal_small : (batch : Batch) (done : ℕ) (part : Part) (number : ℕ) → batch.next < 2 ^ 64 → SmallStep (appliers.after_refusal batch done part number)
  refusal_small batch done part number small = by (number == ER_DUP_ENTRY) where
    by : (b : Bool) → SmallStep (cond b (apply_steps.Applying batch done Removal) (apply_steps.Applying batch done part))
    by true = small
    by false = small

  apply_answer : (turn : ℕ) (applier : Applier) (step : ApplyStep) (answer : Answer) → IsApplier applier → SmallStep step → PlainAnswer answer → IsApplier (appliers.after_answer turn applier step answer)
  apply_answer turn applier apply_steps.Reading (answers.Events events following) is small plain = read_plain applier (appliers.batch_of turn applier events following) is plain.1
  apply_answer turn applier (apply_steps.Beginning batch) (answers.Ok count) is small plain = stepped applier (apply_steps.Applying batch 0 Whole) is small
  apply_answer turn applier (apply_steps.Applying batch done part) (answers.Ok count) is small plain = stepped applier (appliers.after_part batch done part) is (part_small batch done part small)
  apply_answer turn applier (apply_steps.Applying batch done part) (answers.Refused number column) is small plain = stepped applier (appliers.after_refusal batch done part number) is (refusal_small batch done part number small)
  apply_answer turn applier (apply_steps.Committing batch) (answers.Ok count) is small plain = moved applier batch is small
  apply_answer turn applier step answer is small plain = is

  apply_plain : (turn : ℕ) (applier : Applier) (answer : Answer) → IsApplier applier → PlainAnswer answer → IsApplier (appliers.took turn applier answer)
  unfolding appliers.took
  apply_plain turn applier answers.Lost is plain = stepped applier apply_steps.Reading is tt
  apply_plain turn applier (answers.TimedOut waited) is plain = stepped applier apply_steps.Reading is tt
  apply_plain turn applier answer is plain = apply_answer turn applier applier.step answer is is.step plain

-- ---- the cut-over

any_phase : (b : Bool) (one two : Phase) → SmallPhase one → SmallPhase two → SmallPhase (cond b one two)
any_phase true one two first second = first
any_phase false one two first second = second

drain_small : (drain : Drain) → SmallStage (cutovers.drain_stage drain)
drain_small (Turns turns) = tt
drain_small Passed = tt

hinted_small : (has : Bool) → SmallStage (cutovers.hinted has)
hinted_small true = tt
hinted_small false = tt

inspector_small : (has : Bool) (stage : Stage) (answer : Answer) → SmallStage stage → PlainAnswer answer → SmallStage (cutovers.inspector_stage has stage answer)
inspector_small has Hinting (answers.Ok count) small plain = hinted_small has
inspector_small has (ReadingCounter drain) (answers.At number) small plain = plain
inspector_small has (SettingCounter number drain) (answers.Ok count) small plain = drain_small drain
inspector_small has Showing (answers.Waiting waiters) small plain = by (cutovers.shows_wait waiters) where
  by : (b : Bool) → SmallStage (cond b Dropping Showing)
  by true = tt
  by false = tt
inspector_small has stage answer small plain = small

finishing_small : (left : Leftovers) → SmallPhase (cutovers.finishing left)
finishing_small left = any_phase (is_clear left) Finished (Finishing (Drops left)) tt tt

ending_small : (cutover : CutOver) (clearing : Clearing) (answer : Answer) → SmallPhase (cutovers.ending_after cutover clearing answer)
ending_small cutover clearing answers.Lost = tt
ending_small cutover clearing (answers.TimedOut waited) = tt
ending_small cutover Looking (answers.Tables tables) =
    any_phase (not (has_name _ tables)) _ _ (finishing_small (cutovers.left_at_end cutover tables)) (any_phase (has_sentry cutover.table tables) (Ending (Drops cutovers.sentry_alone)) Resting tt tt)
ending_small cutover (Drops left) (answers.Ok count) = tt
ending_small cutover clearing answer = tt

finished_small : (cutover : CutOver) (clearing : Clearing) (answer : Answer) → SmallPhase (cutovers.finishing_after cutover clearing answer)
finished_small cutover clearing answers.Lost = tt
finished_small cutover clearing (answers.TimedOut waited) = tt
finished_small cutover Looking (answers.Tables tables) = finishing_small (cutovers.left_at_end cutover tables)
finished_small cutover (Drops left) (answers.Ok count) = finishing_small (attempts.without_first left)
finished_small cutover clearing answer = tt

inspected_small : (cutover : CutOver) (phase : Phase) (answer : Answer) → SmallPhase phase → PlainAnswer answer → SmallPhase (cutovers.inspector_phase cutover phase answer)
inspected_small cutover (Attempting stage) answer small plain = any_phase (is_bad answer) (Ending Looking) (Attempting (cutovers.inspector_stage cutover.has_counter stage answer)) tt (inspector_small cutover.has_counter stage answer small plain)
inspected_small cutover (Ending clearing) answer small plain = ending_small cutover clearing answer
inspected_small cutover (Finishing clearing) answer small plain = finished_small cutover clearing answer
inspected_small cutover Resting answer small plain = small
inspected_small cutover Finished answer small plain = small

locker_small : (stage : Stage) (answer : Answer) → SmallStage stage → SmallStage (cutovers.locker_stage stage answer)
locker_small Guarding (answers.Ok count) small = tt
locker_small Locking (answers.Ok count) small = tt
locker_small Dropping (answers.Ok count) small = tt
locker_small Unlocking (answers.Ok count) small = tt
locker_small stage answer small = small

begun_small : (answer : Answer) → SmallPhase (cutovers.begun answer)
begun_small (answers.Ok count) = tt
begun_small (answers.Waits by) = tt
begun_small answer = tt

locked_small : (phase : Phase) (answer : Answer) → SmallPhase phase → SmallPhase (cutovers.locker_phase phase answer)
locked_small Resting answer small = begun_small answer
locked_small (Attempting stage) answer small = any_phase (is_bad answer) (Ending Looking) (Attempting (cutovers.locker_stage stage answer)) tt (locker_small stage answer small)
locked_small (Ending clearing) answer small = small
locked_small (Finishing clearing) answer small = small
locked_small Finished answer small = small

failed_small : (phase : Phase) → SmallPhase phase → SmallPhase (cutovers.failed phase)
failed_small (Attempting stage) small = tt
failed_small phase small = small

waits_small : (phase : Phase) → SmallPhase phase → SmallPhase (cutovers.waits_phase phase)
waits_small (Attempting Drained) small = tt
waits_small phase small = small

renamed_small : (phase : Phase) (answer : Answer) → SmallPhase phase → SmallPhase (cutovers.renamer_phase phase answer)
renamed_small phase (answers.Ok count) small = tt
renamed_small phase (answers.Waits by) small = waits_small phase small
renamed_small phase answers.Lost small = failed_small phase small
renamed_small phase (answers.TimedOut waited) small = failed_small phase small
renamed_small phase answer small = small

role_small : (role : Role) (cutover : CutOver) (answer : Answer) → SmallPhase cutover.phase → PlainAnswer answer → SmallPhase (cutovers.took role cutover answer).phase
unfolding cutovers.took
role_small Inspector cutover answer small plain = inspected_small cutover cutover.phase answer small plain
role_small Locker cutover answer small plain = locked_small cutover.phase answer small
role_small Renamer cutover answer small plain = renamed_small cutover.phase answer small

with_small : (stage : Stage) (drain : Drain) → SmallStage stage → SmallStage (cutovers.with_drain stage drain)
with_small (ReadingCounter before) drain small = tt
with_small (SettingCounter number before) drain small = small
with_small (Draining turns) drain small = drain_small drain
with_small stage drain small = small

drained_small : (cutover : CutOver) (hint : ℕ) (phase : Phase) → SmallPhase phase → SmallPhase (cutovers.drained cutover hint phase)
drained_small cutover hint (Attempting stage) small = by (cutovers.drain_of stage) where
  by : (drain : Option Drain) → SmallPhase (cutovers.drains_to cutover hint stage drain)
  by None = small
  by (Some Passed) = small
  by (Some (Turns turns)) =
      any_phase (hint == cutover.attempts) (Attempting (cutovers.with_drain stage Passed)) _ (with_small stage Passed small)
      (any_phase (nat_le cutover.drain_limit (turns + 1)) (Ending Looking) (Attempting (cutovers.with_drain stage (Turns (turns + 1)))) tt (with_small stage (Turns (turns + 1)) small))
drained_small cutover hint phase small = small

turned_small : (hint : ℕ) (cutover : CutOver) → SmallPhase cutover.phase → SmallPhase (cutovers.applier_turn hint cutover).phase
unfolding cutovers.applier_turn
turned_small hint cutover small = drained_small cutover hint cutover.phase small

ended_small : (phase : Phase) → SmallPhase phase → SmallPhase (cutovers.ended phase)
ended_small (Attempting Unlocking) small = tt
ended_small (Attempting Exchanging) small = tt
ended_small (Attempting stage) small = tt
ended_small phase small = small

reverted_small : (cutover : CutOver) → SmallPhase cutover.phase → SmallPhase (cutovers.reverted cutover).phase
unfolding cutovers.reverted
reverted_small cutover small = ended_small cutover.phase small

-- ---- the tool

module _ (plan : PlanData) where
  abbrev IsTool : Tool → Type 0
  IsTool tool = PlainTool plan tool

  later : (turns : ℕ) (phase : ToolPhase) → PlainPhase plan turns phase → PlainPhase plan (turns + 1) phase
  later turns (SettingUp setup tries) is = is
  later turns (Migrating work) is = record { map = is.map; number = let less = is.number in omega (arith, less); range = is.range; applier = is.applier; phase = is.phase }

  stopped_plain : (turns : ℕ) (phase : ToolPhase) → PlainPhase plan turns phase → PlainPhase plan turns (stopped phase)
  stopped_plain turns (SettingUp setup tries) is = is
  stopped_plain turns (Migrating work) is = record { map = is.map; number = is.number; range = is.range; applier = is.applier; phase = reverted_small work.cutover is.phase }

  first_small : (old : Option Reason) (reason : Reason) → SmallReason old → SmallReason (Some reason) → SmallReason (first_reason old reason)
  first_small None reason old new = new
  first_small (Some first) reason old new = old

  reverts_plain : (reason : Reason) (tool : Tool) → SmallReason (Some reason) → IsTool tool → IsTool (reverts reason tool)
  reverts_plain reason tool small is = by (is_renamed tool.tool_phase) where
    by : (b : Bool) → IsTool (cond b tool (record tool { reason = first_reason tool.reason reason; tool_phase = stopped tool.tool_phase }))
    by true = is
    by false = record { phase = stopped_plain tool.turns tool.tool_phase is.phase; reason = first_small tool.reason reason is.reason small }

  spends_plain : (task : Task) (tries : List ℕ) (tool : Tool) → SmallTask task → IsTool tool → IsTool (spends plan task tries tool)
  spends_plain task tries tool small is = by (length tries == plan.options.default_retries) where
    by : (b : Bool) → IsTool (cond b (reverts (Spent task tries) tool) tool)
    by true = reverts_plain (Spent task tries) tool small is
    by false = is

  working_plain : (work : Work) (tool : Tool) → SmallReason tool.reason → PlainWork plan tool.turns work → IsTool (working work tool)
  working_plain work tool reason is = record { phase = is; reason = reason }

  module _ (work : Work) (tool : Tool) (reason : SmallReason tool.reason) (some : 0 < tool.turns) (few : tool.turns + 1 < 2 ^ 64) (is : PlainWork plan (tool.turns - 1) work) where
    more : work.copier.number + 1 ≤ tool.turns + 1
    more = let less = is.number in omega (arith, less, some)

    copied : (copier : Copier) (tries : List ℕ) → CopyKeeps work.copier copier → PlainWork plan tool.turns (record work { copier = copier; chunk_tries = tries })
    copied copier tries keeps = record { map = keeps.map ∙ is.map; number = let a = keeps.number in let b = more in omega (arith, a, b); range = subst BytesCopyRange (sym keeps.range) is.range; applier = is.applier; phase = is.phase }

    copied_plain : (said : Progress) (copier : Copier) → IsTool tool → CopyKeeps work.copier copier → IsTool (copy_after plan work said copier tool)
    copied_plain progress.Going copier old keeps = working_plain (record work { copier = copier }) tool reason (copied copier work.chunk_tries keeps)
    copied_plain progress.TaskDone copier old keeps = working_plain (record work { copier = copier; chunk_tries = [] }) tool reason (copied copier [] keeps)
    copied_plain progress.TaskFailed copier old keeps =
        spends_plain (tasks.Chunk copier.number) (work.chunk_tries ++ tool.turns ∷ []) _ (let a = keeps.number in let b = more in omega (arith, a, b, few))
        (working_plain (record work { copier = copier; chunk_tries = work.chunk_tries ++ tool.turns ∷ [] }) tool reason (copied copier (work.chunk_tries ++ tool.turns ∷ []) keeps))
    copied_plain (progress.Unfit place number) copier old keeps = reverts_plain (CopyUnfit tool.turns place number) tool tt old

    applied : (applier : Applier) (tries : List ℕ) → PlainApplier plan applier → PlainWork plan tool.turns (record work { applier = applier; batch_tries = tries })
    applied applier tries plain = record { map = is.map; number = let b = more in omega (arith, b); range = is.range; applier = plain; phase = is.phase }

    applied_plain : (said : Progress) (applier : Applier) → IsTool tool → PlainApplier plan applier → IsTool (apply_after plan work said applier tool)
    applied_plain progress.Going applier old plain = working_plain (record work { applier = applier }) tool reason (applied applier work.batch_tries plain)
    applied_plain progress.TaskDone applier old plain = working_plain (record work { applier = applier; batch_tries = [] }) tool reason (applied applier [] plain)
    applied_plain progress.TaskFailed applier old plain =
        spends_plain (tasks.Batch applier.position) (work.batch_tries ++ tool.turns ∷ []) _ plain.position
        (working_plain (record work { applier = applier; batch_tries = work.batch_tries ++ tool.turns ∷ [] }) tool reason (applied applier (work.batch_tries ++ tool.turns ∷ []) plain))
    applied_plain (progress.Unfit place number) applier old plain = reverts_plain (ApplyUnfit tool.turns place number) tool tt old

  -- the cut-over became this one
  cut_plain : (work : Work) (tool : Tool) (cutover : CutOver) → SmallReason tool.reason → PlainWork plan tool.turns work → SmallPhase cutover.phase → IsTool (cutover_after plan cutover work tool)
  cut_plain work tool cutover reason is small = by (is_failure work.cutover.phase cutover.phase) where
    changed : (tries : List ℕ) → PlainWork plan tool.turns (record work { cutover = cutover; attempt_tries = tries })
    changed tries = record { map = is.map; number = is.number; range = is.range; applier = is.applier; phase = small }

    by : (b : Bool) → IsTool (attempt_after plan b work cutover tool)
    by true = spends_plain tasks.CutOver (work.attempt_tries ++ tool.turns ∷ []) _ tt (working_plain (record work { cutover = cutover; attempt_tries = work.attempt_tries ++ tool.turns ∷ [] }) tool reason (changed (work.attempt_tries ++ tool.turns ∷ [])))
    by false = working_plain (record work { cutover = cutover }) tool reason (changed work.attempt_tries)

  role_plain : (role : Role) (answer : Answer) (work : Work) (tool : Tool) → SmallReason tool.reason → PlainWork plan tool.turns work → PlainAnswer answer → IsTool (cutover_took plan role answer work tool)
  role_plain role answer work tool reason is plain = cut_plain work tool (cutovers.took role work.cutover answer) reason is (role_small role work.cutover answer is.phase plain)

  drains_plain : (phase : ToolPhase) (tool : Tool) → SmallReason tool.reason → PlainPhase plan tool.turns phase → IsTool tool → IsTool (drains plan phase tool)
  drains_plain (SettingUp setup tries) tool reason is old = old
  drains_plain (Migrating work) tool reason is old = cut_plain work tool (cutovers.applier_turn work.applier.hint work.cutover) reason is (turned_small work.applier.hint work.cutover is.phase)

  counts_plain : (actor : Actor) (tool : Tool) → IsTool tool → IsTool (turn_counts plan actor tool)
  counts_plain Apply tool is = drains_plain tool.tool_phase tool is.reason is.phase is
  counts_plain Op tool is = is
  counts_plain Insp tool is = is
  counts_plain Copy tool is = is
  counts_plain Lock tool is = is
  counts_plain Ren tool is = is
  counts_plain (Client number) tool is = is

  -- the setup
  step_small : (table : List ℕ) (setup : Setup) (answer : Answer) → SmallSetup setup → PlainAnswer answer → SmallSetup (setup_step table setup answer)
  step_small table Listing (answers.Tables tables) small plain = by (is_clear (setups.listed table tables)) where
    by : (b : Bool) → SmallSetup (cond b MakingLog (ClearingSetup (setups.listed table tables)))
    by true = tt
    by false = tt
  step_small table (ClearingSetup left) (answers.Ok count) small plain = by (is_clear (attempts.without_first left)) where
    by : (b : Bool) → SmallSetup (cond b MakingLog (ClearingSetup (attempts.without_first left)))
    by true = tt
    by false = tt
  step_small table MakingLog (answers.Ok count) small plain = tt
  step_small table MakingGhost (answers.Ok count) small plain = tt
  step_small table Marking (answers.At position) small plain = plain
  step_small table (Reaching position) (answers.Ends range) small plain = (small, plain)
  step_small table setup answer small plain = small

  setup_small : (table : List ℕ) (setup : Setup) (answer : Answer) → SmallSetup setup → PlainAnswer answer → SmallSetup (setup_after table setup answer)
  setup_small table setup answer small plain = by (is_bad answer) where
    by : (b : Bool) → SmallSetup (cond b Listing (setup_step table setup answer))
    by true = tt
    by false = step_small table setup answer small plain

  ranged : (range : Option KeyRange) → BytesRange range → BytesCopyRange (copy_range range)
  ranged None have = tt
  ranged (Some range) have = have

  phase_plain : (turns size : ℕ) (setup : Setup) (tries : List ℕ) → SmallSetup setup → PlainPhase plan turns (tool_phase_of plan size setup tries)
  phase_plain turns size (Ready position range) tries small = record { map = refl; number = omega arith; range = ranged range small.1; applier = record { map = refl; position = small.0; step = tt }; phase = tt }
  phase_plain turns size Listing tries small = small
  phase_plain turns size (ClearingSetup left) tries small = small
  phase_plain turns size MakingLog tries small = small
  phase_plain turns size MakingGhost tries small = small
  phase_plain turns size Marking tries small = small
  phase_plain turns size (Reaching position) tries small = small

  set_plain : (setup : Setup) (tries : List ℕ) (answer : Answer) (tool : Tool) → SmallReason tool.reason → SmallSetup setup → PlainAnswer answer → IsTool (setup_took plan setup tries answer tool)
  set_plain setup tries answer tool reason small plain = by (is_bad answer) where
    by : (b : Bool)
        → IsTool (cond b (spends plan tasks.Setup (tries ++ tool.turns ∷ []) (record tool { tool_phase = SettingUp Listing (tries ++ tool.turns ∷ []) })) (record tool { tool_phase = tool_phase_of plan tool.operator.size (setup_after plan.table setup answer) tries }))
    by true = spends_plain tasks.Setup (tries ++ tool.turns ∷ []) (record tool { tool_phase = SettingUp Listing (tries ++ tool.turns ∷ []) }) tt (record { phase = tt; reason = reason })
    by false = record { phase = phase_plain tool.turns tool.operator.size (setup_after plan.table setup answer) tries (setup_small plan.table setup answer small plain); reason = reason }

  unless_plain : (b : Bool) (one two : Tool) → IsTool one → IsTool two → IsTool (cond b one two)
  unless_plain true one two first second = first
  unless_plain false one two first second = second

  -- an actor was answered: the phase is that of a turn before
  actor_plain : (actor : Actor) (answer : Answer) (phase : ToolPhase) (tool : Tool) → SmallReason tool.reason → 0 < tool.turns → tool.turns + 1 < 2 ^ 64 → PlainPhase plan (tool.turns - 1) phase → IsTool tool → PlainAnswer answer → IsTool (actor_took plan actor answer phase tool)
  actor_plain Insp answer (SettingUp setup tries) tool reason some few is old plain = unless_plain (is_reverting tool.reason) tool (setup_took plan setup tries answer tool) old (set_plain setup tries answer tool reason is plain)
  actor_plain Insp answer (Migrating work) tool reason some few is old plain = role_plain Inspector answer work tool reason (now work tool some is) plain where
    now : (work : Work) (tool : Tool) → 0 < tool.turns → PlainWork plan (tool.turns - 1) work → PlainWork plan tool.turns work
    now work tool some is = record { map = is.map; number = let less = is.number in omega (arith, less, some); range = is.range; applier = is.applier; phase = is.phase }
  actor_plain Copy answer (Migrating work) tool reason some few is old plain =
      unless_plain (is_reverting tool.reason) tool (copy_took plan answer work tool) old (copied_plain work tool reason some few is (copiers.progress work.copier answer) (copiers.took tool.turns work.copier answer) old (copy_keeps tool.turns work.copier answer))
  actor_plain Apply answer (Migrating work) tool reason some few is old plain =
      unless_plain (is_reverting tool.reason) tool (apply_took plan answer work tool) old
      (applied_plain work tool reason some few is (appliers.progress work.applier answer) (appliers.took tool.turns work.applier answer) old (apply_plain plan tool.turns work.applier answer is.applier plain))
  actor_plain Lock answer (Migrating work) tool reason some few is old plain = role_plain Locker answer work tool reason (now work tool some is) plain where
    now : (work : Work) (tool : Tool) → 0 < tool.turns → PlainWork plan (tool.turns - 1) work → PlainWork plan tool.turns work
    now work tool some is = record { map = is.map; number = let less = is.number in omega (arith, less, some); range = is.range; applier = is.applier; phase = is.phase }
  actor_plain Ren answer (Migrating work) tool reason some few is old plain = role_plain Renamer answer work tool reason (now work tool some is) plain where
    now : (work : Work) (tool : Tool) → 0 < tool.turns → PlainWork plan (tool.turns - 1) work → PlainWork plan tool.turns work
    now work tool some is = record { map = is.map; number = let less = is.number in omega (arith, less, some); range = is.range; applier = is.applier; phase = is.phase }
  actor_plain actor answer phase tool reason some few is old plain = old

  -- a command
  resized_plain : (word : OperatorWord) (turns : ℕ) (phase : ToolPhase) → PlainPhase plan turns phase → PlainPhase plan turns (resizes word phase)
  resized_plain (ChunkSize size) turns (Migrating work) is = record { map = is.map; number = is.number; range = is.range; applier = is.applier; phase = is.phase }
  resized_plain word turns phase is = is

  panics_plain : (word : OperatorWord) (tool : Tool) → IsTool tool → IsTool (panics word tool)
  panics_plain Panic tool is = reverts_plain (Panicked tool.turns) tool tt is
  panics_plain word tool is = is

  commanded_plain : (word : OperatorWord) (tool : Tool) → IsTool tool → IsTool (command_took word tool)
  commanded_plain word tool is = panics_plain word _ (record { phase = resized_plain word tool.turns tool.tool_phase is.phase; reason = is.reason })

  asked_plain : (state : State) (entry : Entry) (asked : Asked) (tool : Tool) → 0 < tool.turns → tool.turns + 1 < 2 ^ 64 → PlainPhase plan (tool.turns - 1) tool.tool_phase → IsTool tool → PlainAnswer entry.answer → IsTool (asked_took plan state entry asked tool)
  asked_plain state entry (Command word) tool some few before is plain = commanded_plain word tool is
  asked_plain state entry Cut tool some few before is plain =
      unless_plain (has_work state entry.session) (actor_took plan entry.actor answers.Lost tool.tool_phase tool) tool (actor_plain entry.actor answers.Lost tool.tool_phase tool is.reason some few before is tt) is
  asked_plain state entry (Call request) tool some few before is plain = counts_plain entry.actor _ (actor_plain entry.actor entry.answer tool.tool_phase tool is.reason some few before is plain)
  asked_plain state entry Poll tool some few before is plain = counts_plain entry.actor _ (actor_plain entry.actor entry.answer tool.tool_phase tool is.reason some few before is plain)

  -- *A turn keeps the tool plain*
  pub took_plain : (state : State) (tool : Tool) (entry : Entry) → tool.turns + 2 < 2 ^ 64 → IsTool tool → PlainAnswer entry.answer → IsTool (took plan state tool entry)
  unfolding took
  took_plain state tool entry few is plain =
      asked_plain state entry entry.asked (record tool { turns = tool.turns + 1 }) (omega arith) (omega (arith, few)) (subst (λ (n : ℕ). PlainPhase plan n tool.tool_phase) (same tool.turns) is.phase) (record { phase = later tool.turns tool.tool_phase is.phase; reason = is.reason }) plain where
        same : (n : ℕ) → n ≡ (n + 1) - 1
        same n = omega arith
