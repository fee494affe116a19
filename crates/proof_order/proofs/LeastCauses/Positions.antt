-- With each batch that is done the applier's position rises, where each reading of the log goes up to a later position.
use Rattle.std.proofs.Common.{◌≡◌, ◌<◌, ℕ, ◌+◌, ◌==◌, Bool, true, false, cond, List, [], ◌∷◌, ◌++◌, length, Some, refl, ap}
use Rattle.base_script.specs.declared.actor.Actor.{Actor}
use Rattle.base_script.specs.declared.actor.Actor.TheVariants.{Op, Insp, Copy, Apply, Lock, Ren, Client}
use Rattle.base_script.specs.declared.operator.OperatorWord.{OperatorWord}
use Rattle.base_values.specs.declared.event.RowEvent.{RowEvent}
use Rattle.base_values.specs.declared.mysql_errors.TheConstants.{ER_DUP_ENTRY}
use Rattle.server_model.specs.declared.answer.Answer.{Answer}
use Rattle.server_model.specs.declared.answer.Answer.TheVariants as answers
use Rattle.server_model.specs.declared.entry.Asked.{Asked}
use Rattle.server_model.specs.declared.entry.Asked.TheVariants.{Call, Poll, Command, Cut}
use Rattle.server_model.specs.declared.entry.Entry.{Entry}
use Rattle.server_model.specs.declared.outcome.Progress.TheVariants.{Going, TaskDone}
use Rattle.server_model.specs.Entries.{is_command, is_cut}
use Rattle.plan_data.specs.PlanData.{PlanData}
use Rattle.tool_program.specs.declared.event_applier.applier.Applier.{Applier}
use Rattle.tool_program.specs.declared.event_applier.applier.ApplyStep.{ApplyStep}
use Rattle.tool_program.specs.declared.event_applier.applier.ApplyStep.TheVariants.{Reading, Beginning, Applying, Committing}
use Rattle.tool_program.specs.declared.event_applier.applier.Batch.{Batch}
use Rattle.tool_program.specs.declared.event_applier.applier.Part.{Part}
use Rattle.tool_program.specs.declared.event_applier.applier.Part.TheVariants.{Whole, Removal}
use Rattle.tool_program.specs.EventApplier.Appliers as appliers
use Rattle.tool_program.specs.EventApplier.Appliers.{is_reading}
use Rattle.tool_program.specs.Setups.{Setup, Listing, Clearing, MakingLog, MakingGhost, Marking, Reaching, Ready, setup_after}
use Rattle.tool_program.specs.Tools.{Work, ToolPhase, SettingUp, Migrating, Tool, stopped, tool_phase_of, is_reverting, moment}
use Rattle.proof_journals.specs.Run.Kept.{IsKept}
use Rattle.proof_migration.proofs.KeptJournals.{each_kept}
use Rattle.proof_migration.proofs.ToolPhase.ToolPhaseTurns.{Kept, UnfitKeeps, AnswerKeeps, ResizeKeeps, turn_kept}

-- *Each reading goes on*: what the applier reads of the log, while nothing is reverted, ends at a later position
abbrev pub ReadsRise : PlanData → Type 0
ReadsRise plan =
    (before : List Entry) (entry : Entry) (work : Work) (events : List RowEvent) (following : ℕ) → IsKept plan (before ++ entry ∷ []) → (moment plan before).tool.tool_phase ≡ Migrating work → is_reverting (moment plan before).tool.reason ≡ false → entry.actor ≡ Apply → is_command entry.asked ≡ false
    → is_cut entry.asked ≡ false → is_reading work.applier.step ≡ true → entry.answer ≡ answers.Events events following → work.applier.position < following

-- ONE ANSWER

-- the batch at hand ends at a later position
abbrev StepRises : ℕ → ApplyStep → Type 0
StepRises position Reading = Unit {0}
StepRises position (Beginning batch) = position < batch.next
StepRises position (Applying batch done part) = position < batch.next
StepRises position (Committing batch) = position < batch.next

abbrev pub BatchRises : Applier → Type 0
BatchRises applier = StepRises applier.position applier.step

-- so does what is read by this answer
abbrev pub AnswerRises : Applier → Answer → Type 0
AnswerRises applier answer = (events : List RowEvent) (following : ℕ) → answer ≡ answers.Events events following → is_reading applier.step ≡ true → applier.position < following

module _ (turn : ℕ) (applier : Applier) (was : BatchRises applier) where
  statements_rise : (batch : Batch) (done : ℕ) → applier.position < batch.next → StepRises applier.position (appliers.after_statements batch done)
  statements_rise batch done less = by (done == batch.statements) where
    by : (b : Bool) → StepRises applier.position (cond b (Committing batch) (Applying batch done Whole))
    by true = less
    by false = less

  part_rises : (batch : Batch) (done : ℕ) (part : Part) → applier.position < batch.next → StepRises applier.position (appliers.after_part batch done part)
  part_rises batch done Removal less = less
  part_rises batch done part less = statements_rise batch (done + 1) less

  refusal_rises : (batch : Batch) (done : ℕ) (part : Part) (number : ℕ) → applier.position < batch.next → StepRises applier.position (appliers.after_refusal batch done part number)
  refusal_rises batch done part number less = by (number == ER_DUP_ENTRY) where
    by : (b : Bool) → StepRises applier.position (cond b (Applying batch done Removal) (Applying batch done part))
    by true = less
    by false = less

  read_rises : (batch : Batch) → applier.position < batch.next → BatchRises (appliers.read_batch applier batch)
  read_rises batch less = by (batch.statements == 0) where
    by : (b : Bool) → BatchRises (cond b (appliers.moved applier batch) (record applier { step = Beginning batch }))
    by true = tt
    by false = less

  step_rises : (step : ApplyStep) (answer : Answer) → applier.step ≡ step → StepRises applier.position step → AnswerRises applier answer → BatchRises (appliers.after_answer turn applier step answer)
  step_rises Reading (answers.Events events following) at now reads = read_rises (appliers.batch_of turn applier events following) (reads events following refl (ap is_reading at))
  step_rises Reading answer at now reads = was
  step_rises (Beginning batch) (answers.Ok count) at now reads = now
  step_rises (Beginning batch) answer at now reads = was
  step_rises (Applying batch done part) (answers.Ok count) at now reads = part_rises batch done part now
  step_rises (Applying batch done part) (answers.Refused number column) at now reads = refusal_rises batch done part number now
  step_rises (Applying batch done part) answer at now reads = was
  step_rises (Committing batch) (answers.Ok count) at now reads = tt
  step_rises (Committing batch) answer at now reads = was

  -- the batch that comes is such a one
  pub took_rises : (answer : Answer) → AnswerRises applier answer → BatchRises (appliers.took turn applier answer)
  unfolding appliers.took
  took_rises answers.Lost reads = tt
  took_rises (answers.TimedOut waited) reads = tt
  took_rises answer reads = step_rises applier.step answer refl was reads

  step_done : (step : ApplyStep) (answer : Answer) → applier.step ≡ step → StepRises applier.position step → AnswerRises applier answer → appliers.progress_at applier step answer ≡ TaskDone → applier.position < (appliers.after_answer turn applier step answer).position
  step_done step answers.Lost at now reads done = absurd cc
  step_done step (answers.TimedOut waited) at now reads done = absurd cc
  step_done Reading (answers.Events events following) at now reads done = by (length (appliers.planned applier events) == 0) done where
    by : (b : Bool) → cond b TaskDone Going ≡ TaskDone → applier.position < (cond b (appliers.moved applier (appliers.batch_of turn applier events following)) (record applier { step = Beginning (appliers.batch_of turn applier events following) })).position
    by true is = reads events following refl (ap is_reading at)
    by false is = absurd cc
  step_done Reading answer at now reads done = absurd cc
  step_done (Beginning batch) answer at now reads done = absurd cc
  step_done (Applying batch count part) (answers.Refused number (Some place)) at now reads done = absurd cc
  step_done (Applying batch count part) answer at now reads done = absurd cc
  step_done (Committing batch) (answers.Ok count) at now reads done = now
  step_done (Committing batch) answer at now reads done = absurd cc

  -- *A batch that is done ends at a later position*
  pub done_rises : (answer : Answer) → AnswerRises applier answer → appliers.progress applier answer ≡ TaskDone → applier.position < (appliers.took turn applier answer).position
  unfolding appliers.took appliers.progress
  done_rises answers.Lost reads done = absurd cc
  done_rises (answers.TimedOut waited) reads done = absurd cc
  done_rises answer reads done = step_done applier.step answer refl was reads done

-- AFTER EVERY JOURNAL

abbrev pub Rising : Kept
Rising reverting (SettingUp setup tries) = Unit {0}
Rising reverting (Migrating work) = BatchRises work.applier

back : (b : Bool) (tool_phase : ToolPhase) → Rising b tool_phase → Rising true (stopped tool_phase)
back b (SettingUp setup tries) is = tt
back b (Migrating work) is = is

unfit_keeps : (work : Work) → BatchRises work.applier → UnfitKeeps Rising work
unfit_keeps work is = record { renamed = λ renamed. is; reverts = is }

setup_keeps : (plan : PlanData) (size : ℕ) (next : Setup) (tries : List ℕ) → Rising false (tool_phase_of plan size next tries)
setup_keeps plan size Listing tries = tt
setup_keeps plan size (Clearing left) tries = tt
setup_keeps plan size MakingLog tries = tt
setup_keeps plan size MakingGhost tries = tt
setup_keeps plan size Marking tries = tt
setup_keeps plan size (Reaching position) tries = tt
setup_keeps plan size (Ready position range) tries = tt

-- what an answer reads rises where nothing is reverted
abbrev ReadsAt : Answer → Tool → Actor → ToolPhase → Type 0
ReadsAt answer tool actor (SettingUp setup tries) = Unit {0}
ReadsAt answer tool actor (Migrating work) = actor ≡ Apply → is_reverting tool.reason ≡ false → AnswerRises work.applier answer

answer_keeps : (plan : PlanData) (answer : Answer) (tool : Tool) (actor : Actor) (tool_phase : ToolPhase) → ReadsAt answer tool actor tool_phase → Rising (is_reverting tool.reason) tool_phase → AnswerKeeps plan Rising answer tool actor tool_phase
answer_keeps plan answer tool Insp (SettingUp setup tries) reads is = record { reverting = λ on. tt; again = λ off bad more. tt; goes = λ off good. setup_keeps plan tool.operator.size (setup_after plan.table setup answer) tries }
answer_keeps plan answer tool Insp (Migrating work) reads is = λ tries. is
answer_keeps plan answer tool Lock (Migrating work) reads is = λ tries. is
answer_keeps plan answer tool Ren (Migrating work) reads is = λ tries. is
answer_keeps plan answer tool Copy (Migrating work) reads is = record { reverting = λ on. is; unfit = λ off place number unfit. unfit_keeps work is; took = λ off fits tries. is }
answer_keeps plan answer tool Apply (Migrating work) reads is = record { reverting = λ on. is; unfit = λ off place number unfit. unfit_keeps work is; took = λ off fits tries. took_rises tool.turns work.applier is answer (reads refl off) }
answer_keeps plan answer tool Op tool_phase reads is = is
answer_keeps plan answer tool (Client c) tool_phase reads is = is
answer_keeps plan answer tool Copy (SettingUp setup tries) reads is = is
answer_keeps plan answer tool Apply (SettingUp setup tries) reads is = is
answer_keeps plan answer tool Lock (SettingUp setup tries) reads is = is
answer_keeps plan answer tool Ren (SettingUp setup tries) reads is = is

resize_keeps : (tool : Tool) (size : ℕ) (tool_phase : ToolPhase) → Rising (is_reverting tool.reason) tool_phase → ResizeKeeps Rising tool size tool_phase
resize_keeps tool size (SettingUp setup tries) is = tt
resize_keeps tool size (Migrating work) is = is

module _ (plan : PlanData) (reads : ReadsRise plan) where
  abbrev RisesAfter : List Entry → Type 0
  RisesAfter journal = Rising (is_reverting (moment plan journal).tool.reason) (moment plan journal).tool.tool_phase

  -- a turn's answer
  pub turn_reads : (journal : List Entry) (entry : Entry) → IsKept plan (journal ++ entry ∷ []) → is_command entry.asked ≡ false → is_cut entry.asked ≡ false → (work : Work) → (moment plan journal).tool.tool_phase ≡ Migrating work → entry.actor ≡ Apply
      → is_reverting (moment plan journal).tool.reason ≡ false → AnswerRises work.applier entry.answer
  turn_reads journal entry kept called uncut work at who off = λ events following is reading. reads journal entry work events following kept at off who called uncut reading is

  rises_more : (journal : List Entry) (entry : Entry) → IsKept plan (journal ++ entry ∷ []) → RisesAfter journal → RisesAfter (journal ++ entry ∷ [])
  rises_more journal entry kept is =
      turn_kept plan Rising back journal entry (λ b work tries now. now)
      (record {
        commanded = λ word asks unsized. is;
        resized = λ size asks. resize_keeps tool size tool.tool_phase is;
        idle = λ cut none. is;
        lost = λ cut some. answer_keeps plan answers.Lost tool entry.actor tool.tool_phase (lost_at tool.tool_phase) is;
        heard = λ uncut called. answer_keeps plan entry.answer tool entry.actor tool.tool_phase (heard_at tool.tool_phase refl uncut called) is;
      }) where
        tool : Tool
        tool = record (moment plan journal).tool { turns = (moment plan journal).tool.turns + 1 }

        lost_at : (tool_phase : ToolPhase) → ReadsAt answers.Lost tool entry.actor tool_phase
        lost_at (SettingUp setup tries) = tt
        lost_at (Migrating work) = λ who off events following is. absurd cc

        not_command : (asked : Asked) → ((word : OperatorWord) → asked ≡ Command word → ⊥) → is_command asked ≡ false
        not_command (Command word) called = absurd (called word refl)
        not_command (Call request) called = refl
        not_command Poll called = refl
        not_command Cut called = refl

        not_cut : (asked : Asked) → (asked ≡ Cut → ⊥) → is_cut asked ≡ false
        not_cut Cut uncut = absurd (uncut refl)
        not_cut (Call request) uncut = refl
        not_cut Poll uncut = refl
        not_cut (Command word) uncut = refl

        heard_at : (tool_phase : ToolPhase) → tool.tool_phase ≡ tool_phase → (entry.asked ≡ Cut → ⊥) → ((word : OperatorWord) → entry.asked ≡ Command word → ⊥) → ReadsAt entry.answer tool entry.actor tool_phase
        heard_at (SettingUp setup tries) at uncut called = tt
        heard_at (Migrating work) at uncut called = λ who off. turn_reads journal entry kept (not_command entry.asked called) (not_cut entry.asked uncut) work at who off

  rises_begin : RisesAfter []
  unfolding moment
  rises_begin = tt

  -- *Batches rise*
  pub all_rise : (journal : List Entry) → IsKept plan journal → RisesAfter journal
  all_rise journal kept = each_kept plan RisesAfter rises_more journal kept rises_begin
