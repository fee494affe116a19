-- How many turns the applying of the batches takes, as far as each of the applier's turns goes on.
use Rattle.std.specs.Prelude.{◌≡◌, ◌≤◌, ◌+◌, ◌*◌, ℕ, true, false, List, [], ◌∷◌, ◌++◌}
use Rattle.std.specs.List.{list_any}
use Rattle.base_script.specs.declared.actor.Actor.TheVariants.{Apply}
use Rattle.server_model.specs.EarlierAnswers.{events_in}
use Rattle.server_model.specs.Entries.{answer_at, is_command, is_cut}
use Rattle.server_model.specs.declared.entry.Entry.{Entry}
use Rattle.plan_data.specs.PlanData.{PlanData}
use Rattle.tool_program.specs.declared.event_applier.applier.Applier.{Applier}
use Rattle.tool_program.specs.declared.event_applier.applier.ApplyStep.{ApplyStep}
use Rattle.tool_program.specs.declared.event_applier.applier.ApplyStep.TheVariants.{Applying}
use Rattle.tool_program.specs.EventApplier.Appliers.{Doing, planned}
use Rattle.tool_program.specs.JournalWords.Bounds.{Measures, events, measures}
use Rattle.tool_program.specs.JournalWords.Histories.{history, is_alter}
use Rattle.tool_program.specs.JournalWords.Journals.{state_at}
use Rattle.tool_program.specs.Tools.{Migrating, Work, is_reverting, moment}
use Rattle.proof_journals.specs.Machine.Runnable.{IsRunnable}
use Rattle.proof_journals.specs.Plans.{IsSerialPlan}
use Rattle.proof_journals.specs.Run.Kept.{IsKept}
use Rattle.proof_migration.specs.ToolPhase.Unaltered.{IsUnaltered}
use Rattle.proof_bounds.specs.Laws.{MayWait}
use Rattle.proof_bounds.specs.Parts.{OfBatches, turns_of_part}
use Rattle.proof_bounds.specs.TaskTurns.Answers.{BatchAnswer, left_at}

-- the statements of one batch at most
abbrev pub statements_most : PlanData → ℕ
statements_most plan = 3 * (measures plan).batch

-- what is planned for the batch at this step
abbrev pub doings_at : List Entry → Applier → ApplyStep → List Doing
doings_at journal applier (Applying batch done part) = planned applier (events_in (answer_at journal batch.read))
doings_at journal applier step = []

-- *The applying goes on*: until the RENAME is done and while nothing is reverted, the applier's turns are answered so; and after
-- the RENAME it has none
pub record BatchGoes (plan : PlanData) (before : List Entry) (entry : Entry) : Type 0 where
  pub answered : (work : Work) → (moment plan before).tool.tool_phase ≡ Migrating work → is_reverting (moment plan before).tool.reason ≡ false → IsUnaltered plan before → entry.actor ≡ Apply → is_command entry.asked ≡ false → is_cut entry.asked ≡ false
      → BatchAnswer (statements_most plan) plan.table (state_at plan (before ++ entry ∷ [])).log work.applier.position (λ read. planned work.applier read) (doings_at before work.applier work.applier.step) work.applier.step entry.answer
  pub over : (work : Work) → (moment plan before).tool.tool_phase ≡ Migrating work → is_reverting (moment plan before).tool.reason ≡ false → list_any is_alter (history plan before) ≡ true → entry.actor ≡ Apply → is_command entry.asked ≡ false → is_cut entry.asked ≡ false → ⊥

-- so it does along every journal that is kept
abbrev pub BatchesGoOn : PlanData → Type 0
BatchesGoOn plan = (before : List Entry) (entry : Entry) → IsKept plan (before ++ entry ∷ []) → BatchGoes plan before entry

-- until the RENAME is done, the log has at most as many events of the migrated table and of the changelog as are counted for it
abbrev pub LogsAreFew : PlanData → Type 0
LogsAreFew plan = (journal : List Entry) → IsKept plan journal → IsUnaltered plan journal → left_at plan.table (state_at plan journal).log 0 ≤ events (measures plan) + 4 * (measures plan).notes + (measures plan).tries

-- the turns of one try of a batch, and of all its tries
abbrev pub try_turns : Measures → ℕ
try_turns m = 3 * m.batch * (1 + m.tool_wait) + 3

abbrev pub tries_turns : Measures → ℕ
tries_turns m = m.tries * try_turns m

-- *The batches' turns are few* for the events that they apply, where the applying goes on: those of all tries for each
abbrev pub BatchTurnsAreFew : Type 0
BatchTurnsAreFew =
    (plan : PlanData) (journal : List Entry) → IsRunnable plan → IsSerialPlan plan → MayWait plan → 1 ≤ plan.options.default_retries → BatchesGoOn plan → LogsAreFew plan → IsKept plan journal
    → turns_of_part OfBatches plan journal ≤ (events (measures plan) + 4 * (measures plan).notes + (measures plan).tries) * tries_turns (measures plan)
