-- What the laws of the bound say for the law that a verdict's cause is the least.
use Rattle.std.proofs.Common.{◌≡◌, ◌≤◌, ◌<◌, ℕ, zero, suc, ◌+◌, Bool, true, false, cond, List, [], ◌∷◌, ◌++◌, length, drop, refl, subst, arith}
use Rattle.std.specs.Prelude.{count_by, nat_lt}
use Rattle.std.specs.List.{list_any}
use Rattle.std.proofs.lemmas.Bool.{false≢true}
use Rattle.std.proofs.lemmas.Bool.Decides.{nat_tests}
use Rattle.std.proofs.lemmas.List.Sums.{sum_by-take-drop}
use Rattle.base_values.specs.ToolNames.{log_name}
use Rattle.base_values.specs.declared.event.RowEvent.{RowEvent}
use Rattle.server_model.specs.States.{is_of}
use Rattle.server_model.specs.declared.answer.Answer.{Answer}
use Rattle.server_model.specs.declared.answer.Answer.TheVariants as answers
use Rattle.server_model.specs.declared.outcome.Task.{Task}
use Rattle.server_model.specs.declared.outcome.Task.TheVariants as tasks
use Rattle.plan_data.specs.PlanData.{PlanData}
use Rattle.tool_program.specs.EventApplier.Appliers.{Doing, is_reading, planned}
use Rattle.tool_program.specs.JournalWords.Histories.{history, is_alter}
use Rattle.tool_program.specs.JournalWords.Journals.{state_at}
use Rattle.tool_program.specs.Tools.{ToolPhase, SettingUp, Migrating, is_renamed, is_reverting, moment}
use Rattle.tool_program.specs.declared.event_applier.applier.ApplyStep.{ApplyStep}
use Rattle.tool_program.specs.declared.event_applier.applier.ApplyStep.TheVariants.{Reading, Beginning, Applying, Committing}
use Rattle.proof_bounds.specs.TaskTurns.Answers.{BatchAnswer, Passes}
use Rattle.proof_bounds.specs.TaskTurns.Batches.{BatchGoes, BatchesGoOn, doings_at, statements_most}
use Rattle.proof_bounds.specs.Tries.{ToolPhaseRoom, TriesAreFew}
use Rattle.proof_bounds.proofs.Attempts.{attempts_left}
use Rattle.proof_order.proofs.LeastCauses.CountedTries.{tries_of}
use Rattle.proof_order.proofs.LeastCauses.Positions.{ReadsRise}
use Rattle.proof_order.proofs.LeastCauses.SpentTasks.{TriesLeft}

-- THE LOG IS READ ON

-- at a later position no more is left
fewer_later : (test : RowEvent → Bool) (log : List RowEvent) (position next : ℕ) → position ≤ next → count_by test (drop next log) ≤ count_by test (drop position log)
fewer_later test log zero next less = let parts = sum_by-take-drop (λ (e : RowEvent). cond (test e) 1 0) log next in omega (arith, parts)
fewer_later test log (suc position) zero less = absurd (omega (arith, less))
fewer_later test [] (suc position) (suc next) less = omega arith
fewer_later test (event ∷ log) (suc position) (suc next) less = fewer_later test log position next (omega (arith, less))

passed : (table : List ℕ) (log : List RowEvent) (position next : ℕ) → Passes table log position next → position < next
passed table log position next passes = by (nat_lt position next) refl where
  by : (b : Bool) → nat_lt position next ≡ b → position < next
  by true is = grind (arith, nat_tests, is)
  by false is =
      let back : next ≤ position = grind (arith, nat_tests, is) in
      let later = fewer_later (is_of (table ∷ log_name table ∷ [])) log next position back in
      let fewer = passes.fewer in
      absurd (omega (arith, later, fewer))

read_answer : (most : ℕ) (table : List ℕ) (log : List RowEvent) (position : ℕ) (plans : List RowEvent → List Doing) (doings : List Doing) (step : ApplyStep) (answer : Answer) (events : List RowEvent) (following : ℕ) → is_reading step ≡ true → answer ≡ answers.Events events following
    → BatchAnswer most table log position plans doings step answer → position < following
read_answer most table log position plans doings Reading answer events following reading is goes = passed table log position following (subst (BatchAnswer most table log position plans doings Reading) is goes).0
read_answer most table log position plans doings (Beginning batch) answer events following reading is goes = absurd (false≢true reading)
read_answer most table log position plans doings (Applying batch done part) answer events following reading is goes = absurd (false≢true reading)
read_answer most table log position plans doings (Committing batch) answer events following reading is goes = absurd (false≢true reading)

-- *Each reading goes on*
pub reads_rise : (plan : PlanData) → BatchesGoOn plan → ReadsRise plan
reads_rise plan go before entry work events following kept at off who called uncut reading is = by (list_any is_alter (history plan before)) refl where
  goes : BatchGoes plan before entry
  goes = go before entry kept

  by : (b : Bool) → list_any is_alter (history plan before) ≡ b → work.applier.position < following
  by true done = absurd (goes.over work at off done who called uncut)
  by false unaltered =
      read_answer (statements_most plan) plan.table (state_at plan (before ++ entry ∷ [])).log work.applier.position (λ read. planned work.applier read) (doings_at before work.applier work.applier.step) work.applier.step entry.answer events following reading is
      (goes.answered work at off unaltered who called uncut)

-- TRIES ARE LEFT

-- *Fewer tries failed than the plan lets*
pub tries_left : (plan : PlanData) → 1 ≤ plan.options.default_retries → TriesAreFew → TriesLeft plan
tries_left plan some few journal task kept going off = by (moment plan journal).tool.tool_phase refl off (few plan journal some) task where
  by : (tool_phase : ToolPhase) → (moment plan journal).tool.tool_phase ≡ tool_phase → is_renamed tool_phase ≡ false → ToolPhaseRoom plan (is_reverting (moment plan journal).tool.reason) tool_phase → (task : Task) → length (tries_of task tool_phase) < plan.options.default_retries
  by (SettingUp setup tries) at undone room tasks.Setup = room.left going
  by (SettingUp setup tries) at undone room (tasks.Chunk number) = omega (arith, some)
  by (SettingUp setup tries) at undone room (tasks.Batch position) = omega (arith, some)
  by (SettingUp setup tries) at undone room tasks.CutOver = omega (arith, some)
  by (Migrating work) at undone room tasks.Setup = omega (arith, some)
  by (Migrating work) at undone room (tasks.Chunk number) = (room undone).chunk.left going
  by (Migrating work) at undone room (tasks.Batch position) = (room undone).batch.left going
  by (Migrating work) at undone room tasks.CutOver = attempts_left plan journal work some kept.faithful kept.follows at going undone
