-- Whose table the new tool's copier copies, and what its applier applies to.
use Rattle.std.proofs.Common.{◌≡◌, ℕ, ◌==◌, Bool, true, false, ◌&&◌, List, ◌∷◌, [], length, cond, Option, Some, None, refl, ap, ◌∙◌}
use Rattle.std.proofs.lemmas.Bool.{true≢false}
use Rattle.base_values.specs.ToolNames.{ghost_name, log_name}
use Rattle.server_model.specs.declared.answer.Answer.{Answer}
use Rattle.server_model.specs.declared.answer.Answer.TheVariants as answers
use Rattle.server_model.specs.declared.entry.Entry.{Entry}
use Rattle.server_model.specs.declared.outcome.Progress.{Progress}
use Rattle.server_model.specs.declared.outcome.Progress.TheVariants.{Going, TaskDone, TaskFailed, Unfit}
use Rattle.server_model.specs.States.{State, unread}
use Rattle.plan_data.specs.PlanData.{PlanData, has_counter, new_map, new_schema}
use Rattle.tool_notes.specs.declared.checkpoint.Checkpoint.{Checkpoint}
use Rattle.tool_program.specs.declared.chunk_copier.copier.Copier.{Copier}
use Rattle.tool_program.specs.declared.chunk_copier.copier.CopyStep.{CopyStep}
use Rattle.tool_program.specs.declared.chunk_copier.copier.CopyStep.TheVariants as chunks
use Rattle.tool_program.specs.ChunkCopier.Copiers as copiers
use Rattle.tool_program.specs.declared.event_applier.applier.Applier.{Applier}
use Rattle.tool_program.specs.declared.event_applier.applier.ApplyStep.{ApplyStep}
use Rattle.tool_program.specs.declared.event_applier.applier.ApplyStep.TheVariants as batches
use Rattle.tool_program.specs.declared.event_applier.applier.Batch.{Batch}
use Rattle.tool_program.specs.EventApplier.Appliers as appliers
use Rattle.tool_finish.specs.declared.stage.Listed.{Listed}
use Rattle.tool_finish.specs.declared.stage.Listed.TheVariants.{NotRenamed, Renamed}
use Rattle.tool_finish.specs.declared.stage.Stage.{Stage}
use Rattle.tool_finish.specs.declared.stage.Stage.TheVariants.{Losing, Listing, Reading, Clearing, ReadingCounter, SettingCounter, Ranging, Copying, Applying, Exchanging, DroppingLog, DroppingOld, RollingBack, Done, Reverted}
use Rattle.tool_finish.specs.Finishes.{applied, applier_from, applying, checkpoint_in, copied, copier_from, copying, counter_read, counting, dropped_log, has_read, listed, ranged, took}
use Rattle.proof_migration.proofs.Program.Turns.Sizes.{Fixed, fixed_took, map_took}

-- the copier copies the plan's table
pub record IsCopierOf (plan : PlanData) (copier : Copier) : Type 0 where
  pub table : copier.table ≡ plan.table
  pub map : copier.map ≡ new_map plan

-- the applier applies its events to the new one
pub record IsApplierOf (plan : PlanData) (applier : Applier) : Type 0 where
  pub table : applier.table ≡ plan.table
  pub schema : applier.new_schema ≡ record (new_schema plan) { name = ghost_name plan.table }
  pub map : applier.map ≡ new_map plan

-- WHAT NO ANSWER CHANGES

copier_after : (turn : ℕ) (copier : Copier) (step : CopyStep) (answer : Answer) → (copiers.after_answer turn copier step answer).table ≡ copier.table
copier_after turn copier chunks.Choosing (answers.End end) = refl
copier_after turn copier (chunks.Spanning reported size) (answers.Keys keys end) = refl
copier_after turn copier (chunks.Copying chunk copied) (answers.Ok count) = refl
copier_after turn copier (chunks.Committing chunk) (answers.Ok count) = refl
copier_after turn copier step answer = refl

copier_took : (turn : ℕ) (copier : Copier) (answer : Answer) → (copiers.took turn copier answer).table ≡ copier.table
unfolding copiers.took
copier_took turn copier answers.Lost = refl
copier_took turn copier (answers.TimedOut waited) = refl
copier_took turn copier answer = copier_after turn copier copier.step answer

pub copier_of : (plan : PlanData) (turn : ℕ) (copier : Copier) (answer : Answer) → IsCopierOf plan copier → IsCopierOf plan (copiers.took turn copier answer)
copier_of plan turn copier answer is = record { table = copier_took turn copier answer ∙ is.table; map = map_took turn copier answer ∙ is.map }

read_table : (applier : Applier) (batch : Batch) → (appliers.read_batch applier batch).table ≡ applier.table
read_table applier batch = by (batch.statements == 0) where
  by : (b : Bool) → (cond b (appliers.moved applier batch) (record applier { step = batches.Beginning batch })).table ≡ applier.table
  by true = refl
  by false = refl

applier_after : (turn : ℕ) (applier : Applier) (step : ApplyStep) (answer : Answer) → (appliers.after_answer turn applier step answer).table ≡ applier.table
applier_after turn applier batches.Reading (answers.Events events following) = read_table applier (appliers.batch_of turn applier events following)
applier_after turn applier (batches.Beginning batch) (answers.Ok count) = refl
applier_after turn applier (batches.Applying batch done part) (answers.Ok count) = refl
applier_after turn applier (batches.Applying batch done part) (answers.Refused number column) = refl
applier_after turn applier (batches.Committing batch) (answers.Ok count) = refl
applier_after turn applier step answer = refl

applier_took : (turn : ℕ) (applier : Applier) (answer : Answer) → (appliers.took turn applier answer).table ≡ applier.table
unfolding appliers.took
applier_took turn applier answers.Lost = refl
applier_took turn applier (answers.TimedOut waited) = refl
applier_took turn applier answer = applier_after turn applier applier.step answer

pub applier_of : (plan : PlanData) (turn : ℕ) (applier : Applier) (answer : Answer) → IsApplierOf plan applier → IsApplierOf plan (appliers.took turn applier answer)
applier_of plan turn applier answer is = record {
  table = applier_took turn applier answer ∙ is.table;
  schema = ap (λ (f : Fixed). f.schema) (fixed_took turn applier answer) ∙ is.schema;
  map = ap (λ (f : Fixed). f.map) (fixed_took turn applier answer) ∙ is.map;
}

-- AT EACH STAGE

-- the stage's machines are the plan's; and as long as sessions are lost this holds
abbrev pub KnowsAt : Type 0 → PlanData → Stage → Type 0
KnowsAt Before plan Losing = Before
KnowsAt Before plan (Copying copier applier) = IsCopierOf plan copier × IsApplierOf plan applier
KnowsAt Before plan (Applying applier) = IsApplierOf plan applier
KnowsAt Before plan stage = Unit {0}

abbrev pub is_losing : Stage → Bool
is_losing Losing = true
is_losing stage = false

module _ (Before After : Type 0) (plan : PlanData) (journal : List Entry) (state : State) (answer : Answer) where
  counting_knows : (found : Checkpoint) → KnowsAt After plan (counting plan found)
  counting_knows found = by (has_counter plan) where
    by : (b : Bool) → KnowsAt After plan (cond b (ReadingCounter found) (Ranging found))
    by true = tt
    by false = tt

  read_knows : (seen : Listed) (found : Option Checkpoint) → KnowsAt After plan (has_read plan seen found)
  read_knows seen None = tt
  read_knows (NotRenamed true) (Some found) = tt
  read_knows (NotRenamed false) (Some found) = counting_knows found
  read_knows (Renamed old) (Some found) = tt

  applying_knows : (applier : Applier) → IsApplierOf plan applier → KnowsAt After plan (applying plan state applier)
  applying_knows applier is = by (appliers.starts applier && (unread state applier.position (plan.table ∷ log_name plan.table ∷ []) == 0)) where
    by : (b : Bool) → KnowsAt After plan (cond b Exchanging (Applying applier))
    by true = tt
    by false = is

  copying_knows : (copier : Copier) (applier : Applier) → IsCopierOf plan copier → IsApplierOf plan applier → KnowsAt After plan (copying plan state copier applier)
  copying_knows copier applier copies applies = by copier.is_copied where
    by : (b : Bool) → KnowsAt After plan (cond b (applying plan state applier) (Copying copier applier))
    by true = applying_knows applier applies
    by false = (copies, applies)

  copied_knows : (turn : ℕ) (applier : Applier) (before after : Copier) (progress : Progress) → IsCopierOf plan after → IsApplierOf plan applier → KnowsAt After plan (copied plan state turn applier before after progress)
  copied_knows turn applier before after (Unfit column number) copies applies = tt
  copied_knows turn applier before after Going copies applies = copying_knows after applier copies applies
  copied_knows turn applier before after TaskDone copies applies = copying_knows after applier copies applies
  copied_knows turn applier before after TaskFailed copies applies = copying_knows after applier copies applies

  applied_knows : (turn : ℕ) (before after : Applier) (progress : Progress) → IsApplierOf plan after → KnowsAt After plan (applied plan state turn before after progress)
  applied_knows turn before after (Unfit column number) applies = tt
  applied_knows turn before after Going applies = applying_knows after applies
  applied_knows turn before after TaskDone applies = applying_knows after applies
  applied_knows turn before after TaskFailed applies = applying_knows after applies

  listed_knows : (given : Answer) → KnowsAt After plan (listed plan given)
  listed_knows (answers.Tables tables) = tt
  listed_knows other = tt

  counter_knows : (found : Checkpoint) (given : Answer) → KnowsAt After plan (counter_read found given)
  counter_knows found (answers.At number) = tt
  counter_knows found other = tt

  ranged_knows : (found : Checkpoint) (given : Answer) → KnowsAt After plan (ranged plan state found given)
  ranged_knows found (answers.Ends range) =
      copying_knows (copier_from plan found.reach range) (applier_from plan found.position) (record { table = refl; map = refl }) (record { table = refl; schema = refl; map = refl })
  ranged_knows found other = tt

  log_knows : (old : Bool) → KnowsAt After plan (dropped_log old)
  log_knows true = tt
  log_knows false = tt

  -- *Every answer keeps it*
  pub took_knows : (stage : Stage) → is_losing stage ≡ false → KnowsAt Before plan stage → KnowsAt After plan (took plan journal state answer stage)
  unfolding took
  took_knows Losing going is = absurd (true≢false going)
  took_knows Listing going is = listed_knows answer
  took_knows (Reading seen) going is = read_knows seen (checkpoint_in answer)
  took_knows (Clearing found) going is = counting_knows found
  took_knows (ReadingCounter found) going is = counter_knows found answer
  took_knows (SettingCounter found number) going is = tt
  took_knows (Ranging found) going is = ranged_knows found answer
  took_knows (Copying copier applier) going is =
      copied_knows (length journal) applier copier (copiers.took (length journal) copier answer) (copiers.progress copier answer) (copier_of plan (length journal) copier answer is.0) is.1
  took_knows (Applying applier) going is = applied_knows (length journal) applier (appliers.took (length journal) applier answer) (appliers.progress applier answer) (applier_of plan (length journal) applier answer is)
  took_knows Exchanging going is = tt
  took_knows (DroppingLog old) going is = log_knows old
  took_knows DroppingOld going is = tt
  took_knows (RollingBack row) going is = tt
  took_knows Done going is = tt
  took_knows (Reverted row) going is = tt

  -- and as long as sessions are lost
  pub losing_knows : (live : Bool) → After → KnowsAt After plan (cond live Losing Listing)
  losing_knows true is = is
  losing_knows false is = tt
