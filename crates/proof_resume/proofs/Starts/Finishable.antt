-- Behind every kept run that has a checkpoint each call of the new tool may be made.
use Rattle.std.proofs.Common.{◌≡◌, true, ◌&&◌, List, ◌++◌, Some, refl, subst}
use Rattle.std.specs.List.{list_any}
use Rattle.std.proofs.lemmas.Bool.{false≢true}
use Rattle.base_values.specs.ToolNames.{log_name}
use Rattle.table_store.specs.Databases.{find_table, has_table}
use Rattle.server_model.specs.declared.entry.Entry.{Entry}
use Rattle.plan_data.specs.PlanData.{PlanData}
use Rattle.tool_program.specs.JournalWords.Journals.{state_at}
use Rattle.tool_program.specs.Tools.{Migrating, SettingUp, ToolPhase, Work, moment}
use Rattle.tool_finish.specs.Callable.{IsFinishable}
use Rattle.tool_finish.specs.Checkpoints.{has_checkpoint, is_migrating, writes_checkpoint}
use Rattle.proof_journals.specs.Ghost.HeldKeys.{Clustered}
use Rattle.proof_journals.specs.Ghost.Rows.Moments.{Row}
use Rattle.proof_journals.specs.Ghost.Rows.Timelines.{Migration}
use Rattle.proof_journals.specs.Run.Kept.{IsKept}
use Rattle.proof_migration.specs.Program.Turns.Laws.{IsMigrationOf}
use Rattle.proof_bounds.specs.AttemptTurns.Attempts.{MayTry}
use Rattle.proof_resume.specs.Finish.Callable.{FindsKeys}
use Rattle.proof_resume.proofs.Finish.Callable.{finishes_may_call}
use Rattle.proof_resume.proofs.Finish.Leaving.{runs_leave_tables}
use Rattle.proof_resume.specs.Starts.Beginnings.{IsCleared, StageFinds}
use Rattle.proof_resume.specs.Starts.Laws.{KeptRunsAreFinishable}
use Rattle.proof_resume.proofs.Starts.StoredKeys.{found_is_keyed}
use Rattle.proof_resume.proofs.Starts.Stages.{stages_found}

-- a run that has a checkpoint migrates
pub record Migrates (plan : PlanData) (run : List Entry) : Type 0 where
  pub work : Work
  pub phase : (moment plan run).tool.tool_phase ≡ Migrating work

pub migrates : (plan : PlanData) (run : List Entry) → has_checkpoint plan run ≡ true → Migrates plan run
unfolding has_checkpoint
migrates plan run is = by (moment plan run).tool.tool_phase refl is where
  by : (phase : ToolPhase) → (moment plan run).tool.tool_phase ≡ phase → (is_migrating phase && list_any writes_checkpoint run && has_table (log_name plan.table) (state_at plan run).tables) ≡ true → Migrates plan run
  by (SettingUp setup tries) same is = absurd (false≢true is)
  by (Migrating work) same is = record { work = work; phase = same }

module _ (plan : PlanData) (m : Migration) (at : Clustered m.schema) (rows : List Row) (of : IsMigrationOf plan m rows) (tries : MayTry plan) (opening : find_table m.name plan.tables ≡ Some (record { schema = m.schema; rows = rows })) (run : List Entry) (work : Work) (kept : IsKept plan run) (phase : (moment plan run).tool.tool_phase ≡ Migrating work) where
  pub finds_keys : FindsKeys plan run
  finds_keys turns found off faithful finish stage =
      let cleared : IsCleared plan m run (run ++ turns) found = subst (StageFinds plan m run (run ++ turns)) stage (stages_found plan m rows of run work kept off phase turns faithful finish) in
      found_is_keyed plan run work of.runs of.serial tries kept off phase found cleared.stored

  pub finishable : IsFinishable plan run
  finishable = finishes_may_call plan run of.runs of.serial kept (runs_leave_tables plan m at rows of opening run work kept phase) finds_keys

-- *Kept runs are finishable.*
pub kept_runs_are_finishable : KeptRunsAreFinishable
kept_runs_are_finishable plan m at rows of tries opening run kept has =
    let migrates_so : Migrates plan run = migrates plan run has in
    finishable plan m at rows of tries opening run migrates_so.work kept migrates_so.phase
