-- What is promised of every new tool: that its calls may be made, that its turns are sound, and that its verdict tells whether the table was
-- altered.
use Rattle.std.proofs.Common.{◌≡◌, ◌≤◌, Bool, true, false, not, ◌&&◌, List, [], ◌++◌, length}
use Rattle.std.proofs.lemmas.Bool.{false≢true}
use Rattle.server_model.specs.declared.entry.Entry.{Entry}
use Rattle.plan_data.specs.PlanData.{PlanData}
use Rattle.tool_program.specs.JournalWords.Journals.{IsFaithful, state_at}
use Rattle.tool_program.specs.JournalWords.Serials.{IsSerial}
use Rattle.tool_program.specs.Verdicts.{has_ended}
use Rattle.tool_finish.specs.Callable.{IsFinishable}
use Rattle.tool_finish.specs.Checkpoints.{has_checkpoint}
use Rattle.tool_finish.specs.Finishes.{IsFinish, stage_behind}
use Rattle.tool_finish.specs.Finishes as finishes
use Rattle.proof_journals.specs.Ghost.HeldKeys.{Clustered}
use Rattle.proof_journals.specs.Machine.Runnable.{IsRunnable}
use Rattle.proof_journals.specs.Plans.{IsPlanRun, IsSerialPlan}
use Rattle.proof_journals.specs.Run.Kept.{IsKept}
use Rattle.proof_journals.proofs.Ghost.Keys.{clustered}
use Rattle.proof_migration.specs.Migration.Planning.{migration_of}
use Rattle.proof_migration.specs.Program.Turns.Laws.{IsMigrationOf}
use Rattle.proof_migration.specs.ToolPhase.Runnable.{IsAlterable}
use Rattle.proof_migration.specs.ToolPhase.Unaltered.{IsUnaltered}
use Rattle.proof_migration.proofs.Program.Follows.{migration, own_table}
use Rattle.proof_bounds.specs.AttemptTurns.Attempts.{MayTry}
use Rattle.proof_literals.proofs.Finals.{journal_short, plan_plain}
use Rattle.proof_literals.proofs.ReadLimits.{small_plan}
use Rattle.proof_plain.specs.Plans.{IsShort, PlainPlan}
use Rattle.proof_plans.specs.ReadPlans.Laws.{WasRead}
use Rattle.proof_plans.specs.ReadPlans.Options.{IsAllowed}
use Rattle.proof_plans.specs.ReadPlans.Schemas.{IsAccepted}
use Rattle.proof_plans.proofs.ReadPlans.Stated.{plans_accepted}
use Rattle.proof_plans.proofs.Tables.Found.{run_of}
use Rattle.proof_resume.specs.Finish.Runs.{ExchangesAltered}
use Rattle.proof_resume.specs.Finish.Bounds.{FinishesAreFew, most_turns}
use Rattle.proof_resume.proofs.Finish.Prompt.{answers_come_at_once}
use Rattle.proof_resume.proofs.Starts.Outcomes.{altered_runs, done_so, finish_serial, reverted_so, stands_so}
use Rattle.proof_resume.proofs.Starts.Finishable.{kept_runs_are_finishable}
use Rattle.run_turns.specs.Runs.{is_over}
use Rattle.top_call.specs.FinishLaws.{ReadPlanLaws, RunLaws}
use Rattle.top_call.specs.ResumedRuns.{EndsBehind, FinishesAreSound, FinishesMayCall, FinishesTellTheAlter, is_resumed}
use Rattle.top_call.specs.WholeReplays.SoundRuns.{IsSoundRun}
use Rattle.top_call.proofs.FinishLaws.Draws.{finish_draws}

-- THE RUN

-- a run that is resumed has a checkpoint
resumed_has : (plan : PlanData) (run : List Entry) → is_resumed plan run ≡ true → has_checkpoint plan run ≡ true
unfolding is_resumed
resumed_has plan run is = by plan.options.resume (is_over plan run) (has_ended plan run) (has_checkpoint plan run) is where
  by : (a b c d : Bool) → (a && b && not c && d) ≡ true → d ≡ true
  by true true false d is = is
  by true true true d is = absurd (false≢true is)
  by true false c d is = absurd (false≢true is)
  by false b c d is = absurd (false≢true is)

-- WHAT EVERY PLAN THAT WAS READ HAS

module _ (laws : ReadPlanLaws) (plan : PlanData) (was : WasRead plan) where
  runs : IsRunnable plan
  runs = laws.runnable plan was

  serial : IsSerialPlan plan
  serial = laws.serial was.bytes plan was.is

  is : IsAlterable plan
  is = laws.alterable was.bytes plan was.is

  of : IsMigrationOf plan (migration_of is.table.schema is.new) is.table.rows
  of = migration plan is laws.again runs serial

  at : Clustered is.table.schema
  at = clustered is.table.schema of.planned.old_key

  tries : MayTry plan
  tries = let allowed : IsAllowed plan.options = laws.allow was.bytes plan was.is in record { some = allowed.tries; few = allowed.few; notes = allowed.notes }

  accepted : IsAccepted plan
  accepted = plans_accepted was.bytes plan was.is

  plain : PlainPlan plan
  plain = plan_plain was.bytes plan was.is accepted runs

  plan_runs : RunLaws → (journal : List Entry) → IsKept plan journal → IsPlanRun plan journal
  plan_runs each journal kept = run_of each.marked each.finds each.once plan is runs (laws.worded plan was) serial journal kept

  -- *Its calls may be made*
  may_call : (run : List Entry) → IsSoundRun plan run → has_checkpoint plan run ≡ true → IsFinishable plan run
  may_call run sound has = kept_runs_are_finishable plan (migration_of is.table.schema is.new) at is.table.rows of tries (own_table plan is) run sound.kept has

  module _ (run turns : List Entry) (sound : IsSoundRun plan run) (resumed : is_resumed plan run ≡ true) (finish : IsFinish plan run turns) (faithful : IsFaithful plan (run ++ turns)) where
    has : has_checkpoint plan run ≡ true
    has = resumed_has plan run resumed

    short : IsShort run
    short = journal_short plan run (small_plan was.bytes plan was.is) sound.kept sound.numbered sound.bound

    -- before the RENAME of the run's all turns together are a run of the plan
    pub together : IsUnaltered plan run → ExchangesAltered plan run turns × IsPlanRun plan (run ++ turns)
    together = altered_runs plan is at of tries plain run turns sound.kept short has finish faithful

    serial_so : RunLaws → IsSerial plan (run ++ turns)
    serial_so each = finish_serial plan is at of tries plain run turns sound.kept short has finish faithful (plan_runs each run sound.kept)

    few_so : RunLaws → FinishesAreFew → length turns ≤ most_turns plan (state_at plan run)
    few_so each few = few plan is at of tries plain accepted.few (plan_runs each) run turns sound.kept short has finish faithful

    ends_so : finishes.is_over (stage_behind plan run turns) ≡ true → EndsBehind plan run turns
    ends_so over = record {
      done = λ altered. done_so plan is at of tries plain run turns sound.kept short has finish faithful altered over;
      reverted = λ off. reverted_so plan is at of tries plain run turns sound.kept short has finish faithful off over;
      stands = stands_so plan is at of tries plain run turns sound.kept short has finish faithful laws.again;
    }

-- *Finishes may call*
pub finishes_may_call : ReadPlanLaws → FinishesMayCall
finishes_may_call laws plan run was sound has = may_call laws plan was run sound has

-- *Finishes are sound*
pub finishes_are_sound : ReadPlanLaws → RunLaws → FinishesAreFew → FinishesAreSound
unfolding FinishesAreSound
finishes_are_sound laws each few plan run turns was sound resumed finish faithful sessions = record {
  finish = finish;
  faithful = faithful;
  sessions = sessions;
  at_once = answers_come_at_once plan run turns sound.kept finish faithful;
  serial = serial_so laws plan was run turns sound resumed finish faithful each;
  draws = finish_draws plan run turns sound.kept finish faithful sound.draws;
  few = few_so laws plan was run turns sound resumed finish faithful each few;
}

-- *Finishes tell the ALTER*
pub finishes_tell_the_alter : ReadPlanLaws → FinishesTellTheAlter
finishes_tell_the_alter laws plan run turns was sound resumed finished over = ends_so laws plan was run turns sound resumed finished.finish finished.faithful over
