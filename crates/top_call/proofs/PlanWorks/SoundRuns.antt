-- The run of a plan that was read by workers.
use Rattle.std.proofs.Common.{◌≡◌, ◌≤◌, ℕ, List, length, sym, subst, ◌∙◌}
use Rattle.server_model.specs.declared.entry.Entry.{Entry}
use Rattle.plan_data.specs.PlanData.{PlanData}
use Rattle.tool_program.specs.JournalWords.Sessions.{NumbersSessions}
use Rattle.tool_program.specs.Orders.{WorkerTurn, RunOrder}
use Rattle.proof_journals.specs.Run.Kept.{IsKept}
use Rattle.proof_feeds.proofs.Behind.{run_turns_may_go, turns_stay_behind}
use Rattle.proof_plans.specs.ReadPlans.Laws.{WasRead}
use Rattle.run_turns.specs.Runs.{RunView, Stops}
use Rattle.top_call.specs.ResumedRuns.{IsWholeRun, Resumes, run_in}
use Rattle.top_call.specs.WholeReplays.SoundRuns.{KeptRunsAreSound}
use Rattle.top_call.specs.PlanWorks.Works.{IsSoundRunByWorkers}
use Rattle.top_call.proofs.ResumedRuns.{of_whole, whole_resumes}

-- *Sound run by workers*
sound_by_workers : KeptRunsAreSound → (plan : PlanData) (journal : List Entry) (turns : List WorkerTurn) (workers : ℕ) → WasRead plan → IsKept plan journal → NumbersSessions journal → RunOrder plan journal turns workers → Stops plan journal → length journal ≤ plan.options.turn_limit → IsSoundRunByWorkers plan journal turns workers
unfolding KeptRunsAreSound
sound_by_workers sound plan journal turns workers was kept numbered order stops bound = record {
  sound = sound plan journal was kept numbered bound stops;
  order = order;
  behind = turns_stay_behind plan journal kept.follows (run_turns_may_go plan journal turns workers order);
}

-- of the run that workers left, which began with this plan
module _ (plan begun : PlanData) (run : RunView) (begun_is : begun ≡ plan) (plan_is : run.plan ≡ begun) where
  pub own_plan : run.plan ≡ plan
  own_plan = plan_is ∙ begun_is

  pub of_run : (P : PlanData → Type 0) → P begun → P plan
  of_run P is = subst P begun_is is

  pub sound_run_of : KeptRunsAreSound → (turns : List WorkerTurn) (workers : ℕ) → WasRead plan → IsKept begun run.journal → NumbersSessions run.journal → RunOrder begun run.journal turns workers → Stops begun run.journal → length run.journal ≤ run.plan.options.turn_limit → IsSoundRunByWorkers plan run.journal turns workers
  sound_run_of sound turns workers was kept numbered order stops bound =
      of_run (λ (p : PlanData). IsSoundRunByWorkers p run.journal turns workers)
      (sound_by_workers sound begun run.journal turns workers (subst WasRead (sym begun_is) was) kept numbered order stops (subst (λ (p : PlanData). length run.journal ≤ p.options.turn_limit) plan_is bound))

-- and of the journal that it left, with the new tool's turns where one came
module _ (plan : PlanData) (run : RunView) (plan_is : run.plan ≡ plan) (journal : List Entry) (turns : List WorkerTurn) (workers : ℕ) (whole : IsWholeRun run.plan run.journal journal) (is : IsSoundRunByWorkers plan run.journal turns workers) where
  whole_so : IsWholeRun plan run.journal journal
  whole_so = subst (λ (p : PlanData). IsWholeRun p run.journal journal) plan_is whole

  pub run_left : IsSoundRunByWorkers plan (run_in plan journal) turns workers
  run_left = of_whole (λ (all : List Entry). IsSoundRunByWorkers plan all turns workers) plan run.journal journal is.sound.bound whole_so is

  pub resumes_left : Resumes plan journal
  resumes_left = whole_resumes plan run.journal journal is.sound.bound whole_so
