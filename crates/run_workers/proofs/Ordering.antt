-- The turns that workers took stand in run order.
use Rattle.std.proofs.Common.{◌≡◌, ◌<◌, ℕ, true, List, sym, subst}
use Rattle.std.specs.List.{All}
use Rattle.server_model.specs.declared.entry.Entry.{Entry}
use Rattle.plan_data.specs.PlanData.{PlanData}
use Rattle.tool_program.specs.JournalWords.Journals.{state_at}
use Rattle.tool_program.specs.Orders.{WorkerTurn, RunOrder}
use Rattle.run_turns.specs.Runs.{RunView, is_over, Stops}
use Rattle.run_workers.specs.WorkerRun.WorkedRuns.{turns_of, journal_of, IsWorkersRun, WasOver, WorkedView}
use Rattle.run_workers.proofs.WorkerRun.Listing.{run_ordered, stopped, was_over}

-- what a turn queue that has ended leaves is in run order
pub ran_ordered : (done : WorkedView) (plan : PlanData) (workers : ℕ) (journal : List Entry) (turns : List WorkerTurn) → IsWorkersRun done.plan done.workers done.list → done.plan ≡ plan → done.workers ≡ workers → All (λ taken. taken.worker < workers) done.list
    → journal ≡ journal_of done.list → turns ≡ turns_of done.list → RunOrder plan journal turns workers
ran_ordered done plan workers journal turns is plan_is workers_are below journal_is turns_are =
    subst (λ (p : PlanData). RunOrder p journal turns workers) plan_is
    (subst (λ (all : List Entry). RunOrder done.plan all turns workers) (sym journal_is)
    (subst (λ (all : List WorkerTurn). RunOrder done.plan (journal_of done.list) all workers) (sym turns_are)
    (subst (λ (n : ℕ). All (λ taken. taken.worker < n) done.list → RunOrder done.plan (journal_of done.list) (turns_of done.list) n) workers_are (run_ordered done.plan done.workers done.list is.rule) below)))

-- where its shared state was over, the run is over
pub ran_over : (done : WorkedView) (plan : PlanData) (journal : List Entry) → IsWorkersRun done.plan done.workers done.list → done.plan ≡ plan → journal ≡ journal_of done.list → WasOver done.plan (journal_of done.list) → is_over plan journal ≡ true
ran_over done plan journal is plan_is journal_is was =
    subst (λ (p : PlanData). is_over p journal ≡ true) plan_is (subst (λ (all : List Entry). is_over done.plan all ≡ true) (sym journal_is) (was_over done.plan done.workers done.list is.rule was))

-- and no turn was taken where it was
pub ran_stopped : (done : WorkedView) (plan : PlanData) (journal : List Entry) → IsWorkersRun done.plan done.workers done.list → done.plan ≡ plan → journal ≡ journal_of done.list → Stops plan journal
ran_stopped done plan journal is plan_is journal_is = subst (λ (p : PlanData). Stops p journal) plan_is (subst (Stops done.plan) (sym journal_is) (stopped done.plan done.workers done.list is.rule))

-- where it is over the server is at its end
pub ran_stands : (run : RunView) (plan : PlanData) → run.plan ≡ plan → (is_over run.plan run.journal ≡ true → run.server ≡ state_at run.plan run.journal) → is_over plan run.journal ≡ true → run.server ≡ state_at plan run.journal
ran_stands run plan plan_is stands = subst (λ (p : PlanData). is_over p run.journal ≡ true → run.server ≡ state_at p run.journal) plan_is stands
