-- The turns that workers took are those of their passes.
use Rattle.std.proofs.Common.{◌≡◌, ◌<◌, ℕ, List, length, sym, subst}
use Rattle.std.specs.List.{All}
use Rattle.server_model.specs.declared.entry.Entry.{Entry}
use Rattle.tool_program.specs.Orders.{WorkerTurn}
use Rattle.run_desk.specs.declared.shared_state.Entry.{Entry as Taken}
use Rattle.run_desk.specs.Turns.{PassView, TurnQueueList}
use Rattle.run_workers.specs.declared.worker_run.worked.Opening.{Opening}
use Rattle.run_workers.specs.WorkerRun.WorkedRuns.{listed}
use Rattle.run_workers.specs.Passes.{IsByPasses}

-- so it is of the passes with which the turn queue ended
pub by_passes : (list : List (Taken Entry)) (passes : List (PassView Opening Entry)) (workers : ℕ) (journal : List Entry) (turns : List WorkerTurn) → length passes ≡ workers → All (λ pass. pass.worker < workers) passes → TurnQueueList list passes → listed turns journal ≡ list → IsByPasses passes journal turns workers
by_passes list passes workers journal turns count numbers turn_queue is = record {
  count = count;
  numbers = numbers;
  list = subst (λ (entries : List (Taken Entry)). TurnQueueList entries passes) (sym is) turn_queue;
}
