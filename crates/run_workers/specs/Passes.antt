-- *By passes*: the turns of a run by workers, as the workers' passes have them. (This project's rule.)
use Rattle.std.specs.Prelude.{◌≡◌, ◌<◌, ℕ, List, length, All}
use Rattle.server_model.specs.declared.entry.Entry.{Entry}
use Rattle.tool_program.specs.Orders.{WorkerTurn}
use Rattle.run_desk.specs.Turns.{PassView, TurnQueueList}
use Rattle.run_workers.specs.declared.worker_run.worked.Opening.{Opening}
use Rattle.run_workers.specs.WorkerRun.WorkedRuns.{listed}

-- *By passes*: these are the passes by which the workers took the turns. Each worker had one, since there are as many passes as
-- workers, their numbers are below that, and no two are of one worker. Each worker's turns, as its pass has them, are in the list
-- once and in their order, and there are no others.
pub record IsByPasses (passes : List (PassView Opening Entry)) (journal : List Entry) (turns : List WorkerTurn) (workers : ℕ) : Type 0 where
  pub count : length passes ≡ workers
  pub numbers : All (λ pass. pass.worker < workers) passes
  pub list : TurnQueueList (listed turns journal) passes
