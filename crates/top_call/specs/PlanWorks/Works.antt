-- *Sound run by workers* of a plan: what holds of the journal and the turns that workers leave. (This project's rule.)
use Rattle.std.specs.Prelude.{ℕ, List}
use Rattle.server_model.specs.declared.entry.Entry.{Entry}
use Rattle.plan_data.specs.PlanData.{PlanData}
use Rattle.tool_program.specs.Orders.{WorkerTurn, RunOrder}
use Rattle.proof_feeds.specs.Laws.{StaysBehind}
use Rattle.top_call.specs.WholeReplays.SoundRuns.{IsSoundRun}

-- *Sound run by workers*: a sound run in which each turn is of one of this many workers, and of the actor that the rule gives that worker.
-- It stays behind its replica, where the plan has one. That the run is over is said apart.
pub record IsSoundRunByWorkers (plan : PlanData) (journal : List Entry) (turns : List WorkerTurn) (workers : ℕ) : Type 0 where
  pub sound : IsSoundRun plan journal
  pub order : RunOrder plan journal turns workers
  pub behind : StaysBehind plan journal
