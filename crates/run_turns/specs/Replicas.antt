-- *Replica of a plan*: the tables whose events it counts are the plan's. (This project's rule.)
use Rattle.std.specs.Prelude.{◌≡◌, [], ◌∷◌}
use Rattle.base_values.specs.ToolNames.{log_name}
use Rattle.plan_data.specs.PlanData.{PlanData}
use Rattle.tool_program.specs.Feeds.{read_tables}
use Rattle.run_turns.specs.declared.replica.Replica.{Replica}

pub record IsReplicaOf (plan : PlanData) (replica : Replica) : Type 0 where
  pub read : replica.read ≡ read_tables plan
  pub log : replica.log ≡ log_name plan.table ∷ []
