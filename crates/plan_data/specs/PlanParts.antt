-- What a plan of these parts says, and what is so of every accepted plan.
use Rattle.std.specs.Prelude.{◌≡◌, ◌≤◌, length, Some}
use Rattle.table_store.specs.Databases.{database}
use Rattle.plan_data.specs.declared.plan.TheConstants.{CLIENT_LIMIT}
use Rattle.plan_data.specs.declared.plan.AlteredSchema.{AlteredSchema}
use Rattle.plan_data.specs.declared.plan.PlanParts.{PlanParts}
use Rattle.plan_data.specs.PlanData.{PlanData, plan_altered}

abbrev pub data_of : PlanParts → PlanData
data_of parts = record {
  table = parts.table;
  alter = parts.alter;
  tables = database parts.tables;
  clients = parts.clients;
  operator = parts.operator;
  faults = parts.faults;
  turns = parts.turns;
  options = parts.options;
}

-- The plan's table exists, and its ALTER leaves this schema and map of it; and the plan has at most 64 clients.
pub record IsPlan (plan : PlanData) (new : AlteredSchema) : Type 0 where
  pub altered : plan_altered plan ≡ Some (new.schema, new.map)
  pub few : length plan.clients ≤ CLIENT_LIMIT
