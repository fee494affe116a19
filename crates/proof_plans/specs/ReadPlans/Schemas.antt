-- What holds of every accepted plan. The functions of `law_journals::plans` prove each.
use Rattle.std.specs.Prelude.{◌≡◌, ◌≤◌, ℕ, List, length, Some, Ok}
use Rattle.std.specs.List.{AllByRecursion}
use Rattle.table_store.specs.Databases.{TableRows, NamesDiffer, find_table}
use Rattle.plan_data.specs.declared.plan.TheConstants.{CLIENT_LIMIT}
use Rattle.plan_data.specs.PlanData.{PlanData, Altered, altered_by}
use Rattle.plan_data.specs.KeptRows.{KeepsRows}
use Rattle.plan_reader.specs.PlanTables.Tables.{IsSound}
use Rattle.plan_reader.specs.Plans.{read}

-- A plan of at most 64 clients, whose tables are tables of valid schemas with different names, the migrated one among them, and
-- whose ALTER can be done and keeps the rows' keys.
pub record IsAccepted (plan : PlanData) : Type 0 where
  pub few : length plan.clients ≤ CLIENT_LIMIT
  pub sound : AllByRecursion IsSound plan.tables
  pub differ : NamesDiffer plan.tables
  pub table : TableRows
  pub found : find_table plan.table plan.tables ≡ Some table
  pub new : Altered
  pub alters : altered_by plan table.schema ≡ Some new
  pub keeps : KeepsRows table.schema new

-- Every plan that is accepted is such a one.
abbrev pub ReadPlansAreAccepted : Type 0
ReadPlansAreAccepted = (bytes : List ℕ) (plan : PlanData) → read bytes ≡ Ok plan → IsAccepted plan
