-- What is asked of a plan, so that all that its program asks may be asked.
use Rattle.std.specs.List.{AllByRecursion}
use Rattle.plan_data.specs.PlanData.{PlanData}
use Rattle.server_model.specs.LockedRows.Coverage.{IsWellFormedTable}
use Rattle.proof_journals.specs.Machine.FormedPlans.{IsFitting}
use Rattle.proof_journals.specs.Machine.MigrationTables.{TableExists}
use Rattle.proof_journals.specs.Machine.TableKeys.{IsMapped}

-- *Runnable plan*: a fitting one, whose tables are tables with clustered keys, whose migrated table is among them, and whose
-- map is of that table and of the new one. (What a plan's reader asks of it, and what an ALTER that is taken leaves.)
pub record IsRunnable (plan : PlanData) : Type 0 where
  pub fitting : IsFitting plan
  pub tables : AllByRecursion IsWellFormedTable plan.tables
  pub stands : TableExists plan
  pub mapped : IsMapped plan
