-- What an audit asks of a plan and of a trace, and that each trace that is read has it.
use Rattle.std.specs.Prelude.{◌≡◌, ℕ, true, List, Ok}
use Rattle.std.specs.List.{AllByRecursion}
use Rattle.std.specs.Str.{IsUtf8}
use Rattle.plan_data.specs.PlanData.{PlanData}
use Rattle.server_model.specs.LockedRows.Coverage.{IsWellFormedTable}
use Rattle.run_audit.specs.declared.trace.Trace.{Trace}
use Rattle.proof_migration.specs.ToolPhase.Runnable.{IsAlterable, IsWorded}
use Rattle.run_auditor.specs.AllClients.{is_of_plan}
use Rattle.run_auditor.specs.Judging.{AltersTables}
use Rattle.top_trace_reader.specs.Traces.{read_trace}

-- *Alterable plans alter tables*: where their words fit, the ALTER makes a table of each table of the migrated one's schema.
abbrev pub AlterablePlansAlterTables : Type 0
AlterablePlansAlterTables = (plan : PlanData) → IsAlterable plan → IsWorded plan → AltersTables plan

-- *May be audited*: the trace has turns of the plan's actors alone, the plan's tables have clustered keys, and its ALTER makes tables
-- of tables.
pub record MayBeAudited (plan : PlanData) (trace : Trace) : Type 0 where
  pub known : AllByRecursion (λ line. is_of_plan plan line.actor ≡ true) trace.lines
  pub tables : AllByRecursion IsWellFormedTable plan.tables
  pub alters : AltersTables plan

-- *Read traces may be audited*, where the name of the plan's table is a text, as every `Name` is.
abbrev pub ReadTracesMayBeAudited : Type 0
ReadTracesMayBeAudited = (bytes : List ℕ) (plan : PlanData) (trace : Trace) → read_trace bytes ≡ Ok (plan, trace) → IsUtf8 plan.table → MayBeAudited plan trace
