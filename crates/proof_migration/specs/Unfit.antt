-- Which rows that can't be converted, as a verdict names them, stand.
use Rattle.std.specs.Prelude.{◌≡◌, ℕ, List}
use Rattle.base_values.specs.declared.value.Value.{Value}
use Rattle.server_model.specs.declared.entry.Entry.{Entry}
use Rattle.server_model.specs.declared.outcome.Cause.TheVariants as causes
use Rattle.server_model.specs.declared.outcome.Verdict.TheVariants.{Reverted}
use Rattle.plan_data.specs.PlanData.{PlanData}
use Rattle.tool_program.specs.Failures.{Stands}
use Rattle.tool_program.specs.Verdicts.{verdict_of}
use Rattle.proof_journals.specs.Plans.{IsSerialPlan}
use Rattle.proof_journals.specs.Run.Kept.{IsKept}
use Rattle.proof_migration.specs.ToolPhase.Runnable.{IsAlterable, IsWorded}

-- *Unfit rows stand*: where a verdict names a row that can't be converted, a value was refused so in that turn. The row stood
-- in the migrated table then, where the turn was the copier's; or an event of the table left it, where it was the applier's.
abbrev pub UnfitRowsStand : Type 0
UnfitRowsStand =
    (plan : PlanData) → IsAlterable plan → IsWorded plan → IsSerialPlan plan → (journal : List Entry) → IsKept plan journal → (turn : ℕ) (key : List Value) (column : List ℕ) (number : ℕ) → verdict_of plan journal ≡ Reverted (causes.Unfit turn key column number)
    → Stands plan journal (causes.Unfit turn key column number)
