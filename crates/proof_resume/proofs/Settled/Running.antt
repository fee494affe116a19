-- Where the migration stands, the new table is settled.
use Rattle.std.proofs.Common.{ℕ, List, subst}
use Rattle.server_model.specs.declared.entry.Entry.{Entry}
use Rattle.plan_data.specs.PlanData.{PlanData}
use Rattle.tool_program.specs.JournalWords.Journals.{state_at}
use Rattle.proof_journals.specs.Plans.{limits_of, scene_of}
use Rattle.proof_journals.specs.Holdings.{stored}
use Rattle.proof_journals.specs.Ghost.HeldKeys.{Clustered}
use Rattle.proof_journals.specs.Ghost.Rows.Moments.{Row}
use Rattle.proof_journals.specs.Ghost.Rows.Timelines.{IsPlanned, Migration}
use Rattle.proof_journals.specs.Ghost.ToolTurns.{ToolMoment}
use Rattle.proof_journals.proofs.Ghost.Running.{any_kept}
use Rattle.proof_migration.specs.Migration.Copier.CopierPlace.{copy_state}
use Rattle.proof_migration.specs.Migration.Machines.{Machines, MigrationStands, moment_at}
use Rattle.proof_resume.specs.Reached.Coverage.{left_in}
use Rattle.proof_resume.specs.Settled.NewTable.{IsSettled}
use Rattle.proof_resume.proofs.Settled.NewTable.{relations_settle}

-- where the migration stands, in whatever sessions
pub stands_settle : (plan : PlanData) (m : Migration) (at : Clustered m.schema) (rows : List Row) → IsPlanned m rows → (some journal : List Entry) (now : Machines) → MigrationStands m at rows (limits_of plan) (scene_of plan some) journal now → (P : Type 0)
    → ((made : List Row) → IsSettled m rows (stored (state_at plan journal)) (now.applier).position (left_in (copy_state journal now.copier)) made → P) → P
stands_settle plan m at rows planned some journal now is P then =
    any_kept P m at rows now.copier_session now.applier_session there
    (λ apply kept. then kept.ghost.committed
    (subst (λ (p : ℕ). IsSettled m rows (stored (state_at plan journal)) p (left_in (copy_state journal now.copier)) kept.ghost.committed) kept.here
    (relations_settle m at rows there.copy apply kept.progress kept.ghost now.copier_session now.applier_session there.stored there.hold planned kept.tool))) is.tool.stands
  where
    there : ToolMoment
    there = moment_at m (state_at plan journal) journal now
