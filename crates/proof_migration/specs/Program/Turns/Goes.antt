-- How the migration stands after a journal that follows the program, in whatever sessions its machines go on.
use Rattle.std.specs.Prelude.{◌≡◌, ◌<◌, ℕ, ◌==◌, false, List, [], Some}
use Rattle.base_script.specs.declared.actor.Actor.TheVariants.{Copy, Apply}
use Rattle.server_model.specs.declared.entry.Entry.{Entry}
use Rattle.server_model.specs.declared.request.Request.{Request}
use Rattle.plan_data.specs.PlanData.{PlanData, new_map}
use Rattle.tool_program.specs.JournalWords.Sessions.{live_session}
use Rattle.tool_program.specs.declared.chunk_copier.copier.Copier.{Copier}
use Rattle.tool_program.specs.ChunkCopier.Copiers as copiers
use Rattle.tool_program.specs.ChunkCopier.Copiers.{resized}
use Rattle.tool_program.specs.declared.event_applier.applier.Applier.{Applier}
use Rattle.tool_program.specs.EventApplier.Appliers as appliers
use Rattle.tool_program.specs.Tools.{Work}
use Rattle.proof_journals.specs.Plans.{limits_of, scene_of}
use Rattle.proof_journals.specs.Ghost.Rows.Moments.{Row}
use Rattle.proof_journals.specs.Ghost.Rows.Timelines.{Migration}
use Rattle.proof_journals.specs.Ghost.HeldKeys.{Clustered}
use Rattle.proof_journals.specs.Machine.Standings.{MayTake, standing_of}
use Rattle.proof_journals.specs.Machine.MigrationTables.{ghost_schema}
use Rattle.proof_migration.specs.Migration.Machines.{Machines, MigrationStands}

-- the migration of the plan's table
pub record IsOf (plan : PlanData) (m : Migration) : Type 0 where
  pub name : m.name ≡ plan.table
  pub new : m.new ≡ ghost_schema plan
  pub columns : m.columns ≡ new_map plan

-- two sessions in which the copier and the applier may go on: their live ones, else new ones
pub record ActorStates (journal : List Entry) (copier applier : ℕ) : Type 0 where
  pub copy : MayTake journal copier (live_session journal Copy)
  pub apply : MayTake journal applier (live_session journal Apply)
  pub two : (copier == applier) ≡ false

-- these two machines in these sessions
abbrev pub machines_of : Copier → ℕ → Applier → ℕ → Machines
machines_of copier copies applier applies = record { copier = copier; copier_session = copies; applier = applier; applier_session = applies }

-- those of the tool's work
abbrev pub machines_in : Work → ℕ → ℕ → Machines
machines_in work copies applies = machines_of work.copier copies work.applier applies

-- *The migration stands for these machines*, in whatever sessions they go on
abbrev pub StandsFor : (plan : PlanData) (m : Migration) → Clustered m.schema → List Row → List Entry → Copier → Applier → Type 0
StandsFor plan m at rows journal copier applier = (copies applies : ℕ) → ActorStates journal copies applies → MigrationStands m at rows (limits_of plan) (scene_of plan []) journal (machines_of copier copies applier applies)

-- the copier's call that waits is its next one, but that the size of chunks may have been another then
pub record CopyWaits (journal : List Entry) (copier : Copier) (request : Request) : Type 0 where
  pub size : ℕ
  pub some : 0 < size
  pub next : copiers.next journal (resized size copier) ≡ Some request

-- *The migration goes*: it stands in whatever sessions the two machines go on, and what waits is their next call
pub record Goes (plan : PlanData) (m : Migration) (at : Clustered m.schema) (rows : List Row) (journal : List Entry) (work : Work) : Type 0 where
  pub stands : StandsFor plan m at rows journal work.copier work.applier
  pub copy_waits : (request : Request) → (standing_of plan journal Copy).waits ≡ Some request → CopyWaits journal work.copier request
  pub apply_waits : (request : Request) → (standing_of plan journal Apply).waits ≡ Some request → appliers.next journal work.applier ≡ request
  pub map : work.copier.map ≡ m.columns
  pub schema : work.applier.new_schema ≡ m.new
  pub apply_map : work.applier.map ≡ m.columns
