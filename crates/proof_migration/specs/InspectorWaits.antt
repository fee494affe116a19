-- When the inspector waits.
use Rattle.std.specs.Prelude.{◌≡◌, ℕ, List, Some}
use Rattle.base_script.specs.declared.actor.Actor.TheVariants.{Insp}
use Rattle.base_values.specs.ToolNames.{ghost_name}
use Rattle.server_model.specs.declared.entry.Entry.{Entry}
use Rattle.server_model.specs.declared.request.Request.{Request}
use Rattle.server_model.specs.declared.request.Request.TheVariants as requests
use Rattle.plan_data.specs.PlanData.{PlanData}
use Rattle.tool_program.specs.declared.cutover_core.cutover.Clearing.TheVariants.{Looking}
use Rattle.tool_program.specs.declared.cutover_core.cutover.Phase.{Phase}
use Rattle.tool_program.specs.declared.cutover_core.cutover.Phase.TheVariants.{Attempting, Ending}
use Rattle.tool_program.specs.declared.cutover_core.cutover.Stage.TheVariants.{SettingCounter}
use Rattle.tool_program.specs.Tools.{ToolPhase, SettingUp, Migrating, moment}
use Rattle.proof_journals.specs.Machine.Runnable.{IsRunnable}
use Rattle.proof_journals.specs.Machine.Standings.{standing_of}
use Rattle.proof_journals.specs.Plans.{IsSerialPlan}
use Rattle.proof_journals.specs.Run.Kept.{IsKept}

-- the request sets the new table's counter, in its stage, or after the attempt has failed meanwhile
abbrev pub SetsCounter : PlanData → Phase → Request → Type 0
SetsCounter plan (Attempting (SettingCounter number drain)) request = request ≡ requests.SetCounter (ghost_name plan.table) number
SetsCounter plan (Ending Looking) request = (number : ℕ) × (request ≡ requests.SetCounter (ghost_name plan.table) number)
SetsCounter plan phase request = ⊥

abbrev pub IsSettingCounter : PlanData → ToolPhase → Request → Type 0
IsSettingCounter plan (SettingUp setup tries) request = ⊥
IsSettingCounter plan (Migrating work) request = SetsCounter plan work.cutover.phase request

-- *Inspectors wait to set a counter*: after every journal that is kept the inspector's request that waits, if one does, sets the new
-- table's counter. That one waits while the applier has rows of the new table locked. Nobody else ever has the changelog's name, and
-- the old table's nobody has while the inspector drops that table: so no other request of the inspector's waits.
abbrev pub InspectorsWaitToSet : Type 0
InspectorsWaitToSet =
    (plan : PlanData) (journal : List Entry) (request : Request) → IsRunnable plan → IsSerialPlan plan → IsKept plan journal → (standing_of plan journal Insp).waits ≡ Some request → IsSettingCounter plan (moment plan journal).tool.tool_phase request
