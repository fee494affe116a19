-- *Tables of the migration*: what is under the names of the migrated table and of the new one while rows are copied.
use Rattle.std.specs.Prelude.{◌≡◌, ℕ, Bool, true, false, List, Option, Some, None}
use Rattle.std.specs.Option.{option_map}
use Rattle.base_script.specs.declared.actor.Actor.{Actor}
use Rattle.base_script.specs.declared.actor.Actor.TheVariants.{Insp, Copy}
use Rattle.base_values.specs.declared.gho_schema.schema.Schema.{Schema}
use Rattle.table_store.specs.Databases.{Database, find_table}
use Rattle.server_model.specs.declared.request.Request.{Request}
use Rattle.server_model.specs.declared.request.Request.TheVariants as requests
use Rattle.server_model.specs.Operations.{table_of}
use Rattle.plan_data.specs.PlanData.{PlanData, old_schema, new_schema}
use Rattle.base_values.specs.ToolNames.{ghost_name, log_name}
use Rattle.tool_program.specs.declared.cutover_core.cutover.Phase.TheVariants.{Resting}
use Rattle.tool_program.specs.Setups.{Setup, Listing, Clearing, MakingLog, MakingGhost, Marking, Reaching, Ready, setup_call}
use Rattle.tool_program.specs.Tools.{ToolPhase, SettingUp, Migrating, Work}
use Rattle.proof_journals.specs.Machine.Standings.{Standing}

-- the schema under the name
abbrev pub schema_of : List ℕ → Database → Option Schema
schema_of name tables = option_map (λ table. table.schema) (find_table name tables)

-- the new table's
abbrev pub ghost_schema : PlanData → Schema
ghost_schema plan = record (new_schema plan) { name = ghost_name plan.table }

-- the migrated table is as it was, and the new one exists
pub record TablesExist (plan : PlanData) (tables : Database) : Type 0 where
  pub old : schema_of plan.table tables ≡ Some (old_schema plan)
  pub ghost : schema_of (ghost_name plan.table) tables ≡ Some (ghost_schema plan)

-- the new table was made
abbrev pub past_ghost : Setup → Bool
past_ghost Listing = false
past_ghost (Clearing left) = false
past_ghost MakingLog = false
past_ghost MakingGhost = false
past_ghost Marking = true
past_ghost (Reaching position) = true
past_ghost (Ready position range) = true

pub record SetupTables (plan : PlanData) (tables : Database) (has : Actor → Standing) (setup : Setup) : Type 0 where
  pub old : schema_of plan.table tables ≡ Some (old_schema plan)
  pub ghost : past_ghost setup ≡ true → schema_of (ghost_name plan.table) tables ≡ Some (ghost_schema plan)
  pub waits : (request : Request) → (has Insp).waits ≡ Some request → setup_call plan setup ≡ Some request

-- a row of the changelog is written
abbrev pub WritesLog : PlanData → Request → Type 0
WritesLog plan (requests.Do statement) = table_of statement ≡ log_name plan.table
WritesLog plan request = ⊥

-- while the range isn't copied no attempt was begun, and nothing is asked that makes, drops or renames a table: the inspector writes
-- notes alone
pub record Uncopied (plan : PlanData) (stored : Database) (has : Actor → Standing) (work : Work) : Type 0 where
  pub tables : TablesExist plan stored
  pub inspector : (request : Request) → (has Insp).waits ≡ Some request → WritesLog plan request
  pub phase : work.cutover.phase ≡ Resting
  pub renamer : work.cutover.renamer_waits ≡ false

pub record WorkTables (plan : PlanData) (tables : Database) (has : Actor → Standing) (work : Work) : Type 0 where
  pub going : work.copier.is_copied ≡ false → Uncopied plan tables has work
  pub copied : work.copier.is_copied ≡ true → (has Copy).waits ≡ None

abbrev pub ToolPhaseTables : PlanData → Database → (Actor → Standing) → ToolPhase → Type 0
ToolPhaseTables plan tables has (SettingUp setup tries) = SetupTables plan tables has setup
ToolPhaseTables plan tables has (Migrating work) = WorkTables plan tables has work

-- the plan's migrated table exists
abbrev pub TableExists : PlanData → Type 0
TableExists plan = schema_of plan.table plan.tables ≡ Some (old_schema plan)
