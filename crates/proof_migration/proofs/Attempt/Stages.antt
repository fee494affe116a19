-- What stands on the server in each phase of the cut-over, and what each of its three actors' answers makes of that.
use Rattle.std.proofs.Common.{◌≡◌, ◌⊎◌, ℕ, Bool, true, false, Option, Some, None, ◌∙◌, inl, inr}
use Rattle.table_store.specs.Databases.{Database}
use Rattle.server_model.specs.declared.request.Request.{Request}
use Rattle.server_model.specs.declared.request.Request.TheVariants as requests
use Rattle.plan_data.specs.PlanData.{PlanData}
use Rattle.base_values.specs.ToolNames.{ghost_name, old_name}
use Rattle.tool_changelog.specs.ToolTables.{sentry_schema}
use Rattle.tool_program.specs.declared.cutover_core.cutover.Clearing.TheVariants.{Looking, Drops}
use Rattle.tool_program.specs.declared.cutover_core.cutover.CutOver.{CutOver}
use Rattle.tool_program.specs.declared.cutover_core.cutover.Hold.{Hold}
use Rattle.tool_program.specs.declared.cutover_core.cutover.Hold.TheVariants.{WaitsToGuard}
use Rattle.tool_program.specs.declared.cutover_core.cutover.Phase.{Phase}
use Rattle.tool_program.specs.declared.cutover_core.cutover.Phase.TheVariants.{Resting, Attempting, Ending, Finishing, Finished}
use Rattle.tool_program.specs.declared.cutover_core.cutover.Stage.{Stage}
use Rattle.tool_program.specs.declared.cutover_core.cutover.Stage.TheVariants.{Guarding, Locking, Hinting, ReadingCounter, SettingCounter, Draining, Drained, Showing, Dropping, Unlocking, Exchanging}
use Rattle.tool_program.specs.declared.cutover_core.cutover.Drain.TheVariants.{Turns, Passed}
use Rattle.tool_program.specs.CutoverCore.CutOvers.{sentry_alone, drained, ended}
use Rattle.proof_journals.specs.Machine.MigrationTables.{schema_of, TablesExist}
use Rattle.proof_journals.proofs.Machine.Schemas.{is_quiet}
use Rattle.proof_journals.proofs.Machine.CuttingOver.{drain_cases}
use Rattle.proof_migration.proofs.Attempt.Leaving.{AllStay}

-- WHAT STANDS

-- no table of the old one's name stands, or the sentry does
abbrev pub IsFree : PlanData → Database → Type 0
IsFree plan tables = schema_of (old_name plan.table) tables ≡ None

abbrev pub SentryAtMost : PlanData → Database → Type 0
SentryAtMost plan tables = IsFree plan tables ⊎ (schema_of (old_name plan.table) tables ≡ Some (sentry_schema plan.table))

pub record FreeTables (plan : PlanData) (tables : Database) : Type 0 where
  pub stand : TablesExist plan tables
  pub free : IsFree plan tables

pub record GuardedTables (plan : PlanData) (tables : Database) : Type 0 where
  pub stand : TablesExist plan tables
  pub sentry : SentryAtMost plan tables

-- the RENAME was done: no table of the new one's name stands
abbrev pub WasRenamed : PlanData → Database → Type 0
WasRenamed plan tables = schema_of (ghost_name plan.table) tables ≡ None

abbrev pub TablesAt : PlanData → Database → Phase → Type 0
TablesAt plan tables Resting = FreeTables plan tables
TablesAt plan tables (Attempting Guarding) = FreeTables plan tables
TablesAt plan tables (Attempting Locking) = GuardedTables plan tables
TablesAt plan tables (Attempting Hinting) = GuardedTables plan tables
TablesAt plan tables (Attempting (Draining turns)) = GuardedTables plan tables
TablesAt plan tables (Attempting (ReadingCounter drain)) = GuardedTables plan tables
TablesAt plan tables (Attempting (SettingCounter number drain)) = GuardedTables plan tables
TablesAt plan tables (Attempting Drained) = GuardedTables plan tables
TablesAt plan tables (Attempting Showing) = GuardedTables plan tables
TablesAt plan tables (Attempting Dropping) = GuardedTables plan tables
TablesAt plan tables (Attempting Unlocking) = FreeTables plan tables
TablesAt plan tables (Attempting Exchanging) = FreeTables plan tables
TablesAt plan tables (Ending Looking) = GuardedTables plan tables ⊎ WasRenamed plan tables
TablesAt plan tables (Ending (Drops left)) = GuardedTables plan tables
TablesAt plan tables (Finishing clearing) = Unit {0}
TablesAt plan tables Finished = Unit {0}

-- whether the RENAME waits
abbrev pub RenamerAt : Phase → Bool → Type 0
RenamerAt (Attempting Showing) waits = waits ≡ true
RenamerAt (Attempting Dropping) waits = waits ≡ true
RenamerAt (Attempting Unlocking) waits = waits ≡ true
RenamerAt (Attempting Exchanging) waits = waits ≡ true
RenamerAt (Ending Looking) waits = Unit {0}
RenamerAt (Finishing clearing) waits = Unit {0}
RenamerAt Finished waits = Unit {0}
RenamerAt Resting waits = waits ≡ false
RenamerAt (Attempting Guarding) waits = waits ≡ false
RenamerAt (Attempting Locking) waits = waits ≡ false
RenamerAt (Attempting Hinting) waits = waits ≡ false
RenamerAt (Attempting (Draining turns)) waits = waits ≡ false
RenamerAt (Attempting (ReadingCounter drain)) waits = waits ≡ false
RenamerAt (Attempting (SettingCounter number drain)) waits = waits ≡ false
RenamerAt (Attempting Drained) waits = waits ≡ false
RenamerAt (Ending (Drops left)) waits = waits ≡ false

-- until the attempt is drained its RENAME wasn't asked for
abbrev pub AskedAt : Phase → Bool → Type 0
AskedAt (Attempting Guarding) asked = asked ≡ false
AskedAt (Attempting Locking) asked = asked ≡ false
AskedAt (Attempting Hinting) asked = asked ≡ false
AskedAt (Attempting (Draining turns)) asked = asked ≡ false
AskedAt (Attempting (ReadingCounter drain)) asked = asked ≡ false
AskedAt (Attempting (SettingCounter number drain)) asked = asked ≡ false
AskedAt (Attempting Drained) asked = Unit {0}
AskedAt (Attempting Showing) asked = Unit {0}
AskedAt (Attempting Dropping) asked = Unit {0}
AskedAt (Attempting Unlocking) asked = Unit {0}
AskedAt (Attempting Exchanging) asked = Unit {0}
AskedAt Resting asked = Unit {0}
AskedAt (Ending clearing) asked = Unit {0}
AskedAt (Finishing clearing) asked = Unit {0}
AskedAt Finished asked = Unit {0}

-- while the sentry isn't made its CREATE waits
abbrev pub HoldAt : Phase → Hold → Type 0
HoldAt (Attempting Guarding) hold = hold ≡ WaitsToGuard
HoldAt (Attempting Locking) hold = Unit {0}
HoldAt (Attempting Hinting) hold = Unit {0}
HoldAt (Attempting (Draining turns)) hold = Unit {0}
HoldAt (Attempting (ReadingCounter drain)) hold = Unit {0}
HoldAt (Attempting (SettingCounter number drain)) hold = Unit {0}
HoldAt (Attempting Drained) hold = Unit {0}
HoldAt (Attempting Showing) hold = Unit {0}
HoldAt (Attempting Dropping) hold = Unit {0}
HoldAt (Attempting Unlocking) hold = Unit {0}
HoldAt (Attempting Exchanging) hold = Unit {0}
HoldAt Resting hold = Unit {0}
HoldAt (Ending clearing) hold = Unit {0}
HoldAt (Finishing clearing) hold = Unit {0}
HoldAt Finished hold = Unit {0}

-- what an attempt's end drops is the sentry alone
abbrev pub LeftAt : Phase → Type 0
LeftAt (Ending (Drops left)) = left ≡ sentry_alone
LeftAt (Ending Looking) = Unit {0}
LeftAt Resting = Unit {0}
LeftAt (Attempting stage) = Unit {0}
LeftAt (Finishing clearing) = Unit {0}
LeftAt Finished = Unit {0}

-- what the inspector asks, and so may wait with
abbrev pub InspectorAt : PlanData → Phase → Request → Type 0
InspectorAt plan Resting request = is_quiet request ≡ true
InspectorAt plan (Attempting stage) request = is_quiet request ≡ true
InspectorAt plan (Ending Looking) request = is_quiet request ≡ true
InspectorAt plan (Ending (Drops left)) request = request ≡ requests.Drop (old_name plan.table)
InspectorAt plan (Finishing clearing) request = Unit {0}
InspectorAt plan Finished request = Unit {0}

-- *All of it*: of the tables, of what the inspector waits with, and of the cut-over
pub record StandsAt (plan : PlanData) (stored : Database) (inspects : Option Request) (phase : Phase) (holding : Hold) (renames is_asked : Bool) : Type 0 where
  pub tables : TablesAt plan stored phase
  pub renamer : RenamerAt phase renames
  pub asked : AskedAt phase is_asked
  pub hold : HoldAt phase holding
  pub left : LeftAt phase
  pub inspector : (request : Request) → inspects ≡ Some request → InspectorAt plan phase request

-- SCHEMAS THAT STAY

pub stand_stay : (plan : PlanData) (before after : Database) → AllStay before after → TablesExist plan before → TablesExist plan after
stand_stay plan before after stay at = record { old = stay plan.table ∙ at.old; ghost = stay (ghost_name plan.table) ∙ at.ghost }

pub most_stay : (plan : PlanData) (before after : Database) → schema_of (old_name plan.table) after ≡ schema_of (old_name plan.table) before → SentryAtMost plan before → SentryAtMost plan after
most_stay plan before after same (inl free) = inl (same ∙ free)
most_stay plan before after same (inr sentry) = inr (same ∙ sentry)

pub free_stay : (plan : PlanData) (before after : Database) → AllStay before after → FreeTables plan before → FreeTables plan after
free_stay plan before after stay at = record { stand = stand_stay plan before after stay at.stand; free = stay (old_name plan.table) ∙ at.free }

pub guarded_stay : (plan : PlanData) (before after : Database) → AllStay before after → GuardedTables plan before → GuardedTables plan after
guarded_stay plan before after stay at = record { stand = stand_stay plan before after stay at.stand; sentry = most_stay plan before after (stay (old_name plan.table)) at.sentry }

pub tables_stay : (plan : PlanData) (before after : Database) → AllStay before after → (phase : Phase) → TablesAt plan before phase → TablesAt plan after phase
tables_stay plan before after stay Resting at = free_stay plan before after stay at
tables_stay plan before after stay (Attempting Guarding) at = free_stay plan before after stay at
tables_stay plan before after stay (Attempting Locking) at = guarded_stay plan before after stay at
tables_stay plan before after stay (Attempting Hinting) at = guarded_stay plan before after stay at
tables_stay plan before after stay (Attempting (Draining turns)) at = guarded_stay plan before after stay at
tables_stay plan before after stay (Attempting (ReadingCounter drain)) at = guarded_stay plan before after stay at
tables_stay plan before after stay (Attempting (SettingCounter number drain)) at = guarded_stay plan before after stay at
tables_stay plan before after stay (Attempting Drained) at = guarded_stay plan before after stay at
tables_stay plan before after stay (Attempting Showing) at = guarded_stay plan before after stay at
tables_stay plan before after stay (Attempting Dropping) at = guarded_stay plan before after stay at
tables_stay plan before after stay (Attempting Unlocking) at = free_stay plan before after stay at
tables_stay plan before after stay (Attempting Exchanging) at = free_stay plan before after stay at
tables_stay plan before after stay (Ending Looking) (inl at) = inl (guarded_stay plan before after stay at)
tables_stay plan before after stay (Ending Looking) (inr renamed) = inr (stay (ghost_name plan.table) ∙ renamed)
tables_stay plan before after stay (Ending (Drops left)) at = guarded_stay plan before after stay at
tables_stay plan before after stay (Finishing clearing) at = tt
tables_stay plan before after stay Finished at = tt

-- in a turn that leaves the tables, and behind which the inspector waits with nothing new
pub stands_stay : (plan : PlanData) (before after : Database) (old new : Option Request) (phase : Phase) (hold : Hold) (renames asked : Bool) → AllStay before after → ((request : Request) → new ≡ Some request → old ≡ Some request)
    → StandsAt plan before old phase hold renames asked → StandsAt plan after new phase hold renames asked
stands_stay plan before after old new phase hold renames asked stay fewer at =
    record { tables = tables_stay plan before after stay phase at.tables; renamer = at.renamer; asked = at.asked; hold = at.hold; left = at.left; inspector = λ request some. at.inspector request (fewer request some) }

-- AN ATTEMPT THAT FAILS

pub free_guards : (plan : PlanData) (tables : Database) → FreeTables plan tables → GuardedTables plan tables
free_guards plan tables at = record { stand = at.stand; sentry = inl at.free }

pub guarded_in : (plan : PlanData) (tables : Database) (stage : Stage) → TablesAt plan tables (Attempting stage) → GuardedTables plan tables
guarded_in plan tables Guarding at = free_guards plan tables at
guarded_in plan tables Locking at = at
guarded_in plan tables Hinting at = at
guarded_in plan tables (Draining turns) at = at
guarded_in plan tables (ReadingCounter drain) at = at
guarded_in plan tables (SettingCounter number drain) at = at
guarded_in plan tables Drained at = at
guarded_in plan tables Showing at = at
guarded_in plan tables Dropping at = at
guarded_in plan tables Unlocking at = free_guards plan tables at
guarded_in plan tables Exchanging at = free_guards plan tables at

module _ (plan : PlanData) (tables : Database) (inspects : Option Request) (hold : Hold) (renames asked : Bool) where
  abbrev At : Phase → Type 0
  At phase = StandsAt plan tables inspects phase hold renames asked

  pub fails : (stage : Stage) → At (Attempting stage) → At (Ending Looking)
  fails stage at = record { tables = inl (guarded_in plan tables stage at.tables); renamer = tt; asked = tt; hold = tt; left = tt; inspector = λ request some. at.inspector request some }

  -- a revert
  pub ended_at : (phase : Phase) → At phase → At (ended phase)
  ended_at (Attempting Unlocking) at = at
  ended_at (Attempting Exchanging) at = at
  ended_at (Attempting Guarding) at = fails Guarding at
  ended_at (Attempting Locking) at = fails Locking at
  ended_at (Attempting Hinting) at = fails Hinting at
  ended_at (Attempting (Draining turns)) at = fails (Draining turns) at
  ended_at (Attempting (ReadingCounter drain)) at = fails (ReadingCounter drain) at
  ended_at (Attempting (SettingCounter number drain)) at = fails (SettingCounter number drain) at
  ended_at (Attempting Drained) at = fails Drained at
  ended_at (Attempting Showing) at = fails Showing at
  ended_at (Attempting Dropping) at = fails Dropping at
  ended_at Resting at = at
  ended_at (Ending clearing) at = at
  ended_at (Finishing clearing) at = at
  ended_at Finished at = at

  -- an applier's turn
  pub drained_at : (cutover : CutOver) (hint : ℕ) (phase : Phase) → At phase → At (drained cutover hint phase)
  drained_at cutover hint (Attempting (Draining turns)) at =
      drain_cases At cutover hint turns (Draining turns) (λ same. record { tables = at.tables; renamer = at.renamer; asked = tt; hold = tt; left = tt; inspector = at.inspector }) (fails (Draining turns) at)
      (record { tables = at.tables; renamer = at.renamer; asked = at.asked; hold = tt; left = tt; inspector = at.inspector })
  drained_at cutover hint (Attempting (ReadingCounter (Turns turns))) at =
      drain_cases At cutover hint turns (ReadingCounter (Turns turns)) (λ same. record { tables = at.tables; renamer = at.renamer; asked = at.asked; hold = tt; left = tt; inspector = at.inspector }) (fails (ReadingCounter (Turns turns)) at)
      (record { tables = at.tables; renamer = at.renamer; asked = at.asked; hold = tt; left = tt; inspector = at.inspector })
  drained_at cutover hint (Attempting (SettingCounter number (Turns turns))) at =
      drain_cases At cutover hint turns (SettingCounter number (Turns turns)) (λ same. record { tables = at.tables; renamer = at.renamer; asked = at.asked; hold = tt; left = tt; inspector = at.inspector }) (fails (SettingCounter number (Turns turns)) at)
      (record { tables = at.tables; renamer = at.renamer; asked = at.asked; hold = tt; left = tt; inspector = at.inspector })
  drained_at cutover hint (Attempting (ReadingCounter Passed)) at = at
  drained_at cutover hint (Attempting (SettingCounter number Passed)) at = at
  drained_at cutover hint (Attempting Guarding) at = at
  drained_at cutover hint (Attempting Locking) at = at
  drained_at cutover hint (Attempting Hinting) at = at
  drained_at cutover hint (Attempting Drained) at = at
  drained_at cutover hint (Attempting Showing) at = at
  drained_at cutover hint (Attempting Dropping) at = at
  drained_at cutover hint (Attempting Unlocking) at = at
  drained_at cutover hint (Attempting Exchanging) at = at
  drained_at cutover hint Resting at = at
  drained_at cutover hint (Ending clearing) at = at
  drained_at cutover hint (Finishing clearing) at = at
  drained_at cutover hint Finished at = at
