-- In every journal that follows an alterable plan's program the new table is, at the mark, the altered one.
use Rattle.std.proofs.Common.{◌≡◌, ℕ, List, [], Option, Some, sym, ap, ◌∙◌, subst}
use Rattle.std.specs.Prelude.{unwrap_or}
use Rattle.std.specs.Option.{option_map}
use Rattle.base_values.specs.Laws.{StoresAgain}
use Rattle.base_values.specs.declared.gho_schema.schema.Schema.{Schema}
use Rattle.base_values.specs.SchemaRules.Valid.{IsValid}
use Rattle.sql_change.specs.AlteredSchema.{altered}
use Rattle.table_store.specs.Databases.{TableRows, find_table}
use Rattle.plan_data.specs.PlanData.{Altered, PlanData, altered_by, new_altered, new_map, new_schema, no_schema, old_schema}
use Rattle.base_values.specs.ToolNames.{ghost_name}
use Rattle.proof_journals.specs.Plans.{IsSerialPlan}
use Rattle.proof_journals.specs.Ghost.Rows.Timelines.{IsPlanned, Migration}
use Rattle.proof_journals.specs.Ghost.HeldKeys.{Clustered}
use Rattle.proof_journals.proofs.Ghost.Keys.{clustered}
use Rattle.proof_migration.specs.Migration.Planning.{migration_of}
use Rattle.proof_migration.proofs.Migration.Planning.Planned.{alters_planned}
use Rattle.proof_migration.proofs.Migration.Applier.Stated.{alters_find_rows}
use Rattle.proof_journals.specs.Machine.Runnable.{IsRunnable}
use Rattle.proof_journals.proofs.Results.{was_ok}
use Rattle.proof_migration.specs.ToolPhase.Runnable.{AlterablePlansAreRunnable, IsAlterable}
use Rattle.proof_migration.proofs.ToolPhase.Runnable.Plans.{named}
use Rattle.proof_migration.specs.Program.Turns.Goes.{IsOf}
use Rattle.proof_migration.specs.Program.Turns.Laws.{IsMigrationOf}
use Rattle.proof_migration.proofs.Program.Turns.GoingOn.{marks_are_altered}
use Rattle.proof_migration.specs.Program.Laws.{FollowersAlter}
use Rattle.proof_migration.proofs.Program.Starts.{followers_go}

module _ (plan : PlanData) (is : IsAlterable plan) where
  abbrev m : Migration
  m = migration_of is.table.schema is.new

  name_is : is.table.schema.name ≡ plan.table
  name_is = named plan is

  -- the migrated table is found by its own name
  pub own_table : find_table is.table.schema.name plan.tables ≡ Some is.table
  own_table = ap (λ (name : List ℕ). find_table name plan.tables) name_is ∙ is.found

  old_is : old_schema plan ≡ is.table.schema
  old_is = ap (λ (found : Option TableRows). unwrap_or (option_map (λ table. table.schema) found) no_schema) is.found

  altered_is : new_altered plan ≡ is.new
  altered_is = ap (λ (found : Option Altered). unwrap_or found (no_schema, [])) (ap (altered_by plan) old_is ∙ is.alters)

  schema_is : new_schema plan ≡ is.new.0
  unfolding new_schema
  schema_is = ap (λ (a : Altered). a.0) altered_is

  map_is : new_map plan ≡ is.new.1
  unfolding new_map
  map_is = ap (λ (a : Altered). a.1) altered_is

  pub of_plan : IsOf plan m
  of_plan = record {
    name = name_is;
    new = ap (λ (n : List ℕ). record (is.new.0) { name = ghost_name n }) name_is ∙ ap (λ (s : Schema). record s { name = ghost_name plan.table }) (sym schema_is);
    columns = sym map_is;
  }

  valid : IsRunnable plan → IsValid is.new.0
  valid runs = subst IsValid schema_is runs.fitting.valid

  pub migration : StoresAgain → IsRunnable plan → IsSerialPlan plan → IsMigrationOf plan m is.table.rows
  migration again runs serial =
      let planned : IsPlanned m is.table.rows =
      alters_planned again plan.options.approve_renamed_columns is.table.schema plan.alter is.new is.table.rows is.valid
      (was_ok (altered plan.options.approve_renamed_columns is.table.schema plan.alter) is.new is.alters) is.is_table in
      let new : Clustered m.new = clustered m.new planned.new_key in
      record {
        runs = runs;
        serial = serial;
        of = of_plan;
        planned = planned;
        finds = alters_find_rows plan.options.approve_renamed_columns is.table.schema plan.alter is.new is.valid (valid runs) (was_ok (altered plan.options.approve_renamed_columns is.table.schema plan.alter) is.new is.alters);
        place = new.place;
        is_place = new.at;
      }

-- *Followers alter*
pub followers_alter : StoresAgain → AlterablePlansAreRunnable → FollowersAlter
followers_alter again runnable plan is worded serial journal kept mark =
    let of : IsMigrationOf plan (migration_of is.table.schema is.new) is.table.rows = migration plan is again (runnable plan is worded) serial in
    let at : Clustered is.table.schema = clustered is.table.schema of.planned.old_key in
    marks_are_altered plan (migration_of is.table.schema is.new) at is.table.rows of journal kept mark
    (followers_go plan (migration_of is.table.schema is.new) at is.table.rows of (own_table plan is) journal mark.work kept mark.unaltered mark.going mark.tool_phase)
