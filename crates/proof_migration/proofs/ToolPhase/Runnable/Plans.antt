-- Every alterable plan whose words fit is runnable.
use Rattle.std.proofs.Common.{◌≡◌, [], Option, Some, Ok, unwrap_or, sym, ap, subst, ◌∙◌}
use Rattle.std.specs.Option.{option_map}
use Rattle.base_values.specs.Laws.{StoresAgain}
use Rattle.base_values.specs.declared.gho_schema.schema.Schema.{Schema}
use Rattle.sql_change.specs.AlteredSchema.{altered}
use Rattle.proof_schemas.proofs.Alters.KeepingLaws.{altered-valid}
use Rattle.table_store.specs.Databases.{TableRows}
use Rattle.base_values.specs.SchemaRules.Valid.{IsValid}
use Rattle.plan_data.specs.PlanData.{PlanData, Altered, altered_by, no_schema, old_schema, new_altered, new_schema, new_map}
use Rattle.server_model.specs.Conditions.{IsMapOf}
use Rattle.server_model.proofs.LockedRows.Counters.{found_named}
use Rattle.proof_journals.specs.Machine.MigrationTables.{TableExists}
use Rattle.proof_journals.specs.Machine.TableKeys.{IsMapped}
use Rattle.proof_journals.proofs.Results.{was_ok}
use Rattle.proof_migration.specs.ToolPhase.Runnable.{IsAlterable, IsWorded, AlterablePlansAreRunnable}
use Rattle.proof_migration.proofs.ToolPhase.Runnable.Origins.{altered_is_mapped}

-- the migrated table has the plan's name for it
pub named : (plan : PlanData) (is : IsAlterable plan) → is.table.schema.name ≡ plan.table
named plan is = found_named plan.table plan.tables is.table is.found

module _ (plan : PlanData) (is : IsAlterable plan) where
  old_is : old_schema plan ≡ is.table.schema
  old_is = ap (λ (t : Option TableRows). unwrap_or (option_map (λ table. table.schema) t) no_schema) is.found

  new_is : new_altered plan ≡ is.new
  new_is = ap (λ (s : Schema). unwrap_or (altered_by plan s) (no_schema, [])) old_is ∙ ap (λ (o : Option Altered). unwrap_or o (no_schema, [])) is.alters

  taken : altered plan.options.approve_renamed_columns is.table.schema plan.alter ≡ Ok is.new
  taken = was_ok (altered plan.options.approve_renamed_columns is.table.schema plan.alter) is.new is.alters

  new_valid : StoresAgain → IsWorded plan → IsValid (new_schema plan)
  unfolding new_schema
  new_valid again worded =
      subst (λ (n : Altered). IsValid n.0) (sym new_is) (altered-valid again plan.options.approve_renamed_columns is.table.schema plan.alter is.new is.valid worded.clauses taken)

  stands : TableExists plan
  stands = ap (λ (t : Option TableRows). option_map (λ table. table.schema) t) is.found ∙ ap Some (sym old_is)

  mapped : IsMapped plan
  unfolding new_schema new_map
  mapped =
      let made : IsMapOf is.new.1 is.table.schema is.new.0 = altered_is_mapped plan.options.approve_renamed_columns is.table.schema plan.alter is.new is.valid taken in
      let both : IsMapOf (new_altered plan).1 (old_schema plan) (new_altered plan).0 =
      subst (λ (n : Altered). IsMapOf n.1 (old_schema plan) n.0) (sym new_is) (subst (λ (s : Schema). IsMapOf is.new.1 s is.new.0) (sym old_is) made) in
      record { origins = both.origins; columns = both.columns }

-- *Alterable plans are runnable*
pub alterables_run : StoresAgain → AlterablePlansAreRunnable
alterables_run again plan is worded = record {
  fitting = record { scripts = worded.scripts; names = worded.names; chunk = worded.chunk; commands = worded.commands; batch = worded.batch; valid = new_valid plan is again worded };
  tables = is.tables;
  stands = stands plan is;
  mapped = mapped plan is;
}
