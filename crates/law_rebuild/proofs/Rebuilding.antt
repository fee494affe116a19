-- A table whose log fits it is rebuilt from that log, once it is altered.
use Rattle.std.proofs.Common.{◌≡◌, length, List, Option, Some, Ok, sym, ap, ◌∙◌, subst}
use Rattle.base_values.specs.declared.event.RowEvent.{RowEvent}
use Rattle.base_values.specs.GhoSchema.Rows.{key_places}
use Rattle.base_values.specs.RowConversion.ConvertedRows.{converted_rows}
use Rattle.base_values.specs.SchemaRules.Valid.{IsValid}
use Rattle.base_values.proofs.SchemaRules.Steps.{some_is}
use Rattle.table_store.specs.Databases.{TableRows, find_table}
use Rattle.server_model.specs.LockedRows.Coverage.{IsWellFormedTable}
use Rattle.plan_data.specs.PlanData.{Altered, PlanData, altered_by, altered_in, plan_altered}
use Rattle.plan_data.specs.declared.plan.AlteredSchema.{AlteredSchema}
use Rattle.sql_change.specs.AlteredSchema.{altered}
use Rattle.proof_schemas.proofs.Alters.TableNames.{keep_names}
use Rattle.proof_journals.specs.Ghost.Rows.Moments.{LogFits, Row, rows_at}
use Rattle.proof_journals.specs.Plans.{IsSerialPlan}
use Rattle.proof_journals.proofs.Results.{was_ok}
use Rattle.proof_migration.specs.ToolPhase.Runnable.{IsAlterable}
use Rattle.proof_migration.proofs.ToolPhase.Runnable.Plans.{named}
use Rattle.proof_plans.proofs.ReadPlans.Tables.{found_is}
use Rattle.law_rebuild.specs.Laws.{IsRebuiltOf}
use Rattle.law_rebuild.specs.Marks.{changes_logged}
use Rattle.law_rebuild.proofs.Leading.{Leads, log_leads}
use Rattle.law_rebuild.proofs.Together.{logs_go_together}

by_found : (plan : PlanData) (table : TableRows) (new : Altered) → find_table plan.table plan.tables ≡ Some table → plan_altered plan ≡ Some new → altered_by plan table.schema ≡ Some new
unfolding plan_altered
by_found plan table new found is = ap (altered_in plan) (sym found) ∙ is

module _ (plan : PlanData) (table : TableRows) (new : AlteredSchema) (serial : IsSerialPlan plan) (is : IsAlterable plan) (found : find_table plan.table plan.tables ≡ Some table) (alters : plan_altered plan ≡ Some (new.schema, new.map)) where
  same : is.table ≡ table
  same = some_is is.table table (sym is.found ∙ found)

  pub own_name : table.schema.name ≡ plan.table
  own_name = ap (λ (t : TableRows). t.schema.name) (sym same) ∙ named plan is

  well_formed : IsWellFormedTable table
  well_formed = (found_is IsWellFormedTable plan.table plan.tables table serial.tables found).is

  valid : IsValid table.schema
  valid = subst (λ (t : TableRows). IsValid t.schema) same is.valid

  pub by_schema : altered_by plan table.schema ≡ Some (new.schema, new.map)
  by_schema = by_found plan table (new.schema, new.map) found alters

  taken : altered plan.options.approve_renamed_columns table.schema plan.alter ≡ Ok (new.schema, new.map)
  taken = was_ok (altered plan.options.approve_renamed_columns table.schema plan.alter) (new.schema, new.map) by_schema

  pub new_name : new.schema.name ≡ plan.table
  new_name = keep_names plan.options.approve_renamed_columns table.schema plan.alter (new.schema, new.map) taken ∙ own_name

  module _ (log : List RowEvent) (fits : LogFits plan.table table.schema table.rows log) where
    leads : Leads plan.table table.schema table.rows log
    leads = log_leads plan.table table.schema well_formed.keyed log table.rows well_formed.is_table fits

    -- *It is rebuilt*, where the rows that the log leads to are converted, and those are there
    pub rebuilt_from : (rows made : List Row) (then : Option TableRows) → rows_at plan.table (key_places table.schema) table.rows log (length log) ≡ rows → converted_rows new.map rows ≡ Some made → then ≡ Some (record { schema = new.schema; rows = made }) → IsRebuiltOf table new (changes_logged plan.table log) then
    rebuilt_from rows made then led converted stands = record {
      together = logs_go_together plan.options.approve_renamed_columns table.schema plan.alter new table.rows (changes_logged plan.table log) valid well_formed.keyed taken well_formed.is_table leads.fits;
      made = made;
      converted = ap (converted_rows new.map) (leads.leads ∙ led) ∙ converted;
      stands = stands;
    }
