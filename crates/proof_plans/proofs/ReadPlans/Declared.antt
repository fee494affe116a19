-- Each table of a plan that is read is one that CREATE TABLE gives, and so is what its ALTER leaves.
use Rattle.std.proofs.Common.{◌≡◌, ℕ, List, [], Option, Some, Ok, sym, ap, ◌∙◌, subst}
use Rattle.std.specs.Prelude.{unwrap_or}
use Rattle.std.specs.List.{AllByRecursion}
use Rattle.std.specs.Option.{option_map}
use Rattle.base_values.specs.SchemaRules.Valid.{IsValid}
use Rattle.table_store.specs.Databases.{TableRows}
use Rattle.sql_change.specs.AlteredSchema.{altered}
use Rattle.plan_data.specs.PlanData.{Altered, PlanData, altered_by, new_altered, new_schema, no_schema, old_schema}
use Rattle.plan_reader.specs.Plans.{read}
use Rattle.plan_reader.specs.PlanTables.Tables.{IsSound}
use Rattle.plan_reader.proofs.Opened.{opening_is}
use Rattle.proof_schemas.specs.ReadAgain.{IsDeclared}
use Rattle.proof_schemas.proofs.Alters.Counting.{altered-declared}
use Rattle.proof_journals.proofs.Results.{was_ok}
use Rattle.proof_plans.specs.ReadPlans.Schemas.{IsAccepted}
use Rattle.proof_plans.proofs.ReadPlans.Parts.{IsReadPlan, parts_of}
use Rattle.proof_plans.proofs.ReadPlans.Stated.{read_laws}
use Rattle.proof_plans.proofs.ReadPlans.Tables.{IsMade, found_is, tables_made}

module _ (bytes : List ℕ) (plan : PlanData) (is : read bytes ≡ Ok plan) (accepted : IsAccepted plan) where
  pub made : AllByRecursion (IsMade plan.table) plan.tables
  made =
      let parts : IsReadPlan plan = parts_of bytes plan is in
      let opened = opening_is parts.keys parts.opening parts.opened in
      subst (λ (p : PlanData). AllByRecursion (IsMade p.table) p.tables) parts.same (tables_made read_laws parts.keys.version parts.keys.texts.table 1 [] parts.keys.texts.tables parts.opening.tables tt opened.tables)

  pub table_is : old_schema plan ≡ accepted.table.schema
  table_is = ap (λ (o : Option TableRows). unwrap_or (option_map (λ (t : TableRows). t.schema) o) no_schema) accepted.found

  pub altered_is : new_altered plan ≡ accepted.new
  altered_is = ap (λ (o : Option Altered). unwrap_or o (no_schema, [])) (ap (altered_by plan) table_is ∙ accepted.alters)

  pub old_made : IsDeclared plan.table (old_schema plan)
  old_made = subst (IsDeclared plan.table) (sym table_is) (found_is (IsMade plan.table) plan.table plan.tables accepted.table made accepted.found).is

  pub old_valid : IsValid (old_schema plan)
  old_valid = subst IsValid (sym table_is) (found_is IsSound plan.table plan.tables accepted.table accepted.sound accepted.found).is.valid

  pub alters : altered plan.options.approve_renamed_columns (old_schema plan) plan.alter ≡ Ok (new_altered plan)
  alters = was_ok (altered plan.options.approve_renamed_columns (old_schema plan) plan.alter) (new_altered plan) (ap (altered_by plan) table_is ∙ accepted.alters ∙ ap Some (sym altered_is))

  pub new_made : IsDeclared plan.table (new_schema plan)
  unfolding new_schema
  new_made = altered-declared plan.table plan.options.approve_renamed_columns (old_schema plan) plan.alter (new_altered plan) old_valid old_made alters
