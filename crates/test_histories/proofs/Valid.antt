-- Schemas stay lawful.
use Rattle.std.proofs.Common.{◌≡◌, ℕ, Bool, true, false, cond, List, [], ◌∷◌, Option, Some, None, Result, Ok, Err, refl, sym, ap, ◌∙◌, subst}
use Rattle.std.specs.List.{AllByRecursion}
use Rattle.std.specs.Option.{option_map}
use Rattle.std.specs.Result.{result_ok}
use Rattle.base_values.specs.declared.gho_schema.schema.Schema.{Schema}
use Rattle.base_values.specs.RowConversion.ConvertedRows.{converted_rows}
use Rattle.base_values.specs.declared.row_conversion.clause.Clause.{Clause}
use Rattle.proof_schemas.specs.Alters.Laws.{AlteredSchemasAreValid, IsClause}
use Rattle.sql_change.specs.AlteredSchema.{altered}
use Rattle.sql_change.specs.declared.code.AlterCode.{AlterCode}
use Rattle.base_values.specs.declared.event.RowEvent.{RowEvent}
use Rattle.table_store.proofs.Orders.{Row}
use Rattle.table_store.specs.Databases.{TableRows, Database, find_table, is_named, with_change}
use Rattle.base_values.specs.SchemaRules.Valid.{IsValid}
use Rattle.base_values.proofs.SchemaRules.Steps.{some_is}
use Rattle.server_model.specs.LockedRows.Databases.{WhereFound}
use Rattle.server_model.specs.Alone.{Ran, alone, lines_run, nothing_ran, outcome_if, stays}
use Rattle.server_model.specs.Operations.{after_events, change_table}
use Rattle.server_model.specs.declared.transaction.TxnLine.{TxnLine}
use Rattle.plan_data.specs.PlanData.{PlanData}
use Rattle.tool_program.specs.JournalWords.AlteredTables.{Altered, altered_by, altered_table, imaged, plan_altered_table}
use Rattle.tool_program.specs.JournalWords.Serials.{altered_database, altered_in}
use Rattle.test_histories.specs.Histories.{AreValid}

-- a change that leaves each table's schema lawful
changed_valid : (name : List ℕ) (change : TableRows → TableRows) → ((table : TableRows) → IsValid table.schema → IsValid (change table).schema) → (tables : Database) → AreValid tables → AreValid (with_change name change tables)
changed_valid name change keeps [] all = tt
changed_valid name change keeps (table ∷ tables) all = (by (is_named name table), changed_valid name change keeps tables all.1) where
  by : (b : Bool) → IsValid (cond b (change table) table).schema
  by true = keeps table all.0
  by false = all.0

events_valid : (tables : Database) (events : List RowEvent) → AreValid tables → AreValid (after_events tables events)
unfolding after_events
events_valid tables [] all = all
events_valid tables (event ∷ events) all = events_valid (with_change event.table (change_table event.change) tables) events (changed_valid event.table (change_table event.change) (λ table is. is) tables all)

pub alone_valid : (tables : Database) (lines : List TxnLine) → AreValid tables → AreValid (alone tables lines).tables
unfolding alone
alone_valid tables lines all = by (stays lines) (lines_run tables nothing_ran lines) where
  by : (b : Bool) (ran : Ran) → AreValid (outcome_if b tables ran).tables
  by true ran = events_valid tables ran.writes all
  by false ran = all

pub found_valid : (name : List ℕ) (tables : Database) → AreValid tables → WhereFound (λ table. IsValid table.schema) (find_table name tables)
found_valid name [] all = tt
found_valid name (table ∷ tables) all = by (is_named name table) (found_valid name tables all.1) where
  by : (b : Bool) → WhereFound (λ found. IsValid found.schema) (find_table name tables) → WhereFound (λ found. IsValid found.schema) (cond b (Some table) (find_table name tables))
  by true later = all.0
  by false later = later

-- THE ALTER

imaged_schema : (new : Altered) (rows : List Row) (table : TableRows) → imaged (Some new) rows ≡ Some table → table.schema ≡ new.0
imaged_schema new rows table is = by (converted_rows new.1 rows) is where
  by : (made : Option (List Row)) → option_map (λ rows. record { schema = new.0; rows = rows }) made ≡ Some table → table.schema ≡ new.0
  by None is = absurd cc
  by (Some made) is = ap (λ (t : TableRows). t.schema) (sym (some_is (record { schema = new.0; rows = made }) table is))

altered_schema : AlteredSchemasAreValid → (approve : Bool) (clauses : List Clause) (table new : TableRows) → IsValid table.schema → AllByRecursion IsClause clauses → altered_table approve clauses table ≡ Some new → IsValid new.schema
unfolding altered_table
altered_schema valid approve clauses table new is kinds made = by (altered approve table.schema clauses) refl made where
  by : (read : Result Altered AlterCode) → altered approve table.schema clauses ≡ read → imaged (result_ok read) table.rows ≡ Some new → IsValid new.schema
  by (Ok schema) read made = subst IsValid (sym (imaged_schema schema table.rows new made)) (valid approve table.schema clauses schema is kinds read)
  by (Err code) read made = absurd cc

pub altered_valid : AlteredSchemasAreValid → (plan : PlanData) (tables after : Database) → AllByRecursion IsClause plan.alter → AreValid tables → altered_database plan tables ≡ Some after → AreValid after
unfolding altered_database
altered_valid valid plan tables after kinds all is = by (find_table plan.table tables) (found_valid plan.table tables all) is where
  with_new : (table : TableRows) → IsValid table.schema → (new : Option TableRows) → plan_altered_table plan table ≡ new → option_map (λ made. with_change plan.table (λ old. made) tables) new ≡ Some after → AreValid after
  with_new table is None made so = absurd cc
  with_new table is (Some new) made so =
      let new_is : IsValid new.schema = altered_schema valid plan.options.approve_renamed_columns plan.alter table new is kinds made in
      subst AreValid (some_is (with_change plan.table (λ old. new) tables) after so) (changed_valid plan.table (λ old. new) (λ old was. new_is) tables all)

  by : (found : Option TableRows) → WhereFound (λ table. IsValid table.schema) found → altered_in plan tables found ≡ Some after → AreValid after
  by None where_found so = absurd cc
  by (Some table) where_found so = with_new table where_found (plan_altered_table plan table) refl so
