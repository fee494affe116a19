-- What the applier's statements answer.
use Rattle.std.proofs.Common.{◌≡◌, ℕ, true, List, find, Option, Some, None, Err, refl, ap, ◌∙◌, subst}
use Rattle.std.specs.Prelude.{option_to_list}
use Rattle.base_values.specs.declared.gho_schema.schema.Schema.{Schema}
use Rattle.base_values.specs.GhoSchema.Rows.{key_places}
use Rattle.base_values.specs.GhoSchema.Tables.{IsRow, IsTable, no_null}
use Rattle.base_values.specs.declared.row_conversion.conversion_fault.UnfitAt.{UnfitAt}
use Rattle.base_values.specs.declared.mysql_errors.TheConstants.{ER_DUP_ENTRY}
use Rattle.table_store.specs.Databases.{Database, find_table}
use Rattle.table_store.specs.RowLists.{is_at}
use Rattle.server_model.specs.declared.answer.Answer.{Answer}
use Rattle.server_model.specs.declared.work.Reach.{Reach}
use Rattle.server_model.specs.declared.work.Work.{Work}
use Rattle.server_model.specs.declared.work.Work.TheVariants as works
use Rattle.server_model.specs.Answers.{refuses, refuses_value}
use Rattle.server_model.specs.Operations.{Operation, operation_result}
use Rattle.server_model.specs.Rows.{rows_met}
use Rattle.server_model.specs.StatementResults.{TableResult, tells, updated}
use Rattle.server_model.specs.LockedRows.Databases.{IsWellFormedDatabase, WhereFound}
use Rattle.server_model.specs.LockedRows.Coverage.{IsWellFormedTable}
use Rattle.proof_journals.specs.Ghost.Rows.Moments.{Row}
use Rattle.proof_journals.specs.Ghost.Rows.Timelines.{Migration}
use Rattle.proof_journals.specs.Ghost.HeldKeys.{Clustered}
use Rattle.proof_journals.specs.Ghost.Statements.{by_key, delete_at, unfit_at, update_at}
use Rattle.proof_journals.proofs.Ghost.Applying.{UpdateReported, key_met, update_reported}
use Rattle.proof_journals.proofs.Ghost.Applying.UpdateReported.{missed, rested, changed, refused}
use Rattle.proof_migration.proofs.Migration.Copier.Rows.{Counted, operation_tells}

-- the new table, as a session sees it, is a table
pub record TableSeen (m : Migration) (seen : Database) : Type 0 where
  pub rows : List Row
  pub is : find_table m.new.name seen ≡ Some (record { schema = m.new; rows = rows })
  pub fits : IsTable m.new rows

pub table_seen : (m : Migration) (seen : Database) (rows : List Row) → IsWellFormedDatabase seen → find_table m.new.name seen ≡ Some (record { schema = m.new; rows = rows }) → TableSeen m seen
table_seen m seen rows well_formed is = record { rows = rows; is = is; fits = (subst (WhereFound IsWellFormedTable) is (well_formed.each m.new.name)).is_table }

-- an UPDATE whose values store is done, or refused with ER_DUP_ENTRY
pub data ChangeAnswer (seen : Database) (operation : Operation) : Type 0 where
  counts : Counted seen operation → ChangeAnswer seen operation
  clashes : (operation_result seen operation).answer ≡ refuses ER_DUP_ENTRY → ChangeAnswer seen operation

-- an UPDATE whose values don't store meets no row, or is refused
pub data UnfitAnswer (m : Migration) (seen : Database) (rows : List Row) (operation : Operation) (key : Row) (fault : UnfitAt) : Type 0 where
  misses : find (is_at (key_places m.new) key) rows ≡ None → Counted seen operation → UnfitAnswer m seen rows operation key fault
  refuses_it : (operation_result seen operation).answer ≡ refuses_value fault → UnfitAnswer m seen rows operation key fault

tells_unfit : (schema : Schema) (rows : List Row) (reach : Reach) (fault : UnfitAt) → (tells schema rows (works.Update reach (Err fault))).answer ≡ (updated schema (Err fault) (rows_met schema reach rows) rows).answer
unfolding tells
tells_unfit schema rows reach fault = refl

module _ (m : Migration) (seen : Database) (there : TableSeen m seen) (operation : Operation) (named : operation.table ≡ m.new.name) where
  reported : (work : Work) → operation.work m.new ≡ work → (operation_result seen operation).answer ≡ (tells m.new there.rows work).answer
  reported work does = operation_tells seen operation m.new there.rows work (ap (λ (n : List ℕ). find_table n seen) named ∙ there.is) does

  pub refused_answer : (refusal : Answer) → operation.work m.new ≡ works.Refuse refusal → (operation_result seen operation).answer ≡ refusal
  unfolding tells
  refused_answer refusal does = reported (works.Refuse refusal) does

  pub put_answer : (made : Row) → operation.work m.new ≡ works.Replace made → Counted seen operation
  unfolding tells
  put_answer made does = record { count = _; is = reported (works.Replace made) does }

  pub remove_answer : (place : ℕ) (key : Row) → operation.work m.new ≡ delete_at place key → Counted seen operation
  unfolding tells
  remove_answer place key does = record { count = _; is = reported (delete_at place key) does }

  pub change_answer : (at : Clustered m.new) (key made : Row) → no_null key ≡ true → IsRow m.new.columns made → operation.work m.new ≡ update_at at.place key made → ChangeAnswer seen operation
  change_answer at key made full fits does = by _ (update_reported m.new at key made there.rows full there.fits fits)
    where
      answer : (operation_result seen operation).answer ≡ (tells m.new there.rows (update_at at.place key made)).answer
      answer = reported (update_at at.place key made) does

      by : (found : Option Row) → UpdateReported m.new made there.rows found (tells m.new there.rows (update_at at.place key made)) → ChangeAnswer seen operation
      by found (missed none is) = counts (record { count = 0; is = answer ∙ ap (λ (t : TableResult). t.answer) is })
      by found (rested same is) = counts (record { count = 0; is = answer ∙ ap (λ (t : TableResult). t.answer) is })
      by found (changed old was is) = counts (record { count = 1; is = answer ∙ ap (λ (t : TableResult). t.answer) is })
      by found (refused old was clash is) = clashes (answer ∙ ap (λ (t : TableResult). t.answer) is)

  pub unfit_answer : (at : Clustered m.new) (key : Row) (fault : UnfitAt) → no_null key ≡ true → operation.work m.new ≡ unfit_at at.place key fault → UnfitAnswer m seen there.rows operation key fault
  unfit_answer at key fault full does = by (find (is_at (key_places m.new) key) there.rows) refl
    where
      answer : (operation_result seen operation).answer ≡ (updated m.new (Err fault) (option_to_list (find (is_at (key_places m.new) key) there.rows)) there.rows).answer
      answer = reported (unfit_at at.place key fault) does ∙ tells_unfit m.new there.rows (by_key at.place key) fault ∙ ap (λ (met : List Row). (updated m.new (Err fault) met there.rows).answer) (key_met m.new at key there.rows full there.fits.ascends)

      by : (found : Option Row) → find (is_at (key_places m.new) key) there.rows ≡ found → UnfitAnswer m seen there.rows operation key fault
      by None is = misses is (record { count = 0; is = answer ∙ ap (λ (f : Option Row). (updated m.new (Err fault) (option_to_list f) there.rows).answer) is })
      by (Some row) is = refuses_it (answer ∙ ap (λ (f : Option Row). (updated m.new (Err fault) (option_to_list f) there.rows).answer) is)
