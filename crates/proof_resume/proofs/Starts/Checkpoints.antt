-- What the SELECT of the checkpoint's row answers: the rows with id 0, of which the stored one is the first.
use Rattle.std.proofs.Common.{◌≡◌, ℕ, pos, Bool, true, false, cond, List, [], ◌∷◌, filter, Option, Some, None, refl, sym, ap, ◌∙◌}
use Rattle.std.specs.Prelude.{codes, find}
use Rattle.base_values.specs.ToolNames.{log_name}
use Rattle.base_values.specs.declared.gho_schema.schema.Schema.{Schema}
use Rattle.base_values.specs.declared.value.Value.TheVariants.{Num}
use Rattle.base_values.specs.GhoSchema.Names.{same_name}
use Rattle.base_values.specs.Spans.{point}
use Rattle.base_values.specs.StoredValues.{seeks}
use Rattle.base_script.specs.declared.statement.Statement.{Statement}
use Rattle.base_script.specs.declared.statement.Statement.TheVariants as statements
use Rattle.base_script.specs.declared.statement.Shown.TheVariants as shown
use Rattle.base_script.specs.declared.statement.Condition.TheVariants.{Equal}
use Rattle.table_store.specs.Databases.{Database, TableRows, find_table}
use Rattle.server_model.specs.declared.answer.Answer.TheVariants as answers
use Rattle.server_model.specs.declared.work.Reach.{Reach}
use Rattle.server_model.specs.declared.work.Selection.TheVariants.{AllColumns}
use Rattle.server_model.specs.declared.work.Work.{Work}
use Rattle.server_model.specs.declared.work.Work.TheVariants as works
use Rattle.server_model.specs.Checks.{are_distinct, beside, places_named, reach_equal, reach_of, wanted_each, work_of}
use Rattle.server_model.specs.Operations.{operation_of, operation_result, result_in, result_of, statement_result}
use Rattle.server_model.specs.Rows.{reaches, rows_met}
use Rattle.server_model.specs.StatementResults.{tells}
use Rattle.server_model.proofs.LockedRows.Points2.{under_point}
use Rattle.tool_changelog.specs.ToolTables.{log_schema}
use Rattle.proof_journals.specs.Ghost.Rows.Moments.{Row}
use Rattle.proof_resume.specs.Reached.Checkpoints.{checkpoint_key, checkpoint_stored}
use Rattle.proof_resume.proofs.Reached.StoredRows.{at_id, stored_now}

-- the SELECT of the row with id 0
abbrev pub select : List ℕ → Statement
select t = statements.Select (log_name t) shown.All (Equal (record { column = codes "id"; value = Num (pos 0) } ∷ []))

-- what it reaches: the first unique key, which is the id, at 0
abbrev pub id_reach : Reach
id_reach = record { key = 0; span = point checkpoint_key }

select_work : (t : List ℕ) → work_of (log_schema t) (select t) ≡ works.Select id_reach AllColumns
unfolding work_of reach_of reach_equal places_named are_distinct beside wanted_each seeks same_name log_schema
select_work t = refl

abbrev pub rows_found : List ℕ → List Row → List Row
rows_found t rows = rows_met (log_schema t) id_reach rows

-- *What it says*
pub select_says : (t : List ℕ) (tables : Database) (table : TableRows) → find_table (log_name t) tables ≡ Some table → table.schema ≡ log_schema t → statement_result tables (select t) ≡ record { answer = answers.Rows (rows_found t table.rows); events = [] }
unfolding operation_result tells
select_says t tables table found schema =
    ap (result_in (operation_of (select t))) found
    ∙ ap (λ (s : Schema). result_of (log_name t) (tells s table.rows (work_of s (select t)))) schema
    ∙ ap (λ (w : Work). result_of (log_name t) (tells (log_schema t) table.rows w)) (select_work t)

-- a row is reached where it is at the id
reached_at : (t : List ℕ) (row : Row) → reaches (log_schema t) id_reach row ≡ at_id row
unfolding log_schema
reached_at t row = under_point (record { name = None; places = 0 ∷ [] }) checkpoint_key row refl

-- the first of rows
abbrev pub first_of : List Row → Option Row
first_of [] = None
first_of (row ∷ rows) = Some row

first_found : (kept test : Row → Bool) → ((row : Row) → kept row ≡ test row) → (rows : List Row) → find test rows ≡ first_of (filter kept rows)
first_found kept test same [] = refl
first_found kept test same (row ∷ rows) = by (test row) (first_found kept test same rows) ∙ ap (λ (b : Bool). first_of (cond b (row ∷ filter kept rows) (filter kept rows))) (sym (same row)) where
  by : (b : Bool) → find test rows ≡ first_of (filter kept rows) → cond b (Some row) (find test rows) ≡ first_of (cond b (row ∷ filter kept rows) (filter kept rows))
  by true rest = refl
  by false rest = rest

-- *The stored row is the first*
pub stored_first : (t : List ℕ) (tables : Database) (table : TableRows) → find_table (log_name t) tables ≡ Some table → table.schema ≡ log_schema t → checkpoint_stored t tables ≡ first_of (rows_found t table.rows)
stored_first t tables table found schema = stored_now t tables table found schema ∙ first_found (reaches (log_schema t) id_reach) at_id (reached_at t) table.rows
