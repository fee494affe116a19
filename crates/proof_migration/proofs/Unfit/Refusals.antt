-- What the applier's statements are refused: a value has a place only where the row that they write has no image there.
use Rattle.server_model.specs.declared.request.Request.{Request}
use Rattle.proof_migration.proofs.ToolServes.{filled_so}
use Rattle.std.proofs.Common.{◌≡◌, ℕ, Bool, true, false, cond, List, [], ◌∷◌, map, Option, Some, None, Result, Ok, Err, refl, sym, ap, ◌∙◌, subst}
use Rattle.std.specs.Option.{option_map}
use Rattle.base_values.specs.StoredValues.{error_number}
use Rattle.base_values.specs.declared.unfit.Unfit.{Unfit as Fault}
use Rattle.base_values.specs.declared.value.Value.{Value}
use Rattle.base_values.specs.declared.gho_schema.schema.Schema.{Schema}
use Rattle.base_values.specs.GhoSchema.Rows.{key_of, key_places}
use Rattle.base_values.specs.GhoSchema.Tables.{IsRow}
use Rattle.base_values.specs.declared.row_conversion.conversion_fault.UnfitAt.{UnfitAt}
use Rattle.base_values.specs.declared.row_conversion.map.MapColumn.{MapColumn}
use Rattle.base_values.specs.RowConversion.ConvertedRows.{converted_row}
use Rattle.base_values.specs.declared.event.Change.{Change}
use Rattle.base_values.specs.declared.event.Change.TheVariants as changes
use Rattle.base_values.specs.declared.mysql_errors.TheConstants.{ER_DUP_ENTRY}
use Rattle.table_store.specs.Databases.{TableRows, Database, find_table}
use Rattle.base_script.specs.declared.statement.Statement.{Statement}
use Rattle.server_model.specs.declared.answer.Answer.{Answer}
use Rattle.server_model.specs.declared.answer.Answer.TheVariants as answers
use Rattle.server_model.specs.declared.request.Request.TheVariants as requests
use Rattle.server_model.specs.declared.work.Work.{Work}
use Rattle.server_model.specs.declared.work.Work.TheVariants as works
use Rattle.server_model.specs.Answers.{refuses, refuses_value}
use Rattle.server_model.specs.Checks.{work_of}
use Rattle.server_model.specs.Effects.{effect_unless, is_outside}
use Rattle.server_model.specs.Operations.{operation_of, operation_result, result_in, table_of}
use Rattle.server_model.specs.Rows.{change_rows, rows_met, same_row}
use Rattle.server_model.specs.StatementResults.{change_first, clashes_besides, result_or_refusal, tells, updated, updates, with_sets}
use Rattle.server_model.specs.PlainServer.{does, done, did}
use Rattle.server_model.specs.States.{State, is_in_transaction, session_of, view, writes_of, is_of_tool}
use Rattle.tool_program.specs.EventApplier.Appliers.{Doing, row_done}
use Rattle.tool_program.specs.EventApplier.Appliers.Doing.{Putting, Removing, Changing}
use Rattle.proof_journals.specs.Ghost.Rows.Moments.{Row}
use Rattle.proof_journals.specs.Ghost.Rows.Timelines.{IsPlanned, Migration}
use Rattle.proof_journals.specs.Ghost.Statements.{by_key, delete_at, unfit_at, update_at}
use Rattle.proof_migration.specs.Migration.Applier.FoundColumns.{FindsRows}
use Rattle.proof_migration.proofs.Migration.Applier.Keys.{new_at}
use Rattle.proof_migration.proofs.Migration.Applier.Planning.{DoesRows}
use Rattle.proof_migration.proofs.Migration.Applier.Statements.{change_unfit, change_work, put_unfit, put_work, remove_work, said, said_of}
use Rattle.proof_journals.specs.Machine.MigrationTables.{schema_of}
use Rattle.proof_journals.proofs.Machine.Schemas.{schema_events}

-- the row has no image at this place, with this number
pub record HasNoConvertedRow (columns : List MapColumn) (row : Row) (place number : ℕ) : Type 0 where
  pub fault : Fault
  pub refuses : converted_row columns row ≡ Err (record { column = place; unfit = fault })
  pub numbered : error_number fault ≡ number

-- a refusal that has a place tells of such a row
abbrev pub RowFits : List MapColumn → Row → Answer → Type 0
RowFits columns row (answers.Refused number (Some place)) = HasNoConvertedRow columns row place number
RowFits columns row answer = Unit {0}

no_converted_row : (columns : List MapColumn) (row : Row) (at : UnfitAt) → converted_row columns row ≡ Err at → RowFits columns row (refuses_value at)
no_converted_row columns row at imaged = record { fault = at.unfit; refuses = imaged; numbered = refl }

-- UPDATES

-- no refusal of changes has a place
abbrev ErrFits : List MapColumn → Row → Result (List Change) Answer → Type 0
ErrFits columns row (Ok all) = Unit {0}
ErrFits columns row (Err refusal) = RowFits columns row refusal

first_fits : (columns : List MapColumn) (row : Row) (change : Change) (r : Result (List Change) Answer) → ErrFits columns row r → ErrFits columns row (change_first change r)
first_fits columns row change (Ok others) fits = tt
first_fits columns row change (Err refusal) fits = fits

updates_fit : (columns : List MapColumn) (row : Row) (schema : Schema) (sets : List (Option Value)) (met rows : List Row) → ErrFits columns row (updates schema sets met rows)
unfolding updates
updates_fit columns row schema sets [] rows = tt
updates_fit columns row schema sets (old ∷ met) rows =
    by (same_row old (with_sets sets old)) (clashes_besides schema (with_sets sets old) old rows) (updates schema sets met rows)
    (change_first (changes.Update old (with_sets sets old)) (updates schema sets met (change_rows (key_places schema) (changes.Update old (with_sets sets old)) rows)))
    (updates_fit columns row schema sets met rows)
    (first_fits columns row (changes.Update old (with_sets sets old)) (updates schema sets met (change_rows (key_places schema) (changes.Update old (with_sets sets old)) rows)) (updates_fit columns row schema sets met (change_rows (key_places schema) (changes.Update old (with_sets sets old)) rows))) where
      by : (same clashes : Bool) (r s : Result (List Change) Answer) → ErrFits columns row r → ErrFits columns row s → ErrFits columns row (cond same r (cond clashes (Err (refuses ER_DUP_ENTRY)) s))
      by true clashes r s one two = one
      by false true r s one two = tt
      by false false r s one two = two

reported_fits : (columns : List MapColumn) (row : Row) (r : Result (List Change) Answer) → ErrFits columns row r → RowFits columns row (result_or_refusal r).answer
reported_fits columns row (Ok all) fits = tt
reported_fits columns row (Err refusal) fits = fits

-- where the values don't store, the first row that is met is refused
met_fits : (columns : List MapColumn) (row : Row) (schema : Schema) (at : UnfitAt) (met rows : List Row) → converted_row columns row ≡ Err at → RowFits columns row (updated schema (Err at) met rows).answer
met_fits columns row schema at [] rows imaged = tt
met_fits columns row schema at (old ∷ met) rows imaged = no_converted_row columns row at imaged

-- WHAT A STATEMENT SAYS

module _ (m : Migration) (rows : List Row) (plan : IsPlanned m rows) (finds : FindsRows m) where
  abbrev Fits : Row → Answer → Type 0
  Fits row answer = RowFits m.columns row answer

  -- what its work on the new table tells
  abbrev Reported : Doing → List Row → Type 0
  Reported doing view = Fits (row_done (Some doing)) (tells m.new view (work_of m.new (said m.new m.columns doing))).answer

  by_work : (doing : Doing) (view : List Row) (work : Work) → work_of m.new (said m.new m.columns doing) ≡ work → Fits (row_done (Some doing)) (tells m.new view work).answer → Reported doing view
  by_work doing view work is fits = subst (λ (w : Work). Fits (row_done (Some doing)) (tells m.new view w).answer) (sym is) fits

  put_reported : (row : Row) (view : List Row) → Reported (Putting row) view
  unfolding tells
  put_reported row view = by (converted_row m.columns row) refl where
    by : (made : Result Row UnfitAt) → converted_row m.columns row ≡ made → Reported (Putting row) view
    by (Ok made) imaged = by_work (Putting row) view (works.Replace made) (put_work m rows plan finds row made imaged) tt
    by (Err at) imaged = by_work (Putting row) view (works.Refuse (refuses_value at)) (put_unfit m rows plan finds row at imaged) (no_converted_row m.columns row at imaged)

  remove_reported : (row : Row) (view : List Row) → IsRow m.schema.columns row → Reported (Removing row) view
  unfolding tells
  remove_reported row view fits = by_work (Removing row) view (delete_at (new_at m rows plan finds).place (key_of (key_places m.schema) row)) (remove_work m rows plan finds row fits) tt

  change_reported : (old new : Row) (view : List Row) → IsRow m.schema.columns old → Reported (Changing old new) view
  unfolding tells
  change_reported old new view fits = by (converted_row m.columns new) refl where
    key : Row
    key = key_of (key_places m.schema) old

    place : ℕ
    place = (new_at m rows plan finds).place

    met : List Row
    met = rows_met m.new (by_key place key) view

    by : (made : Result Row UnfitAt) → converted_row m.columns new ≡ made → Reported (Changing old new) view
    by (Ok made) imaged =
        by_work (Changing old new) view (update_at place key made) (change_work m rows plan finds old new made fits imaged)
        (reported_fits m.columns new (updates m.new (map Some made) met view) (updates_fit m.columns new m.new (map Some made) met view))
    by (Err at) imaged = by_work (Changing old new) view (unfit_at place key at) (change_unfit m rows plan finds old new at fits imaged) (met_fits m.columns new m.new at met view imaged)

  doing_reported : (doing : Doing) (view : List Row) → DoesRows m.schema.columns doing → Reported doing view
  doing_reported (Putting row) view fits = put_reported row view
  doing_reported (Removing row) view fits = remove_reported row view fits
  doing_reported (Changing old new) view fits = change_reported old new view fits.0

  -- WHAT THE SERVER ANSWERS

  module _ (doing : Doing) (fits : DoesRows m.schema.columns doing) where
    abbrev pub statement : Statement
    statement = said m.new m.columns doing

    abbrev pub row : Row
    row = row_done (Some doing)

    table_fits : (table : TableRows) → table.schema ≡ m.new → Fits row (tells table.schema table.rows (work_of table.schema statement)).answer
    table_fits table same = subst (λ (s : Schema). Fits row (tells s table.rows (work_of s statement)).answer) (sym same) (doing_reported doing table.rows fits)

    says_fits : (seen : Database) → schema_of m.new.name seen ≡ Some m.new → Fits row (operation_result seen (operation_of statement)).answer
    unfolding operation_result
    says_fits seen stands = by (find_table (table_of statement) seen) (ap (λ (n : List ℕ). schema_of n seen) (said_of m doing) ∙ stands) where
      by : (one : Option TableRows) → option_map (λ table. table.schema) one ≡ Some m.new → Fits row (result_in (operation_of statement) one).answer
      by None is = absurd cc
      by (Some table) is = table_fits table (let same : table.schema ≡ m.new = cc in same)

    -- *What is done*: where the new table stands, in any state and session
    pub done_fits : (found : State) (number : ℕ) → is_of_tool (session_of number found.sessions) ≡ true → schema_of m.new.name found.tables ≡ Some m.new → Fits row (done found number (requests.Do statement)).answer
    unfolding did
    done_fits found number tool stands = subst (λ (r : Request). Fits row (did found number r).answer) (sym (filled_so found number (requests.Do statement) tool)) (by (is_outside (session_of number found.sessions) (requests.Do statement)) (is_in_transaction (session_of number found.sessions))) where
      seen : Database
      seen = view number found

      reported : Fits row (operation_result seen (operation_of statement)).answer
      reported = says_fits seen (schema_events m.new.name found.tables (writes_of (session_of number found.sessions)) ∙ stands)

      by : (outside busy : Bool) → Fits row (does (effect_unless outside busy seen found (requests.Do statement)) found number).answer
      by true busy = tt
      by false true = reported
      by false false = reported
