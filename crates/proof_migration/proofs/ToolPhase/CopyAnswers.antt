-- What the copy of a row is answered: where a value is refused, the row of that key has no image there; and no other
-- refusal comes, while the two tables stand.
use Rattle.std.proofs.Common.{◌≡◌, ℕ, ◌+◌, Bool, true, false, cond, List, [], ◌∷◌, Option, Some, None, Result, Ok, Err, refl, sym, ap, ◌∙◌, subst}
use Rattle.std.specs.List.{list_any}
use Rattle.std.specs.Option.{option_map}
use Rattle.base_values.specs.Laws.{StoresAgain}
use Rattle.base_values.specs.StoredValues.{stores, error_number}
use Rattle.base_values.specs.declared.unfit.Unfit.{Unfit}
use Rattle.base_values.specs.declared.value.Value.{Value}
use Rattle.base_values.specs.declared.gho_schema.schema.Column.{Column}
use Rattle.base_values.specs.declared.gho_schema.schema.Schema.{Schema}
use Rattle.base_values.specs.GhoSchema.Tables.{IsRow, clash}
use Rattle.base_values.specs.RowConversion.ConvertedRows.{source, converted_row_from, converted_row}
use Rattle.base_values.specs.declared.row_conversion.conversion_fault.UnfitAt.{UnfitAt}
use Rattle.base_values.specs.declared.row_conversion.map.MapColumn.{MapColumn}
use Rattle.proof_schemas.proofs.Alters.ConvertedRows.{front-of, made-is}
use Rattle.table_store.specs.Databases.{TableRows, Database, find_table, row_at_key}
use Rattle.server_model.specs.declared.answer.Answer.{Answer}
use Rattle.server_model.specs.declared.answer.Answer.TheVariants as answers
use Rattle.server_model.specs.declared.entry.Entry.{Entry}
use Rattle.server_model.specs.declared.request.Request.{Request}
use Rattle.server_model.specs.declared.request.Request.TheVariants as requests
use Rattle.server_model.specs.declared.session.Session.{Session}
use Rattle.server_model.specs.declared.work.Work.TheVariants as works
use Rattle.server_model.specs.Conditions.{MapsInto}
use Rattle.server_model.specs.Effects.{result_effect, effect_unless, is_beyond, is_outside}
use Rattle.server_model.specs.Entries.{is_command}
use Rattle.server_model.specs.Operations.{copy_work, copy_from, copy_operation, result_in, operation_result, after_events}
use Rattle.server_model.specs.Blockers.{need_within}
use Rattle.server_model.specs.StatementResults.{TableResult, only, tells}
use Rattle.base_values.specs.declared.event.Change.TheVariants.{Write}
use Rattle.server_model.specs.PlainServer.{does, done, did}
use Rattle.server_model.specs.States.{State, session_of, is_in_transaction, tables_named, writes_of, view}
use Rattle.plan_data.specs.PlanData.{PlanData, old_schema, new_map}
use Rattle.base_values.specs.ToolNames.{ghost_name}
use Rattle.tool_program.specs.JournalWords.Journals.{opens, state_at}
use Rattle.proof_journals.specs.Holdings.{face_in}
use Rattle.proof_migration.proofs.Migration.Copier.Rows.{copies_converted_row}
use Rattle.proof_journals.specs.Machine.TableKeys.{IsMapped}
use Rattle.proof_journals.specs.Machine.Standings.{Standing, standing_of, IsAbout, is_called, is_polled}
use Rattle.proof_journals.specs.Machine.MigrationTables.{schema_of, ghost_schema, TablesExist}
use Rattle.proof_journals.proofs.Machine.Schemas.{schema_events}
use Rattle.proof_journals.proofs.Machine.Seated.{IsKnown, IsServed, IsOpen, is_open}
use Rattle.proof_migration.proofs.ToolPhase.Hearing.{IsFoundBy, own_answer, opened_tables}

-- the row of this key has no image at this place, with this number
pub record UnfitRow (seen : Database) (from : List ℕ) (map : List MapColumn) (key : List Value) (place number : ℕ) : Type 0 where
  pub old : TableRows
  pub found : find_table from seen ≡ Some old
  pub row : List Value
  pub stands : row_at_key old key ≡ Some row
  pub unfit : Unfit
  pub refuses : converted_row map row ≡ Err (record { column = place; unfit = unfit })
  pub numbered : error_number unfit ≡ number

-- a refusal of the copy has a place, and tells of such a row; what is done is answered Ok
abbrev pub CopyFits : Database → List ℕ → List MapColumn → List Value → Answer → Type 0
CopyFits seen from map key (answers.Refused number None) = ⊥
CopyFits seen from map key (answers.Refused number (Some place)) = UnfitRow seen from map key place number
CopyFits seen from map key (answers.Ok count) = Unit {0}
CopyFits seen from map key (answers.Waits by) = Unit {0}
CopyFits seen from map key (answers.TimedOut waited) = Unit {0}
CopyFits seen from map key answers.Lost = Unit {0}
CopyFits seen from map key answer = ⊥

-- IMAGES ARE ROWS

converted_row_fits : StoresAgain → (columns : List Column) (map : List MapColumn) (row made : List Value) (column : ℕ) → MapsInto map columns → converted_row_from column map row ≡ Ok made → IsRow columns made
unfolding converted_row_from
converted_row_fits again [] [] row made column into is = subst (IsRow []) (made-is [] made is) tt
converted_row_fits again [] (new ∷ map) row made column into is = absurd into
converted_row_fits again (c ∷ columns) [] row made column into is = absurd into
converted_row_fits again (c ∷ columns) (new ∷ map) row made column into is =
    let front = front-of column (stores (source new.origin row) new.kind new.nullable) (converted_row_from (column + 1) map row) made is in
    let stored : stores front.first new.kind new.nullable ≡ Ok front.first = again (source new.origin row) new.kind new.nullable front.first front.stores_first in
    let kept : stores front.first c.kind c.nullable ≡ Ok front.first = ap (λ k. stores front.first k c.nullable) (sym into.0) ∙ ap (λ n. stores front.first new.kind n) (sym into.1) ∙ stored in
    subst (IsRow (c ∷ columns)) front.is (kept, converted_row_fits again columns map row front.others (column + 1) into.2 front.rest)

-- WHAT THE JOB SAYS

module _ (again : StoresAgain) (seen : Database) (from into : List ℕ) (map : List MapColumn) (key : List Value) (old schema : Schema) (mapped : MapsInto map schema.columns) where
  abbrev Fits : Answer → Type 0
  Fits answer = CopyFits seen from map key answer

  copied : (table : TableRows) (made : List Value) → Fits (tells table.schema table.rows (works.Copy made)).answer
  unfolding tells
  copied table made = by (list_any (clash table.schema.uniques made) table.rows) where
    by : (b : Bool) → Fits (cond {A = TableResult} b (only (answers.Ok 0)) (record { answer = answers.Ok 1; changes = Write made ∷ [] })).answer
    by true = tt
    by false = tt

  table_fits : (table : TableRows) → table.schema ≡ schema → schema_of from seen ≡ Some old → Fits (tells table.schema table.rows (copy_from (find_table from seen) map key table.schema)).answer
  unfolding tells
  table_fits table same stands = from_old (find_table from seen) refl stands where
    imaged : (source : TableRows) → find_table from seen ≡ Some source → (row : List Value) → row_at_key source key ≡ Some row → (one : Result (List Value) UnfitAt) → converted_row map row ≡ one → Fits (tells table.schema table.rows (copy_work (Some one) table.schema)).answer
    imaged source found row at_key (Err at) refuses = record { old = source; found = found; row = row; stands = at_key; unfit = at.unfit; refuses = refuses; numbered = refl }
    imaged source found row at_key (Ok made) fits =
        let is_row : IsRow table.schema.columns made = subst (λ (s : Schema). IsRow s.columns made) (sym same) (converted_row_fits again schema.columns map row made 0 mapped fits) in
        subst (λ w. Fits (tells table.schema table.rows w).answer) (sym (ap (λ i. copy_work (Some i) table.schema) (sym fits) ∙ copies_converted_row table.schema map row made is_row fits)) (copied table made)

    at_row : (source : TableRows) → find_table from seen ≡ Some source → (row : Option (List Value)) → row_at_key source key ≡ row → Fits (tells table.schema table.rows (copy_work (option_map (converted_row map) row) table.schema)).answer
    at_row source found None none = tt
    at_row source found (Some row) some = imaged source found row some (converted_row map row) refl

    from_old : (one : Option TableRows) → find_table from seen ≡ one → option_map (λ table. table.schema) one ≡ Some old → Fits (tells table.schema table.rows (copy_from one map key table.schema)).answer
    from_old None none is = absurd cc
    from_old (Some source) found is = at_row source found (row_at_key source key) refl

  pub says_fits : schema_of from seen ≡ Some old → schema_of into seen ≡ Some schema → Fits (operation_result seen (copy_operation seen from into map key)).answer
  unfolding operation_result
  says_fits stands made = by (find_table into seen) made where
    by : (one : Option TableRows) → option_map (λ table. table.schema) one ≡ Some schema → Fits (result_in (copy_operation seen from into map key) one).answer
    by None is = absurd cc
    by (Some table) is = table_fits table (let same : table.schema ≡ schema = cc in same) stands

-- WHAT IS DONE

pub not_outside : (found : Option Session) (request : Request) → (face_in found).locked ≡ [] → is_outside found request ≡ false
not_outside None request none = refl
not_outside (Some session) request none = ap (λ locked. is_beyond locked (tables_named request)) none

done_fits : StoresAgain → (plan : PlanData) → IsMapped plan → (found : State) (number : ℕ) (key : List Value) → is_outside (session_of number found.sessions) (requests.CopyRow plan.table (ghost_name plan.table) (new_map plan) key) ≡ false → TablesExist plan found.tables
    → CopyFits (view number found) plan.table (new_map plan) key (done found number (requests.CopyRow plan.table (ghost_name plan.table) (new_map plan) key)).answer
unfolding did
done_fits again plan mapped found number key inside stand =
    subst (λ (b : Bool). CopyFits seen plan.table (new_map plan) key (does (effect_unless b (is_in_transaction (session_of number found.sessions)) seen found request) found number).answer) (sym inside) (by (is_in_transaction (session_of number found.sessions))) where
      seen : Database
      seen = view number found

      request : Request
      request = requests.CopyRow plan.table (ghost_name plan.table) (new_map plan) key

      stays : (name : List ℕ) → schema_of name seen ≡ schema_of name found.tables
      stays name = schema_events name found.tables (writes_of (session_of number found.sessions))

      said : CopyFits seen plan.table (new_map plan) key (operation_result seen (copy_operation seen plan.table (ghost_name plan.table) (new_map plan) key)).answer
      said =
          says_fits again seen plan.table (ghost_name plan.table) (new_map plan) key (old_schema plan) (ghost_schema plan) mapped.columns
          (stays plan.table ∙ stand.old) (stays (ghost_name plan.table) ∙ stand.ghost)

      by : (busy : Bool) → CopyFits seen plan.table (new_map plan) key (does (result_effect busy (need_within seen request) (operation_result seen (copy_operation seen plan.table (ghost_name plan.table) (new_map plan) key))) found number).answer
      by true = said
      by false = said

-- *What the copy of a row is answered*, by the tables as its session sees them
pub own_copy : StoresAgain → (plan : PlanData) → IsMapped plan → (journal : List Entry) (entry : Entry) (known : IsKnown plan journal) (served : IsServed plan journal entry) (key : List Value)
    → IsAbout (requests.CopyRow plan.table (ghost_name plan.table) (new_map plan) key) (standing_of plan journal entry.actor) entry.asked → (standing_of plan journal entry.actor).locked ≡ [] → TablesExist plan (state_at plan journal).tables
    → CopyFits (view entry.session (opens entry (state_at plan journal))) plan.table (new_map plan) key entry.answer
own_copy again plan mapped journal entry known served key about locked stand =
    own_answer (CopyFits (view entry.session open_now) plan.table (new_map plan) key) (record { waits = λ by. tt; timed = λ waited. tt; lost = tt }) plan journal entry known served request about each where
      open_now : State
      open_now = opens entry (state_at plan journal)

      request : Request
      request = requests.CopyRow plan.table (ghost_name plan.table) (new_map plan) key

      called : IsAbout request (standing_of plan journal entry.actor) entry.asked → is_command entry.asked ≡ false
      called (is_called same none) = ap is_command same
      called (is_polled same some) = ap is_command same

      opened_one : IsOpen plan journal entry known served
      opened_one = is_open plan journal entry known served (called about)

      inside : (found : State) → IsFoundBy found open_now → is_outside (session_of entry.session found.sessions) request ≡ false
      inside found is =
          ap (λ sessions. is_outside (session_of entry.session sessions) request) is.sessions
          ∙ not_outside (session_of entry.session open_now.sessions) request (ap (λ o. (face_in o).locked) opened_one.is ∙ ap (λ (s : Standing). s.locked) (sym opened_one.stands) ∙ locked)

      tables : (found : State) → IsFoundBy found open_now → TablesExist plan found.tables
      tables found is = subst (TablesExist plan) (sym (is.tables ∙ opened_tables plan journal entry)) stand

      same_view : (found : State) → IsFoundBy found open_now → view entry.session found ≡ view entry.session open_now
      same_view found is = ap (λ tables. after_events tables (writes_of (session_of entry.session found.sessions))) is.tables ∙ ap (λ sessions. after_events open_now.tables (writes_of (session_of entry.session sessions))) is.sessions

      each : (found : State) → IsFoundBy found open_now → CopyFits (view entry.session open_now) plan.table (new_map plan) key (done found entry.session request).answer
      each found is =
          subst (λ (seen : Database). CopyFits seen plan.table (new_map plan) key (done found entry.session request).answer) (same_view found is)
          (done_fits again plan mapped found entry.session key (inside found is) (tables found is))
