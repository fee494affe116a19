-- What a session wrote goes with the committed tables, event by event, whatever others have committed meanwhile; and so the log leads through valid tables.
use Rattle.std.proofs.Common.{◌≡◌, ℕ, Bool, true, false, List, [], ◌∷◌, ◌++◌, length, cond, Option, Some, None, refl, sym, ap, ◌∙◌, subst}
use Rattle.std.specs.List.{list_any}
use Rattle.std.specs.Str.{bytes_eq}
use Rattle.base_values.specs.GhoSchema.Rows.{key_places}
use Rattle.base_values.specs.GhoSchema.Tables.{IsTable}
use Rattle.base_values.specs.declared.event.RowEvent.{RowEvent}
use Rattle.base_values.specs.declared.event.Change.{Change}
use Rattle.server_locks.specs.declared.row_locks.lock.Lock.{Lock}
use Rattle.table_store.specs.Databases.{TableRows, Database, find_table, with_change}
use Rattle.table_store.proofs.Orders.{Row}
use Rattle.proof_journals.proofs.Ghost.Changing.{same_change}
use Rattle.proof_journals.proofs.Ghost.Telling.{tells_fit}
use Rattle.proof_journals.specs.Ghost.FittingEvents.{EventsFit, IsFitting}
use Rattle.proof_journals.proofs.Ghost.Rows.TimelineLaws.{change_keeps}
use Rattle.proof_journals.specs.Ghost.Rows.Moments.{Fits, FitsAll, LogFits, rows_after, rows_at, rows_then}
use Rattle.proof_journals.proofs.Tools.{sound_alike}
use Rattle.server_model.specs.Operations.{Operation, after_events, change_table, events_of, operation_needs, operation_result, result_in}
use Rattle.server_model.specs.Rows.{change_rows}
use Rattle.server_model.specs.StatementResults.{tells}
use Rattle.server_model.proofs.LockedRows.Finding.{NamesWithin, agree_events, agree_itself, agree_then, agree_within, change_if, found_after, says_alike}
use Rattle.server_model.proofs.LockedRows.Tests.{are_same, same_bytes}
use Rattle.server_model.specs.LockedRows.Agreement.{Agree, Within}
use Rattle.server_model.specs.LockedRows.Coverage.{IsWellFormedTable, IsSound}
use Rattle.server_model.specs.LockedRows.Databases.{IsWellFormedDatabase, TaskSound, WhereFound}
use Rattle.server_model.specs.LockedRows.Laws.{SaysAlike}

-- an event of a table that goes with its rows leaves an orderly table
well_formed_change : (change : Change) (table : TableRows) → IsWellFormedTable table → Fits table.schema table.rows change → IsWellFormedTable (change_table change table)
well_formed_change change table is fits =
    record {
      keyed = is.keyed;
      defaults = is.defaults;
      is_table = subst (IsTable table.schema) (sym (same_change table.schema is.keyed change table.rows is.is_table fits)) (change_keeps table.schema is.keyed change table.rows is.is_table fits);
    }

well_formed_if : (b : Bool) (change : Change) (found : Option TableRows) → WhereFound IsWellFormedTable found → (b ≡ true → WhereFound (λ table. Fits table.schema table.rows change) found) → WhereFound IsWellFormedTable (change_if b change found)
well_formed_if true change None is fits = tt
well_formed_if true change (Some table) is fits = well_formed_change change table is (fits refl)
well_formed_if false change found is fits = is

abbrev pub FitsHere : Database → RowEvent → Type 0
FitsHere tables event = WhereFound (λ table. Fits table.schema table.rows event.change) (find_table event.table tables)

pub well_formed_event : (tables : Database) (event : RowEvent) → IsWellFormedDatabase tables → FitsHere tables event → IsWellFormedDatabase (with_change event.table (change_table event.change) tables)
well_formed_event tables event is fits =
    record {
      each = λ name. rw (found_after event.table name event.change tables)
          (well_formed_if (bytes_eq event.table name) event.change (find_table name tables) (is.each name) (λ same. subst (λ (n : List ℕ). WhereFound (λ table. Fits table.schema table.rows event.change) (find_table n tables)) (are_same event.table name same) fits));
    }

pub well_formed_events : (tables : Database) (events : List RowEvent) → IsWellFormedDatabase tables → EventsFit tables events → IsWellFormedDatabase (after_events tables events)
unfolding after_events EventsFit
well_formed_events tables [] is fits = is
well_formed_events tables (event ∷ events) is fits = well_formed_events (with_change event.table (change_table event.change) tables) events (well_formed_event tables event is fits.0) fits.1

pub fit_more : (tables : Database) (a b : List RowEvent) → EventsFit tables a → EventsFit (after_events tables a) b → EventsFit tables (a ++ b)
unfolding after_events EventsFit
fit_more tables [] b front back = back
fit_more tables (event ∷ a) b front back = (front.0, fit_more (with_change event.table (change_table event.change) tables) a b front.1 back)

-- changes of one table, as events
changes_fit : (name : List ℕ) (changes : List Change) (tables : Database) (table : TableRows) → find_table name tables ≡ Some table → IsWellFormedTable table → FitsAll table.schema table.rows changes → EventsFit tables (events_of name changes)
unfolding EventsFit FitsAll
changes_fit name [] tables table found is fits = tt
changes_fit name (change ∷ changes) tables table found is fits =
    let next : TableRows = change_table change table in
    let there : find_table name (with_change name (change_table change) tables) ≡ Some next = found_after name name change tables ∙ rw (same_bytes name, found) refl in
    let same : change_rows (key_places table.schema) change table.rows ≡ rows_after (key_places table.schema) change table.rows = same_change table.schema is.keyed change table.rows is.is_table fits.0 in
    (rw found fits.0, changes_fit name changes (with_change name (change_table change) tables) next there (well_formed_change change table is fits.0) (subst (λ (r : List Row). FitsAll table.schema r changes) (sym same) fits.1))

fit_in : (task : Operation) (tables : Database) (found : Option TableRows) → find_table task.table tables ≡ found → WhereFound IsWellFormedTable found → WhereFound (λ table. IsSound table.schema.columns (task.work table.schema)) found → EventsFit tables (result_in task found).events
unfolding EventsFit
fit_in task tables None found is sound = tt
fit_in task tables (Some table) found is sound =
    changes_fit task.table (tells table.schema table.rows (task.work table.schema)).changes tables table found is (tells_fit table.schema is.keyed table.rows (task.work table.schema) sound is.is_table)

-- *What a statement writes goes with the tables on which it was said.*
pub says_fit : (tables : Database) (task : Operation) → TaskSound task tables → IsWellFormedDatabase tables → EventsFit tables (operation_result tables task).events
unfolding operation_result
says_fit tables task sound is = fit_in task tables (find_table task.table tables) refl (is.each task.table) sound

-- ---- a client's lines

nothing_fits : (tables : Database) → EventsFit tables []
unfolding EventsFit
nothing_fits tables = tt

-- ---- the tool's tasks

pub fitting_begin : (tables : Database) → IsFitting [] [] [] tables
fitting_begin tables = record { each = λ other is agree. nothing_fits other }

pub fitting_others : (names : List (List ℕ)) (locks : List Lock) (writes : List RowEvent) (before after : Database) → Agree names locks before after → IsFitting names locks writes before → IsFitting names locks writes after
fitting_others names locks writes before after kept fitting = record { each = λ other is agree. fitting.each other is (agree_then names locks before after other kept agree) }

pub fitting_task : (names more : List (List ℕ)) (locks all : List Lock) (writes : List RowEvent) (tables : Database) (task : Operation) → IsFitting names locks writes tables → IsWellFormedDatabase tables → TaskSound task (after_events tables writes) → NamesWithin names more → Within locks all
    → list_any (bytes_eq task.table) more ≡ true → Within (operation_needs (after_events tables writes) task) all → IsFitting more all (writes ++ (operation_result (after_events tables writes) task).events) tables
fitting_task names more locks all writes tables task fitting well_formed sound named within mine needed = record {
  each = λ other is agree.
      let here : IsWellFormedDatabase (after_events tables writes) = well_formed_events tables writes well_formed (fitting.each tables well_formed (agree_itself names locks tables)) in
      let fits : EventsFit other writes = fitting.each other is (agree_within names more locks all tables other named within agree) in
      let there : IsWellFormedDatabase (after_events other writes) = well_formed_events other writes is fits in
      let both = agree_events more all tables other writes agree in
      let alike : SaysAlike task (after_events tables writes) (after_events other writes) = says_alike more all (after_events tables writes) (after_events other writes) task both mine needed here there in
      let sound_there : TaskSound task (after_events other writes) = sound_alike task all (find_table task.table (after_events tables writes)) (find_table task.table (after_events other writes)) (both.tables task.table mine) sound in
      rw (alike.said) (fit_more other writes (operation_result (after_events other writes) task).events fits (says_fit (after_events other writes) task sound_there there));
}

-- *The tool's own writes go with the committed tables.*
pub fitting_end : (names : List (List ℕ)) (locks : List Lock) (writes : List RowEvent) (tables : Database) → IsWellFormedDatabase tables → IsFitting names locks writes tables → EventsFit tables writes
fitting_end names locks writes tables is fitting = fitting.each tables is (agree_itself names locks tables)

-- ---- the log leads through valid tables

one_leads : (name : List ℕ) (event : RowEvent) (tables : Database) (table : TableRows) → find_table name tables ≡ Some table → FitsHere tables event → bytes_eq event.table name ≡ true → Fits table.schema table.rows event.change
one_leads name event tables table found fits same =
    subst (WhereFound (λ t. Fits t.schema t.rows event.change)) found (subst (λ (n : List ℕ). WhereFound (λ t. Fits t.schema t.rows event.change) (find_table n tables)) (are_same event.table name same) fits)

then_found : (name : List ℕ) (event : RowEvent) (table : TableRows) (b : Bool) → IsWellFormedTable table → (b ≡ true → Fits table.schema table.rows event.change) → change_if b event.change (Some table) ≡ Some (record { schema = table.schema; rows = cond b (rows_after (key_places table.schema) event.change table.rows) table.rows })
then_found name event table true is fits =
    ap (λ (r : List Row). let t : TableRows = record { schema = table.schema; rows = r } in Some t) (same_change table.schema is.keyed event.change table.rows is.is_table (fits refl))
then_found name event table false is fits = refl

abbrev pub table_then : List ℕ → RowEvent → TableRows → TableRows
table_then name event table = record { schema = table.schema; rows = rows_then name (key_places table.schema) event table.rows }

pub found_then : (name : List ℕ) (event : RowEvent) (tables : Database) (table : TableRows) → IsWellFormedDatabase tables → FitsHere tables event → find_table name tables ≡ Some table → find_table name (with_change event.table (change_table event.change) tables) ≡ Some (table_then name event table)
found_then name event tables table is fits found =
    let here : IsWellFormedTable table = subst (WhereFound IsWellFormedTable) found (is.each name) in
    found_after event.table name event.change tables ∙ ap (change_if (bytes_eq event.table name) event.change) found ∙ then_found name event table (bytes_eq event.table name) here (one_leads name event tables table found fits)

-- *Committed events lead through valid tables.*
pub events_lead : (name : List ℕ) (events : List RowEvent) (tables : Database) (table : TableRows) → IsWellFormedDatabase tables → EventsFit tables events → find_table name tables ≡ Some table → LogFits name table.schema table.rows events
unfolding EventsFit LogFits
events_lead name [] tables table is fits found = tt
events_lead name (event ∷ events) tables table is fits found = (
  one_leads name event tables table found fits.0,
  events_lead name events (with_change event.table (change_table event.change) tables) (table_then name event table) (well_formed_event tables event is fits.0) fits.1 (found_then name event tables table is fits.0 found),
)

-- *T(i)*: what is found behind the events
pub found_behind : (name : List ℕ) (events : List RowEvent) (tables : Database) (table : TableRows) → IsWellFormedDatabase tables → EventsFit tables events → find_table name tables ≡ Some table
    → find_table name (after_events tables events) ≡ Some (record { schema = table.schema; rows = rows_at name (key_places table.schema) table.rows events (length events) })
unfolding EventsFit after_events rows_at
found_behind name [] tables table is fits found = found
found_behind name (event ∷ events) tables table is fits found =
    found_behind name events (with_change event.table (change_table event.change) tables) (table_then name event table) (well_formed_event tables event is fits.0) fits.1 (found_then name event tables table is fits.0 found)
