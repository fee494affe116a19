-- What is said fits the tables on which it is said.
use Rattle.std.proofs.Common.{◌≡◌, ℕ, List, [], ◌∷◌, Option, Some, None, refl, sym, ap, ◌∙◌, subst}
use Rattle.std.specs.Option.{option_map}
use Rattle.base_values.specs.GhoSchema.Rows.{key_places}
use Rattle.base_values.specs.declared.event.Change.{Change}
use Rattle.table_store.specs.Databases.{TableRows, Database, find_table, with_change}
use Rattle.table_store.proofs.ChangedTables.{change_found}
use Rattle.server_model.specs.Operations.{Operation, events_of, result_in, operation_result, operation_of, change_table}
use Rattle.server_model.specs.StatementResults.{tells}
use Rattle.server_model.specs.LockedRows.Coverage.{IsWellFormedTable, IsSound}
use Rattle.server_model.specs.LockedRows.Databases.{WhereFound}
use Rattle.server_model.proofs.LockedRows.Stables.{statement_sound}
use Rattle.server_seen.specs.FittingChanges.{AllFit}
use Rattle.server_transaction.specs.FittingEvents.{FitsIn, EventsFit}
use Rattle.server_execute.proofs.FittingChanges.{reported_fit}
use Rattle.server_transaction.specs.Laws.{SaidEventsFit, OperationEventsFit}

-- changes that fit a table are events that fit its database
pub fit_events : (name : List ℕ) (changes : List Change) (tables : Database) (table : TableRows) → find_table name tables ≡ Some table → AllFit (key_places table.schema) changes table.rows → EventsFit tables (events_of name changes)
unfolding EventsFit AllFit
fit_events name [] tables table found fit = tt
fit_events name (change ∷ changes) tables table found fit =
    (subst (FitsIn change) (sym found) fit.0, fit_events name changes (with_change name (change_table change) tables) (change_table change table) (change_found name (change_table change) tables (λ t. refl) ∙ ap (option_map (change_table change)) found) fit.1)

fit_nothing : (tables : Database) → EventsFit tables []
unfolding EventsFit
fit_nothing tables = tt

fit_in_table : (tables : Database) (operation : Operation) (found : Option TableRows) → find_table operation.table tables ≡ found → WhereFound (λ table. IsSound table.schema.columns (operation.work table.schema)) found → WhereFound IsWellFormedTable found → EventsFit tables (result_in operation found).events
fit_in_table tables operation None is sound well_formed = fit_nothing tables
fit_in_table tables operation (Some table) is sound well_formed = fit_events operation.table (tells table.schema table.rows (operation.work table.schema)).changes tables table is (reported_fit table (operation.work table.schema) well_formed sound)

pub operation_fits : OperationEventsFit
unfolding operation_result
operation_fits tables operation sound well_formed = fit_in_table tables operation (find_table operation.table tables) refl sound (well_formed.each operation.table)

pub said_fits : SaidEventsFit
said_fits tables statement well_formed = operation_fits tables (operation_of statement) (statement_sound tables statement well_formed) well_formed
