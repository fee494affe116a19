-- A table as a transaction's events leave it, and that its changes fit it.
use Rattle.std.proofs.Common.{◌≡◌, ℕ, Bool, true, false, List, [], ◌∷◌, map, filter, cond, Option, Some, None, refl, ap, ◌∙◌, subst}
use Rattle.std.specs.Option.{option_map}
use Rattle.std.specs.Str.{bytes_eq}
use Rattle.base_values.specs.GhoSchema.Rows.{key_places}
use Rattle.base_values.specs.declared.event.Change.{Change}
use Rattle.base_values.specs.declared.event.RowEvent.{RowEvent}
use Rattle.table_store.specs.Databases.{TableRows, Database, find_table, with_change}
use Rattle.server_model.specs.Rows.{change_all}
use Rattle.server_model.specs.Operations.{change_table, after_events}
use Rattle.server_model.proofs.LockedRows.Tests.{are_same}
use Rattle.server_model.proofs.LockedRows.Finding.{change_if, found_after}
use Rattle.server_seen.specs.FittingChanges.{AllFit}
use Rattle.server_transaction.specs.FittingEvents.{FitsIn, EventsFit}
use Rattle.server_transaction.specs.Events.{changes_in}

-- the table with changes of its rows
abbrev pub changed : List Change → TableRows → TableRows
changed changes table = record { schema = table.schema; rows = change_all (key_places table.schema) changes table.rows }

none_changed : (found : Option TableRows) → found ≡ option_map (changed []) found
unfolding change_all
none_changed None = refl
none_changed (Some table) = refl

one_more : (b : Bool) (event : RowEvent) (events : List RowEvent) (found : Option TableRows)
    → option_map (changed (map (λ (e : RowEvent). e.change) events)) (change_if b event.change found) ≡ option_map (changed (map (λ (e : RowEvent). e.change) (cond b (event ∷ events) events))) found
unfolding change_all
one_more true event events None = refl
one_more true event events (Some table) = refl
one_more false event events found = refl

pub found_changed : (name : List ℕ) (events : List RowEvent) (tables : Database) → find_table name (after_events tables events) ≡ option_map (changed (changes_in name events)) (find_table name tables)
unfolding after_events
found_changed name [] tables = none_changed (find_table name tables)
found_changed name (event ∷ events) tables =
    found_changed name events (with_change event.table (change_table event.change) tables)
    ∙ ap (option_map (changed (changes_in name events))) (found_after event.table name event.change tables)
    ∙ one_more (bytes_eq event.table name) event (filter (λ (e : RowEvent). bytes_eq e.table name) events) (find_table name tables)

-- the changes of a table fit it where the events fit the database
fit_first : (name : List ℕ) (event : RowEvent) (events : List RowEvent) (tables : Database) (table : TableRows) (b : Bool) → bytes_eq event.table name ≡ b → find_table name tables ≡ Some table → FitsIn event.change (find_table event.table tables)
    → ((now : TableRows) → change_if b event.change (Some table) ≡ Some now → AllFit (key_places now.schema) (map (λ (e : RowEvent). e.change) events) now.rows)
    → AllFit (key_places table.schema) (map (λ (e : RowEvent). e.change) (cond b (event ∷ events) events)) table.rows
unfolding AllFit
fit_first name event events tables table true is found fits rest =
    let own : event.table ≡ name = are_same event.table name is in
    (subst (λ (o : Option TableRows). FitsIn event.change o) (ap (λ (n : List ℕ). find_table n tables) own ∙ found) fits, rest (change_table event.change table) refl)
fit_first name event events tables table false is found fits rest = rest table refl

pub fit_in : (name : List ℕ) (events : List RowEvent) (tables : Database) → EventsFit tables events → (table : TableRows) → find_table name tables ≡ Some table → AllFit (key_places table.schema) (changes_in name events) table.rows
unfolding EventsFit AllFit
fit_in name [] tables fit table found = tt
fit_in name (event ∷ events) tables fit table found =
    fit_first name event (filter (λ (e : RowEvent). bytes_eq e.table name) events) tables table (bytes_eq event.table name) refl found fit.0
    (λ now is. fit_in name events (with_change event.table (change_table event.change) tables) fit.1 now (found_after event.table name event.change tables ∙ ap (change_if (bytes_eq event.table name) event.change) found ∙ is))
