-- A table as its session sees it is the table through what the session wrote to it.
use Rattle.std.proofs.Common.{◌≡◌, ℕ, Bool, true, false, List, [], ◌∷◌, cond, Option, Some, refl, sym, ap, ◌∙◌, subst}
use Rattle.std.specs.Option.{option_map}
use Rattle.base_values.specs.GhoSchema.Rows.{key_places}
use Rattle.base_values.specs.GhoSchema.Tables.{Ascends}
use Rattle.base_values.specs.declared.event.RowEvent.{RowEvent}
use Rattle.table_store.specs.Databases.{TableRows, Database, find_table, is_named}
use Rattle.table_store.proofs.Orders.{Row}
use Rattle.server_model.specs.Operations.{after_events}
use Rattle.server_model.specs.LockedRows.Coverage.{IsWellFormedTable}
use Rattle.server_model.specs.LockedRows.Databases.{IsWellFormedDatabase, WhereFound}
use Rattle.server_model.proofs.LockedRows.Tests.{are_same}
use Rattle.server_seen.specs.Written.{Written, seen}
use Rattle.server_transaction.specs.FittingEvents.{EventsFit}
use Rattle.server_transaction.specs.Events.{changes_in}
use Rattle.server_transaction.specs.Shown.{Represents}
use Rattle.server_transaction.proofs.Views.{changed, found_changed, fit_in}

-- a table that is found has the name
own_first : (name : List ℕ) (first table : TableRows) (tables : Database) (b : Bool) → is_named name first ≡ b → cond b (Some first) (find_table name tables) ≡ Some table → (find_table name tables ≡ Some table → table.schema.name ≡ name) → table.schema.name ≡ name
own_first name first table tables true is found rest = let same : first ≡ table = cc in ap (λ (t : TableRows). t.schema.name) (sym same) ∙ are_same first.schema.name name is
own_first name first table tables false is found rest = rest found

pub own_name : (name : List ℕ) (table : TableRows) (tables : Database) → find_table name tables ≡ Some table → table.schema.name ≡ name
own_name name table [] found = absurd (cc)
own_name name table (first ∷ tables) found = own_first name first table tables (is_named name first) refl found (own_name name table tables)

-- the table through what was written to it
abbrev pub through : Written → TableRows → TableRows
through written table = record { schema = table.schema; rows = seen (key_places table.schema) written table.rows }

pub record IsSeen (tables : Database) (events : List RowEvent) (name : List ℕ) (written : Written) (table : TableRows) : Type 0 where
  pub view : find_table name (after_events tables events) ≡ Some (through written table)
  pub well_formed : IsWellFormedTable (through written table)

pub is_seen : (tables : Database) (events : List RowEvent) (name : List ℕ) (written : Written) (table : TableRows) → find_table name tables ≡ Some table → Ascends (key_places table.schema) table.rows → EventsFit tables events → IsWellFormedDatabase (after_events tables events)
    → Represents (key_places table.schema) (changes_in name events) written → IsSeen tables events name written table
is_seen tables events name written table found ascends fit well_formed represents =
    let shown : seen (key_places table.schema) written table.rows ≡ (changed (changes_in name events) table).rows = represents.shows table.rows ascends (fit_in name events tables fit table found) in
    let same : changed (changes_in name events) table ≡ through written table = ap {B = TableRows} (λ (rs : List Row). record { schema = table.schema; rows = rs }) (sym shown) in
    let view : find_table name (after_events tables events) ≡ Some (through written table) = found_changed name events tables ∙ ap (option_map (changed (changes_in name events))) found ∙ ap {B = Option TableRows} Some same in
    record { view = view; well_formed = subst (WhereFound IsWellFormedTable) view (well_formed.each name) }
