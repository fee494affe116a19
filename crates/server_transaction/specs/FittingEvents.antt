-- *Events that fit*: what they take out exists, and what they put has a key of its own, each on the tables as they then are.
-- (MySQL's manual, "Replication and Row-Based Logging": a row event applies where the row that it names is there, and fails
-- where a row has its key.)
use Rattle.std.specs.Prelude.{◌≡◌, ℕ, false, List, [], ◌∷◌, Option, Some, None}
use Rattle.std.specs.List.{AllByRecursion, list_any}
use Rattle.std.specs.Str.{bytes_eq}
use Rattle.base_values.specs.GhoSchema.Rows.{key_places}
use Rattle.base_values.specs.declared.event.Change.{Change}
use Rattle.base_values.specs.declared.event.RowEvent.{RowEvent}
use Rattle.table_store.specs.Databases.{TableRows, Database, find_table, with_change}
use Rattle.server_model.specs.Operations.{change_table}
use Rattle.server_seen.specs.FittingChanges.{FitsRows}

-- its table exists, and the change fits its rows
abbrev pub FitsIn : Change → Option TableRows → Type 0
FitsIn change None = ⊥
FitsIn change (Some table) = FitsRows (key_places table.schema) table.rows change

-- *Events fit* a database: each fits its table as the events before it left it.
unfoldable pub EventsFit : Database → List RowEvent → Type 0
EventsFit tables [] = Unit {0}
EventsFit tables (event ∷ events) = FitsIn event.change (find_table event.table tables) × EventsFit (with_change event.table (change_table event.change) tables) events

-- none of the events is of a table of these names
abbrev pub NoneOf : List (List ℕ) → List RowEvent → Type 0
NoneOf names events = AllByRecursion (λ event. list_any (bytes_eq event.table) names ≡ false) events
