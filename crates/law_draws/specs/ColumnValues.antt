-- *Values below*: all values of a table's column, committed or written by a live session, are below a number; and each turn
-- keeps them below the table's counter.
use Rattle.std.specs.Prelude.{◌≡◌, ℕ, true, false, List, Option, Some, None}
use Rattle.std.specs.List.{AllByRecursion}
use Rattle.std.specs.Str.{bytes_eq}
use Rattle.base_values.specs.declared.event.RowEvent.{RowEvent}
use Rattle.table_store.specs.Databases.{TableRows, find_table}
use Rattle.server_model.specs.declared.request.Request.{Request}
use Rattle.server_model.specs.declared.request.Request.TheVariants as requests
use Rattle.base_values.specs.GhoSchema.AutoIncrement.{auto_place}
use Rattle.base_values.specs.declared.gho_schema.schema.Schema.{Schema}
use Rattle.base_script.specs.declared.actor.Side.{Side}
use Rattle.server_model.specs.declared.entry.Asked.{Asked}
use Rattle.server_model.specs.PlainServer.{asks_for, counters_left, leaves}
use Rattle.server_model.specs.States.{State, next_of}
use Rattle.proof_journals.specs.Machine.MigrationTables.{schema_of}
use Rattle.proof_journals.specs.Rising.{LeavesName}
use Rattle.server_model.specs.LockedRows.Counters.{IsBelow, PutsBelow}

abbrev pub RowsBelow : ℕ → ℕ → Option TableRows → Type 0
RowsBelow place next None = Unit {0}
RowsBelow place next (Some table) = AllByRecursion (IsBelow place next) table.rows

abbrev pub EventBelow : List ℕ → ℕ → ℕ → RowEvent → Type 0
EventBelow name place next event = bytes_eq event.table name ≡ true → PutsBelow place next event.change

abbrev pub EventsBelow : List ℕ → ℕ → ℕ → List RowEvent → Type 0
EventsBelow name place next events = AllByRecursion (EventBelow name place next) events

-- the values at this place, in the table of this name
pub record ValuesBelow (name : List ℕ) (place next : ℕ) (state : State) : Type 0 where
  pub rows : RowsBelow place next (find_table name state.tables)
  pub writes : AllByRecursion (λ session. EventsBelow name place next session.writes) state.sessions

-- what is asked copies no row into a table of this name
abbrev pub CopiesElsewhere : List ℕ → Option Request → Type 0
CopiesElsewhere name (Some (requests.CopyRow from into map key)) = bytes_eq into name ≡ false
CopiesElsewhere name asks = Unit {0}

-- *Values stay below the counter*: a turn that neither copies into a table of the name nor makes, drops or renames one
-- leaves the column's values below its counter, where they were before.
abbrev pub ValuesStayBelow : Type 0
ValuesStayBelow =
    (name : List ℕ) (schema : Schema) (place next m : ℕ) (side : Option Side) (state : State) (number : ℕ) (asked : Asked) → schema_of name state.tables ≡ Some schema → auto_place schema ≡ Some place → next_of name state.counters ≡ Some next
    → next_of name (counters_left side state number asked) ≡ Some m → LeavesName name (asks_for state number asked) → CopiesElsewhere name (asks_for state number asked) → ValuesBelow name place next state → ValuesBelow name place m (leaves side state number asked)
