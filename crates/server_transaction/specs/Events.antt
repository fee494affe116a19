-- The events of a transaction, table by table, and the keys of the rows that they take out.
use Rattle.std.specs.Prelude.{ℕ, List, map, filter, Option, Some, None}
use Rattle.std.specs.Option.{option_map}
use Rattle.std.specs.Str.{bytes_eq}
use Rattle.base_values.specs.declared.value.Value.{Value}
use Rattle.base_values.specs.GhoSchema.Rows.{key_of}
use Rattle.base_values.specs.declared.event.RowEvent.{RowEvent}
use Rattle.base_values.specs.declared.event.Change.{Change}
use Rattle.base_values.specs.declared.event.Change.TheVariants.{Write, Update, Delete}

-- the changes of the table of this name
abbrev pub changes_in : List ℕ → List RowEvent → List Change
changes_in name events = map (λ event. event.change) (filter (λ event. bytes_eq event.table name) events)

-- the row that a change takes out
abbrev pub gone_row : Change → Option (List Value)
gone_row (Write row) = None
gone_row (Update before after) = Some before
gone_row (Delete row) = Some row

-- the key, at these places, of the row that a change takes out
abbrev pub gone_key : List ℕ → Change → Option (List Value)
gone_key places change = option_map (key_of places) (gone_row change)
