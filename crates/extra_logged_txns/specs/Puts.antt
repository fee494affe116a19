-- How many rows events put.
use Rattle.std.specs.Prelude.{Bool, true, false}
use Rattle.base_values.specs.declared.event.Change.{Change}
use Rattle.base_values.specs.declared.event.Change.TheVariants.{Write, Update, Delete}
use Rattle.base_values.specs.declared.event.RowEvent.{RowEvent}

-- the change puts a row
abbrev pub puts_row : Change → Bool
puts_row (Write row) = true
puts_row (Update before after) = true
puts_row (Delete row) = false

-- the event puts a row
unfoldable pub is_put : RowEvent → Bool
is_put event = puts_row event.change
