-- For how many rows a commit needs room, table by table.
use Rattle.std.specs.Prelude.{ℕ, ◌+◌, if◌then◌else◌, List, [], ◌∷◌}
use Rattle.std.specs.Str.{bytes_eq}
use Rattle.base_values.specs.declared.event.Change.{Change}
use Rattle.base_values.specs.declared.event.Change.TheVariants.{Write, Update, Delete}
use Rattle.base_values.specs.declared.event.RowEvent.{RowEvent}

-- how many rows a change puts
abbrev pub puts_of : Change → ℕ
puts_of (Write row) = 1
puts_of (Update before after) = 1
puts_of (Delete row) = 0

-- how many rows the events put into the table of this name
unfoldable pub puts_in : List ℕ → List RowEvent → ℕ
puts_in name [] = 0
puts_in name (event ∷ events) = if bytes_eq event.table name then puts_of event.change + puts_in name events else puts_in name events
