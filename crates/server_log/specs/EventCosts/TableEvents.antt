-- *The events of tables*: what each event is that a server writes.
use Rattle.std.specs.Prelude.{◌≡◌, ◌≤◌, true, length}
use Rattle.std.specs.List.{AllByRecursion}
use Rattle.base_values.specs.declared.value.Value.{Value}
use Rattle.base_values.specs.declared.value.Value.TheVariants.{Null, Num, Text, Blob}
use Rattle.base_values.specs.StoredValues.{character_count}
use Rattle.base_values.specs.declared.event.RowEvent.{RowEvent}
use Rattle.server_log.specs.Encodings.{columns_of, is_number, values_of, RowsAlike}

-- A value that a column stores: a number of BIGINT or BIGINT UNSIGNED, a text of at most 1,000 characters, or at most 1,000 bytes.
abbrev pub IsStoredValue : Value → Type 0
IsStoredValue Null = Unit {0}
IsStoredValue (Num n) = is_number n ≡ true
IsStoredValue (Text text) = character_count text ≤ 1000
IsStoredValue (Blob blob) = length blob ≤ 1000

-- An event of a table: a name of 1 to 64 characters and at most 255 bytes, rows of 1 to 64 values, alike in their number, which columns store.
pub record IsTableEvent (event : RowEvent) : Type 0 where
  pub named : 1 ≤ length event.table
  pub name : length event.table ≤ 255
  pub characters : character_count event.table ≤ 64
  pub some : 1 ≤ columns_of event.change
  pub columns : columns_of event.change ≤ 64
  pub alike : RowsAlike event.change
  pub values : AllByRecursion IsStoredValue (values_of event.change)
