-- How an event is encoded in bytes: a tag, the length of its body, and the body. The format is this project's own; what an event has is as in MySQL's binary log in ROW format with full row images (MySQL's manual, "Replication Formats").
use Rattle.std.specs.Prelude.{◌≡◌, ℕ, ◌-◌, ◌^◌, ◌/◌, ◌%◌, ◌<◌, ◌≤◌, ℤ, pos, neg_ℤ, int_le, Bool, true, ◌&&◌, List, [], ◌∷◌, ◌++◌, length}
use Rattle.std.specs.Int.{w32, w64, w128, to_be_bytes, cast_unsigned}
use Rattle.std.specs.List.{flat_map, AllByRecursion}
use Rattle.base_values.specs.declared.value.Value.{Value}
use Rattle.base_values.specs.declared.value.Value.TheVariants.{Null, Num, Text, Blob}
use Rattle.base_values.specs.StoredValues.{character_count}
use Rattle.base_values.specs.declared.event.RowEvent.{RowEvent}
use Rattle.base_values.specs.declared.event.Change.{Change}
use Rattle.base_values.specs.declared.event.Change.TheVariants.{Write, Update, Delete}

-- A length: four bytes, the high one first.
unfoldable pub length_bytes : ℕ → List ℕ
length_bytes n = to_be_bytes w32 n

-- Half of a number: eight bytes, the high one first.
unfoldable pub half_bytes : ℕ → List ℕ
half_bytes n = to_be_bytes w64 n

-- A number: sixteen bytes of two's complement, the high one first. So its high half comes first, and then its low half.
unfoldable pub number_bytes : ℤ → List ℕ
number_bytes n = half_bytes (cast_unsigned w128 n / 2 ^ 64) ++ half_bytes (cast_unsigned w128 n % 2 ^ 64)

-- Bytes after their length.
unfoldable pub sized : List ℕ → List ℕ
sized bytes = length_bytes (length bytes) ++ bytes

-- A value: its kind, and what it holds.
unfoldable pub value_bytes : Value → List ℕ
value_bytes Null = 0 ∷ []
value_bytes (Num n) = 1 ∷ number_bytes n
value_bytes (Text text) = 2 ∷ sized text
value_bytes (Blob blob) = 3 ∷ sized blob

-- Values, one after another.
unfoldable pub values_bytes : List Value → List ℕ
values_bytes values = flat_map value_bytes values

-- What was done.
abbrev pub tag_of : Change → ℕ
tag_of (Write row) = 1
tag_of (Update before after) = 2
tag_of (Delete row) = 3

-- How many values each row of the change has.
abbrev pub columns_of : Change → ℕ
columns_of (Write row) = length row
columns_of (Update before after) = length before
columns_of (Delete row) = length row

-- The values of the change: of an UPDATE those of the row before, and then those of the row after.
abbrev pub values_of : Change → List Value
values_of (Write row) = row
values_of (Update before after) = before ++ after
values_of (Delete row) = row

-- An event's body: the table's name after its length in one byte, the number of columns in one byte, and the values.
unfoldable pub body_of : RowEvent → List ℕ
body_of event = length event.table ∷ (event.table ++ columns_of event.change ∷ values_bytes (values_of event.change))

-- An event.
unfoldable pub encoded : RowEvent → List ℕ
encoded event = tag_of event.change ∷ sized (body_of event)

-- A number that an integer column can hold.
abbrev pub is_number : ℤ → Bool
is_number n = int_le (neg_ℤ (pos (2 ^ 63))) n && int_le n (pos (2 ^ 64 - 1))

-- A value whose number, where it is one, an integer column can hold.
abbrev pub IsEncodableValue : Value → Type 0
IsEncodableValue (Num n) = is_number n ≡ true
IsEncodableValue value = Unit {0}

-- The rows of the change have equally many values.
abbrev pub RowsAlike : Change → Type 0
RowsAlike (Update before after) = length before ≡ length after
RowsAlike change = Unit {0}

-- The events that are encoded: a name of 1 to 64 characters and at most 255 bytes, rows of 1 to 64 values, alike in their number, numbers that a column can hold, and a body whose length four bytes tell.
pub record IsEncodable (event : RowEvent) : Type 0 where
  pub named : 1 ≤ length event.table
  pub name : length event.table ≤ 255
  pub characters : character_count event.table ≤ 64
  pub some : 1 ≤ columns_of event.change
  pub columns : columns_of event.change ≤ 64
  pub alike : RowsAlike event.change
  pub numbers : AllByRecursion IsEncodableValue (values_of event.change)
  pub size : length (body_of event) < 2 ^ 32
