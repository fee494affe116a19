-- What bytes begin with: an event and the number of its bytes, or why none. The order of the refusals is this project's rule:
-- bytes that are too few; the tag; parts that don't end just at the body's end, with counts out of range; and last the values.
-- A kind of value that there isn't ends the reading, since what follows it has no meaning.
use Rattle.std.specs.Prelude.{◌≡◌, ℕ, zero, suc, ◌+◌, ◌*◌, ◌^◌, ◌&&◌, nat_le, ◌==◌, if◌then◌else◌, List, [], ◌∷◌, ◌++◌, length, take, drop, Option, Some, None, Result, Ok, Err}
use Rattle.std.specs.Int.{w32, w64, w128, from_be_bytes, cast_signed}
use Rattle.std.specs.Str.{is_utf8}
use Rattle.base_values.specs.declared.value.Value.{Value}
use Rattle.base_values.specs.declared.value.Value.TheVariants.{Null, Num, Text, Blob}
use Rattle.base_values.specs.StoredValues.{character_count}
use Rattle.base_values.specs.declared.event.RowEvent.{RowEvent}
use Rattle.base_values.specs.declared.event.Change.{Change}
use Rattle.base_values.specs.declared.event.Change.TheVariants.{Write, Update, Delete}
use Rattle.server_log.specs.declared.fault.DecodeFault.{DecodeFault}
use Rattle.server_log.specs.declared.fault.DecodeFault.TheVariants.{Cut, BadTag, BadLength, BadValue, Memory}
use Rattle.server_log.specs.Encodings.{is_number}

infixl 10 ◌>>=◌
-- goes on with what was read
abbrev pub ◌>>=◌ : {A B : Type 0} → Result A DecodeFault → (A → Result B DecodeFault) → Result B DecodeFault
(Ok read) >>= f = f read
(Err fault) >>= f = Err fault

-- What a reader of the code gives, seen by view, is what the definition reads, unless memory ran out.
abbrev pub Fails : {B : Type 0} → DecodeFault → Result B DecodeFault → Type 0
Fails Cut read = read ≡ Err Cut
Fails BadTag read = read ≡ Err BadTag
Fails BadLength read = read ≡ Err BadLength
Fails BadValue read = read ≡ Err BadValue
Fails Memory read = Unit {0}

abbrev pub Reads : {A B : Type 0} → (A → B) → Result A DecodeFault → Result B DecodeFault → Type 0
Reads view (Ok x) read = read ≡ Ok (view x)
Reads view (Err fault) read = Fails fault read

-- This many bytes from the front and those after them, or the fault where there are fewer.
unfoldable pub taken : DecodeFault → ℕ → List ℕ → Result (List ℕ × List ℕ) DecodeFault
taken fault n bytes = if nat_le n (length bytes) then Ok (take n bytes, drop n bytes) else Err fault

-- The bytes after their length, and those after them.
unfoldable pub sized_at : DecodeFault → List ℕ → Result (List ℕ × List ℕ) DecodeFault
sized_at fault bytes = do
  size ← taken fault 4 bytes
  taken fault (from_be_bytes w32 size.0) size.1

-- The number of two halves in two's complement, where a column can hold it.
unfoldable pub number_of : ℕ → ℕ → Option Value
number_of high low = let n = cast_signed w128 (high * 2 ^ 64 + low) in if is_number n then Some (Num n) else None

-- A number, and what follows it.
unfoldable pub number_at : List ℕ → Result (Option Value × List ℕ) DecodeFault
number_at bytes = do
  high ← taken BadLength 8 bytes
  low ← taken BadLength 8 high.1
  Ok (number_of (from_be_bytes w64 high.0) (from_be_bytes w64 low.0), low.1)

-- The text that bytes are, where they are UTF-8.
abbrev pub text_of : List ℕ → Option Value
text_of bytes = if is_utf8 bytes then Some (Text bytes) else None

-- The first value and what follows it; there may be none that a column can hold.
unfoldable pub text_at : List ℕ → Result (Option Value × List ℕ) DecodeFault
text_at bytes = do
  text ← sized_at BadLength bytes
  Ok (text_of text.0, text.1)

unfoldable pub blob_at : List ℕ → Result (Option Value × List ℕ) DecodeFault
blob_at bytes = do
  blob ← sized_at BadLength bytes
  Ok (Some (Blob blob.0), blob.1)

unfoldable pub value_at : List ℕ → Result (Option Value × List ℕ) DecodeFault
value_at [] = Err BadLength
value_at (kind ∷ bytes) = if kind == 0 then Ok (Some Null, bytes) else (if kind == 1 then number_at bytes else (if kind == 2 then text_at bytes else (if kind == 3 then blob_at bytes else Err BadValue)))

-- The values so far with one more, unless one of them is none.
abbrev pub with_value : Option (List Value) → Option Value → Option (List Value)
with_value (Some values) (Some value) = Some (values ++ value ∷ [])
with_value values value = None

-- This many values after those so far, and what follows them.
unfoldable pub values_at : Option (List Value) → ℕ → List ℕ → Result (Option (List Value) × List ℕ) DecodeFault
values_at values zero bytes = Ok (values, bytes)
values_at values (suc n) bytes = do
  value ← value_at bytes
  values_at (with_value values value.0) n value.1

-- The name that bytes are, where it has at most 64 characters.
abbrev pub name_of : List ℕ → Option (List ℕ)
name_of bytes = if is_utf8 bytes && nat_le (character_count bytes) 64 then Some bytes else None

-- A name after its length in one byte, and what follows it.
unfoldable pub name_at : List ℕ → Result (Option (List ℕ) × List ℕ) DecodeFault
name_at [] = Err BadLength
name_at (size ∷ bytes) = if size == 0 then Err BadLength else (do
  name ← taken BadLength size bytes
  Ok (name_of name.0, name.1))

-- The number of columns, and what follows it.
unfoldable pub count_at : List ℕ → Result (ℕ × List ℕ) DecodeFault
count_at [] = Err BadLength
count_at (count ∷ bytes) = if nat_le 1 count && nat_le count 64 then Ok (count, bytes) else Err BadLength

-- The change of a tag that is no UPDATE's.
abbrev pub one_row : ℕ → Option (List Value) → Option Change
one_row tag (Some row) = if tag == 1 then Some (Write row) else Some (Delete row)
one_row tag None = None

-- The change of an UPDATE.
abbrev pub two_rows : Option (List Value) → Option (List Value) → Option Change
two_rows (Some before) (Some after) = Some (Update before after)
two_rows before after = None

-- The change of a tag, with this many columns, and what follows it.
unfoldable pub change_at : ℕ → ℕ → List ℕ → Result (Option Change × List ℕ) DecodeFault
change_at tag count bytes = do
  first ← values_at (Some []) count bytes
  if tag == 2 then (do
    second ← values_at (Some []) count first.1
    Ok (two_rows first.0 second.0, second.1)) else Ok (one_row tag first.0, first.1)

-- The event of a name and a change, where nothing follows them.
abbrev pub event_of : Option (List ℕ) → Option Change → List ℕ → Result RowEvent DecodeFault
event_of name change (byte ∷ bytes) = Err BadLength
event_of (Some name) (Some change) [] = Ok (record { table = name; change = change })
event_of name change [] = Err BadValue

-- The event whose body this is.
unfoldable pub event_at : ℕ → List ℕ → Result RowEvent DecodeFault
event_at tag body = do
  name ← name_at body
  count ← count_at name.1
  change ← change_at tag count.0 count.1
  event_of name.0 change.0 change.1

-- The event that bytes begin with, and how many of them it takes.
unfoldable pub decoded : List ℕ → Result (RowEvent × ℕ) DecodeFault
decoded [] = Err Cut
decoded (tag ∷ bytes) = do
  body ← sized_at Cut bytes
  if nat_le 1 tag && nat_le tag 3 then (do
    event ← event_at tag body.0
    Ok (event, length body.0 + 5)) else Err BadTag
