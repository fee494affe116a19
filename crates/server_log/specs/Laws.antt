-- What holds of all events and their encodings. The functions of the module `laws` prove each.
use Rattle.std.specs.Prelude.{◌≡◌, ℕ, ◌<◌, List, ◌++◌, length, take, Ok}
use Rattle.std.specs.List.{AllByRecursion}
use Rattle.std.specs.Str.{IsUtf8}
use Rattle.base_values.specs.declared.value.Value.{Value}
use Rattle.base_values.specs.declared.value.Value.TheVariants.{Text}
use Rattle.base_values.specs.declared.event.RowEvent.{RowEvent}
use Rattle.server_log.specs.Encodings.{encoded, values_of, IsEncodable}
use Rattle.server_log.specs.Decodings.{decoded}

-- A value that the program can hold: texts are UTF-8.
abbrev pub IsHeld : Value → Type 0
IsHeld (Text text) = IsUtf8 text
IsHeld value = Unit {0}

-- An event that the program can hold and that is encoded.
pub record IsWritten (event : RowEvent) : Type 0 where
  pub encoded : IsEncodable event
  pub name : IsUtf8 event.table
  pub values : AllByRecursion IsHeld (values_of event.change)

-- What is written is read, whatever comes after it.
abbrev pub ReadsWhatIsWritten : Type 0
ReadsWhatIsWritten = (event : RowEvent) (following : List ℕ) → IsWritten event → decoded (encoded event ++ following) ≡ Ok (event, length (encoded event))

-- No encoding is a prefix of another: where two begin the same bytes, they are of one event.
abbrev pub NoEncodingIsAPrefix : Type 0
NoEncodingIsAPrefix = (event other : RowEvent) (following after_other : List ℕ) → IsWritten event → IsWritten other → encoded event ++ following ≡ encoded other ++ after_other → event ≡ other

-- What is read is encoded so, in just the bytes that were read.
abbrev pub ReadsWhatIsEncodable : Type 0
ReadsWhatIsEncodable = (bytes : List ℕ) (event : RowEvent) (n : ℕ) → AllByRecursion (λ byte. byte < 256) bytes → decoded bytes ≡ Ok (event, n) → (encoded event ≡ take n bytes) × IsWritten event
