-- What a column stores of a value whose bytes are bytes is plain.
use Rattle.std.proofs.Common.{◌≡◌, Bool, false, List, [], ◌∷◌, Some, Ok, ap, None}
use Rattle.std.specs.List.{AllByRecursion}
use Rattle.base_values.specs.declared.kind.Kind.{Kind}
use Rattle.base_values.specs.declared.value.Value.{Value}
use Rattle.base_values.specs.declared.value.Value.TheVariants.{Null, Num, Text, Blob}
use Rattle.base_values.specs.SchemaRules.Defaults.{stored}
use Rattle.base_values.specs.StoredValues.{stores}
use Rattle.base_values.proofs.StoredValues.{keeps}
use Rattle.proof_schemas.proofs.ReadAgain.SoundSchemas.{default-sound, default-prints}
use Rattle.proof_schemas.proofs.ReadAgain.SoundTables.{SoundDefault}
use Rattle.proof_plain.specs.Plain.{HasBytes, IsPlain}

-- ---- what is stored

plain_bytes : (value : Value) → IsPlain value → HasBytes value
plain_bytes Null plain = tt
plain_bytes (Num number) plain = tt
plain_bytes (Text text) plain = plain
plain_bytes (Blob blob) plain = plain

pub rows_bytes : (row : List Value) → AllByRecursion IsPlain row → AllByRecursion HasBytes row
rows_bytes [] plain = tt
rows_bytes (value ∷ row) plain = (plain_bytes value plain.0, rows_bytes row plain.1)

-- a value that a column stores as it is: its numbers can be printed as a default
stored_as_is : (value : Value) (kind : Kind) (nullable : Bool) → HasBytes value → stores value kind nullable ≡ Ok value → IsPlain value
stored_as_is Null kind nullable has is = tt
stored_as_is (Num number) kind nullable has is = default-prints (record { name = []; kind = kind; nullable = nullable; default = None; auto = false }) (Some (Num number)) tt is
stored_as_is (Text text) kind nullable has is = has
stored_as_is (Blob blob) kind nullable has is = has

pub sound_bytes : (value : Value) → SoundDefault (Some value) → HasBytes value
sound_bytes Null sound = tt
sound_bytes (Num number) sound = tt
sound_bytes (Text text) sound = sound
sound_bytes (Blob blob) sound = sound

bytes_sound : (value : Value) → HasBytes value → SoundDefault (Some value)
bytes_sound Null has = tt
bytes_sound (Num number) has = tt
bytes_sound (Text text) has = has
bytes_sound (Blob blob) has = has

-- *What a column stores is plain*
pub stored_plain : (value : Value) (kind : Kind) (nullable : Bool) (made : Value) → HasBytes value → stores value kind nullable ≡ Ok made → IsPlain made
stored_plain value kind nullable made has is =
    stored_as_is made kind nullable (sound_bytes made (default-sound kind nullable (Some value) (Some made) (bytes_sound value has) (ap stored is))) (keeps value kind nullable made is).again
