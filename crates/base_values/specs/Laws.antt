-- What holds of all values, keys and spans. The functions of the module `laws` prove each.
use Rattle.std.specs.Prelude.{◌≡◌, ◌≢◌, ◌<◌, Bool, true, List, Ok}
use Rattle.std.specs.declared.cmp.Ordering.TheVariants.{Equal}
use Rattle.std.specs.Cmp.{IsTotalOrder}
use Rattle.std.specs.Int.{w128}
use Rattle.std.specs.Int.RustNames.{FitsSigned}
use Rattle.std.specs.List.{AllByRecursion}
use Rattle.base_values.specs.declared.kind.Kind.{Kind}
use Rattle.base_values.specs.declared.span.Span.{Span}
use Rattle.base_values.specs.declared.value.Value.{Value}
use Rattle.base_values.specs.declared.value.Value.TheVariants.{Null, Num, Text, Blob}
use Rattle.base_values.specs.KeyOrder.{compare_values, compare_keys}
use Rattle.base_values.specs.Literals.{printed}
use Rattle.base_values.specs.Spans.{has, meets, point}
use Rattle.base_values.specs.StoredValues.{stores, seeks, fits, IsOfKind}

-- The order of values is total, and two values that it ties are one.
abbrev pub ValuesAreOrdered : Type 0
ValuesAreOrdered = IsTotalOrder compare_values × ((a b : Value) → compare_values a b ≡ Equal → a ≡ b)

-- The order of keys is total, and two keys that it ties are one.
abbrev pub KeysAreOrdered : Type 0
KeysAreOrdered = IsTotalOrder compare_keys × ((a b : List Value) → compare_keys a b ≡ Equal → a ≡ b)

-- What is stored is stored again as itself.
abbrev pub StoresAgain : Type 0
StoresAgain = (value : Value) (kind : Kind) (nullable : Bool) (stored : Value) → stores value kind nullable ≡ Ok stored → stores stored kind nullable ≡ Ok stored

-- What is stored fits its column, and what fits and is no null is stored as itself.
abbrev pub StoresWhatFits : Type 0
StoresWhatFits =
    ((value : Value) (kind : Kind) (nullable : Bool) (stored : Value) → stores value kind nullable ≡ Ok stored → fits stored kind ≡ true)
    × ((value : Value) (kind : Kind) (nullable : Bool) → fits value kind ≡ true → value ≢ Null → stores value kind nullable ≡ Ok value)

-- Only a null is stored as a null, and only where the column may be null.
abbrev pub StoresNullWhereNullable : Type 0
StoresNullWhereNullable = (value : Value) (kind : Kind) (nullable : Bool) → stores value kind nullable ≡ Ok Null → (value ≡ Null) × (nullable ≡ true)

-- What is stored and no null, and what is wanted, is of the column's kind.
abbrev pub KeepsKind : Type 0
KeepsKind =
    ((value : Value) (kind : Kind) (nullable : Bool) (stored : Value) → stores value kind nullable ≡ Ok stored → stored ≢ Null → IsOfKind stored kind)
    × ((value : Value) (kind : Kind) (sought : Value) → seeks value kind ≡ Ok sought → IsOfKind sought kind)

-- Where a value is stored and no null, the same value is wanted.
abbrev pub SeeksWhatIsStored : Type 0
SeeksWhatIsStored = (value : Value) (kind : Kind) (nullable : Bool) (stored : Value) → stores value kind nullable ≡ Ok stored → stored ≢ Null → seeks value kind ≡ Ok stored

-- Which of two spans is named first doesn't matter.
abbrev pub MeetsBothWays : Type 0
MeetsBothWays = (a b : Span) → meets a b ≡ meets b a

-- Two spans that have a key in common leave room for it.
abbrev pub MeetsAtCommonKeys : Type 0
MeetsAtCommonKeys = (a b : Span) (key : List Value) → has a key ≡ true → has b key ≡ true → meets a b ≡ true

-- The span of one key has that key alone, and meets just the spans that have it.
abbrev pub PointsMeetWhatHasThem : Type 0
PointsMeetWhatHasThem =
    ((key : List Value) → has (point key) key ≡ true)
    × ((key other : List Value) → has (point key) other ≡ true → other ≡ key)
    × ((key : List Value) (span : Span) → meets (point key) span ≡ has span key)

-- A value that the program can hold: numbers of 128 bits, and bytes.
abbrev pub IsHeld : Value → Type 0
IsHeld Null = Unit {0}
IsHeld (Num n) = FitsSigned w128 n
IsHeld (Text text) = Unit {0}
IsHeld (Blob blob) = AllByRecursion (λ byte. byte < 256) blob

-- Values that print alike are one value.
abbrev pub PrintsApart : Type 0
PrintsApart = (a b : Value) → IsHeld a → IsHeld b → printed a ≡ printed b → a ≡ b
