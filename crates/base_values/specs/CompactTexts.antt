-- A text that its owner alone has, by where its bytes are.
use Rattle.std.specs.Prelude.{ℕ, List}
use Rattle.base_values.specs.declared.compact_text.Bytes.{Bytes}
use Rattle.base_values.specs.declared.compact_text.Bytes.TheVariants.{Here, Elsewhere}

abbrev pub bytes_of : Bytes → List ℕ
bytes_of (Here text) = text.bytes
bytes_of (Elsewhere text) = text
