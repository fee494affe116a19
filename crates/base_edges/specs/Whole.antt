-- Whole texts, read from a source and given to a sink.
use Rattle.std.specs.Prelude.{◌≡◌, ℕ, ◌+◌, ◌≤◌, ◌⊎◌, List, ◌++◌, length, take, Option}
use Rattle.std.specs.Io.KnownBytes.{Appends, Consumes, IsAtEnd}

-- How reading ends: at the source's end with at most the limit's bytes, or with one byte past it. This project's rule.
abbrev pub StopsReading : ℕ → Option (List ℕ) → List ℕ → Type 0
StopsReading limit left bytes = (IsAtEnd left × (length bytes ≤ limit)) ⊎ (length bytes ≡ limit + 1)

-- These bytes were taken from the source, all that it had or one more than the limit. This project's rule.
pub record ReadsWhole (limit : ℕ) (old new : Option (List ℕ)) (bytes : List ℕ) : Type 0 where
  pub taken : Consumes old new bytes
  pub stops : StopsReading limit new bytes

-- Bytes went from the source to the end of a list. This project's rule.
pub record Moves (old new : Option (List ℕ)) (before after : List ℕ) : Type 0 where
  pub piece : List ℕ
  pub grown : after ≡ before ++ piece
  pub taken : Consumes old new piece

-- The sink took a prefix of the text. This project's rule.
abbrev pub GivesPart : Option (List ℕ) → Option (List ℕ) → List ℕ → Type 0
GivesPart old new text = (n : ℕ) × (n ≤ length text) × Appends old new (take n text)
