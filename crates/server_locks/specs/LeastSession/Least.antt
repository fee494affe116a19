-- The least of several sessions. (That an answer names the least session that blocks is this project's rule.)
use Rattle.std.specs.Prelude.{ℕ, min, Option, Some, None}

-- The lesser of two sessions, or the one that is there.
abbrev pub least : Option ℕ → Option ℕ → Option ℕ
least None b = b
least (Some a) None = Some a
least (Some a) (Some b) = Some (min a b)
