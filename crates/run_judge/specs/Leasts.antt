-- The lesser of two turns. (This project's rule.)
use Rattle.std.specs.Prelude.{ℕ, Option, Some, None}
use Rattle.run_audit.specs.Audits.{least_with}

-- the lesser of two turns, where there are any
abbrev pub lesser : Option ℕ → Option ℕ → Option ℕ
lesser None other = other
lesser (Some turn) other = least_with turn other
