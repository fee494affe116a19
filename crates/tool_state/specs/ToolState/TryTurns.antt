-- The turns in which a task failed, and for how many there is room. (This project's rule.)
use Rattle.std.specs.Prelude.{ℕ, List}

pub record TryTurns : Type 0 where
  pub turns : List ℕ
  pub room : ℕ
