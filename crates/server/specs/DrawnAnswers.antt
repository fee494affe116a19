-- The number that was drawn for an answer, where there is one.
use Rattle.std.specs.Prelude.{ℕ, Option, Some, None}
use Rattle.server.specs.declared.drawn_answers.DrawnAnswer.{DrawnAnswer}

abbrev pub drawn_of : Option DrawnAnswer → Option ℕ
drawn_of None = None
drawn_of (Some one) = one.drawn
