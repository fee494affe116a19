-- Going on with a result.
use Rattle.std.specs.Prelude.{Result, Ok, Err}

infixl 10 ◌>>=◌
-- goes on with what was given; what was refused stays so
abbrev pub ◌>>=◌ : {A B C : Type 0} → Result A C → (A → Result B C) → Result B C
(Ok x) >>= f = f x
(Err fault) >>= f = Err fault
