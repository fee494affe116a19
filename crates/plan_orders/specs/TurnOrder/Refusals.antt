-- Why an order of turns is refused.
use Rattle.std.specs.Prelude.{ℕ, Option, Some, None, Result, Ok, Err}
use Rattle.plan_orders.specs.declared.turn_order.fault.TurnRefusal.{TurnRefusal}

-- what was found, or that the word of this number is refused
abbrev pub or_refused : {A : Type 0} → ℕ → Option A → Result A TurnRefusal
or_refused word (Some found) = Ok found
or_refused word None = Err (record { word = word })
