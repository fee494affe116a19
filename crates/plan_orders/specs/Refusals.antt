-- The number and the name of each refusal (this project's).
use Rattle.std.specs.Prelude.{codes, ℕ, List, Option, Some, None, Result, Ok, Err}
use Rattle.plan_orders.specs.declared.fault.OrderRefusal.{OrderRefusal}
use Rattle.plan_orders.specs.declared.fault.OrderRefusal.TheVariants.{Command, Loss, LossActor}

abbrev pub order_code : OrderRefusal → ℕ × List ℕ
order_code (Command line) = (47, codes "operator_word")
order_code Loss = (48, codes "fault_line")
order_code LossActor = (56, codes "unknown_name")

-- what was found, or this refusal where nothing was
abbrev pub or_refused : {A : Type 0} → OrderRefusal → Option A → Result A OrderRefusal
or_refused refusal (Some found) = Ok found
or_refused refusal None = Err refusal
