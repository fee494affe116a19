-- *Orders* of a plan: what the operator commands, which sessions are lost, and whose turns are asked for. This project's
-- rule.
use Rattle.std.specs.Prelude.{ℕ, Bool, ◌||◌, nat_lt, if◌then◌else◌, List, Result, Ok, Err}
use Rattle.base_values.specs.SchemaRules.Results.{◌>>=◌}
use Rattle.base_script.specs.declared.loss.Loss.{Loss}
use Rattle.base_script.specs.declared.operator.Command.{Command}
use Rattle.plan_orders.specs.Losses.{loss_of}
use Rattle.plan_orders.specs.Operators.{command_count, operator_of}
use Rattle.plan_orders.specs.TurnOrder.Turns.{turn_count, turns_of}
use Rattle.plan_data.specs.declared.runs.ActorRun.{ActorRun}
use Rattle.plan_keys.specs.declared.fault.KeyRefusal.TheVariants.{TooMany}
use Rattle.plan_keys.specs.Limits.{TextData}
use Rattle.plan_keys.specs.PlanKeys.{KeyData}
use Rattle.plan_reader.specs.declared.limits.TheConstants.{COMMAND_LIMIT, ORDER_LIMIT}
use Rattle.plan_reader.specs.declared.fault.PlanRefusal.{PlanRefusal}
use Rattle.plan_reader.specs.declared.fault.PlanRefusal.TheVariants.{Keys}
use Rattle.plan_reader.specs.declared.orders.Orders.{Orders}
use Rattle.plan_reader.specs.Refusals.{of_operator, of_fault, of_turns}
use Rattle.plan_reader.specs.Walks.{each_from}

pub record OrderData : Type 0 where
  -- the operator's commands
  pub operator : List Command
  -- the losses of sessions
  pub faults : List Loss
  -- the order of turns that is asked for
  pub turns : List ActorRun

-- more than 1,000 commands, or more than 1,000,000 turns
abbrev pub has_many_orders : TextData → Bool
has_many_orders texts = nat_lt COMMAND_LIMIT (command_count texts.operator) || nat_lt ORDER_LIMIT (turn_count texts.turns)

abbrev pub few_orders : KeyData → Result KeyData PlanRefusal
few_orders keys = if has_many_orders keys.texts then Err (Keys TooMany) else Ok keys

-- the loss of this number of a plan with this many clients
abbrev pub numbered_loss : ℕ → ℕ → List ℕ → Result Loss PlanRefusal
numbered_loss clients fault text = of_fault fault (loss_of clients text)

abbrev pub faults_of : ℕ → List (List ℕ) → Result (List Loss) PlanRefusal
faults_of clients texts = each_from (numbered_loss clients) 1 texts

-- *Orders* of a plan with this many clients: the operator's lines come first, then the losses, then the words of the turns.
unfoldable pub orders_of : ℕ → TextData → Result OrderData PlanRefusal
orders_of clients texts = do
  operator ← of_operator (operator_of texts.operator)
  faults ← faults_of clients texts.faults
  turns ← of_turns (turns_of clients texts.turns)
  Ok (record { operator = operator; faults = faults; turns = turns })

-- what the code found, seen as that
abbrev pub order_data : Orders → OrderData
order_data orders = record { operator = orders.operator; faults = orders.faults; turns = orders.turns }
