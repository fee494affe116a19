use Rattle.law_texts.proofs.TurnOrders.Orders.{turns_are}
use Rattle.law_texts.proofs.orders.printed_orders_are_those_turns.Goals as goal

pub returns : goal.returns
returns c = turns_are
