use Rattle.law_texts.proofs.TurnOrders.Orders.{orders_read}
use Rattle.law_texts.proofs.orders.printed_orders_are_read.Goals as goal

pub returns : goal.returns
returns c = orders_read
