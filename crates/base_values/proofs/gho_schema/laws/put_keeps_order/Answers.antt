use Rattle.base_values.proofs.GhoSchema.Orders.{put_keeps}
use Rattle.base_values.proofs.gho_schema.laws.put_keeps_order.Goals as goal

pub returns : goal.returns
returns c = put_keeps c.keys_are_ordered.ensures.0
