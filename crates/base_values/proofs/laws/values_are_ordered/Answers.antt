use Rattle.base_values.proofs.Orders.{tied_values}
use Rattle.base_values.specs.ValueOrder.{values_total}
use Rattle.base_values.proofs.laws.values_are_ordered.Goals as goal

pub returns : goal.returns
returns c = (values_total, tied_values)
