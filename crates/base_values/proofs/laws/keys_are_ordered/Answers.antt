use Rattle.base_values.proofs.Orders.{keys_total, tied_keys}
use Rattle.base_values.proofs.laws.keys_are_ordered.Goals as goal

pub returns : goal.returns
returns c = (keys_total, tied_keys)
