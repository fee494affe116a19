use Rattle.base_values.proofs.StoredValues.{keeps}
use Rattle.base_values.proofs.laws.stored_values_store_again.Goals as goal

pub returns : goal.returns
returns c = λ value kind nullable stored e. (keeps value kind nullable stored e).again
