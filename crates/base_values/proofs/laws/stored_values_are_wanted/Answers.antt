use Rattle.base_values.proofs.StoredValues.{keeps}
use Rattle.base_values.proofs.laws.stored_values_are_wanted.Goals as goal

pub returns : goal.returns
returns c = λ value kind nullable stored e some. (keeps value kind nullable stored e).sought some
