use Rattle.base_values.proofs.StoredValues.{keeps, wanted_of_kind}
use Rattle.base_values.proofs.laws.columns_keep_their_kind.Goals as goal

pub returns : goal.returns
returns c = (λ value kind nullable stored e some. (keeps value kind nullable stored e).of_kind some, wanted_of_kind)
