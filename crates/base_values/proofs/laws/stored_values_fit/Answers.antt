use Rattle.base_values.proofs.StoredValues.{keeps, fit_stores}
use Rattle.base_values.proofs.laws.stored_values_fit.Goals as goal

pub returns : goal.returns
returns c = (λ value kind nullable stored e. (keeps value kind nullable stored e).fit, fit_stores)
