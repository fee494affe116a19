use Rattle.base_values.proofs.StoredValues.{keeps}
use Rattle.std.proofs.Common.{refl}
use Rattle.base_values.specs.declared.value.Value.TheVariants.{Null}
use Rattle.base_values.proofs.laws.nulls_are_stored_where_nullable.Goals as goal

pub returns : goal.returns
returns c = λ value kind nullable e. (keeps value kind nullable Null e).null refl
