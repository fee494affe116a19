use Rattle.base_values.proofs.PrintedValues.{printed_apart}
use Rattle.base_values.proofs.laws.values_print_apart.Goals as goal

pub returns : goal.returns
returns c = printed_apart
