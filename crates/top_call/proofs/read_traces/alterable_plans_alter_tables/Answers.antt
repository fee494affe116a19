use Rattle.top_call.proofs.AlteringPlans.{alters_tables}
use Rattle.top_call.proofs.read_traces.alterable_plans_alter_tables.Goals as goal

pub returns : goal.returns
returns c = alters_tables c.stored_values_store_again.ensures
