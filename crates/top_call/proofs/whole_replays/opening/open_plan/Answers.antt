use Rattle.std.proofs.Common.{◌∙◌}
use Rattle.top_call.proofs.WholeReplays.AtOpening.{valid_schemas, well_formed}
use Rattle.top_call.proofs.whole_replays.opening.open_plan.Goals as goal

pub open_server-requires-clause-well_formed : goal.open_server-requires-clause-well_formed
open_server-requires-clause-well_formed c = well_formed c.read_plans_are_serial.ensures.serial c.args.plan.now c.requires _ (c.in_ok-tables.ensures ∙ c.tables.ensures)

pub open_server-requires-clause-valid : goal.open_server-requires-clause-valid
open_server-requires-clause-valid c = valid_schemas c.args.plan.now c.requires _ (c.in_ok-tables.ensures ∙ c.tables.ensures) c.read_names.ensures
