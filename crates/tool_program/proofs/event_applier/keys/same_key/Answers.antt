use Rattle.std.proofs.Common.{◌∙◌}
use Rattle.tool_program.proofs.EventApplier.RowKeys.{keys_equal}
use Rattle.tool_program.proofs.event_applier.keys.same_key.Goals as goal

pub returns : goal.returns
returns c = c.same_places.ensures ∙ keys_equal c.args.map.now c.args.before.now c.args.after.now c.args.places.now
