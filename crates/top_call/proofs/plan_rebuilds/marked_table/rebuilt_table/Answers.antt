use Rattle.top_call.proofs.Rebuilt.{given_table_shown}
use Rattle.top_call.proofs.plan_rebuilds.marked_table.rebuilt_table.Goals as goal

pub returns-in-Ok : goal.returns-in-Ok
returns-in-Ok g c =
    given_table_shown c.args.opening.now.table c.args.altered.now c.args.events.now c.as_slice.result.now c.in-Ok.table.table c.rebuilt_shown.result c.as_slice.ensures c.in-Ok.ensures.table c.in-Ok.ensures.unfit c.rebuilt_shown.ensures
