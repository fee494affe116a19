use Rattle.std.proofs.Common.{◌∙◌}
use Rattle.server_transaction.proofs.writes.Writes.events.Goals as goal

pub returns : goal.returns
returns c = rw (← c.self.view_is) (c.as_slice.ensures.value ∙ c.self.invariant.events_are)
