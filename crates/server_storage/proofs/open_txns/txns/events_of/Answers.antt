use Rattle.std.proofs.Common.{ap, ◌∙◌}
use Rattle.server_storage.specs.OpenTxns.Open.{written_in}
use Rattle.server_storage.proofs.open_txns.txns.events_of.Goals as goal

pub returns-in-Some : goal.returns-in-Some
returns-in-Some c = c.events.ensures ∙ ap written_in c.in-Some.ensures

pub returns-in-None : goal.returns-in-None
returns-in-None c = ap written_in c.in-None.ensures
