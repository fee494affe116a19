use Rattle.server_transaction.proofs.SaidEvents.{operation_fits, said_fits}
use Rattle.server_transaction.proofs.laws.said_events_fit.Goals as goal

pub returns : goal.returns
returns c = record { statements = said_fits; jobs = operation_fits }
