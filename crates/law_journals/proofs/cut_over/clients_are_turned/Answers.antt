use Rattle.proof_migration.proofs.CutOver.Clients.{clients_turned}
use Rattle.law_journals.proofs.cut_over.clients_are_turned.Goals as goal

pub returns : goal.returns
returns c = clients_turned c.entries_are_turns.ensures
