use Rattle.proof_migration.proofs.CutOver.Clients.{operators_turned}
use Rattle.law_journals.proofs.cut_over.operators_are_turned.Goals as goal

pub returns : goal.returns
returns c = operators_turned c.entries_are_turns.ensures
