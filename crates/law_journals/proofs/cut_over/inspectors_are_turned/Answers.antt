use Rattle.proof_migration.proofs.Program.InspectorTurns.Inspectors.{inspectors_turned}
use Rattle.law_journals.proofs.cut_over.inspectors_are_turned.Goals as goal

pub returns : goal.returns
returns c = inspectors_turned c.entries_are_turns.ensures c.hints_are_known.ensures
