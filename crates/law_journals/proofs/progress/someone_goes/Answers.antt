use Rattle.proof_migration.proofs.Going.Goes.{someone_goes}
use Rattle.law_journals.proofs.progress.someone_goes.Goals as goal

pub returns : goal.returns
returns c = someone_goes c.entries_are_turns.ensures
