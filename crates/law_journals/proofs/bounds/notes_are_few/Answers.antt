use Rattle.proof_bounds.proofs.Notes.{notes_few}
use Rattle.law_journals.proofs.bounds.notes_are_few.Goals as goal

pub returns : goal.returns
returns c = notes_few
