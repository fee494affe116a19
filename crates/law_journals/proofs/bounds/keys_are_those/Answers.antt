use Rattle.proof_journals.proofs.Ghost.Rows.Counts.{keys_those}
use Rattle.law_journals.proofs.bounds.keys_are_those.Goals as goal

pub returns : goal.returns
returns c = keys_those
