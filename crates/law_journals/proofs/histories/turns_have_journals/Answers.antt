use Rattle.proof_journals.proofs.Existing.{turns_have_journals}
use Rattle.law_journals.proofs.histories.turns_have_journals.Goals as goal

pub returns : goal.returns
returns c = turns_have_journals
