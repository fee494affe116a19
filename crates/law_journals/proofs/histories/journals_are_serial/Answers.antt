use Rattle.proof_journals.proofs.PlanJournals.{journals_are_serial}
use Rattle.law_journals.proofs.histories.journals_are_serial.Goals as goal

pub returns : goal.returns
returns c = journals_are_serial
