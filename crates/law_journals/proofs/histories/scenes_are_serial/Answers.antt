use Rattle.proof_journals.proofs.Journals.{scenes_are_serial}
use Rattle.law_journals.proofs.histories.scenes_are_serial.Goals as goal

pub returns : goal.returns
returns c = scenes_are_serial
