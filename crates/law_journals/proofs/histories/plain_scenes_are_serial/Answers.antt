use Rattle.proof_journals.proofs.Journals.{plain_scenes_are_serial}
use Rattle.law_journals.proofs.histories.plain_scenes_are_serial.Goals as goal

pub returns : goal.returns
returns c = plain_scenes_are_serial
