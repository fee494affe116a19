use Rattle.proof_journals.proofs.Machine.Verdicts.{verdicts_tell}
use Rattle.law_journals.proofs.machines.verdicts_tell_the_alter.Goals as goal

pub returns : goal.returns
returns c = verdicts_tell
