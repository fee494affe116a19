use Rattle.proof_journals.proofs.Machine.Whole.{losses}
use Rattle.law_journals.proofs.machines.losses_may_be.Goals as goal

pub returns : goal.returns
returns c = losses
