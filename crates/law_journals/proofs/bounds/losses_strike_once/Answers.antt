use Rattle.proof_bounds.proofs.Losses.{losses_strike}
use Rattle.law_journals.proofs.bounds.losses_strike_once.Goals as goal

pub returns : goal.returns
returns c = losses_strike
