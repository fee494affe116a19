use Rattle.proof_journals.proofs.Rising.{numbers_rise}
use Rattle.law_journals.proofs.histories.numbers_rise.Goals as goal

pub returns : goal.returns
returns c = numbers_rise
