use Rattle.proof_journals.proofs.Exchanging.{exchange_alters}
use Rattle.law_journals.proofs.histories.exchange_alters.Goals as goal

pub returns : goal.returns
returns c = exchange_alters
