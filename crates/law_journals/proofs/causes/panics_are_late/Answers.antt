use Rattle.proof_order.proofs.Least.{panics_late}
use Rattle.law_journals.proofs.causes.panics_are_late.Goals as goal

pub returns : goal.returns
returns c = panics_late
