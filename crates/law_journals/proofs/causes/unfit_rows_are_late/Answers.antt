use Rattle.proof_order.proofs.LeastUnfit.{unfit_late}
use Rattle.law_journals.proofs.causes.unfit_rows_are_late.Goals as goal

pub returns : goal.returns
returns c = unfit_late
