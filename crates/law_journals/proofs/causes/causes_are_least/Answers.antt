use Rattle.proof_order.proofs.LeastCauses.Places.{cause_least}
use Rattle.law_journals.proofs.LeastCauses.{reads_rise, tries_left}
use Rattle.law_journals.proofs.causes.causes_are_least.Goals as goal

pub returns : goal.returns
returns c = λ plan journal cause other alterable runs serial some kept stands verdict.
    cause_least plan runs serial (reads_rise plan (c.batches_go_on.ensures plan alterable runs serial)) some (tries_left plan some c.tries_are_few.ensures) journal cause kept verdict other stands
