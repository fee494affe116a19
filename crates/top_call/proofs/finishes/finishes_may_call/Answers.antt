use Rattle.top_call.proofs.FinishLaws.Stated.{finishes_may_call}
use Rattle.top_call.proofs.finishes.finishes_may_call.Goals as goal

pub returns : goal.returns
returns c = finishes_may_call c.read_plans_stand.ensures
