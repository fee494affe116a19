use Rattle.top_call.proofs.FinishLaws.Stated.{finishes_tell_the_alter}
use Rattle.top_call.proofs.finishes.finishes_tell_the_alter.Goals as goal

pub returns : goal.returns
returns c = finishes_tell_the_alter c.read_plans_stand.ensures
