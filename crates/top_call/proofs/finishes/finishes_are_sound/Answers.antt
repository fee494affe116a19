use Rattle.top_call.proofs.FinishLaws.Stated.{finishes_are_sound}
use Rattle.top_call.proofs.finishes.finishes_are_sound.Goals as goal

pub returns : goal.returns
returns c = finishes_are_sound c.read_plans_stand.ensures c.runs_stand.ensures c.finishes_are_few.ensures
