use Rattle.top_call.proofs.FinishedMarks.{finished_marks}
use Rattle.top_call.proofs.marks.finished_marks_are_rebuilt.Goals as goal

pub returns : goal.returns
returns c = finished_marks c.read_plans_stand.ensures
