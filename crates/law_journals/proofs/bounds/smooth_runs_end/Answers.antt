use Rattle.law_journals.proofs.Sums.{smooth_done, roomy_end}
use Rattle.law_journals.proofs.bounds.smooth_runs_end.Goals as goal

pub returns : goal.returns
returns c = record { smooth = smooth_done c.smooth_runs_are_done.ensures c.read_plans_are_runnable.ensures; roomy = roomy_end c.runs_are_bounded.ensures }
