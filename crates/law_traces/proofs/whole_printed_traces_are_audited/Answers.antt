use Rattle.law_traces.proofs.PrintedWholes.{printed_wholes}
use Rattle.law_traces.proofs.whole_printed_traces_are_audited.Goals as goal

pub returns : goal.returns
returns c = printed_wholes c.accepted_plans_stand.ensures c.kept_runs_are_finishable.ensures.finishable c.printed_traces_are_read.ensures c.whole_traces_are_audited.ensures
