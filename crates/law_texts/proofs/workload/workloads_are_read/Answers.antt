use Rattle.law_texts.proofs.Workloads.Plans.PlansRead.{plans_read}
use Rattle.law_texts.proofs.workload.workloads_are_read.Goals as goal

pub returns : goal.returns
returns c = plans_read
