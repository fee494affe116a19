use Rattle.law_texts.proofs.Workloads.Document.KeysRead.{keys_read}
use Rattle.law_texts.proofs.workload.workload_keys_are_in_range.Goals as goal

pub returns : goal.returns
returns c = keys_read
