use Rattle.top_workload.specs.Workloads.{row_count}
use Rattle.law_texts.specs.Workloads.Document.Texts.{client_state}
use Rattle.law_texts.proofs.Workloads.Document.Texts.{rows_counted}
use Rattle.law_texts.proofs.Workloads.ScriptsRead.{script_read}
use Rattle.law_texts.proofs.workload.workload_scripts_are_read.Goals as goal

pub returns : goal.returns
returns c = λ number client tools other. script_read tools (row_count number) (client_state number client) other (rows_counted number)
