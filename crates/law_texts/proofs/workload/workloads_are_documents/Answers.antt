use Rattle.law_texts.proofs.Workloads.Document.DocumentRead.{workload_read}
use Rattle.law_texts.proofs.Workloads.Document.Sizes.{text_is_short, text_is_utf8}
use Rattle.law_texts.proofs.workload.workloads_are_documents.Goals as goal

pub returns : goal.returns
returns c = record { document = workload_read; utf8 = text_is_utf8; short = text_is_short }
