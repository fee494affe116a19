use Rattle.law_texts.proofs.Workloads.Computed.{schema_read, table_valid, alter_read, alter_taken, altered_valid}
use Rattle.law_texts.proofs.workload.workload_alters_are_taken.Goals as goal

pub returns : goal.returns
returns c = record { created = schema_read; valid = table_valid; said = alter_read; taken = alter_taken; altered_valid = altered_valid }
