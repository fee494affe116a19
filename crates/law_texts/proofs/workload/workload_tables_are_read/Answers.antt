use Rattle.law_texts.proofs.Workloads.TablesRead.{tables_read}
use Rattle.law_texts.proofs.Workloads.TablesSound.{tables_sound}
use Rattle.proof_schemas.proofs.Stored.{schemas_valid}
use Rattle.law_texts.proofs.workload.workload_tables_are_read.Goals as goal

pub returns : goal.returns
returns c = record { read = tables_read; tables = tables_sound (record { again = c.stored_values_store_again.ensures; put = c.put_keeps_tables.ensures }) schemas_valid }
