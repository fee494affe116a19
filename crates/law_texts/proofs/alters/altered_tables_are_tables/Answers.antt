use Rattle.proof_schemas.proofs.Alters.ConvertedRowTables.{altered_tables_are}
use Rattle.law_texts.proofs.alters.altered_tables_are_tables.Goals as goal

pub returns : goal.returns
returns c = altered_tables_are c.stored_values_store_again.ensures
