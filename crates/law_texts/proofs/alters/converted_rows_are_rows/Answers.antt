use Rattle.proof_schemas.proofs.Alters.ConvertedRowRows.{converted_rows_are_rows, maps_fit}
use Rattle.law_texts.proofs.alters.converted_rows_are_rows.Goals as goal

pub returns-clause-rows : goal.returns-clause-rows
returns-clause-rows c = converted_rows_are_rows c.stored_values_store_again.ensures

pub returns-clause-maps : goal.returns-clause-maps
returns-clause-maps c = maps_fit
