use Rattle.proof_schemas.proofs.Alters.KeepingLaws.{altered-valid}
use Rattle.law_texts.proofs.alters.altered_schemas_are_valid.Goals as goal

pub returns : goal.returns
returns c = altered-valid c.stored_values_store_again.ensures
