use Rattle.proof_schemas.proofs.Valid.{read-valid}
use Rattle.law_texts.proofs.schemas.read_schemas_are_valid.Goals as goal

pub returns : goal.returns
returns c = read-valid c.stored_values_store_again.ensures
