use Rattle.proof_schemas.proofs.ReadAgain.SoundSchemas.{read-prints}
use Rattle.law_texts.proofs.schemas.read_schemas_can_print.Goals as goal

pub returns : goal.returns
returns c = read-prints c.stored_values_store_again.ensures
