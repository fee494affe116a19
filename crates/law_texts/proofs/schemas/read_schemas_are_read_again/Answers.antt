use Rattle.proof_schemas.proofs.ReadAgain.SoundSchemas.{read-again}
use Rattle.law_texts.proofs.schemas.read_schemas_are_read_again.Goals as goal

pub returns : goal.returns
returns c = read-again c.stored_values_store_again.ensures
