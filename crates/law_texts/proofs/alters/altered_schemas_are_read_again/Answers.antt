use Rattle.proof_schemas.proofs.Alters.ReadAgain.Whole.{altered-again}
use Rattle.law_texts.proofs.alters.altered_schemas_are_read_again.Goals as goal

pub returns : goal.returns
returns c = altered-again c.stored_values_store_again.ensures
