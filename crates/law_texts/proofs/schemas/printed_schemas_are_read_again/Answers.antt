use Rattle.proof_schemas.proofs.ReadAgain.Reread.{printed-again}
use Rattle.law_texts.proofs.schemas.printed_schemas_are_read_again.Goals as goal

pub returns : goal.returns
returns c = printed-again
