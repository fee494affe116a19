use Rattle.proof_schemas.proofs.Alters.Counting.{altered-declared}
use Rattle.law_texts.proofs.alters.altered_schemas_are_declared.Goals as goal

pub returns : goal.returns
returns c = altered-declared
