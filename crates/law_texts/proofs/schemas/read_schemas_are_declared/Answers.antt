use Rattle.proof_schemas.proofs.ReadAgain.ReadDeclared.{read-declared}
use Rattle.law_texts.proofs.schemas.read_schemas_are_declared.Goals as goal

pub returns : goal.returns
returns c = read-declared
