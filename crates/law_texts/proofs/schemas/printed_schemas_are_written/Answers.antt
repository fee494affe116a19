use Rattle.proof_schemas.proofs.Printed.Written.{printed-written}
use Rattle.law_texts.proofs.schemas.printed_schemas_are_written.Goals as goal

pub returns : goal.returns
returns c = printed-written
