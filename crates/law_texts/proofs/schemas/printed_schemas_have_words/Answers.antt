use Rattle.proof_schemas.proofs.Printed.Tables.{printed-words}
use Rattle.law_texts.proofs.schemas.printed_schemas_have_words.Goals as goal

pub returns : goal.returns
returns c = printed-words
