use Rattle.proof_schemas.proofs.Printed.Reading.{column-read}
use Rattle.law_texts.proofs.schemas.printed_columns_are_read.Goals as goal

pub returns : goal.returns
returns c = column-read
