use Rattle.proof_schemas.proofs.Alters.TableNames.{keep_names}
use Rattle.law_texts.proofs.alters.altered_tables_keep_names.Goals as goal

pub returns : goal.returns
returns c = keep_names
