use Rattle.proof_schemas.proofs.Alters.Clauses.{read-clauses}
use Rattle.law_texts.proofs.alters.read_clauses_write_kinds.Goals as goal

pub returns : goal.returns
returns c = read-clauses
