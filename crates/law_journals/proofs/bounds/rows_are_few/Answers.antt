use Rattle.proof_journals.proofs.Ghost.Rows.Counts.{rows_few}
use Rattle.law_journals.proofs.bounds.rows_are_few.Goals as goal

pub returns : goal.returns
returns c = rows_few
