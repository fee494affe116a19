use Rattle.proof_journals.proofs.Ghost.Rows.Steps.{chunk_begins_on, row_is_copied, row_is_met}
use Rattle.law_journals.proofs.ghost_rows.rows_are_copied.Goals as goal

pub returns-clause-begun : goal.returns-clause-begun
returns-clause-begun c = chunk_begins_on

pub returns-clause-copied : goal.returns-clause-copied
returns-clause-copied c = row_is_copied

pub returns-clause-met : goal.returns-clause-met
returns-clause-met c = row_is_met
