use Rattle.proof_journals.proofs.Ghost.Rows.Steps.{log_grows_on}
use Rattle.law_journals.proofs.ghost_rows.logs_grow.Goals as goal

pub returns : goal.returns
returns c = log_grows_on
