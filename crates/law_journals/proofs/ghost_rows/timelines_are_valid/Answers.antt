use Rattle.proof_journals.proofs.Ghost.Rows.Steps.{timeline}
use Rattle.law_journals.proofs.ghost_rows.timelines_are_valid.Goals as goal

pub returns : goal.returns
returns c = timeline
