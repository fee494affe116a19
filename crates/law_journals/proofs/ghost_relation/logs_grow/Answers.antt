use Rattle.proof_journals.proofs.Ghost.Relation.AllViews.{logs_grow}
use Rattle.law_journals.proofs.ghost_relation.logs_grow.Goals as goal

pub returns : goal.returns
returns g c = logs_grow
