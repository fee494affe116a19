use Rattle.proof_journals.proofs.Ghost.Relation.AllViews.{starts_all}
use Rattle.law_journals.proofs.ghost_relation.migrations_start.Goals as goal

pub returns : goal.returns
returns g c = starts_all
