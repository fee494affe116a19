use Rattle.proof_journals.proofs.Ghost.Relation.OneView.{ends, ends_row}
use Rattle.law_journals.proofs.ghost_relation.ghosts_end.Goals as goal

pub returns : goal.returns
returns g c = λ timeline done end ghost_at all ghost. (ends timeline done end ghost_at all ghost, λ key row stands. let was = ends_row timeline done end ghost_at all ghost key row stands in (was.0, was.1))
