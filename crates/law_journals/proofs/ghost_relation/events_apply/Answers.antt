use Rattle.proof_journals.proofs.Ghost.Relation.AllViews.{event_applied, half_applied, event_passes}
use Rattle.law_journals.proofs.ghost_relation.events_apply.Goals as goal

pub returns-clause-whole : goal.returns-clause-whole
returns-clause-whole g c = event_applied

pub returns-clause-half : goal.returns-clause-half
returns-clause-half g c = half_applied

pub returns-clause-passed : goal.returns-clause-passed
returns-clause-passed g c = event_passes
