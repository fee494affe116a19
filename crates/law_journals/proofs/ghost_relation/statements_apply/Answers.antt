use Rattle.proof_journals.proofs.Ghost.Relation.Statements.{replaces, deletes, updates}
use Rattle.law_journals.proofs.ghost_relation.statements_apply.Goals as goal

pub returns-clause-replace : goal.returns-clause-replace
returns-clause-replace g c = replaces

pub returns-clause-delete : goal.returns-clause-delete
returns-clause-delete g c = deletes

pub returns-clause-update : goal.returns-clause-update
returns-clause-update g c = updates
