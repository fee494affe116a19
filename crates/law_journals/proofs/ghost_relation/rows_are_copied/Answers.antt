use Rattle.proof_journals.proofs.Ghost.Relation.AllViews.{more_done, copies_new, copies_none}
use Rattle.law_journals.proofs.ghost_relation.rows_are_copied.Goals as goal

pub returns-clause-begun : goal.returns-clause-begun
returns-clause-begun g c = more_done

pub returns-clause-copied : goal.returns-clause-copied
returns-clause-copied g c = copies_new

pub returns-clause-met : goal.returns-clause-met
returns-clause-met g c = copies_none
