use Rattle.proof_journals.proofs.Ghost.Returning.{copier_returns, applier_returns}
use Rattle.law_journals.proofs.ghost_turns.sessions_return.Goals as goal

pub returns-clause-copier : goal.returns-clause-copier
returns-clause-copier c = copier_returns

pub returns-clause-applier : goal.returns-clause-applier
returns-clause-applier c = applier_returns
