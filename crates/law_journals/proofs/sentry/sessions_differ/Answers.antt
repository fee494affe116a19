use Rattle.proof_journals.proofs.Sentry.Sessions.{live_is_last, sessions_differ}
use Rattle.law_journals.proofs.sentry.sessions_differ.Goals as goal

pub returns-clause-differ : goal.returns-clause-differ
returns-clause-differ c = sessions_differ

pub returns-clause-last : goal.returns-clause-last
returns-clause-last c = live_is_last
