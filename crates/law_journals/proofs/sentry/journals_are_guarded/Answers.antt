use Rattle.proof_journals.proofs.Sentry.Inductions.{all_guarded}
use Rattle.law_journals.proofs.sentry.journals_are_guarded.Goals as goal

pub returns : goal.returns
returns c = all_guarded
