use Rattle.proof_journals.proofs.Sentry.Agreeing.{renames_follow}
use Rattle.proof_journals.proofs.Sentry.Inductions.{renames_are_whole}
use Rattle.law_journals.proofs.sentry.renames_are_whole.Goals as goal

pub returns-clause-whole : goal.returns-clause-whole
returns-clause-whole c = renames_are_whole

pub returns-clause-follows : goal.returns-clause-follows
returns-clause-follows c = renames_follow
