use Rattle.std.proofs.Common.{◌∙◌}
use Rattle.server_model.specs.Operations.{after_events}
use Rattle.server_storage.specs.Storage.{committed, written}
use Rattle.run_auditor.proofs.AloneSessions.{all_fresh, nothing_changes, nothing_fits}
use Rattle.run_auditor.proofs.alone.commit_all.Goals as goal

pub commit-requires-clause-fit : goal.commit-requires-clause-fit
commit-requires-clause-fit c = λ other differ. nothing_fits (after_events (committed c.args.storage.now) (written c.args.storage.now 1)) (written c.args.storage.now other) (c.requires.others other differ)

pub commit-requires-clause-well_formed : goal.commit-requires-clause-well_formed
commit-requires-clause-well_formed c = λ other differ.
    nothing_changes (after_events (committed c.args.storage.now) (written c.args.storage.now 1)) (written c.args.storage.now other) (c.requires.others other differ) c.requires.well_formed

pub returns-clause-fresh : goal.returns-clause-fresh
returns-clause-fresh c = all_fresh (written c.commit.new.self) c.commit.ensures.own (λ other differ. c.commit.ensures.others other differ ∙ c.requires.others other differ)
