use Rattle.std.proofs.Common.{[], ◌∙◌}
use Rattle.server_storage.specs.Storage.{committed, written}
use Rattle.server.proofs.Steps.{commit_leaves, commit_needs, commits_have, commits_state}
use Rattle.server.proofs.commits.commit.Goals as goal

pub commit-requires : goal.commit-requires
commit-requires c = c.events_written.ensures ∙ c.requires.have c.args.session

pub commit-requires-2-clause-fit : goal.commit-requires-2-clause-fit
commit-requires-2-clause-fit c = commit_needs (committed c.args.storage.now) (written c.args.storage.now) c.args.all_sessions.now c.args.session c.requires

pub commit-requires-2-clause-well_formed : goal.commit-requires-2-clause-well_formed
commit-requires-2-clause-well_formed c = commit_leaves (committed c.args.storage.now) (written c.args.storage.now) c.args.all_sessions.now c.args.session c.requires

pub returns-clause-state : goal.returns-clause-state
returns-clause-state c =
    commits_state (committed c.args.storage.now) (committed c.commit-2.new.self) (written c.args.storage.now) c.args.all_sessions.now c.commit.new.self c.args.session c.requires.have c.commit-2.ensures.committed c.commit.ensures

pub returns-clause-have : goal.returns-clause-have
returns-clause-have c = commits_have (written c.args.storage.now) (written c.commit-2.new.self) c.args.all_sessions.now c.commit.new.self c.args.session [] c.requires.have c.commit-2.ensures.own c.commit-2.ensures.others c.commit.ensures
