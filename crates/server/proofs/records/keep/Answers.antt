use Rattle.std.proofs.Common.{◌∙◌}
use Rattle.server_storage.specs.Storage.{committed, written}
use Rattle.server_transaction.specs.Premises.{events_ready}
use Rattle.server.specs.Parts.{needed}
use Rattle.server.proofs.Steps.{after_leaves, after_needs, commits_have, grows_have, write_leaves, write_needs}
use Rattle.server.proofs.TableEvents.{grown_events}
use Rattle.server.proofs.records.keep.Goals as goal

-- TO THE TRANSACTION

pub go_on-requires : goal.go_on-requires
go_on-requires c = rw c.events.ensures (grown_events (committed c.args.storage.now) (written c.args.storage.now) c.args.all_sessions.now c.args.session (needed c.args.request.now c.args.locks) (events_ready c.args.executed.writes) c.requires.together c.requires.grows)

pub write-requires-clause-fit : goal.write-requires-clause-fit
write-requires-clause-fit c = write_needs (committed c.args.storage.now) (written c.args.storage.now) c.args.all_sessions.now c.args.session (needed c.args.request.now c.args.locks) (events_ready c.args.executed.writes) c.requires.together c.requires.grows

pub write-requires-clause-well_formed : goal.write-requires-clause-well_formed
write-requires-clause-well_formed c = write_leaves (committed c.args.storage.now) (written c.args.storage.now) c.args.all_sessions.now c.args.session (needed c.args.request.now c.args.locks) (events_ready c.args.executed.writes) c.requires.together c.requires.grows

pub returns-in_ok-go_on-clause-have : goal.returns-in_ok-go_on-clause-have
returns-in_ok-go_on-clause-have c =
    grows_have (written c.args.storage.now) (written c.write.new.self) (committed c.args.storage.now) c.args.all_sessions.now c.go_on.new.self c.args.session (needed c.args.request.now c.args.locks) (events_ready c.args.executed.writes) c.requires.together c.requires.live c.write.ensures.own c.write.ensures.others (rw c.events.ensures at c.in_ok-go_on.ensures.ok)

-- COMMITTED AT ONCE

pub commit_with-requires-clause-writes : goal.commit_with-requires-clause-writes
commit_with-requires-clause-writes c = c.events_written.ensures ∙ c.requires.together.have c.args.session

pub commit_with-requires-clause-events : goal.commit_with-requires-clause-events
commit_with-requires-clause-events c = rw c.events-else-is_in_transaction.ensures (grown_events (committed c.args.storage.now) (written c.args.storage.now) c.args.all_sessions.now c.args.session (needed c.args.request.now c.args.locks) (events_ready c.args.executed.writes) c.requires.together c.requires.grows)

pub write-requires-else-is_in_transaction-clause-fit : goal.write-requires-else-is_in_transaction-clause-fit
write-requires-else-is_in_transaction-clause-fit c = write_needs (committed c.args.storage.now) (written c.args.storage.now) c.args.all_sessions.now c.args.session (needed c.args.request.now c.args.locks) (events_ready c.args.executed.writes) c.requires.together c.requires.grows

pub write-requires-else-is_in_transaction-clause-well_formed : goal.write-requires-else-is_in_transaction-clause-well_formed
write-requires-else-is_in_transaction-clause-well_formed c = write_leaves (committed c.args.storage.now) (written c.args.storage.now) c.args.all_sessions.now c.args.session (needed c.args.request.now c.args.locks) (events_ready c.args.executed.writes) c.requires.together c.requires.grows

pub commit-requires-clause-fit : goal.commit-requires-clause-fit
commit-requires-clause-fit c =
    after_needs (committed c.args.storage.now) (committed c.write-else-is_in_transaction.new.self) (written c.args.storage.now) (written c.write-else-is_in_transaction.new.self) c.args.all_sessions.now c.args.session (needed c.args.request.now c.args.locks) (events_ready c.args.executed.writes) c.requires.together c.requires.grows c.write-else-is_in_transaction.ensures.committed c.write-else-is_in_transaction.ensures.own c.write-else-is_in_transaction.ensures.others

pub commit-requires-clause-well_formed : goal.commit-requires-clause-well_formed
commit-requires-clause-well_formed c =
    after_leaves (committed c.args.storage.now) (committed c.write-else-is_in_transaction.new.self) (written c.args.storage.now) (written c.write-else-is_in_transaction.new.self) c.args.all_sessions.now c.args.session (needed c.args.request.now c.args.locks) (events_ready c.args.executed.writes) c.requires.together c.requires.grows c.write-else-is_in_transaction.ensures.committed c.write-else-is_in_transaction.ensures.own c.write-else-is_in_transaction.ensures.others

pub returns-in_ok-commit_with-clause-have : goal.returns-in_ok-commit_with-clause-have
returns-in_ok-commit_with-clause-have c =
    commits_have (written c.args.storage.now) (written c.commit.new.self) c.args.all_sessions.now c.commit_with.new.self c.args.session (events_ready c.args.executed.writes) c.requires.together.have c.commit.ensures.own
    (λ other differ. c.commit.ensures.others other differ ∙ c.write-else-is_in_transaction.ensures.others other differ) (rw c.events-else-is_in_transaction.ensures at c.in_ok-commit_with.ensures.ok)
