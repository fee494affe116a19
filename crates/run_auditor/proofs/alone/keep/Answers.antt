use Rattle.server_transaction.specs.Premises.{events_ready}
use Rattle.server_model.specs.Operations.{after_events}
use Rattle.server_storage.specs.Storage.{committed, written}
use Rattle.run_auditor.proofs.AloneSessions.{alone_more, said_fit, said_well_formed}
use Rattle.run_auditor.proofs.alone.keep.Goals as goal

pub write-requires-clause-fit : goal.write-requires-clause-fit
write-requires-clause-fit c = said_fit (after_events (committed c.args.storage.now) (written c.args.storage.now 1)) c.args.statement.now (events_ready c.args.executed.writes) c.requires.said c.requires.alone.well_formed

pub write-requires-clause-well_formed : goal.write-requires-clause-well_formed
write-requires-clause-well_formed c = said_well_formed (after_events (committed c.args.storage.now) (written c.args.storage.now 1)) c.args.statement.now (events_ready c.args.executed.writes) c.requires.said c.requires.alone.well_formed

pub returns-clause-alone : goal.returns-clause-alone
returns-clause-alone c =
    alone_more (committed c.args.storage.now) (committed c.write.new.self) (written c.args.storage.now) (written c.write.new.self) (events_ready c.args.executed.writes) c.requires.alone c.write.ensures.committed c.write.ensures.own c.write.ensures.others
    (said_well_formed (after_events (committed c.args.storage.now) (written c.args.storage.now 1)) c.args.statement.now (events_ready c.args.executed.writes) c.requires.said c.requires.alone.well_formed)
