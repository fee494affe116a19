use Rattle.server_storage.specs.Storage.{committed, written}
use Rattle.server.proofs.Steps.{loses_have, loses_state}
use Rattle.server.proofs.commits.lose.Goals as goal

pub returns-clause-state : goal.returns-clause-state
returns-clause-state c = loses_state (committed c.args.storage.now) (committed c.roll_back.new.self) c.args.all_sessions.now c.lose.new.self c.args.session c.roll_back.ensures.committed c.lose.ensures

pub returns-clause-have : goal.returns-clause-have
returns-clause-have c = loses_have (written c.args.storage.now) (written c.roll_back.new.self) c.args.all_sessions.now c.lose.new.self c.args.session c.requires c.roll_back.ensures.own c.roll_back.ensures.others c.lose.ensures
