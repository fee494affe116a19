use Rattle.server_storage.specs.Storage.{written}
use Rattle.server.proofs.Steps.{locks_have}
use Rattle.server.proofs.definitions.lock_tables.Goals as goal

pub returns-clause-have : goal.returns-clause-have
returns-clause-have c = locks_have (written c.args.storage.now) c.args.all_sessions.now c.lock.new.self c.args.session c.args.names.now c.requires c.in_ok-lock.ensures.ok
