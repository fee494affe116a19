use Rattle.server_storage.specs.Storage.{written}
use Rattle.server.proofs.Steps.{forgets_have}
use Rattle.server.proofs.commits.roll_back.Goals as goal

pub returns-clause-have : goal.returns-clause-have
returns-clause-have c = forgets_have (written c.args.storage.now) (written c.roll_back.new.self) c.args.all_sessions.now c.forget.new.self c.args.session c.requires c.roll_back.ensures.own c.roll_back.ensures.others c.forget.ensures
