use Rattle.std.proofs.Common.{[], refl}
use Rattle.server_model.specs.Effects.{nothing_needed}
use Rattle.server_storage.specs.Storage.{written}
use Rattle.server.proofs.Steps.{quiet_have}
use Rattle.server.proofs.results.begin.Goals as goal

pub returns-clause-have : goal.returns-clause-have
returns-clause-have c =
    quiet_have (written c.args.storage.now) c.args.all_sessions.now c.go_on.new.self c.args.session nothing_needed [] c.requires.have c.requires.live refl (rw c.new-none.ensures at c.in_ok-go_on.ensures.ok)
