use Rattle.std.proofs.Common.{[], refl}
use Rattle.server_storage.specs.Storage.{written}
use Rattle.server.specs.Parts.{needed}
use Rattle.server.proofs.Steps.{quiet_have}
use Rattle.server.proofs.results.begin_span.Goals as goal

pub returns-in_ok-go_on-in-Some-clause-have : goal.returns-in_ok-go_on-in-Some-clause-have
returns-in_ok-go_on-in-Some-clause-have c =
    quiet_have (written c.args.storage.now) c.args.all_sessions.now c.go_on.new.self c.args.session (needed c.args.request.now c.args.locks) [] c.requires.have c.requires.live refl c.in_ok-go_on-in-Some.ensures.ok
