use Rattle.std.proofs.Common.{ap}
use Rattle.server_model.specs.PlainServer.{without_waiting}
use Rattle.server.proofs.calls.do_waiting.Goals as goal

pub returns-clause-ok : goal.returns-clause-ok
returns-clause-ok c = rw c.end_wait.ensures (ap (without_waiting c.args.session) c.in_ok-served.ensures.ok)
