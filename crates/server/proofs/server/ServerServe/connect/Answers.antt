use Rattle.std.proofs.Common.{◌+◌}
use Rattle.server_storage.specs.Storage.{committed, written}
use Rattle.server.proofs.Steps.{connected_together}
use Rattle.server.proofs.server.ServerServe.connect.Goals as goal

pub invariant_of-self : goal.invariant_of-self
invariant_of-self c =
    record {
      together = connected_together c.connect.result (committed c.self.inside.storage) (written c.self.inside.storage) c.self.inside.all_sessions c.connect.new.self (c.self.inside.all_sessions.made + 1) c.args.is_tool c.self.invariant.together c.connect.ensures.ok c.connect.ensures.err;
      blocked = rw c.forget.ensures tt;
    }
