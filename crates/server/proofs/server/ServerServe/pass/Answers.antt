use Rattle.server_storage.specs.Storage.{committed, written}
use Rattle.server.proofs.Steps.{passed_together}
use Rattle.server.proofs.server.ServerServe.pass.Goals as goal

pub invariant_of-self : goal.invariant_of-self
invariant_of-self c =
    record {
      together = passed_together (committed c.self.inside.storage) (written c.self.inside.storage) c.self.inside.all_sessions c.pass.new.self c.self.invariant.together c.pass.ensures.passed;
      blocked = rw c.forget.ensures tt;
    }
