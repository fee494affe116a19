use Rattle.server_storage.specs.Storage.{committed, written}
use Rattle.server.proofs.Steps.{opened_together}
use Rattle.server.proofs.server.Server.open.Goals as goal

pub invariant_of-result : goal.invariant_of-result
invariant_of-result c =
    record {
      together = opened_together c.args.limits c.args.counters.items (committed c.args.storage) (written c.args.storage) c.new.result c.requires.valid c.requires.well_formed c.requires.unwritten c.new.ensures;
      blocked = rw c.new-2.ensures tt;
    }
