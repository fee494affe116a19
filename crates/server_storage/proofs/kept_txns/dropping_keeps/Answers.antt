use Rattle.server_storage.proofs.KeptTxns.Defined.{dropping_keeps}
use Rattle.server_storage.proofs.kept_txns.dropping_keeps.Goals as goal

pub returns : goal.returns
returns c = dropping_keeps
