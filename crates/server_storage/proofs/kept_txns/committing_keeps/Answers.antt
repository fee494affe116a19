use Rattle.server_storage.proofs.KeptTxns.Ended.{committing_keeps}
use Rattle.server_storage.proofs.kept_txns.committing_keeps.Goals as goal

pub returns : goal.returns
returns c = committing_keeps
