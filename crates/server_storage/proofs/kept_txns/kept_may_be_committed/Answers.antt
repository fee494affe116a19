use Rattle.server_storage.proofs.KeptTxns.Ended.{kept_may_be_committed}
use Rattle.server_storage.proofs.kept_txns.kept_may_be_committed.Goals as goal

pub returns : goal.returns
returns c = kept_may_be_committed
