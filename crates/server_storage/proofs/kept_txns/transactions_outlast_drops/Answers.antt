use Rattle.server_storage.proofs.KeptTxns.Transactions.Moved.{outlasts_drops}
use Rattle.server_storage.proofs.kept_txns.transactions_outlast_drops.Goals as goal

pub returns : goal.returns
returns c = outlasts_drops
