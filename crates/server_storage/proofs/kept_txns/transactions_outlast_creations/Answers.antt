use Rattle.server_storage.proofs.KeptTxns.Transactions.Moved.{outlasts_creations}
use Rattle.server_storage.proofs.kept_txns.transactions_outlast_creations.Goals as goal

pub returns : goal.returns
returns c = outlasts_creations
