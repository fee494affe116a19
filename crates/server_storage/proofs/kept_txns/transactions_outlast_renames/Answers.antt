use Rattle.server_storage.proofs.KeptTxns.Transactions.Moved.{outlasts_renames}
use Rattle.server_storage.proofs.kept_txns.transactions_outlast_renames.Goals as goal

pub returns : goal.returns
returns c = outlasts_renames
