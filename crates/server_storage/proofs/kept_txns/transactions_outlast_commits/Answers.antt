use Rattle.server_storage.proofs.KeptTxns.Transactions.Kept.{outlasts}
use Rattle.server_storage.proofs.kept_txns.transactions_outlast_commits.Goals as goal

pub returns : goal.returns
returns c = outlasts
