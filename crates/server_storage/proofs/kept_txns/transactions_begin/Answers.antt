use Rattle.server_storage.proofs.KeptTxns.Transactions.Kept.{begins}
use Rattle.server_storage.proofs.kept_txns.transactions_begin.Goals as goal

pub returns : goal.returns
returns c = begins
