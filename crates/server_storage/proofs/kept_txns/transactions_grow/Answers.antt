use Rattle.server_storage.proofs.KeptTxns.Transactions.Kept.{grows}
use Rattle.server_storage.proofs.kept_txns.transactions_grow.Goals as goal

pub returns : goal.returns
returns c = grows
