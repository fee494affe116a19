-- What contracts see of a transaction with its events beside it.
use Rattle.std.specs.Prelude.{ℕ}
use Rattle.server_transaction.specs.Stored.{StoredTxn}

-- the transaction, and for how many more events there is room beside it
pub record LoggedView : Type 0 where
  pub txn : StoredTxn
  pub room : ℕ
