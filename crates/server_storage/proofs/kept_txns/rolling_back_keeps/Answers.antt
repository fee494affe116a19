use Rattle.server_storage.proofs.KeptTxns.Ended.{rolling_back_keeps}
use Rattle.server_storage.proofs.kept_txns.rolling_back_keeps.Goals as goal

pub returns : goal.returns
returns c = rolling_back_keeps
