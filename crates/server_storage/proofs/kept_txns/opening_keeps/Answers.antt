use Rattle.server_storage.proofs.KeptTxns.Grown.{opening_keeps}
use Rattle.server_storage.proofs.kept_txns.opening_keeps.Goals as goal

pub returns : goal.returns
returns c = opening_keeps
