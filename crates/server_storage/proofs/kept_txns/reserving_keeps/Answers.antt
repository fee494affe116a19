use Rattle.server_storage.proofs.KeptTxns.Grown.{reserving_keeps}
use Rattle.server_storage.proofs.kept_txns.reserving_keeps.Goals as goal

pub returns : goal.returns
returns c = reserving_keeps
