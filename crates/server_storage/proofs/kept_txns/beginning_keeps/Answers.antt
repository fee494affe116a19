use Rattle.server_storage.proofs.KeptTxns.Grown.{beginning_keeps}
use Rattle.server_storage.proofs.kept_txns.beginning_keeps.Goals as goal

pub returns : goal.returns
returns c = beginning_keeps
