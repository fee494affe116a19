use Rattle.server_storage.proofs.KeptTxns.Defined.{creating_keeps}
use Rattle.server_storage.proofs.kept_txns.creating_keeps.Goals as goal

pub returns : goal.returns
returns c = creating_keeps
