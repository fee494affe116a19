use Rattle.server_storage.proofs.KeptTxns.Defined.{renaming_keeps}
use Rattle.server_storage.proofs.kept_txns.renaming_keeps.Goals as goal

pub returns : goal.returns
returns c = renaming_keeps
