use Rattle.server_storage.proofs.KeptTxns.Grown.{writing_keeps}
use Rattle.server_storage.proofs.kept_txns.writing_keeps.Goals as goal

pub returns : goal.returns
returns c = writing_keeps
