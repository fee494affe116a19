use Rattle.server_storage.proofs.KeptTxns.Grown.{room_makes_ready}
use Rattle.server_storage.proofs.kept_txns.room_makes_ready.Goals as goal

pub returns : goal.returns
returns c = room_makes_ready
