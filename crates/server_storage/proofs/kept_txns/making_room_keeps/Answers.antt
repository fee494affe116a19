use Rattle.server_storage.proofs.KeptTxns.Grown.{making_room_keeps}
use Rattle.server_storage.proofs.kept_txns.making_room_keeps.Goals as goal

pub returns : goal.returns
returns c = making_room_keeps
