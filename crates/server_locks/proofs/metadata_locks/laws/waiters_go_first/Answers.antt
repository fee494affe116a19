use Rattle.server_locks.proofs.MetadataLocks.WaitersFirst.{waiters_go_first}
use Rattle.server_locks.proofs.metadata_locks.laws.waiters_go_first.Goals as goal

pub returns : goal.returns
returns c = waiters_go_first
