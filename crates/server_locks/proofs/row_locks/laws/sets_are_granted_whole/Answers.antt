use Rattle.server_locks.proofs.RowLocks.HeldLocks.{grants_whole}
use Rattle.server_locks.proofs.row_locks.laws.sets_are_granted_whole.Goals as goal

pub returns : goal.returns
returns c = grants_whole
