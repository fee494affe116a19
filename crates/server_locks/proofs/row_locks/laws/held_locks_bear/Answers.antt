use Rattle.server_locks.proofs.RowLocks.HeldLocks.{held_locks_bear}
use Rattle.server_locks.proofs.row_locks.laws.held_locks_bear.Goals as goal

pub returns : goal.returns
returns c = held_locks_bear
