use Rattle.server_locks.proofs.RowLocks.HeldLocks.{conflict_both_ways}
use Rattle.server_locks.proofs.row_locks.laws.conflicts_go_both_ways.Goals as goal

pub returns : goal.returns
returns c = conflict_both_ways
