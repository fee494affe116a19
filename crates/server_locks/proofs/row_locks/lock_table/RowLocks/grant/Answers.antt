use Rattle.server_locks.proofs.RowLocks.LockTable.Tables.{same_table, same_consistent, on_err}
use Rattle.server_locks.proofs.row_locks.lock_table.RowLocks.grant.Goals as goal

pub returns-in_err-reserve-clause-err : goal.returns-in_err-reserve-clause-err
returns-in_err-reserve-clause-err c = rw (← c.self.view_is) (on_err c.from_residual-in_err-reserve.result (same_table c.self.inside.lists c.reserve.new.self c.self.inside.last c.reserve.ensures.same))

pub put_all-requires-clause-consistent : goal.put_all-requires-clause-consistent
put_all-requires-clause-consistent c = same_consistent c.self.inside.next c.self.inside.lists c.reserve.new.self c.self.invariant c.reserve.ensures.same
