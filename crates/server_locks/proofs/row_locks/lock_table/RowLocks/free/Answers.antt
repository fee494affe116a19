use Rattle.server_locks.proofs.row_locks.lock_table.RowLocks.free.Goals as goal

pub invariant_of-self : goal.invariant_of-self
invariant_of-self c = c.take_away.ensures.consistent c.self.inside.next c.self.invariant
