use Rattle.std.proofs.Common.{◌≡◌, ◌+◌, ◌≤◌, ◌++◌, reverse, vec_len}
use Rattle.server_locks.specs.RowLocks.LockLists.{AreConsistent, HasRoom, locks_in}
use Rattle.server_locks.specs.RowLocks.Releases.{slots_in, locks_before}
use Rattle.server_locks.proofs.row_locks.lock_table.grants.put_all.Given as goal

-- so far the lists are lists, there is room for the rest, the rest is still to be put, and what was held before stands
abbrev pub invariant-loop-held : goal.invariant-loop-held
invariant-loop-held l =
    AreConsistent l.grant l.lists × HasRoom (vec_len l.left) l.lists × (l.grant + vec_len l.left ≡ l.first + vec_len l.fn.added) × (l.first ≤ l.grant) × (locks_in l.lists ++ reverse l.left.items ≡ locks_in l.fn.lists ++ reverse l.fn.added.items) × (locks_before l.first (slots_in l.lists) ≡ locks_in l.fn.lists)

abbrev pub decreases-loop-held : goal.decreases-loop-held
decreases-loop-held l = vec_len l.left
