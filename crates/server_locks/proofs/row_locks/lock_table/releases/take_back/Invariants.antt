use Rattle.std.proofs.Common.{◌≡◌, ℕ}
use Rattle.slab.specs.Slab.{slab_len}
use Rattle.server_locks.specs.RowLocks.LockLists.{AreConsistent}
use Rattle.server_locks.specs.RowLocks.Releases.{slots_in, locks_before}
use Rattle.server_locks.proofs.row_locks.lock_table.releases.take_back.Given as goal

-- the lists stay lists, and the locks before stay
abbrev pub invariant-loop-entry : goal.invariant-loop-entry
invariant-loop-entry l = ((next : ℕ) → AreConsistent next l.fn.lists → AreConsistent next l.lists) × (locks_before l.first (slots_in l.lists) ≡ locks_before l.first (slots_in l.fn.lists))

abbrev pub decreases-loop-entry : goal.decreases-loop-entry
decreases-loop-entry l = slab_len l.lists.slab
