use Rattle.std.proofs.Common.{◌≡◌, ◌==◌, ℕ, not, filter}
use Rattle.slab.specs.Slab.{slab_len}
use Rattle.server_locks.specs.RowLocks.LockLists.{AreConsistent, locks_in}
use Rattle.server_locks.proofs.row_locks.lock_table.releases.take_away.Given as goal

-- the lists stay lists, and the locks of other sessions stay
abbrev pub invariant-loop-entry : goal.invariant-loop-entry
invariant-loop-entry l = ((next : ℕ) → AreConsistent next l.fn.lists → AreConsistent next l.lists) × (filter (λ held. not (held.session == l.session)) (locks_in l.lists) ≡ filter (λ held. not (held.session == l.session)) (locks_in l.fn.lists))

abbrev pub decreases-loop-entry : goal.decreases-loop-entry
decreases-loop-entry l = slab_len l.lists.slab
