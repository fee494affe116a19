-- The locks on one key of one table, in order.
use Rattle.std.specs.Prelude.{◌≡◌, ◌==◌, ◌&&◌, ℕ, Bool, false, List, [], ◌∷◌, filter, nat_eq}
use Rattle.std.specs.List.{AllByRecursion}
use Rattle.std.specs.List.Sorted.{IsPermutation}
use Rattle.std.specs.declared.cmp.Ordering.{Ordering}
use Rattle.std.specs.Ordering.{is_gt, ordering_then, nat_cmp}
use Rattle.std.specs.Cmp.Lexicographic.{pointwise}
use Rattle.server_locks.specs.declared.row_locks.lock.HeldLock.{HeldLock}
use Rattle.server_locks.specs.RowLocks.ListOrders.{compare_lows}

-- the lock is on this key of this table
abbrev pub is_on : List ℕ → ℕ → HeldLock → Bool
is_on table key held = pointwise nat_eq table held.lock.table && key == held.lock.key

-- which of two comes first by the low end, and where they tie, by session
abbrev pub compare_held : HeldLock → HeldLock → Ordering
compare_held a b = ordering_then (compare_lows a.lock.span.low b.lock.span.low) (nat_cmp a.session b.session)

-- none comes behind one that follows it
abbrev pub Rises : List HeldLock → Type 0
Rises [] = Unit {0}
Rises (held ∷ others) = AllByRecursion (λ other. is_gt (compare_held held other) ≡ false) others × Rises others

-- Exactly the locks that are held on this key of this table, by rising low end, ties by session.
pub record AreOn (table : List ℕ) (key : ℕ) (all shown : List HeldLock) : Type 0 where
  pub rises : Rises shown
  pub are : IsPermutation (filter (is_on table key) all) shown
