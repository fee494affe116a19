-- Whose locks are taken away, and since when.
use Rattle.std.specs.Prelude.{◌≡◌, ℕ, Bool, true, false, List, map, take, Option, Some, None}
use Rattle.std.specs.List.{prefix_len}
use Rattle.std.specs.Ordering.{is_gt, is_eq, nat_cmp}
use Rattle.slab.specs.Slab.{get}
use Rattle.base_page_list.specs.Pages.{flat}
use Rattle.server_locks.specs.declared.row_locks.lock.HeldLock.{HeldLock}
use Rattle.server_locks.specs.declared.row_locks.lock_table.granted_lock.GrantedLock.{GrantedLock}
use Rattle.server_locks.specs.declared.row_locks.lock_table.lock_lists.LockLists.{LockLists}
use Rattle.base_page_list.specs.Orders.{Has}
use Rattle.server_locks.specs.RowLocks.ListOrders.{slots_of}
use Rattle.server_locks.specs.RowLocks.LockLists.{held_in}

-- the slot's lock is of a lesser session
abbrev pub is_of_lesser : ℕ → Option GrantedLock → Bool
is_of_lesser session None = true
is_of_lesser session (Some one) = is_gt (nat_cmp session one.held.session)

-- the slot's lock is of the session
abbrev pub is_of : ℕ → Option GrantedLock → Bool
is_of session None = false
is_of session (Some one) = is_eq (nat_cmp session one.held.session)

-- the entry's lock is of the session
pub record IsOf (session : ℕ) (lists : LockLists) (entry : ℕ) : Type 0 where
  pub has : Has (flat lists.granted.pages) entry
  pub is : is_of session (get lists.slab entry) ≡ true

-- the slots of all, as they were granted
abbrev pub slots_in : LockLists → List (Option GrantedLock)
slots_in lists = slots_of lists.slab (flat lists.granted.pages)

-- the slot's lock was granted before this number
abbrev pub is_granted_before : ℕ → Option GrantedLock → Bool
is_granted_before first None = true
is_granted_before first (Some one) = is_gt (nat_cmp first one.grant)

-- the locks that were granted before this number
abbrev pub locks_before : ℕ → List (Option GrantedLock) → List HeldLock
locks_before first slots = map held_in (take (prefix_len (is_granted_before first) slots) slots)
