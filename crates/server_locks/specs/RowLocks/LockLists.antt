-- How the locks are kept: in a slab, with lists of their entries.
use Rattle.std.specs.Prelude.{◌≡◌, ◌⊎◌, ◌<◌, ◌≤◌, remove, ℕ, Bool, true, false, not, List, [], length, map, Option, Some, None, IsSome}
use Rattle.std.specs.List.{AllByRecursion, slice_get}
use Rattle.slab.specs.Slab.{Slab, get, slab_len, HasRoomFor}
use Rattle.base_values.specs.Spans.{point}
use Rattle.base_page_list.specs.Pages.{flat}
use Rattle.server_locks.specs.declared.row_locks.lock.HeldLock.{HeldLock}
use Rattle.server_locks.specs.declared.row_locks.lock_table.granted_lock.GrantedLock.{GrantedLock}
use Rattle.server_locks.specs.declared.row_locks.lock_table.granted_lock.ListOrder.{ListOrder}
use Rattle.server_locks.specs.declared.row_locks.lock_table.granted_lock.ListOrder.TheVariants.{Grant, Owner, Span}
use Rattle.server_locks.specs.declared.row_locks.lock_table.lock_lists.LockLists.{LockLists}
use Rattle.base_page_list.specs.Orders.{Ascending, Has}
use Rattle.server_locks.specs.RowLocks.Points.{is_point}
use Rattle.server_locks.specs.RowLocks.ListOrders.{compare_slots, slots_of}

-- what an empty slot would hold
abbrev pub no_lock : HeldLock
no_lock = record { session = 0; lock = record { table = []; key = 0; span = point []; exclusive = false } }

-- the lock in a slot
abbrev pub held_in : Option GrantedLock → HeldLock
held_in None = no_lock
held_in (Some one) = one.held

-- the lock of an entry
abbrev pub held_of : Slab GrantedLock → ℕ → HeldLock
held_of slab entry = held_in (get slab entry)

-- the locks of entries
abbrev pub locks_of : Slab GrantedLock → List ℕ → List HeldLock
locks_of slab entries = map (held_of slab) entries

-- the slot's lock is on more values than one, or on none
abbrev pub is_wide : Option GrantedLock → Bool
is_wide None = false
is_wide (Some one) = not (is_point one.held.lock.span)

-- the slot's lock was granted before this number
abbrev pub IsGrantedBefore : ℕ → Option GrantedLock → Type 0
IsGrantedBefore next None = Unit {0}
IsGrantedBefore next (Some one) = one.grant < next

-- Each entry has a lock, they stand in order, and no entry stands twice.
pub record IsListed (by : ListOrder) (slab : Slab GrantedLock) (entries : List ℕ) : Type 0 where
  pub stored : AllByRecursion (λ entry. IsSome (get slab entry)) entries
  pub ascends : Ascending (compare_slots by) (slots_of slab entries)
  pub counted : length entries ≤ slab_len slab

-- the second list has the entries of the first
pub record HaveSame (first second : List ℕ) : Type 0 where
  pub there : (entry : ℕ) → Has first entry → Has second entry
  pub here : (entry : ℕ) → Has second entry → Has first entry

-- the second list has those entries of the first whose locks are wide
pub record HaveWide (slab : Slab GrantedLock) (first second : List ℕ) : Type 0 where
  pub there : (entry : ℕ) → Has first entry → is_wide (get slab entry) ≡ true → Has second entry
  pub here : (entry : ℕ) → Has second entry → Has first entry

-- The lists of one slab: all its locks as they were granted, by session and by span, and the wide ones by span. Each was
-- granted before this number.
pub record AreLists (next : ℕ) (slab : Slab GrantedLock) (granted owned spans wide : List ℕ) : Type 0 where
  pub by_grant : IsListed Grant slab granted
  pub by_owner : IsListed Owner slab owned
  pub by_span : IsListed Span slab spans
  pub by_wide : IsListed Span slab wide
  pub owned_all : HaveSame granted owned
  pub spans_all : HaveSame granted spans
  pub wide_all : HaveWide slab granted wide
  pub before : AllByRecursion (λ entry. IsGrantedBefore next (get slab entry)) granted

-- The lists of the table agree with its slab.
abbrev pub AreConsistent : ℕ → LockLists → Type 0
AreConsistent next lists = AreLists next lists.slab (flat lists.granted.pages) (flat lists.owned.pages) (flat lists.spans.pages) (flat lists.wide.pages)

-- the locks of the table, as they were granted
abbrev pub locks_in : LockLists → List HeldLock
locks_in lists = locks_of lists.slab (flat lists.granted.pages)

-- there is room for this many more locks
pub record HasRoom (more : ℕ) (lists : LockLists) : Type 0 where
  pub slab : HasRoomFor lists.slab more
  pub granted : more ≤ lists.granted.spare
  pub owned : more ≤ lists.owned.spare
  pub spans : more ≤ lists.spans.spare
  pub wide : more ≤ lists.wide.spare

-- the entry, which stood at this place, is taken out
pub record IsTakenAt (place entry : ℕ) (old new : List ℕ) : Type 0 where
  pub at : slice_get old place ≡ Some entry
  pub rest : new ≡ remove old place

-- the entry isn't there, and nothing is changed
pub record IsNotThere (entry : ℕ) (old new : List ℕ) : Type 0 where
  pub not_there : Has old entry → ⊥
  pub same : new ≡ old

-- the entry is taken out, if it is there
abbrev pub IsTaken : ℕ → ℕ → List ℕ → List ℕ → Type 0
IsTaken place entry old new = IsTakenAt place entry old new ⊎ IsNotThere entry old new

-- the lists are as they were, and so are the locks; there may be more room
pub record AreSame (old new : LockLists) : Type 0 where
  pub slab : new.slab.slots ≡ old.slab.slots
  pub granted : new.granted.pages ≡ old.granted.pages
  pub owned : new.owned.pages ≡ old.owned.pages
  pub spans : new.spans.pages ≡ old.spans.pages
  pub wide : new.wide.pages ≡ old.wide.pages
