-- Who refuses a lock, by look-ups.
use Rattle.std.specs.Prelude.{ℕ, Bool, true, false, List, [], ◌∷◌, Option, Some, None}
use Rattle.std.specs.declared.cmp.Ordering.{Ordering}
use Rattle.std.specs.declared.cmp.Ordering.TheVariants.{Less, Equal, Greater}
use Rattle.std.specs.Ordering.{is_gt}
use Rattle.slab.specs.Slab.{Slab, get}
use Rattle.base_values.specs.Spans.{leave_room}
use Rattle.server_locks.specs.LeastSession.Least.{least}
use Rattle.server_locks.specs.declared.row_locks.lock.Lock.{Lock}
use Rattle.server_locks.specs.RowLocks.Grants.{refusal}
use Rattle.server_locks.specs.declared.row_locks.lock_table.granted_lock.GrantedLock.{GrantedLock}
use Rattle.server_locks.specs.RowLocks.ListOrders.{compare_places, compare_starts}

-- the least of what is answered for entries
abbrev pub least_of : (ℕ → Option ℕ) → List ℕ → Option ℕ
least_of answer [] = None
least_of answer (entry ∷ entries) = least (answer entry) (least_of answer entries)

-- the session that holds the lock of the slot, where that refuses the session's
abbrev pub refusal_in : ℕ → Lock → Option GrantedLock → Option ℕ
refusal_in session lock None = None
refusal_in session lock (Some one) = refusal session lock one.held

abbrev pub refusal_at : Slab GrantedLock → ℕ → Lock → ℕ → Option ℕ
refusal_at slab session lock entry = refusal_in session lock (get slab entry)

-- the slot's lock comes before this one by table, key and low end
abbrev pub starts_before : Lock → Option GrantedLock → Bool
starts_before lock None = true
starts_before lock (Some one) = is_gt (compare_starts lock one.held.lock)

-- the table and key come before the lock's, or are the lock's and there is room
abbrev pub by_room : Ordering → Bool → Bool
by_room Less room = false
by_room Equal room = room
by_room Greater room = true

-- the slot's lock comes before this one by table and key, or begins before this one's end
abbrev pub begins_within : Lock → Option GrantedLock → Bool
begins_within lock None = true
begins_within lock (Some one) = by_room (compare_places lock one.held.lock) (leave_room one.held.lock.span.low lock.span.high)
