-- The orders in which locks are listed.
use Rattle.std.specs.Prelude.{ℕ, Bool, true, false, List, map, Option, Some, None}
use Rattle.std.specs.List.{prefix_len}
use Rattle.std.specs.Option.{option_cmp}
use Rattle.std.specs.declared.cmp.Ordering.{Ordering}
use Rattle.std.specs.Ordering.{is_gt, is_ge, ordering_then, nat_cmp, bool_cmp}
use Rattle.std.specs.Cmp.Lexicographic.{slice_cmp}
use Rattle.slab.specs.Slab.{Slab, get}
use Rattle.base_values.specs.declared.value.Value.{Value}
use Rattle.base_values.specs.declared.span.Bound.{Bound}
use Rattle.base_values.specs.declared.span.Bound.TheVariants.{Open, Closed, Free}
use Rattle.base_values.specs.KeyOrder.{compare_keys}
use Rattle.server_locks.specs.declared.row_locks.lock.Lock.{Lock}
use Rattle.server_locks.specs.declared.row_locks.lock_table.granted_lock.GrantedLock.{GrantedLock}
use Rattle.server_locks.specs.declared.row_locks.lock_table.granted_lock.ListOrder.{ListOrder}
use Rattle.server_locks.specs.declared.row_locks.lock_table.granted_lock.ListOrder.TheVariants.{Grant, Owner, Span}

-- the key at a low end, where there is one
abbrev pub low_key : Bound → Option (List Value)
low_key Free = None
low_key (Open key) = Some key
low_key (Closed key) = Some key

-- the end leaves its key out
abbrev pub is_open : Bound → Bool
is_open Free = false
is_open (Open key) = true
is_open (Closed key) = false

-- Which of two low ends comes first: that without a key, then by the keys, and one that has its key before one that leaves it out.
abbrev pub compare_lows : Bound → Bound → Ordering
compare_lows a b = ordering_then (option_cmp compare_keys (low_key a) (low_key b)) (bool_cmp (is_open a) (is_open b))

-- Which comes first: the key of the table, or the lock's.
abbrev pub compare_key : List ℕ → ℕ → Lock → Ordering
compare_key table key lock = ordering_then (slice_cmp nat_cmp table lock.table) (nat_cmp key lock.key)

-- Which of two locks comes first by table and key.
abbrev pub compare_places : Lock → Lock → Ordering
compare_places a b = compare_key a.table a.key b

-- Which of two locks comes first by table, key and low end.
abbrev pub compare_starts : Lock → Lock → Ordering
compare_starts a b = ordering_then (compare_places a b) (compare_lows a.span.low b.span.low)

-- Which of two locks was granted first.
abbrev pub compare_grants : GrantedLock → GrantedLock → Ordering
compare_grants a b = nat_cmp a.grant b.grant

-- Which comes first by session, and of one session by the grant.
abbrev pub compare_owners : GrantedLock → GrantedLock → Ordering
compare_owners a b = ordering_then (nat_cmp a.held.session b.held.session) (compare_grants a b)

-- Which comes first by the span, and where they tie, by session and grant.
abbrev pub compare_spans : GrantedLock → GrantedLock → Ordering
compare_spans a b = ordering_then (compare_starts a.held.lock b.held.lock) (compare_owners a b)

-- Which of two locks comes first.
abbrev pub compare : ListOrder → GrantedLock → GrantedLock → Ordering
compare Grant a b = compare_grants a b
compare Owner a b = compare_owners a b
compare Span a b = compare_spans a b

-- Which of two slots comes first: an empty one, or by their locks.
abbrev pub compare_slots : ListOrder → Option GrantedLock → Option GrantedLock → Ordering
compare_slots by a b = option_cmp (compare by) a b

-- the slots of entries
abbrev pub slots_of : Slab GrantedLock → List ℕ → List (Option GrantedLock)
slots_of slab entries = map (get slab) entries

-- the other slot comes before this one
abbrev pub is_before : ListOrder → Option GrantedLock → Option GrantedLock → Bool
is_before by slot other = is_gt (compare_slots by slot other)

-- the place of a lock among slots in order
abbrev pub place_by : ListOrder → GrantedLock → List (Option GrantedLock) → ℕ
place_by by one slots = prefix_len (is_before by (Some one)) slots

-- the slot's lock is on a table and key before this one
abbrev pub is_on_earlier_key : List ℕ → ℕ → Option GrantedLock → Bool
is_on_earlier_key table key None = true
is_on_earlier_key table key (Some one) = is_gt (compare_key table key one.held.lock)

-- the slot's lock is on a table and key before this one, or on this one
abbrev pub is_on_key_or_earlier : List ℕ → ℕ → Option GrantedLock → Bool
is_on_key_or_earlier table key None = true
is_on_key_or_earlier table key (Some one) = is_ge (compare_key table key one.held.lock)
