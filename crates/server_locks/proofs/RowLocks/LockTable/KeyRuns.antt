-- Where the locks on one key begin and end among all locks by span.
use Rattle.std.proofs.Common.{◌≡◌, ◌∙◌, ℕ, false, List, [], Option, Some, None, Ordering, Less, Equal, Greater, refl, sym, ap}
use Rattle.std.specs.Ordering.{is_gt, is_ge}
use Rattle.std.proofs.lemmas.Cmp.{upto, alike_right}
use Rattle.slab.specs.Slab.{Slab, get}
use Rattle.base_values.specs.Spans.{point}
use Rattle.base_page_list.specs.Pages.{FailsOn}
use Rattle.server_locks.specs.declared.row_locks.lock.Lock.{Lock}
use Rattle.server_locks.specs.declared.row_locks.lock_table.granted_lock.GrantedLock.{GrantedLock}
use Rattle.server_locks.specs.declared.row_locks.lock_table.granted_lock.ListOrder.TheVariants.{Span}
use Rattle.base_page_list.specs.Orders.{Ascending}
use Rattle.server_locks.specs.RowLocks.ListOrders.{compare_lows, compare_key, compare_places, compare_starts, compare_owners, compare_spans, compare_slots, slots_of, is_on_earlier_key, is_on_key_or_earlier}
use Rattle.base_page_list.proofs.Ascending.{fails_map}
use Rattle.server_locks.proofs.RowLocks.LockTable.TotalOrders.{places_total, fails_from, less_then, first_not_gt}

-- a lock of this table and key
unfoldable pub probe : List ℕ → ℕ → Lock
probe table key = record { table = table; key = key; span = point []; exclusive = false }

places_up : (a b : GrantedLock) → compare_spans a b ≡ Less → is_gt (compare_places a.held.lock b.held.lock) ≡ false
places_up a b less = first_not_gt (compare_places a.held.lock b.held.lock) (compare_lows a.held.lock.span.low b.held.lock.span.low) (less_then (compare_starts a.held.lock b.held.lock) (compare_owners a b) less)

earlier_key_on : (table : List ℕ) (key : ℕ) (a b : Option GrantedLock) → compare_slots Span a b ≡ Less → is_on_earlier_key table key a ≡ false → is_on_earlier_key table key b ≡ false
unfolding probe
earlier_key_on table key None b less fails = absurd cc
earlier_key_on table key (Some a) None less fails = absurd cc
earlier_key_on table key (Some a) (Some b) less fails = upto places_total (probe table key) a.held.lock b.held.lock fails (places_up a b less)

not_ge : (o : Ordering) → is_ge o ≡ false → o ≡ Less
not_ge Less e = refl
not_ge Equal e = absurd cc
not_ge Greater e = absurd cc

less_by : (p a b : Lock) (o : Ordering) → compare_places a b ≡ o → is_gt o ≡ false → compare_places p a ≡ Less → compare_places p b ≡ Less
less_by p a b Less is up less = places_total.trans p a b less is
less_by p a b Equal is up less = sym (alike_right places_total a b p is) ∙ less
less_by p a b Greater is up less = absurd cc

key_up_to_on : (table : List ℕ) (key : ℕ) (a b : Option GrantedLock) → compare_slots Span a b ≡ Less → is_on_key_or_earlier table key a ≡ false → is_on_key_or_earlier table key b ≡ false
unfolding probe
key_up_to_on table key None b less fails = absurd cc
key_up_to_on table key (Some a) None less fails = absurd cc
key_up_to_on table key (Some a) (Some b) less fails =
    ap is_ge (less_by (probe table key) a.held.lock b.held.lock (compare_places a.held.lock b.held.lock) refl (places_up a b less) (not_ge (compare_key table key a.held.lock) fails))

pub earlier_keys_fail : (table : List ℕ) (key : ℕ) (slab : Slab GrantedLock) (entries : List ℕ) → Ascending (compare_slots Span) (slots_of slab entries) → FailsOn (λ e. is_on_earlier_key table key (get slab e)) entries
earlier_keys_fail table key slab entries asc = fails_map (get slab) (is_on_earlier_key table key) entries (fails_from Span (is_on_earlier_key table key) (earlier_key_on table key) (slots_of slab entries) asc)

pub keys_up_to_fail : (table : List ℕ) (key : ℕ) (slab : Slab GrantedLock) (entries : List ℕ) → Ascending (compare_slots Span) (slots_of slab entries) → FailsOn (λ e. is_on_key_or_earlier table key (get slab e)) entries
keys_up_to_fail table key slab entries asc = fails_map (get slab) (is_on_key_or_earlier table key) entries (fails_from Span (is_on_key_or_earlier table key) (key_up_to_on table key) (slots_of slab entries) asc)
