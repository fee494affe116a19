-- The orders are total, and only one lock ties with itself.
use Rattle.std.proofs.Common.{◌≡◌, ℕ, Bool, false, List, [], ◌∷◌, Option, Ordering, Less, Equal, Greater, refl}
use Rattle.std.specs.Cmp.{IsTotalOrder, bool_cmp_total}
use Rattle.std.specs.Cmp.Lexicographic.{options_total}
use Rattle.std.specs.List.{AllByRecursion}
use Rattle.std.specs.Ordering.{is_gt, ordering_then, nat_cmp}
use Rattle.std.proofs.lemmas.Cmp.{on_total, then_total, nat_cmp_total, nat_list_cmp_total}
use Rattle.std.proofs.lemmas.Map.Lookups.{exact_unsigned}
use Rattle.base_page_list.specs.Pages.{FailsOn}
use Rattle.slab.specs.Slab.{Slab, get}
use Rattle.base_values.proofs.Orders.{both_Equal, keys_total}
use Rattle.server_locks.specs.declared.row_locks.lock.Lock.{Lock}
use Rattle.server_locks.specs.declared.row_locks.lock_table.granted_lock.GrantedLock.{GrantedLock}
use Rattle.server_locks.specs.declared.row_locks.lock_table.granted_lock.ListOrder.{ListOrder}
use Rattle.server_locks.specs.declared.row_locks.lock_table.granted_lock.ListOrder.TheVariants.{Grant, Owner, Span}
use Rattle.base_page_list.specs.Orders.{Ascending}
use Rattle.server_locks.specs.RowLocks.ListOrders.{low_key, is_open, compare_lows, compare_places, compare_starts, compare_grants, compare_owners, compare_spans, compare, compare_slots, slots_of, is_before}
use Rattle.base_page_list.proofs.Ascending.{fails_on, fails_map}

pub lows_total : IsTotalOrder compare_lows
lows_total = then_total (on_total low_key (options_total keys_total)) (on_total is_open bool_cmp_total)

pub places_total : IsTotalOrder compare_places
places_total = then_total (on_total (λ (lock : Lock). lock.table) nat_list_cmp_total) (on_total (λ (lock : Lock). lock.key) nat_cmp_total)

pub starts_total : IsTotalOrder compare_starts
starts_total = then_total places_total (on_total (λ (lock : Lock). lock.span.low) lows_total)

pub grants_total : IsTotalOrder compare_grants
grants_total = on_total (λ (one : GrantedLock). one.grant) nat_cmp_total

pub owners_total : IsTotalOrder compare_owners
owners_total = then_total (on_total (λ (one : GrantedLock). one.held.session) nat_cmp_total) grants_total

pub spans_total : IsTotalOrder compare_spans
spans_total = then_total (on_total (λ (one : GrantedLock). one.held.lock) starts_total) owners_total

pub all_total : (by : ListOrder) → IsTotalOrder (compare by)
all_total Grant = grants_total
all_total Owner = owners_total
all_total Span = spans_total

pub slots_total : (by : ListOrder) → IsTotalOrder (compare_slots by)
slots_total by = options_total (all_total by)

-- where two tie, they are of one grant
pub same_grant : (by : ListOrder) (a b : GrantedLock) → compare by a b ≡ Equal → a.grant ≡ b.grant
same_grant Grant a b is = exact_unsigned a.grant b.grant is
same_grant Owner a b is = exact_unsigned a.grant b.grant (both_Equal (nat_cmp a.held.session b.held.session) (compare_grants a b) is).1
same_grant Span a b is =
    let owners = (both_Equal (compare_starts a.held.lock b.held.lock) (compare_owners a b) is).1 in
    exact_unsigned a.grant b.grant (both_Equal (nat_cmp a.held.session b.held.session) (compare_grants a b) owners).1

pub slot_fails_on : (by : ListOrder) (slot : Option GrantedLock) (slab : Slab GrantedLock) (entries : List ℕ) → Ascending (compare_slots by) (slots_of slab entries) → FailsOn (λ e. is_before by slot (get slab e)) entries
slot_fails_on by slot slab entries asc = fails_map (get slab) (is_before by slot) entries (fails_on (compare_slots by) (slots_total by) slot (slots_of slab entries) asc)

-- Tests that fail on: where one slot fails, all after it do.
module _ (by : ListOrder) where
  all_fail : (test : Option GrantedLock → Bool) → ((a b : Option GrantedLock) → compare_slots by a b ≡ Less → test a ≡ false → test b ≡ false) → (a : Option GrantedLock) (slots : List (Option GrantedLock)) → AllByRecursion (λ b. compare_slots by a b ≡ Less) slots → test a ≡ false → AllByRecursion (λ b. test b ≡ false) slots
  all_fail test on a [] less fails = tt
  all_fail test on a (b ∷ slots) less fails = (on a b less.0 fails, all_fail test on a slots less.1 fails)

  pub fails_from : (test : Option GrantedLock → Bool) → ((a b : Option GrantedLock) → compare_slots by a b ≡ Less → test a ≡ false → test b ≡ false) → (slots : List (Option GrantedLock)) → Ascending (compare_slots by) slots → FailsOn test slots
  fails_from test on [] asc = tt
  fails_from test on (a ∷ slots) asc = (λ fails. all_fail test on a slots asc.0 fails, fails_from test on slots asc.1)

pub less_then : (o p : Ordering) → ordering_then o p ≡ Less → is_gt o ≡ false
less_then Less p less = refl
less_then Equal p less = refl
less_then Greater p less = absurd cc

pub first_not_gt : (o p : Ordering) → is_gt (ordering_then o p) ≡ false → is_gt o ≡ false
first_not_gt Less p not = refl
first_not_gt Equal p not = refl
first_not_gt Greater p not = not
