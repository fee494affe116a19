-- Who refuses a lock: what isn't looked at doesn't.
use Rattle.std.proofs.Common.{◌≡◌, ◌⊎◌, inl, inr, ◌∙◌, ℕ, Bool, true, false, not, ◌&&◌, ◌||◌, nat_eq, cond, List, [], ◌∷◌, Option, Some, None, IsSome, Ordering, Less, Equal, Greater, refl, sym, ap, subst, arith}
use Rattle.std.specs.List.{AllByRecursion, prefix_len}
use Rattle.std.specs.Cmp.Lexicographic.{pointwise, bytes_decides}
use Rattle.std.specs.Ordering.{is_gt, is_eq, is_lt, is_le, ordering_then}
use Rattle.std.proofs.lemmas.Bool.{and_parts, eqb-true, true≢false, false_from_ne_true}
use Rattle.std.proofs.lemmas.Cmp.{upto, tied_itself, alike_right}
use Rattle.std.proofs.lemmas.List.{drop_more, drop_all}
use Rattle.slab.specs.Slab.{Slab, get}
use Rattle.base_values.specs.declared.value.Value.{Value}
use Rattle.base_values.specs.declared.span.Bound.{Bound}
use Rattle.base_values.specs.declared.span.Bound.TheVariants.{Open, Closed, Free}
use Rattle.base_values.specs.KeyOrder.{compare_keys}
use Rattle.base_values.specs.Spans.{leave_room, meets}
use Rattle.base_values.proofs.Orders.{is_Less, not_Greater, keys_total, tied_keys}
use Rattle.server_locks.specs.LeastSession.Least.{least}
use Rattle.server_locks.proofs.LeastSession.Sessions.{least-least, least-none}
use Rattle.base_page_list.specs.Pages.{FailsOn, between}
use Rattle.server_locks.specs.declared.row_locks.lock.Lock.{Lock}
use Rattle.server_locks.specs.RowLocks.Grants.{same_place, conflict, refusal, blocker_of_lock}
use Rattle.server_locks.specs.declared.row_locks.lock_table.granted_lock.GrantedLock.{GrantedLock}
use Rattle.server_locks.specs.declared.row_locks.lock_table.granted_lock.ListOrder.TheVariants.{Span}
use Rattle.base_page_list.specs.Orders.{Ascending, Has}
use Rattle.server_locks.specs.RowLocks.ListOrders.{compare_lows, compare_places, compare_starts, compare_owners, compare_slots, slots_of, is_on_earlier_key}
use Rattle.server_locks.specs.RowLocks.Points.{is_point, are_one_key}
use Rattle.server_locks.specs.RowLocks.LockLists.{AreLists, is_wide, held_in, locks_of}
use Rattle.server_locks.specs.RowLocks.Blockers.{least_of, refusal_in, refusal_at, starts_before, by_room, begins_within}
use Rattle.base_page_list.proofs.Ascending.{fails_map}
use Rattle.server_locks.proofs.RowLocks.LockTable.KeyRuns.{earlier_keys_fail}
use Rattle.server_locks.proofs.RowLocks.LockTable.Runs.{has_between, between_has}
use Rattle.server_locks.proofs.RowLocks.LockTable.TotalOrders.{places_total, starts_total, fails_from, less_then, first_not_gt}

pub ruleset steps = (least-least, least-none, drop_more, drop_all)

-- Keys.
le_of : (o : Ordering) → is_gt o ≡ false → is_le o ≡ true
le_of Less e = refl
le_of Equal e = refl
le_of Greater e = absurd cc

not_lt_of : (o : Ordering) → is_le o ≡ false → is_lt o ≡ false
not_lt_of Less e = absurd cc
not_lt_of Equal e = absurd cc
not_lt_of Greater e = refl

le_lt : (a k b : List Value) → is_le (compare_keys a k) ≡ true → is_lt (compare_keys k b) ≡ true → is_lt (compare_keys a b) ≡ true
le_lt a k b p q =
    elim (not_Greater (compare_keys a k) p) [
      | inl less ↦ ap is_lt (keys_total.trans a k b less (is_Less (compare_keys k b) q))
      | inr tied ↦ ap is_lt (keys_total.congr a k b tied) ∙ q
    ]

lt_le : (a k b : List Value) → compare_keys a k ≡ Less → is_le (compare_keys k b) ≡ true → is_lt (compare_keys a b) ≡ true
lt_le a k b p q =
    elim (not_Greater (compare_keys k b) q) [
      | inl less ↦ ap is_lt (keys_total.trans a k b p less)
      | inr tied ↦ ap is_lt (sym (alike_right keys_total k b a tied) ∙ p)
    ]

le_from_lt : (o : Ordering) → is_lt o ≡ true → is_le o ≡ true
le_from_lt Less e = refl
le_from_lt Equal e = absurd cc
le_from_lt Greater e = absurd cc

le_le : (a k b : List Value) → is_le (compare_keys a k) ≡ true → is_le (compare_keys k b) ≡ true → is_le (compare_keys a b) ≡ true
le_le a k b p q =
    elim (not_Greater (compare_keys a k) p) [
      | inl less ↦ le_from_lt (compare_keys a b) (lt_le a k b less q)
      | inr tied ↦ ap is_le (keys_total.congr a k b tied) ∙ q
    ]

-- what lies behind one that isn't before an end isn't before it
behind_lt : (x y h : List Value) → is_gt (compare_keys x y) ≡ false → is_lt (compare_keys x h) ≡ false → is_lt (compare_keys y h) ≡ false
behind_lt x y h up not = false_from_ne_true (is_lt (compare_keys y h)) (λ is. true≢false (sym (le_lt x y h (le_of (compare_keys x y) up) is) ∙ not))

behind_le : (x y h : List Value) → is_gt (compare_keys x y) ≡ false → is_le (compare_keys x h) ≡ false → is_le (compare_keys y h) ≡ false
behind_le x y h up not = false_from_ne_true (is_le (compare_keys y h)) (λ is. true≢false (sym (le_le x y h (le_of (compare_keys x y) up) is) ∙ not))

behind_both : (x y h : List Value) → compare_keys x y ≡ Less → is_lt (compare_keys x h) ≡ false → is_le (compare_keys y h) ≡ false
behind_both x y h less not = false_from_ne_true (is_le (compare_keys y h)) (λ is. true≢false (sym (lt_le x y h less is) ∙ not))

then_greater : (o : Ordering) → is_gt (ordering_then o Greater) ≡ false → o ≡ Less
then_greater Less not = refl
then_greater Equal not = absurd cc
then_greater Greater not = absurd cc

-- an end behind one that leaves no room leaves none
room_behind : (a b high : Bound) → is_gt (compare_lows a b) ≡ false → leave_room a high ≡ false → leave_room b high ≡ false
room_behind Free b high up none = absurd cc
room_behind (Open x) Free high up none = absurd cc
room_behind (Closed x) Free high up none = absurd cc
room_behind (Open x) (Open y) Free up none = absurd cc
room_behind (Open x) (Closed y) Free up none = absurd cc
room_behind (Closed x) (Open y) Free up none = absurd cc
room_behind (Closed x) (Closed y) Free up none = absurd cc
room_behind (Open x) (Open y) (Open h) up none = behind_lt x y h (first_not_gt (compare_keys x y) Equal up) none
room_behind (Open x) (Open y) (Closed h) up none = behind_lt x y h (first_not_gt (compare_keys x y) Equal up) none
room_behind (Open x) (Closed y) (Open h) up none = not_lt_of (compare_keys y h) (behind_both x y h (then_greater (compare_keys x y) up) none)
room_behind (Open x) (Closed y) (Closed h) up none = behind_both x y h (then_greater (compare_keys x y) up) none
room_behind (Closed x) (Open y) (Open h) up none = behind_lt x y h (first_not_gt (compare_keys x y) Less up) none
room_behind (Closed x) (Open y) (Closed h) up none = not_lt_of (compare_keys y h) (behind_le x y h (first_not_gt (compare_keys x y) Less up) none)
room_behind (Closed x) (Closed y) (Open h) up none = behind_lt x y h (first_not_gt (compare_keys x y) Equal up) none
room_behind (Closed x) (Closed y) (Closed h) up none = behind_le x y h (first_not_gt (compare_keys x y) Equal up) none

-- Tests that fail on.
starts_on : (lock : Lock) (a b : Option GrantedLock) → compare_slots Span a b ≡ Less → starts_before lock a ≡ false → starts_before lock b ≡ false
starts_on lock None b less fails = absurd cc
starts_on lock (Some a) None less fails = absurd cc
starts_on lock (Some a) (Some b) less fails = upto starts_total lock a.held.lock b.held.lock fails (less_then (compare_starts a.held.lock b.held.lock) (compare_owners a b) less)

begin_by : (lock a b : Lock) (o p : Ordering) → compare_places lock a ≡ o → compare_places a b ≡ p → is_gt (ordering_then p (compare_lows a.span.low b.span.low)) ≡ false → by_room o (leave_room a.span.low lock.span.high) ≡ false → by_room (compare_places lock b) (leave_room b.span.low lock.span.high) ≡ false
begin_by lock a b Less Less at is up none = rw (places_total.trans lock a b at is) refl
begin_by lock a b Less Equal at is up none = rw (← alike_right places_total a b lock is, at) refl
begin_by lock a b Equal Less at is up none = rw (places_total.congr lock a b at, is) refl
begin_by lock a b Equal Equal at is up none = rw (places_total.congr lock a b at, is) (room_behind a.span.low b.span.low lock.span.high up none)
begin_by lock a b Less Greater at is up none = absurd cc
begin_by lock a b Equal Greater at is up none = absurd cc
begin_by lock a b Greater p at is up none = absurd cc

begins_on : (lock : Lock) (a b : Option GrantedLock) → compare_slots Span a b ≡ Less → begins_within lock a ≡ false → begins_within lock b ≡ false
begins_on lock None b less fails = absurd cc
begins_on lock (Some a) None less fails = absurd cc
begins_on lock (Some a) (Some b) less fails =
    begin_by lock a.held.lock b.held.lock (compare_places lock a.held.lock) (compare_places a.held.lock b.held.lock) refl refl (less_then (compare_starts a.held.lock b.held.lock) (compare_owners a b) less) fails

pub starts_fail : (lock : Lock) (slab : Slab GrantedLock) (entries : List ℕ) → Ascending (compare_slots Span) (slots_of slab entries) → FailsOn (λ e. starts_before lock (get slab e)) entries
starts_fail lock slab entries asc = fails_map (get slab) (starts_before lock) entries (fails_from Span (starts_before lock) (starts_on lock) (slots_of slab entries) asc)

pub begins_fail : (lock : Lock) (slab : Slab GrantedLock) (entries : List ℕ) → Ascending (compare_slots Span) (slots_of slab entries) → FailsOn (λ e. begins_within lock (get slab e)) entries
begins_fail lock slab entries asc = fails_map (get slab) (begins_within lock) entries (fails_from Span (begins_within lock) (begins_on lock) (slots_of slab entries) asc)

-- What isn't looked at doesn't refuse.
and_not : (b c : Bool) (session : ℕ) → c ≡ false → cond (b && c) (Some session) None ≡ None
and_not true c session is = rw is refl
and_not false c session is = refl

no_refusal : (session : ℕ) (lock : Lock) (one : GrantedLock) → (conflict one.held.lock lock ≡ true → ⊥) → refusal_in session lock (Some one) ≡ None
unfolding refusal
no_refusal session lock one not = and_not _ (conflict one.held.lock lock) one.held.session (false_from_ne_true (conflict one.held.lock lock) not)

place_tied : (a b : Lock) → a.table ≡ b.table → a.key ≡ b.key → compare_places b a ≡ Equal
place_tied a b tables keys = rw (tables, keys) (tied_itself places_total b)

conflict_place : (a b : Lock) → conflict a b ≡ true → compare_places b a ≡ Equal
unfolding conflict
conflict_place a b is =
    let parts = and_parts (same_place a b && (a.exclusive || b.exclusive)) (meets a.span b.span) is in
    let places = and_parts (same_place a b) (a.exclusive || b.exclusive) parts.0 in
    let same = and_parts (pointwise nat_eq a.table b.table) (nat_eq a.key b.key) places.0 in
    place_tied a b ((bytes_decides a.table b.table).0 same.0) (eqb-true a.key b.key same.1)

-- the low end of each leaves room to the high end of the other
record LeaveRoom (a b : Lock) : Type 0 where
  there : leave_room a.span.low b.span.high ≡ true
  back : leave_room b.span.low a.span.high ≡ true

conflict_room : (a b : Lock) → conflict a b ≡ true → LeaveRoom a b
unfolding conflict meets
conflict_room a b is =
    let meet = (and_parts (same_place a b && (a.exclusive || b.exclusive)) (((leave_room a.span.low a.span.high && leave_room a.span.low b.span.high) && leave_room b.span.low a.span.high) && leave_room b.span.low b.span.high) is).1 in
    let three = (and_parts ((leave_room a.span.low a.span.high && leave_room a.span.low b.span.high) && leave_room b.span.low a.span.high) (leave_room b.span.low b.span.high) meet).0 in
    let two = and_parts (leave_room a.span.low a.span.high && leave_room a.span.low b.span.high) (leave_room b.span.low a.span.high) three in
    record { there = (and_parts (leave_room a.span.low a.span.high) (leave_room a.span.low b.span.high) two.0).1; back = two.1 }

pub earlier_key_quiet : (session : ℕ) (lock : Lock) (slot : Option GrantedLock) → is_on_earlier_key lock.table lock.key slot ≡ true → refusal_in session lock slot ≡ None
earlier_key_quiet session lock None before = refl
earlier_key_quiet session lock (Some one) before = no_refusal session lock one (λ is. true≢false (sym before ∙ ap is_gt (conflict_place one.held.lock lock is)))

pub beyond_quiet : (session : ℕ) (lock : Lock) (slot : Option GrantedLock) → begins_within lock slot ≡ false → refusal_in session lock slot ≡ None
beyond_quiet session lock None beyond = absurd cc
beyond_quiet session lock (Some one) beyond =
    no_refusal session lock one
    (λ is. true≢false (sym (conflict_room one.held.lock lock is).there ∙ sym (ap (λ (o : Ordering). by_room o (leave_room one.held.lock.span.low lock.span.high)) (conflict_place one.held.lock lock is)) ∙ beyond))

closed_up : (o : Ordering) → is_le o ≡ true → is_gt (ordering_then o Equal) ≡ false
closed_up Less e = refl
closed_up Equal e = refl
closed_up Greater e = absurd cc

open_up : (o : Ordering) → is_lt o ≡ true → is_gt (ordering_then o Greater) ≡ false
open_up Less e = refl
open_up Equal e = absurd cc
open_up Greater e = absurd cc

-- a low end that leaves room to a key that is had doesn't come behind it
room_up : (low : Bound) (key : List Value) → leave_room low (Closed key) ≡ true → is_gt (compare_lows low (Closed key)) ≡ false
room_up Free key room = refl
room_up (Open x) key room = open_up (compare_keys x key) room
room_up (Closed x) key room = closed_up (compare_keys x key) room

record Closes (low high : Bound) : Type 0 where
  key : List Value
  low_is : low ≡ Closed key
  high_is : high ≡ Closed key

is_eq_Equal : (o : Ordering) → is_eq o ≡ true → o ≡ Equal
is_eq_Equal Less e = absurd cc
is_eq_Equal Equal e = refl
is_eq_Equal Greater e = absurd cc

closes : (low high : Bound) → are_one_key low high ≡ true → Closes low high
closes Free high is = absurd cc
closes (Open low) high is = absurd cc
closes (Closed low) Free is = absurd cc
closes (Closed low) (Open high) is = absurd cc
closes (Closed low) (Closed high) is = let same : low ≡ high = tied_keys low high (is_eq_Equal (compare_keys low high) is) in record { key = low; low_is = refl; high_is = ap Closed (sym same) }

point_up : (lock held : Lock) → is_point held.span ≡ true → compare_places lock held ≡ Equal → leave_room lock.span.low held.span.high ≡ true → is_gt (compare_starts lock held) ≡ false
point_up lock held point tied room =
    let both = closes held.span.low held.span.high point in
    let there : leave_room lock.span.low (Closed both.key) ≡ true = subst (λ (high : Bound). leave_room lock.span.low high ≡ true) both.high_is room in
    let up : is_gt (compare_lows lock.span.low held.span.low) ≡ false = subst (λ (low : Bound). is_gt (compare_lows lock.span.low low) ≡ false) (sym both.low_is) (room_up lock.span.low both.key there) in
    ap (λ (o : Ordering). is_gt (ordering_then o (compare_lows lock.span.low held.span.low))) tied ∙ up

not_wide : (b : Bool) → not b ≡ false → b ≡ true
not_wide true e = refl
not_wide false e = absurd cc

pub point_quiet : (session : ℕ) (lock : Lock) (slot : Option GrantedLock) → starts_before lock slot ≡ true → is_wide slot ≡ false → refusal_in session lock slot ≡ None
point_quiet session lock None before point = refl
point_quiet session lock (Some one) before point =
    no_refusal session lock one
    (λ is. true≢false (sym before ∙ point_up lock one.held.lock (not_wide (is_point one.held.lock.span) point) (conflict_place one.held.lock lock is) (conflict_room one.held.lock lock is).back))

-- The least of several.
pub least_comm : (a b : Option ℕ) → least a b ≡ least b a
least_comm None None = refl
least_comm None (Some b) = refl
least_comm (Some a) None = refl
least_comm (Some a) (Some b) = ap Some (omega arith)

pub least_self : (a : Option ℕ) → least a a ≡ a
least_self None = refl
least_self (Some a) = ap Some (omega arith)

-- one of them is never less than the least
pub none_less : (f : ℕ → Option ℕ) (xs : List ℕ) (e : ℕ) → Has xs e → least (least_of f xs) (f e) ≡ least_of f xs
none_less f [] e has = absurd has
none_less f (x ∷ xs) e (inl is) =
    let same : f x ≡ f e = ap f is in
    least-least (f x) (least_of f xs) (f e) ∙ ap (least (f x)) (least_comm (least_of f xs) (f e)) ∙ sym (least-least (f x) (f e) (least_of f xs)) ∙ ap (λ (o : Option ℕ). least o (least_of f xs)) (ap (least (f x)) (sym same) ∙ least_self (f x))
none_less f (x ∷ xs) e (inr has) = least-least (f x) (least_of f xs) (f e) ∙ ap (least (f x)) (none_less f xs e has)

pub all_less : (f : ℕ → Option ℕ) (a : Option ℕ) (ys : List ℕ) → ((e : ℕ) → Has ys e → least a (f e) ≡ a) → least a (least_of f ys) ≡ a
all_less f a [] each = least-none a
all_less f a (y ∷ ys) each = sym (least-least a (f y) (least_of f ys)) ∙ ap (λ (o : Option ℕ). least o (least_of f ys)) (each y (inl refl)) ∙ all_less f a ys (λ e has. each e (inr has))

pub same_least : (a b : Option ℕ) → least a b ≡ a → least b a ≡ b → a ≡ b
same_least a b there back = sym there ∙ least_comm a b ∙ back

-- All together.
refusal_is : (session : ℕ) (lock : Lock) (slot : Option GrantedLock) → IsSome slot → refusal session lock (held_in slot) ≡ refusal_in session lock slot
refusal_is session lock None some = absurd cc
refusal_is session lock (Some one) some = refl

pub blocker_is : (session : ℕ) (lock : Lock) (slab : Slab GrantedLock) (entries : List ℕ) → AllByRecursion (λ e. IsSome (get slab e)) entries → blocker_of_lock (locks_of slab entries) session lock ≡ least_of (refusal_at slab session lock) entries
unfolding blocker_of_lock
blocker_is session lock slab [] stored = refl
blocker_is session lock slab (e ∷ entries) stored =
    ap (λ (o : Option ℕ). least o (blocker_of_lock (locks_of slab entries) session lock)) (refusal_is session lock (get slab e) stored.0) ∙ ap (least (refusal_at slab session lock e)) (blocker_is session lock slab entries stored.1)

-- what is looked at
abbrev pub within : Slab GrantedLock → Lock → List ℕ → List ℕ
within slab lock spans = between (prefix_len (λ e. starts_before lock (get slab e)) spans) (prefix_len (λ e. begins_within lock (get slab e)) spans) spans

abbrev pub ahead : Slab GrantedLock → Lock → List ℕ → List ℕ
ahead slab lock wide = between (prefix_len (λ e. is_on_earlier_key lock.table lock.key (get slab e)) wide) (prefix_len (λ e. starts_before lock (get slab e)) wide) wide

quiet : (o a b : Option ℕ) → o ≡ None → least (least a b) o ≡ least a b
quiet o a b is = rw is (least-none (least a b))

in_first : (o a b : Option ℕ) → least a o ≡ a → least (least a b) o ≡ least a b
in_first o a b is = ap (λ (p : Option ℕ). least p o) (least_comm a b) ∙ least-least b a o ∙ ap (least b) is ∙ least_comm b a

in_second : (o a b : Option ℕ) → least b o ≡ b → least (least a b) o ≡ least a b
in_second o a b is = least-least a b o ∙ ap (least a) is

module _ (session : ℕ) (lock : Lock) (slab : Slab GrantedLock) (next : ℕ) (g o s w : List ℕ) (are : AreLists next slab g o s w) where
  abbrev pub both : Option ℕ
  both = least (least_of (refusal_at slab session lock) (within slab lock s)) (least_of (refusal_at slab session lock) (ahead slab lock w))

  looked_wide : (e : ℕ) (lies : Bool) → Has w e → starts_before lock (get slab e) ≡ true → is_on_earlier_key lock.table lock.key (get slab e) ≡ lies → least both (refusal_at slab session lock e) ≡ both
  looked_wide e true has starts lies = quiet (refusal_at slab session lock e) (least_of (refusal_at slab session lock) (within slab lock s)) (least_of (refusal_at slab session lock) (ahead slab lock w)) (earlier_key_quiet session lock (get slab e) lies)
  looked_wide e false has starts lies =
      in_second (refusal_at slab session lock e) (least_of (refusal_at slab session lock) (within slab lock s)) (least_of (refusal_at slab session lock) (ahead slab lock w))
      (none_less (refusal_at slab session lock) (ahead slab lock w) e (has_between (λ x. is_on_earlier_key lock.table lock.key (get slab x)) (λ x. starts_before lock (get slab x)) w e (earlier_keys_fail lock.table lock.key slab w are.by_wide.ascends) (starts_fail lock slab w are.by_wide.ascends) has lies starts))

  looked_before : (e : ℕ) (wide : Bool) → Has g e → starts_before lock (get slab e) ≡ true → is_wide (get slab e) ≡ wide → least both (refusal_at slab session lock e) ≡ both
  looked_before e true has starts wide = looked_wide e (is_on_earlier_key lock.table lock.key (get slab e)) (are.wide_all.there e has wide) starts refl
  looked_before e false has starts wide = quiet (refusal_at slab session lock e) (least_of (refusal_at slab session lock) (within slab lock s)) (least_of (refusal_at slab session lock) (ahead slab lock w)) (point_quiet session lock (get slab e) starts wide)

  looked_behind : (e : ℕ) (begins : Bool) → Has s e → starts_before lock (get slab e) ≡ false → begins_within lock (get slab e) ≡ begins → least both (refusal_at slab session lock e) ≡ both
  looked_behind e true has starts begins =
      in_first (refusal_at slab session lock e) (least_of (refusal_at slab session lock) (within slab lock s)) (least_of (refusal_at slab session lock) (ahead slab lock w))
      (none_less (refusal_at slab session lock) (within slab lock s) e (has_between (λ x. starts_before lock (get slab x)) (λ x. begins_within lock (get slab x)) s e (starts_fail lock slab s are.by_span.ascends) (begins_fail lock slab s are.by_span.ascends) has starts begins))
  looked_behind e false has starts begins = quiet (refusal_at slab session lock e) (least_of (refusal_at slab session lock) (within slab lock s)) (least_of (refusal_at slab session lock) (ahead slab lock w)) (beyond_quiet session lock (get slab e) begins)

  looked : (e : ℕ) (starts : Bool) → Has g e → starts_before lock (get slab e) ≡ starts → least both (refusal_at slab session lock e) ≡ both
  looked e true has starts = looked_before e (is_wide (get slab e)) has starts refl
  looked e false has starts = looked_behind e (begins_within lock (get slab e)) (are.spans_all.there e has) starts refl

  in_all : (e : ℕ) → Has g e → least (least_of (refusal_at slab session lock) g) (refusal_at slab session lock e) ≡ least_of (refusal_at slab session lock) g
  in_all e has = none_less (refusal_at slab session lock) g e has

  all_both : least (least_of (refusal_at slab session lock) g) both ≡ least_of (refusal_at slab session lock) g
  all_both =
      sym (least-least (least_of (refusal_at slab session lock) g) (least_of (refusal_at slab session lock) (within slab lock s)) (least_of (refusal_at slab session lock) (ahead slab lock w)))
      ∙ ap (λ (p : Option ℕ). least p (least_of (refusal_at slab session lock) (ahead slab lock w))) (all_less (refusal_at slab session lock) (least_of (refusal_at slab session lock) g) (within slab lock s) (λ e has. in_all e (are.spans_all.here e (between_has _ _ e s has))))
      ∙ all_less (refusal_at slab session lock) (least_of (refusal_at slab session lock) g) (ahead slab lock w) (λ e has. in_all e (are.wide_all.here e (between_has _ _ e w has)))

  pub look_tells : both ≡ blocker_of_lock (locks_of slab g) session lock
  look_tells =
      same_least both (least_of (refusal_at slab session lock) g) (all_less (refusal_at slab session lock) both g (λ e has. looked e (starts_before lock (get slab e)) has refl)) all_both
      ∙ sym (blocker_is session lock slab g are.by_grant.stored)
