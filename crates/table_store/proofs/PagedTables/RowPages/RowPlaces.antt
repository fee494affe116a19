-- Rows in order by two lists of places.
use Rattle.std.proofs.Common.{◌≡◌, ◌⊎◌, inl, inr, ◌∙◌, ℕ, zero, suc, ◌+◌, ◌≤◌, Bool, true, false, cond, List, [], ◌∷◌, length, insert, remove, Option, Some, None, IsSome, OnSome, unwrap_or, find, filter, not, Ordering, Less, Equal, Greater, refl, sym, ap, subst, arith, one-add}
use Rattle.std.specs.Cmp.{IsTotalOrder}
use Rattle.std.proofs.lemmas.Cmp.{then_total, on_total}
use Rattle.std.specs.Ordering.{is_gt, is_eq, ordering_reverse, ordering_then, match_ordering}
use Rattle.std.specs.List.{AllByRecursion, prefix_len, slice_get}
use Rattle.std.proofs.lemmas.List.{length-map}
use Rattle.std.proofs.lemmas.List.Edits.{length-insert, length-remove}
use Rattle.std.proofs.lemmas.List.Sums.{prefix_len-le-length}
use Rattle.std.proofs.lemmas.Option.{slice_get-map, slice_get_within, slice_get_past}
use Rattle.std.specs.Option.{option_and_then, option_map}
use Rattle.slab.specs.Slab.{Slab, get, slab_len, Updates}
use Rattle.base_values.specs.declared.value.Value.{Value}
use Rattle.base_values.specs.KeyOrder.{compare_keys}
use Rattle.base_values.proofs.Orders.{keys_total, tied_keys}
use Rattle.base_values.specs.GhoSchema.Rows.{key_of, with_row}
use Rattle.base_page_list.specs.Pages.{FailsOn, flat, StandsAt}
use Rattle.table_store.specs.PagedTables.RowPages.KeyLookup.{IsFound}
use Rattle.table_store.proofs.NameMap.Entries.{map-insert, map-remove}
use Rattle.table_store.proofs.Orders.{Row, FailsAbove, before_fails}
use Rattle.table_store.specs.RowLists.{comes_before, is_at, without_key}
use Rattle.base_page_list.specs.Orders.{Ascending, Has, is_tied}
use Rattle.table_store.specs.PagedTables.RowPages.RowOrders.{row_of, rows_of, compare_by, is_before, place_by, IsNew, IsListed}
use Rattle.base_page_list.proofs.Ascending.{fails_on, ascending_insert, ascending_remove, stands_by, all_insert, all_at, has_new, has_old, has_fewer, has_all, all_has, has_place, has_at, map_same}

pub by_total : (first second : List ℕ) → IsTotalOrder (compare_by first second)
by_total first second = then_total (on_total (key_of first) keys_total) (on_total (key_of second) keys_total)

pub row_fails_on : (first second : List ℕ) (row : Row) (rows : List Row) → Ascending (compare_by first second) rows → FailsOn (is_before first second row) rows
row_fails_on first second row rows asc = fails_on (compare_by first second) (by_total first second) row rows asc

-- A test of keys by the first places alone.
test_after : (test : List Value → Bool) (a b : Row) (first second : Ordering) → FailsAbove test → compare_keys a b ≡ first → ordering_then first second ≡ Less → test a ≡ false → test b ≡ false
test_after test a b Less second above is less fails = above a b is fails
test_after test a b Equal second above is less fails = let same = tied_keys a b is in rw (← same) fails
test_after test a b Greater second above is less fails = absurd (cc)

test_after_all : (test : List Value → Bool) (first second : List ℕ) (row : Row) (rows : List Row) → FailsAbove test → AllByRecursion (λ other. compare_by first second row other ≡ Less) rows → test (key_of first row) ≡ false → AllByRecursion (λ other. test (key_of first other) ≡ false) rows
test_after_all test first second row [] above less fails = tt
test_after_all test first second row (other ∷ rows) above less fails = (
  test_after test (key_of first row) (key_of first other) (compare_keys (key_of first row) (key_of first other)) (compare_keys (key_of second row) (key_of second other)) above refl less.0 fails,
  test_after_all test first second row rows above less.1 fails,
)

pub test_fails_on : (test : List Value → Bool) (first second : List ℕ) (rows : List Row) → FailsAbove test → Ascending (compare_by first second) rows → FailsOn (λ row. test (key_of first row)) rows
test_fails_on test first second [] above asc = tt
test_fails_on test first second (row ∷ rows) above asc = (λ fails. test_after_all test first second row rows above asc.0 fails, test_fails_on test first second rows above asc.1)

pub key_fails_on : (first second : List ℕ) (key : Row) (rows : List Row) → Ascending (compare_by first second) rows → FailsOn (comes_before first key) rows
key_fails_on first second key rows asc = test_fails_on (λ (other : List Value). is_gt (compare_keys key other)) first second rows (before_fails key) asc

-- A put.
abbrev pub Rows : Type 0
Rows = Slab Row

some_not_none : (s : Option Row) → IsSome s → s ≡ None → ⊥
some_not_none (Some row) some none = absurd (cc)
some_not_none None some none = absurd (cc)

kept : (old new : Rows) (entry : ℕ) (slot : Option Row) (entries : List ℕ) → Updates old new entry slot → AllByRecursion (λ e. IsSome (get old e)) entries → get old entry ≡ None → AllByRecursion (λ e. row_of new e ≡ row_of old e) entries
kept old new entry slot [] updates stored none = tt
kept old new entry slot (e ∷ entries) updates stored none =
    (ap (λ (s : Option Row). unwrap_or s []) (updates.others e (λ same. some_not_none (get old e) stored.0 (ap (λ (n : ℕ). get old n) same ∙ none))), kept old new entry slot entries updates stored.1 none)

pub rows_kept : (old new : Rows) (entry : ℕ) (row : Row) (entries : List ℕ) → Updates old new entry (Some row) → AllByRecursion (λ e. IsSome (get old e)) entries → get old entry ≡ None → rows_of new entries ≡ rows_of old entries
rows_kept old new entry row entries updates stored none = map_same (row_of new) (row_of old) entries (kept old new entry (Some row) entries updates stored none)

pub rows_put : (old new : Rows) (entry : ℕ) (row : Row) (entries : List ℕ) (k : ℕ) → Updates old new entry (Some row) → AllByRecursion (λ e. IsSome (get old e)) entries → get old entry ≡ None → rows_of new (insert entries k entry) ≡ insert (rows_of old entries) k row
rows_put old new entry row entries k updates stored none =
    map-insert (row_of new) entries k entry
    ∙ ap (λ (rs : List Row). insert rs k (row_of new entry)) (rows_kept old new entry row entries updates stored none)
    ∙ ap (λ (r : Row). insert (rows_of old entries) k r) (ap (λ (s : Option Row). unwrap_or s []) updates.changed)

still : (old new : Rows) (entry : ℕ) (row : Row) (entries : List ℕ) → Updates old new entry (Some row) → get old entry ≡ None → AllByRecursion (λ e. IsSome (get old e)) entries → AllByRecursion (λ e. IsSome (get new e)) entries
still old new entry row [] updates none stored = tt
still old new entry row (e ∷ entries) updates none stored =
    (subst (λ (s : Option Row). IsSome s) (sym (updates.others e (λ same. some_not_none (get old e) stored.0 (ap (λ (n : ℕ). get old n) same ∙ none)))) stored.0, still old new entry row entries updates none stored.1)

-- a new key by the clustered places is new by others and these
tied_parts : (a b c : Ordering) → is_tied (ordering_then b Equal) ≡ false → is_tied (ordering_then a b) ≡ false
tied_parts Less b c new = refl
tied_parts Equal Less c new = refl
tied_parts Equal Equal c new = absurd (cc)
tied_parts Equal Greater c new = refl
tied_parts Greater b c new = refl

new_by : (clustered other : List ℕ) (row r : Row) → is_tied (compare_by clustered [] row r) ≡ false → is_tied (compare_by other clustered row r) ≡ false
unfolding key_of
new_by clustered other row r new = tied_parts (compare_keys (key_of other row) (key_of other r)) (compare_keys (key_of clustered row) (key_of clustered r)) Equal new

pub new_all : (clustered other : List ℕ) (row : Row) (rows : List Row) → AllByRecursion (λ r. is_tied (compare_by clustered [] row r) ≡ false) rows → AllByRecursion (λ r. is_tied (compare_by other clustered row r) ≡ false) rows
new_all clustered other row [] new = tt
new_all clustered other row (r ∷ rows) new = (new_by clustered other row r new.0, new_all clustered other row rows new.1)

-- what holds of the rows of all entries holds of the rows of the others
pub all_rows : (P : Row → Type 0) (slab : Rows) (entries : List ℕ) → AllByRecursion P (rows_of slab entries) → AllByRecursion (λ e. P (row_of slab e)) entries
all_rows P slab [] all = tt
all_rows P slab (e ∷ entries) all = (all.0, all_rows P slab entries all.1)

pub rows_all : (P : Row → Type 0) (slab : Rows) (entries : List ℕ) → AllByRecursion (λ e. P (row_of slab e)) entries → AllByRecursion P (rows_of slab entries)
rows_all P slab [] all = tt
rows_all P slab (e ∷ entries) all = (all.0, rows_all P slab entries all.1)

pub moved : (P : ℕ → Type 0) (entries others : List ℕ) → ((e : ℕ) → Has others e → Has entries e) → AllByRecursion P entries → AllByRecursion P others
moved P entries others here all = all_has P others (λ e has. has_all P e entries all (here e has))

pub put_same : (k j entry e : ℕ) (order others : List ℕ) → (Has order e → Has others e) → (entry ≡ e) ⊎ Has order e → Has (insert others j entry) e
put_same k j entry e order others same (inl is) = subst (λ (n : ℕ). Has (insert others j entry) n) is (has_new j entry others)
put_same k j entry e order others same (inr has) = has_old j entry e others (same has)

place_le : (first second : List ℕ) (row : Row) (slab : Rows) (entries : List ℕ) → place_by first second row (rows_of slab entries) ≤ length entries
place_le first second row slab entries =
    let bound = prefix_len-le-length (is_before first second row) (rows_of slab entries) in
    let size = length-map entries (row_of slab) in
    omega (arith, bound, size)

pub listed_put : (first second : List ℕ) (old new : Rows) (entries entries' : List ℕ) (entry : ℕ) (row : Row) → IsListed first second old entries → AllByRecursion (λ r. is_tied (compare_by first second row r) ≡ false) (rows_of old entries) → Updates old new entry (Some row) → get old entry ≡ None
    → slab_len new ≡ slab_len old + 1 → entries' ≡ insert entries (place_by first second row (rows_of old entries)) entry → IsListed first second new entries'
listed_put first second old new entries entries' entry row is fresh updates none more entries_are =
    let k = place_by first second row (rows_of old entries) in
    let rows = rows_put old new entry row entries k updates is.stored none in
    let entry_stored : IsSome (get new entry) = subst (λ (s : Option Row). IsSome s) (sym updates.changed) refl in
    rw entries_are
    record {
      stored = all_insert (λ e. IsSome (get new e)) k entry entries entry_stored (still old new entry row entries updates none is.stored);
      ascends = subst (Ascending (compare_by first second)) (sym rows) (ascending_insert (compare_by first second) (by_total first second) row (rows_of old entries) fresh is.ascends);
      counted = length-insert entries k entry (place_le first second row old entries) ∙ ap (λ (n : ℕ). n + 1) is.counted ∙ sym more;
    }

-- What is found by a key.
less_after : (key a b : Row) (second : Ordering) (first : Ordering) → compare_keys a b ≡ first → ordering_then first second ≡ Less → compare_keys key a ≡ Less → compare_keys key b ≡ Less
less_after key a b second Less is less at = keys_total.trans key a b at is
less_after key a b second Equal is less at = let same = tied_keys a b is in rw (← same) at
less_after key a b second Greater is less at = absurd (cc)

pub none_after : (first second : List ℕ) (key row : Row) (rows : List Row) → AllByRecursion (λ other. compare_by first second row other ≡ Less) rows → compare_keys key (key_of first row) ≡ Less → find (is_at first key) rows ≡ None
none_after first second key row [] less at = refl
none_after first second key row (other ∷ rows) less at =
    let here : compare_keys key (key_of first other) ≡ Less =
    less_after key (key_of first row) (key_of first other) (compare_keys (key_of second row) (key_of second other)) (compare_keys (key_of first row) (key_of first other)) refl less.0 at
    in
    rw here (none_after first second key row rows less.1 at)

-- the row, if it has the key
abbrev pub if_at : List ℕ → Row → Row → Option Row
if_at first key row = cond (is_at first key row) (Some row) None

found_by : (first second : List ℕ) (key row : Row) (rows : List Row) (o : Ordering) → compare_keys key (key_of first row) ≡ o → AllByRecursion (λ other. compare_by first second row other ≡ Less) rows
    → find (is_at first key) rows ≡ option_and_then (if_at first key) (slice_get rows (prefix_len (comes_before first key) rows))
    → cond (is_eq o) (Some row) (find (is_at first key) rows) ≡ option_and_then (if_at first key) (slice_get (row ∷ rows) (cond (is_gt o) (1 + prefix_len (comes_before first key) rows) 0))
found_by first second key row rows Less is less others = rw is (none_after first second key row rows less is)
found_by first second key row rows Equal is less others = rw is refl
found_by first second key row rows Greater is less others = rw (one-add (prefix_len (comes_before first key) rows)) others

pub found_at : (first second : List ℕ) (key : Row) (rows : List Row) → Ascending (compare_by first second) rows → find (is_at first key) rows ≡ option_and_then (if_at first key) (slice_get rows (prefix_len (comes_before first key) rows))
found_at first second key [] asc = refl
found_at first second key (row ∷ rows) asc = found_by first second key row rows (compare_keys key (key_of first row)) refl asc.0 (found_at first second key rows asc.1)

-- the row of the entry at the place
pub row_at : (slab : Rows) (entries : List ℕ) (k entry : ℕ) → slice_get entries k ≡ Some entry → slice_get (rows_of slab entries) k ≡ Some (row_of slab entry)
row_at slab entries k entry at = slice_get-map (row_of slab) entries k ∙ ap (λ (o : Option ℕ). option_map (row_of slab) o) at

pub found_yes : (first second : List ℕ) (key : Row) (slab : Rows) (pages : List (List ℕ)) (place page at entry : ℕ) → Ascending (compare_by first second) (rows_of slab (flat pages)) → place ≡ prefix_len (comes_before first key) (rows_of slab (flat pages))
    → StandsAt pages place page at entry → is_at first key (row_of slab entry) ≡ true → IsFound first key slab pages page at entry
found_yes first second key slab pages place page at entry asc place_is stands tied =
    let here = row_at slab (flat pages) place entry stands.entry_is in
    let there : slice_get (rows_of slab (flat pages)) (prefix_len (comes_before first key) (rows_of slab (flat pages))) ≡ Some (row_of slab entry) = ap (λ (n : ℕ). slice_get (rows_of slab (flat pages)) n) (sym place_is) ∙ here in
    record {
      page_is = stands.page_is;
      within = stands.within;
      entry_is = ap (λ (n : ℕ). slice_get (flat pages) n) stands.place_is ∙ stands.entry_is;
      place_is = stands.place_is ∙ place_is;
      has_key = tied;
      row_is = found_at first second key (rows_of slab (flat pages)) asc ∙ ap (λ (o : Option Row). option_and_then (if_at first key) o) there ∙ ap (λ (b : Bool). cond b (Some (row_of slab entry)) None) tied;
    }

pub found_no : (first second : List ℕ) (key : Row) (slab : Rows) (pages : List (List ℕ)) (place page at entry : ℕ) → Ascending (compare_by first second) (rows_of slab (flat pages)) → place ≡ prefix_len (comes_before first key) (rows_of slab (flat pages))
    → StandsAt pages place page at entry → is_at first key (row_of slab entry) ≡ false → find (is_at first key) (rows_of slab (flat pages)) ≡ None
found_no first second key slab pages place page at entry asc place_is stands not_so =
    let here = row_at slab (flat pages) place entry stands.entry_is in
    let there : slice_get (rows_of slab (flat pages)) (prefix_len (comes_before first key) (rows_of slab (flat pages))) ≡ Some (row_of slab entry) = ap (λ (n : ℕ). slice_get (rows_of slab (flat pages)) n) (sym place_is) ∙ here in
    found_at first second key (rows_of slab (flat pages)) asc ∙ ap (λ (o : Option Row). option_and_then (if_at first key) o) there ∙ ap (λ (b : Bool). cond b (Some (row_of slab entry)) None) not_so

pub found_none : (first second : List ℕ) (key : Row) (slab : Rows) (entries : List ℕ) (place : ℕ) → Ascending (compare_by first second) (rows_of slab entries) → place ≡ prefix_len (comes_before first key) (rows_of slab entries) → length entries ≤ place
    → find (is_at first key) (rows_of slab entries) ≡ None
found_none first second key slab entries place asc place_is over =
    let size = length-map entries (row_of slab) in
    let past = slice_get_past (rows_of slab entries) place (omega (arith, size, over)) in
    let there : slice_get (rows_of slab entries) (prefix_len (comes_before first key) (rows_of slab entries)) ≡ None = ap (λ (n : ℕ). slice_get (rows_of slab entries) n) (sym place_is) ∙ past in
    found_at first second key (rows_of slab entries) asc ∙ ap (λ (o : Option Row). option_and_then (if_at first key) o) there

-- A removal.
less_self : (first second : List ℕ) (row : Row) → compare_by first second row row ≡ Less → ⊥
less_self first second row less =
    let turned = (by_total first second).antisymm row row ∙ ap ordering_reverse less in
    absurd (cc)

-- no entry stands twice
pub gone : (first second : List ℕ) (slab : Rows) (k entry : ℕ) (entries : List ℕ) → Ascending (compare_by first second) (rows_of slab entries) → slice_get entries k ≡ Some entry → Has (remove entries k) entry → ⊥
gone first second slab k entry [] asc at has = absurd (cc)
gone first second slab zero entry (e ∷ entries) asc at has =
    let same : e ≡ entry = cc in
    let less = has_all (λ o. compare_by first second (row_of slab e) (row_of slab o) ≡ Less) entry entries (all_rows (λ (r : Row). compare_by first second (row_of slab e) r ≡ Less) slab entries asc.0) has in
    less_self first second (row_of slab entry) (subst (λ (n : ℕ). compare_by first second (row_of slab n) (row_of slab entry) ≡ Less) same less)
gone first second slab (suc k) entry (e ∷ entries) asc at (inl same) =
    let less = has_all (λ o. compare_by first second (row_of slab e) (row_of slab o) ≡ Less) entry entries (all_rows (λ (r : Row). compare_by first second (row_of slab e) r ≡ Less) slab entries asc.0) (has_at k entry entries at) in
    less_self first second (row_of slab entry) (subst (λ (n : ℕ). compare_by first second (row_of slab n) (row_of slab entry) ≡ Less) same less)
gone first second slab (suc k) entry (e ∷ entries) asc at (inr has) = gone first second slab k entry entries asc.1 at has

-- those that are left have their rows
left : (old new : Rows) (entry : ℕ) (slot : Option Row) (entries : List ℕ) → Updates old new entry slot → (Has entries entry → ⊥) → AllByRecursion (λ e. row_of new e ≡ row_of old e) entries
left old new entry slot entries updates not_there = all_has (λ e. row_of new e ≡ row_of old e) entries (λ e has. ap (λ (s : Option Row). unwrap_or s []) (updates.others e (λ same. not_there (subst (λ (n : ℕ). Has entries n) same has))))

pub rows_removed : (first second : List ℕ) (old new : Rows) (entry : ℕ) (slot : Option Row) (entries : List ℕ) (k : ℕ) → Updates old new entry slot → Ascending (compare_by first second) (rows_of old entries) → slice_get entries k ≡ Some entry
    → rows_of new (remove entries k) ≡ remove (rows_of old entries) k
rows_removed first second old new entry slot entries k updates asc at =
    map_same (row_of new) (row_of old) (remove entries k) (left old new entry slot (remove entries k) updates (gone first second old k entry entries asc at)) ∙ map-remove (row_of old) entries k

pub listed_remove : (first second : List ℕ) (old new : Rows) (entries entries' : List ℕ) (entry k : ℕ) → IsListed first second old entries → Updates old new entry None → slab_len new + 1 ≡ slab_len old → slice_get entries k ≡ Some entry → entries' ≡ remove entries k → IsListed first second new entries'
listed_remove first second old new entries entries' entry k is updates fewer at entries_are =
    let not_there = gone first second old k entry entries is.ascends at in
    let rows = rows_removed first second old new entry None entries k updates is.ascends at in
    let size = length-remove entries k (slice_get_within entries k entry at) in
    let counted = is.counted in
    rw entries_are
    record {
      stored = all_has (λ e. IsSome (get new e)) (remove entries k)
          (λ e has. subst (λ (s : Option Row). IsSome s) (sym (updates.others e (λ same. not_there (subst (λ (n : ℕ). Has (remove entries k) n) same has)))) (has_all (λ o. IsSome (get old o)) e entries is.stored (has_fewer k e entries has)));
      ascends = subst (Ascending (compare_by first second)) (sym rows) (ascending_remove (compare_by first second) k (rows_of old entries) is.ascends);
      counted = omega (arith, size, counted, fewer);
    }

-- the entry is found again in the other order
pub again : (first second : List ℕ) (slab : Rows) (entries : List ℕ) (entry : ℕ) → Ascending (compare_by first second) (rows_of slab entries) → Has entries entry → slice_get entries (place_by first second (row_of slab entry) (rows_of slab entries)) ≡ Some entry
again first second slab entries entry asc has =
    let place = has_place entry entries has in
    let there = stands_by (compare_by first second) (by_total first second) place.0 (row_of slab entry) (rows_of slab entries) asc (row_at slab entries place.0 entry place.1) in
    ap (λ (n : ℕ). slice_get entries n) there ∙ place.1

first_less : (o : Ordering) → ordering_then o Equal ≡ Less → is_eq o ≡ false
first_less Less less = refl
first_less Equal less = absurd (cc)
first_less Greater less = refl

-- the rows without the one that is found
not_tied : (first : List ℕ) (key row other : Row) → compare_keys key (key_of first row) ≡ Equal → compare_by first [] row other ≡ Less → is_at first key other ≡ false
unfolding key_of
not_tied first key row other at less =
    let same = tied_keys key (key_of first row) at in
    rw (same) (first_less (compare_keys (key_of first row) (key_of first other)) less)

pub eq_turned : (o : Ordering) → is_eq (ordering_reverse o) ≡ is_eq o
eq_turned Less = refl
eq_turned Equal = refl
eq_turned Greater = refl

tied_before : (first : List ℕ) (key row other : Row) → compare_keys key (key_of first row) ≡ Equal → compare_by first [] other row ≡ Less → is_at first key other ≡ false
unfolding key_of
tied_before first key row other at less =
    let same = tied_keys key (key_of first row) at in
    rw (same, keys_total.antisymm (key_of first row) (key_of first other)) (eq_turned (compare_keys (key_of first other) (key_of first row)) ∙ first_less (compare_keys (key_of first other) (key_of first row)) less)

key_equal_by : (key other : Row) (o : Ordering) → compare_keys key other ≡ o → is_eq o ≡ true → compare_keys key other ≡ Equal
key_equal_by key other Less is equal = absurd (cc)
key_equal_by key other Equal is equal = is
key_equal_by key other Greater is equal = absurd (cc)

pub key_equal : (key other : Row) → is_eq (compare_keys key other) ≡ true → compare_keys key other ≡ Equal
key_equal key other equal = key_equal_by key other (compare_keys key other) refl equal

none_left_by : (b : Bool) (row : Row) (found : Option Row) (rest rows : List Row) → cond b (Some row) found ≡ None → (found ≡ None → rest ≡ rows) → cond (not b) (row ∷ rest) rest ≡ row ∷ rows
none_left_by true row found rest rows none same = absurd (cc)
none_left_by false row found rest rows none same = ap (λ (rs : List Row). row ∷ rs) (same none)

pub none_left : (test : Row → Bool) (rows : List Row) → find test rows ≡ None → filter (λ row. not (test row)) rows ≡ rows
none_left test [] none = refl
none_left test (row ∷ rows) none = none_left_by (test row) row (find test rows) (filter (λ r. not (test r)) rows) rows none (none_left test rows)

others_left : (first : List ℕ) (key row : Row) (rows : List Row) → compare_keys key (key_of first row) ≡ Equal → AllByRecursion (λ other. compare_by first [] row other ≡ Less) rows → filter (λ r. not (is_at first key r)) rows ≡ rows
others_left first key row [] at less = refl
others_left first key row (other ∷ rows) at less = rw (not_tied first key row other at less.0) (ap (λ (rs : List Row). other ∷ rs) (others_left first key row rows at less.1))

pub removed_is : (first : List ℕ) (key row : Row) (k : ℕ) (rows : List Row) → Ascending (compare_by first []) rows → slice_get rows k ≡ Some row → is_at first key row ≡ true → without_key first key rows ≡ remove rows k
removed_is first key row k [] asc at has = absurd (cc)
removed_is first key row zero (r ∷ rows) asc at has =
    let same : r ≡ row = cc in
    let here : is_at first key r ≡ true = ap (λ (x : Row). is_at first key x) same ∙ has in
    rw here (others_left first key r rows (key_equal key (key_of first r) here) asc.0)
removed_is first key row (suc k) (r ∷ rows) asc at has =
    let less = all_at (λ other. compare_by first [] r other ≡ Less) k row rows asc.0 at in
    let not_here = tied_before first key row r (key_equal key (key_of first row) has) less in
    rw not_here (ap (λ (rs : List Row). r ∷ rs) (removed_is first key row k rows asc.1 at has))

-- a slot that isn't empty
some_row_of : (s : Option Row) → IsSome s → s ≡ Some (unwrap_or s [])
some_row_of (Some row) some = refl
some_row_of None some = absurd (cc)

pub some_row : (slab : Rows) (entry : ℕ) → IsSome (get slab entry) → get slab entry ≡ Some (row_of slab entry)
some_row slab entry some = some_row_of (get slab entry) some

pub on_some : (s : Option Row) (P : Type 0) → IsSome s → OnSome s P → P
on_some (Some row) P some on = on
on_some None P some on = absurd (cc)

-- The words of the plain list.
placed : (o : Ordering) (k : ℕ) (row first : Row) (rows rest : List Row) → insert rows k row ≡ rest → insert (first ∷ rows) (cond (is_gt (ordering_then o Equal)) (1 + k) 0) row ≡ match_ordering o (row ∷ first ∷ rows) (row ∷ first ∷ rows) (first ∷ rest)
placed Less k row first rows rest same = refl
placed Equal k row first rows rest same = refl
placed Greater k row first rows rest same = rw (one-add k) (ap (λ (rs : List Row). first ∷ rs) same)

pub put_is : (places : List ℕ) (row : Row) (rows : List Row) → insert rows (place_by places [] row rows) row ≡ with_row places row rows
unfolding with_row key_of
put_is places row [] = refl
put_is places row (first ∷ rows) = placed (compare_keys (key_of places row) (key_of places first)) (place_by places [] row rows) row first rows (with_row places row rows) (put_is places row rows)

new_parts : (o : Ordering) (other : Row) (rest : Option Row) → cond (is_eq o) (Some other) rest ≡ None → (is_tied (ordering_then o Equal) ≡ false) × (rest ≡ None)
new_parts Less other rest none = (refl, none)
new_parts Equal other rest none = absurd (cc)
new_parts Greater other rest none = (refl, none)

pub new_is : (places : List ℕ) (row : Row) (rows : List Row) → find (is_at places (key_of places row)) rows ≡ None → IsNew places row rows
unfolding key_of
new_is places row [] none = tt
new_is places row (other ∷ rows) none =
    let parts = new_parts (compare_keys (key_of places row) (key_of places other)) other (find (is_at places (key_of places row)) rows) none in
    (parts.0, new_is places row rows parts.1)
