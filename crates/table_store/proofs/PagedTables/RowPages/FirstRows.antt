-- What is first by one order is first by another.
use Rattle.std.proofs.Common.{◌≡◌, ◌⊎◌, inl, inr, ◌∙◌, ℕ, Bool, true, false, cond, List, [], ◌∷◌, Option, Some, None, find, not, ◌&&◌, ◌||◌, ◌+◌, suc, Ordering, Less, Equal, Greater, refl, sym, ap, subst, arith, one-add}
use Rattle.std.specs.Ordering.{is_eq, is_gt, ordering_reverse, ordering_then}
use Rattle.std.specs.List.{AllByRecursion, prefix_len, slice_get}
use Rattle.std.specs.Option.{option_and_then}
use Rattle.base_values.specs.KeyOrder.{compare_keys}
use Rattle.base_values.proofs.Orders.{keys_total, tied_keys}
use Rattle.base_values.specs.GhoSchema.Rows.{key_of}
use Rattle.table_store.specs.RowLists.{is_at, comes_before}
use Rattle.table_store.proofs.Orders.{Row}
use Rattle.base_page_list.specs.Pages.{flat}
use Rattle.table_store.specs.PagedTables.RowPages.Indexes.{IsIndexed}
use Rattle.table_store.specs.PagedTables.RowPages.Clashes.{besides_test, earlier}
use Rattle.table_store.specs.declared.paged_tables.row_pages.indexes.KeyIndex.{KeyIndex}
use Rattle.base_page_list.specs.Orders.{Ascending, Has}
use Rattle.table_store.specs.PagedTables.RowPages.RowOrders.{row_of, rows_of, compare_by}
use Rattle.base_page_list.proofs.Ascending.{has_all}
use Rattle.table_store.proofs.PagedTables.RowPages.RowPlaces.{Rows, all_rows, key_equal, if_at, none_after}

-- an entry whose row passes is found
some_by : (test : Row → Bool) (slab : Rows) (entry e : ℕ) (entries : List ℕ) (b : Bool) → test (row_of slab e) ≡ b → Has (e ∷ entries) entry → test (row_of slab entry) ≡ true → cond b (Some (row_of slab e)) (find test (rows_of slab entries)) ≡ None
    → (Has entries entry → find test (rows_of slab entries) ≡ None → ⊥) → ⊥
some_by test slab entry e entries true is has passes none following = absurd (cc)
some_by test slab entry e entries false is (inl same) passes none following = let not_so : test (row_of slab entry) ≡ false = subst (λ (n : ℕ). test (row_of slab n) ≡ false) same is in absurd (cc)
some_by test slab entry e entries false is (inr has) passes none following = following has none

some_found : (test : Row → Bool) (slab : Rows) (entry : ℕ) (entries : List ℕ) → Has entries entry → test (row_of slab entry) ≡ true → find test (rows_of slab entries) ≡ None → ⊥
some_found test slab entry [] has passes none = has
some_found test slab entry (e ∷ entries) has passes none = some_by test slab entry e entries (test (row_of slab e)) refl has passes none (λ later nothing. some_found test slab entry entries later passes nothing)

-- what is found is the row of an entry, and passes
pub record IsRowFound (test : Row → Bool) (slab : Rows) (entries : List ℕ) (row : Row) : Type 0 where
  pub entry : ℕ
  pub has : Has entries entry
  pub row_is : row_of slab entry ≡ row
  pub passes : test row ≡ true

row_found_by : (test : Row → Bool) (slab : Rows) (e : ℕ) (entries : List ℕ) (row : Row) (b : Bool) → test (row_of slab e) ≡ b → cond b (Some (row_of slab e)) (find test (rows_of slab entries)) ≡ Some row → (find test (rows_of slab entries) ≡ Some row → IsRowFound test slab entries row)
    → IsRowFound test slab (e ∷ entries) row
row_found_by test slab e entries row true is here following =
    let same : row_of slab e ≡ row = cc in
    record { entry = e; has = inl refl; row_is = same; passes = subst (λ (r : Row). test r ≡ true) same is }
row_found_by test slab e entries row false is here following =
    let found = following here in
    record { entry = found.entry; has = inr found.has; row_is = found.row_is; passes = found.passes }

pub row_found : (test : Row → Bool) (slab : Rows) (entries : List ℕ) (row : Row) → find test (rows_of slab entries) ≡ Some row → IsRowFound test slab entries row
row_found test slab [] row here = absurd (cc)
row_found test slab (e ∷ entries) row here = row_found_by test slab e entries row (test (row_of slab e)) refl here (row_found test slab entries row)

-- what is found is the first by the order
first_by : (cmp : Row → Row → Ordering) (test : Row → Bool) (slab : Rows) (entry e : ℕ) (entries : List ℕ) (row : Row) (b : Bool) → test (row_of slab e) ≡ b → cond b (Some (row_of slab e)) (find test (rows_of slab entries)) ≡ Some row
    → AllByRecursion (λ r. cmp (row_of slab e) r ≡ Less) (rows_of slab entries) → Has (e ∷ entries) entry → test (row_of slab entry) ≡ true
    → (find test (rows_of slab entries) ≡ Some row → Has entries entry → (row ≡ row_of slab entry) ⊎ (cmp row (row_of slab entry) ≡ Less)) → (row ≡ row_of slab entry) ⊎ (cmp row (row_of slab entry) ≡ Less)
first_by cmp test slab entry e entries row true is here less (inl same) passes following = let row_is : row_of slab e ≡ row = cc in inl (sym row_is ∙ ap (row_of slab) same)
first_by cmp test slab entry e entries row true is here less (inr has) passes following =
    let row_is : row_of slab e ≡ row = cc in
    inr (subst (λ (r : Row). cmp r (row_of slab entry) ≡ Less) row_is (has_all (λ o. cmp (row_of slab e) (row_of slab o) ≡ Less) entry entries (all_rows (λ (r : Row). cmp (row_of slab e) r ≡ Less) slab entries less) has))
first_by cmp test slab entry e entries row false is here less (inl same) passes following =
    let not_so : test (row_of slab entry) ≡ false = subst (λ (n : ℕ). test (row_of slab n) ≡ false) same is in
    absurd (cc)
first_by cmp test slab entry e entries row false is here less (inr has) passes following = following here has

first_found : (cmp : Row → Row → Ordering) (test : Row → Bool) (slab : Rows) (entry : ℕ) (entries : List ℕ) (row : Row) → Ascending cmp (rows_of slab entries) → find test (rows_of slab entries) ≡ Some row → Has entries entry → test (row_of slab entry) ≡ true
    → (row ≡ row_of slab entry) ⊎ (cmp row (row_of slab entry) ≡ Less)
first_found cmp test slab entry [] row asc here has passes = absurd has
first_found cmp test slab entry (e ∷ entries) row asc here has passes =
    first_by cmp test slab entry e entries row (test (row_of slab e)) refl here asc.0 has passes (λ later has_later. first_found cmp test slab entry entries row asc.1 later has_later passes)

-- each of two rows of one key before the other
both_less : (a b c d : Ordering) → ordering_then a b ≡ Less → c ≡ Equal → ordering_then c d ≡ Less → b ≡ Equal → a ≡ ordering_reverse d → ⊥
both_less Less b c d first tied second none turned = absurd (cc)
both_less Equal b c d first tied second none turned = absurd (cc)
both_less Greater b c d first tied second none turned = absurd (cc)

same_first : (clustered other : List ℕ) (key a b : Row) → is_at other key a ≡ true → is_at other key b ≡ true → (a ≡ b) ⊎ (compare_by clustered [] a b ≡ Less) → (b ≡ a) ⊎ (compare_by other clustered b a ≡ Less) → a ≡ b
unfolding key_of
same_first clustered other key a b at_a at_b (inl same) back = same
same_first clustered other key a b at_a at_b (inr less) (inl same) = sym same
same_first clustered other key a b at_a at_b (inr less) (inr back) =
    let key_a = tied_keys key (key_of other a) (key_equal key (key_of other a) at_a) in
    let tied : compare_keys (key_of other b) (key_of other a) ≡ Equal =
    keys_total.antisymm (key_of other b) (key_of other a) ∙ ap ordering_reverse (ap (λ (k : Row). compare_keys k (key_of other b)) (sym key_a) ∙ key_equal key (key_of other b) at_b)
    in
    absurd (both_less (compare_keys (key_of clustered a) (key_of clustered b)) Equal (compare_keys (key_of other b) (key_of other a)) (compare_keys (key_of clustered b) (key_of clustered a)) less tied back refl (keys_total.antisymm (key_of clustered a) (key_of clustered b)))

-- The row that an index finds by a test of its key is the one of least clustered key.
found_in_both : (clustered : List ℕ) (slab : Rows) (order : List ℕ) (index : KeyIndex) (key : Row) (test : Row → Bool) (a b : Option Row) → ((r : Row) → test r ≡ true → is_at index.places key r ≡ true) → Ascending (compare_by clustered []) (rows_of slab order) → IsIndexed clustered slab order index
    → find test (rows_of slab order) ≡ a → find test (rows_of slab (flat index.entries.pages)) ≡ b → a ≡ b
found_in_both clustered slab order index key test None None only asc is here there = refl
found_in_both clustered slab order index key test None (Some b) only asc is here there =
    let found = row_found test slab (flat index.entries.pages) b there in
    absurd (some_found test slab found.entry order (is.here found.entry found.has) (subst (λ (r : Row). test r ≡ true) (sym found.row_is) found.passes) here)
found_in_both clustered slab order index key test (Some a) None only asc is here there =
    let found = row_found test slab order a here in
    absurd (some_found test slab found.entry (flat index.entries.pages) (is.there found.entry found.has) (subst (λ (r : Row). test r ≡ true) (sym found.row_is) found.passes) there)
found_in_both clustered slab order index key test (Some a) (Some b) only asc is here there =
    let one = row_found test slab order a here in
    let two = row_found test slab (flat index.entries.pages) b there in
    let passes_one : test (row_of slab one.entry) ≡ true = subst (λ (r : Row). test r ≡ true) (sym one.row_is) one.passes in
    let passes_two : test (row_of slab two.entry) ≡ true = subst (λ (r : Row). test r ≡ true) (sym two.row_is) two.passes in
    let first = first_found (compare_by clustered []) test slab two.entry order a asc here (is.here two.entry two.has) passes_two in
    let second = first_found (compare_by index.places clustered) test slab one.entry (flat index.entries.pages) b is.listed.ascends there (is.there one.entry one.has) passes_one in
    ap (λ (r : Row). Some r)
    (same_first clustered index.places key a b (only a one.passes) (only b two.passes) (subst (λ (r : Row). (a ≡ r) ⊎ (compare_by clustered [] a r ≡ Less)) two.row_is first)
    (subst (λ (r : Row). (b ≡ r) ⊎ (compare_by index.places clustered b r ≡ Less)) one.row_is second))

pub found_by_test : (clustered : List ℕ) (slab : Rows) (order : List ℕ) (index : KeyIndex) (key : Row) (test : Row → Bool) → ((r : Row) → test r ≡ true → is_at index.places key r ≡ true) → Ascending (compare_by clustered []) (rows_of slab order) → IsIndexed clustered slab order index
    → find test (rows_of slab order) ≡ find test (rows_of slab (flat index.entries.pages))
found_by_test clustered slab order index key test only asc is = found_in_both clustered slab order index key test (find test (rows_of slab order)) (find test (rows_of slab (flat index.entries.pages))) only asc is refl refl

none_besides_by : (b c : Bool) (row : Row) (found other : Option Row) → cond b (Some row) found ≡ None → (found ≡ None → other ≡ None) → cond (b && not c) (Some row) other ≡ None
none_besides_by true c row found other none following = absurd (cc)
none_besides_by false c row found other none following = following none

second_less : (o p : Ordering) → ordering_then o p ≡ Less → o ≡ Equal → p ≡ Less
second_less Less p less same = absurd (cc)
second_less Equal p less same = less
second_less Greater p less same = absurd (cc)

-- Besides the row of a clustered key: the first entry of the key, or else the next.
pub none_besides : (first : List ℕ) (key : Row) (second : List ℕ) (named : Row) (rows : List Row) → find (is_at first key) rows ≡ None → find (besides_test first key second named) rows ≡ None
none_besides first key second named [] none = refl
none_besides first key second named (row ∷ rows) none = none_besides_by (is_at first key row) (is_at second named row) row (find (is_at first key) rows) (find (besides_test first key second named) rows) none (none_besides first key second named rows)

-- a row behind one of the same first key has another second key
not_named : (first second : List ℕ) (key named row next : Row) → is_at first key row ≡ true → is_at second named row ≡ true → compare_by first second row next ≡ Less → is_at first key next ≡ true → is_at second named next ≡ false
not_named first second key named row next at is_named less at_next =
    let key_row = tied_keys key (key_of first row) (key_equal key (key_of first row) at) in
    let key_next = key_equal key (key_of first next) at_next in
    let named_row = tied_keys named (key_of second row) (key_equal named (key_of second row) is_named) in
    let same : compare_keys (key_of first row) (key_of first next) ≡ Equal = ap (λ (k : Row). compare_keys k (key_of first next)) (sym key_row) ∙ key_next in
    let following = second_less (compare_keys (key_of first row) (key_of first next)) (compare_keys (key_of second row) (key_of second next)) less same in
    rw (named_row, following) refl

-- a row behind one of the key that hasn't the key is beyond it
beyond_by : (o p : Ordering) → ordering_then o p ≡ Less → is_eq o ≡ false → o ≡ Less
beyond_by Less p less not_at = refl
beyond_by Equal p less not_at = absurd (cc)
beyond_by Greater p less not_at = absurd (cc)

beyond : (first second : List ℕ) (key row next : Row) → is_at first key row ≡ true → compare_by first second row next ≡ Less → is_at first key next ≡ false → compare_keys key (key_of first next) ≡ Less
beyond first second key row next at less not_at =
    let key_row = tied_keys key (key_of first row) (key_equal key (key_of first row) at) in
    rw key_row (beyond_by (compare_keys (key_of first row) (key_of first next)) (compare_keys (key_of second row) (key_of second next)) less (rw key_row at not_at))

next_case : (first second : List ℕ) (key named next : Row) (rows : List Row) (b : Bool) → is_at first key next ≡ b → (is_at first key next ≡ true → is_at second named next ≡ false) → (is_at first key next ≡ false → find (besides_test first key second named) rows ≡ None)
    → cond (is_at first key next && not (is_at second named next)) (Some next) (find (besides_test first key second named) rows) ≡ cond (is_at first key next) (Some next) None
next_case first second key named next rows true is other following = rw (is, other is) refl
next_case first second key named next rows false is other following = rw is (following is)

next_by : (first second : List ℕ) (key named row : Row) (rows : List Row) → is_at first key row ≡ true → is_at second named row ≡ true → AllByRecursion (λ other. compare_by first second row other ≡ Less) rows → Ascending (compare_by first second) rows
    → find (besides_test first key second named) rows ≡ option_and_then (if_at first key) (slice_get rows 0)
next_by first second key named row [] at is_named less asc = refl
next_by first second key named row (next ∷ rows) at is_named less asc =
    next_case first second key named next rows (is_at first key next) refl (λ at_next. not_named first second key named row next at is_named less.0 at_next)
    (λ not_at. none_besides first key second named rows (none_after first second key next rows asc.0 (beyond first second key row next at less.0 not_at)))

besides_by : (first second : List ℕ) (key named r row : Row) (rows : List Row) (o : Ordering) → compare_keys key (key_of first row) ≡ o → Ascending (compare_by first second) (row ∷ rows)
    → slice_get (row ∷ rows) (cond (is_gt (compare_keys key (key_of first row))) (1 + prefix_len (comes_before first key) rows) 0) ≡ Some r → is_at first key r ≡ true → is_at second named r ≡ true
    → (slice_get rows (prefix_len (comes_before first key) rows) ≡ Some r → find (besides_test first key second named) rows ≡ option_and_then (if_at first key) (slice_get rows (prefix_len (comes_before first key) rows + 1)))
    → cond (is_at first key row && not (is_at second named row)) (Some row) (find (besides_test first key second named) rows)
    ≡ option_and_then (if_at first key) (slice_get (row ∷ rows) (cond (is_gt (compare_keys key (key_of first row))) (1 + prefix_len (comes_before first key) rows) 0 + 1))
besides_by first second key named r row rows Less is asc here at is_named following =
    let first_one : Some row ≡ Some r = rw is at here in
    let same : row ≡ r = cc in
    let not_at : is_at first key row ≡ false = rw is refl in
    let yes_at : is_at first key row ≡ true = ap (λ (x : Row). is_at first key x) same ∙ at in
    absurd (cc)
besides_by first second key named r row rows Equal is asc here at is_named following =
    let first_one : Some row ≡ Some r = rw is at here in
    let same : row ≡ r = cc in
    let yes_at : is_at first key row ≡ true = rw is refl in
    let yes_named : is_at second named row ≡ true = ap (λ (x : Row). is_at second named x) same ∙ is_named in
    rw (is, yes_named) (next_by first second key named row rows yes_at yes_named asc.0 asc.1)
besides_by first second key named r row rows Greater is asc here at is_named following =
    let later : slice_get rows (prefix_len (comes_before first key) rows) ≡ Some r = rw (is, one-add) at here in
    let place : 1 + prefix_len (comes_before first key) rows + 1 ≡ suc (prefix_len (comes_before first key) rows + 1) = omega arith in
    rw (is, place) (following later)

pub besides_at : (first second : List ℕ) (key named r : Row) (rows : List Row) → Ascending (compare_by first second) rows → slice_get rows (prefix_len (comes_before first key) rows) ≡ Some r → is_at first key r ≡ true → is_at second named r ≡ true
    → find (besides_test first key second named) rows ≡ option_and_then (if_at first key) (slice_get rows (prefix_len (comes_before first key) rows + 1))
besides_at first second key named r [] asc here at is_named = absurd (cc)
besides_at first second key named r (row ∷ rows) asc here at is_named =
    besides_by first second key named r row rows (compare_keys key (key_of first row)) refl asc here at is_named (λ later. besides_at first second key named r rows asc.1 later at is_named)

first_besides_by : (b c : Bool) (row r : Row) (found other : Option Row) → cond b (Some row) found ≡ Some r → (row ≡ r → c ≡ false) → (found ≡ Some r → other ≡ Some r) → cond (b && not c) (Some row) other ≡ Some r
first_besides_by true true row r found other here not_named following = let same : row ≡ r = cc in let no_name = not_named same in absurd (cc)
first_besides_by true false row r found other here not_named following = here
first_besides_by false c row r found other here not_named following = following here

-- the first of the key, where it isn't the one that is named
pub first_besides : (first : List ℕ) (key : Row) (second : List ℕ) (named r : Row) (rows : List Row) → find (is_at first key) rows ≡ Some r → is_at second named r ≡ false → find (besides_test first key second named) rows ≡ Some r
first_besides first key second named r [] here not_so = absurd (cc)
first_besides first key second named r (row ∷ rows) here not_so =
    first_besides_by (is_at first key row) (is_at second named row) row r (find (is_at first key) rows) (find (besides_test first key second named) rows) here (λ same. ap (λ (x : Row). is_at second named x) same ∙ not_so)
    (λ later. first_besides first key second named r rows later not_so)

-- what stands behind the first of the key, where that one is named
pub next_yes : (first second : List ℕ) (key named r n : Row) (k : ℕ) (rows : List Row) → Ascending (compare_by first second) rows → k ≡ prefix_len (comes_before first key) rows → slice_get rows k ≡ Some r → is_at first key r ≡ true → is_at second named r ≡ true
    → slice_get rows (k + 1) ≡ Some n → is_at first key n ≡ true → find (besides_test first key second named) rows ≡ Some n
next_yes first second key named r n k rows asc place here at is_named next at_next =
    let start = subst (λ (m : ℕ). slice_get rows m ≡ Some r) place here in
    let then_is = subst (λ (m : ℕ). slice_get rows (m + 1) ≡ Some n) place next in
    besides_at first second key named r rows asc start at is_named ∙ ap (λ (o : Option Row). option_and_then (if_at first key) o) then_is ∙ ap (λ (b : Bool). cond b (Some n) None) at_next

pub next_no : (first second : List ℕ) (key named r n : Row) (k : ℕ) (rows : List Row) → Ascending (compare_by first second) rows → k ≡ prefix_len (comes_before first key) rows → slice_get rows k ≡ Some r → is_at first key r ≡ true → is_at second named r ≡ true
    → slice_get rows (k + 1) ≡ Some n → is_at first key n ≡ false → find (besides_test first key second named) rows ≡ None
next_no first second key named r n k rows asc place here at is_named next at_next =
    let start = subst (λ (m : ℕ). slice_get rows m ≡ Some r) place here in
    let then_is = subst (λ (m : ℕ). slice_get rows (m + 1) ≡ Some n) place next in
    besides_at first second key named r rows asc start at is_named ∙ ap (λ (o : Option Row). option_and_then (if_at first key) o) then_is ∙ ap (λ (b : Bool). cond b (Some n) None) at_next

pub next_none : (first second : List ℕ) (key named r : Row) (k : ℕ) (rows : List Row) → Ascending (compare_by first second) rows → k ≡ prefix_len (comes_before first key) rows → slice_get rows k ≡ Some r → is_at first key r ≡ true → is_at second named r ≡ true
    → slice_get rows (k + 1) ≡ None → find (besides_test first key second named) rows ≡ None
next_none first second key named r k rows asc place here at is_named next =
    let start = subst (λ (m : ℕ). slice_get rows m ≡ Some r) place here in
    let then_is = subst (λ (m : ℕ). slice_get rows (m + 1) ≡ None) place next in
    besides_at first second key named r rows asc start at is_named ∙ ap (λ (o : Option Row). option_and_then (if_at first key) o) then_is

-- Several keys: a row that passes one of two tests is first found as the earlier of what each finds.
here_first_by : (cmp : Row → Row → Ordering) (row r : Row) → (row ≡ r) ⊎ (cmp row r ≡ Less) → cmp row row ≡ Equal → ◌≡◌ {A = Option Row} (cond (is_gt (cmp row r)) (Some r) (Some row)) (Some row)
here_first_by cmp row r (inl same) tied = let tied_too : cmp row r ≡ Equal = ap (λ (x : Row). cmp row x) (sym same) ∙ tied in rw tied_too refl
here_first_by cmp row r (inr less) tied = rw less refl

here_first : (cmp : Row → Row → Ordering) (row : Row) (b : Option Row) → ((r : Row) → b ≡ Some r → (row ≡ r) ⊎ (cmp row r ≡ Less)) → cmp row row ≡ Equal → earlier cmp (Some row) b ≡ Some row
here_first cmp row None following tied = refl
here_first cmp row (Some r) following tied = here_first_by cmp row r (following r refl) tied

there_first : (cmp : Row → Row → Ordering) (row : Row) (a : Option Row) → ((r : Row) → a ≡ Some r → cmp row r ≡ Less) → ((x y : Row) → cmp x y ≡ ordering_reverse (cmp y x)) → earlier cmp a (Some row) ≡ Some row
there_first cmp row None following turned = refl
there_first cmp row (Some r) following turned =
    let more : cmp r row ≡ Greater = turned r row ∙ ap ordering_reverse (following r refl) in
    rw more refl

less_found_by : (cmp : Row → Row → Ordering) (row r x : Row) (found : Option Row) (b : Bool) → cmp row x ≡ Less → cond b (Some x) found ≡ Some r → (found ≡ Some r → cmp row r ≡ Less) → cmp row r ≡ Less
less_found_by cmp row r x found true less here following = let same : x ≡ r = cc in subst (λ (y : Row). cmp row y ≡ Less) same less
less_found_by cmp row r x found false less here following = following here

less_found : (cmp : Row → Row → Ordering) (test : Row → Bool) (row r : Row) (rows : List Row) → AllByRecursion (λ x. cmp row x ≡ Less) rows → find test rows ≡ Some r → cmp row r ≡ Less
less_found cmp test row r [] less here = absurd (cc)
less_found cmp test row r (x ∷ rows) less here = less_found_by cmp row r x (find test rows) (test x) less.0 here (λ later. less_found cmp test row r rows less.1 later)

either_by : (cmp : Row → Row → Ordering) (p q : Row → Bool) (row : Row) (rows : List Row) (a b : Bool) → cmp row row ≡ Equal → ((x y : Row) → cmp x y ≡ ordering_reverse (cmp y x)) → AllByRecursion (λ x. cmp row x ≡ Less) rows
    → find (λ r. p r || q r) rows ≡ earlier cmp (find p rows) (find q rows) → cond (a || b) (Some row) (find (λ r. p r || q r) rows) ≡ earlier cmp (cond a (Some row) (find p rows)) (cond b (Some row) (find q rows))
either_by cmp p q row rows true true tied turned less others = sym (here_first cmp row (Some row) (λ r is. inl (cc)) tied)
either_by cmp p q row rows true false tied turned less others = sym (here_first cmp row (find q rows) (λ r is. inr (less_found cmp q row r rows less is)) tied)
either_by cmp p q row rows false true tied turned less others = sym (there_first cmp row (find p rows) (λ r is. less_found cmp p row r rows less is) turned)
either_by cmp p q row rows false false tied turned less others = others

pub find_either : (cmp : Row → Row → Ordering) (p q : Row → Bool) (rows : List Row) → ((x : Row) → cmp x x ≡ Equal) → ((x y : Row) → cmp x y ≡ ordering_reverse (cmp y x)) → Ascending cmp rows → find (λ r. p r || q r) rows ≡ earlier cmp (find p rows) (find q rows)
find_either cmp p q [] tied turned asc = refl
find_either cmp p q (row ∷ rows) tied turned asc = either_by cmp p q row rows (p row) (q row) (tied row) turned asc.0 (find_either cmp p q rows tied turned asc.1)
