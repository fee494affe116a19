-- The row that clashes is the earliest that the clustered order and the indexes find.
use Rattle.std.proofs.Common.{◌≡◌, ◌∙◌, ℕ, zero, suc, ◌<◌, ◌≤◌, Bool, true, false, List, [], ◌∷◌, ◌++◌, length, map, take, drop, Option, Some, None, find, is_some, not, ◌&&◌, ◌||◌, Ordering, Less, Equal, Greater, refl, sym, ap, arith}
use Rattle.std.specs.Ordering.{is_eq, ordering_then, ordering_reverse}
use Rattle.std.specs.Option.{option_map}
use Rattle.table_store.specs.PagedTables.RowPages.StoredRows.{IsStored}
use Rattle.std.specs.List.{AllByRecursion, list_any, slice_get}
use Rattle.slab.specs.Slab.{slab_len}
use Rattle.base_values.specs.KeyOrder.{compare_keys}
use Rattle.base_values.proofs.Orders.{keys_total}
use Rattle.base_values.specs.declared.gho_schema.schema.Schema.{Schema}
use Rattle.base_values.specs.declared.gho_schema.schema.Index.{Index}
use Rattle.base_values.specs.GhoSchema.ClusteredKey.{clustered_place, clustered_key, unique_at}
use Rattle.base_values.specs.GhoSchema.Rows.{key_of, key_places, places_of}
use Rattle.base_values.specs.GhoSchema.Tables.{no_null, clash}
use Rattle.table_store.proofs.Orders.{Row}
use Rattle.table_store.specs.RowLists.{is_at, is_besides}
use Rattle.base_page_list.specs.Orders.{Ascending}
use Rattle.table_store.specs.PagedTables.RowPages.RowOrders.{rows_of, compare_by, IsListed}
use Rattle.table_store.specs.PagedTables.RowPages.Indexes.{all_but, other_keys, keys_of, IsIndexed}
use Rattle.table_store.specs.PagedTables.RowPages.Clashes.{clashes_at, by_key, earlier, earliest}
use Rattle.table_store.specs.declared.paged_tables.row_pages.indexes.KeyIndex.{KeyIndex}
use Rattle.base_page_list.proofs.Ascending.{self_tied}
use Rattle.table_store.proofs.PagedTables.RowPages.RowPlaces.{Rows}
use Rattle.table_store.proofs.PagedTables.RowPages.TablePages.{all_less}
use Rattle.std.proofs.lemmas.Cmp.{on_total}
use Rattle.table_store.proofs.PagedTables.RowPages.FirstRows.{found_by_test, find_either}
use Rattle.table_store.proofs.PagedTables.RowPages.ClashTests.{find_same, none_by_nulls}

-- The clustered order as an order by the key alone.
pub alone : (places : List ℕ) (rows : List Row) → Ascending (compare_by places []) rows → Ascending (by_key places) rows
alone places [] asc = tt
alone places (row ∷ rows) asc = (all_less places row rows asc.0, alone places rows asc.1)

less_twice : (o : Ordering) → ordering_then o Equal ≡ Less → ordering_then o o ≡ Less
less_twice Less is = refl
less_twice Equal is = absurd (cc)
less_twice Greater is = absurd (cc)

all_twice : (places : List ℕ) (row : Row) (rows : List Row) → AllByRecursion (λ other. compare_by places [] row other ≡ Less) rows → AllByRecursion (λ other. compare_by places places row other ≡ Less) rows
unfolding key_of
all_twice places row [] less = tt
all_twice places row (other ∷ rows) less = (less_twice (compare_keys (key_of places row) (key_of places other)) less.0, all_twice places row rows less.1)

twice : (places : List ℕ) (rows : List Row) → Ascending (compare_by places []) rows → Ascending (compare_by places places) rows
twice places [] asc = tt
twice places (row ∷ rows) asc = (all_twice places row rows asc.0, twice places rows asc.1)

-- the clustered order is an index of its own key
pub listed_twice : (places : List ℕ) (slab : Rows) (order : List ℕ) → IsListed places [] slab order → IsListed places places slab order
listed_twice places slab order is = record { stored = is.stored; ascends = twice places (rows_of slab order) is.ascends; counted = is.counted }

pub key_tied : (places : List ℕ) (row : Row) → by_key places row row ≡ Equal
key_tied places row = self_tied (by_key places) (on_total (key_of places) keys_total) row

pub key_turned : (places : List ℕ) (a b : Row) → by_key places a b ≡ ordering_reverse (by_key places b a)
key_turned places a b = keys_total.antisymm (key_of places a) (key_of places b)

-- What the indexes find.
first_true : (a b c : Bool) → a && b && c ≡ true → a ≡ true
first_true true b c is = refl
first_true false b c is = is

abbrev by_others : List ℕ → Row → Option Row → List (List ℕ) → Row → Bool
by_others clustered new besides keys row = list_any (λ places. clashes_at clustered places new besides row) keys

pub earliest_is : (clustered : List ℕ) (new : Row) (besides : Option Row) (slab : Rows) (order : List ℕ) (indexes : List KeyIndex) → Ascending (compare_by clustered []) (rows_of slab order) → AllByRecursion (IsIndexed clustered slab order) indexes
    → earliest clustered new besides slab indexes ≡ find (by_others clustered new besides (keys_of indexes)) (rows_of slab order)
earliest_is clustered new besides slab order [] asc all = sym (none_by_nulls (by_others clustered new besides []) (λ row. refl) (rows_of slab order))
earliest_is clustered new besides slab order (index ∷ indexes) asc all =
    let rows = rows_of slab order in
    let here = clashes_at clustered index.places new besides in
    let key = key_of index.places new in
    let only : (row : Row) → here row ≡ true → is_at index.places key row ≡ true = λ row passes. first_true (is_at index.places key row) (no_null key) (not (is_besides clustered besides row)) passes in
    ap (λ (o : Option Row). earlier (by_key clustered) o (earliest clustered new besides slab indexes)) (sym (found_by_test clustered slab order index key here only asc all.0))
    ∙ ap (λ (o : Option Row). earlier (by_key clustered) (find here rows) o) (earliest_is clustered new besides slab order indexes asc all.1)
    ∙ sym (find_either (by_key clustered) here (by_others clustered new besides (keys_of indexes)) rows (key_tied clustered) (key_turned clustered) (alone clustered rows asc))

-- Which unique key clashes.
abbrev by_unique : Row → Row → Index → Bool
by_unique new row unique = is_eq (compare_keys (key_of unique.places new) (key_of unique.places row)) && no_null (key_of unique.places new)

shared : (a n b r : Bool) → (a && n && b) || (r && b) ≡ ((a && n) || r) && b
shared false n b r = refl
shared true false b r = refl
shared true true true r = refl
shared true true false true = refl
shared true true false false = refl

others_are : (clustered : List ℕ) (new row : Row) (besides : Option Row) (uniques : List Index) → by_others clustered new besides (map (λ (unique : Index). unique.places) uniques) row ≡ list_any (by_unique new row) uniques && not (is_besides clustered besides row)
others_are clustered new row besides [] = refl
others_are clustered new row besides (unique ∷ uniques) =
    ap (λ (b : Bool). clashes_at clustered unique.places new besides row || b) (others_are clustered new row besides uniques)
    ∙ shared (is_at unique.places (key_of unique.places new) row) (no_null (key_of unique.places new)) (not (is_besides clustered besides row)) (list_any (by_unique new row) uniques)

abbrev passes : (Index → Bool) → Option Index → Bool
passes test None = false
passes test (Some unique) = test unique

swapped : (a o r x : Bool) → x ≡ o || r → a || x ≡ o || (a || r)
swapped true true r x is = refl
swapped true false r x is = refl
swapped false o r x is = is

one_and_others : (test : Index → Bool) (n : ℕ) (uniques : List Index) → list_any test uniques ≡ passes test (slice_get uniques n) || list_any test (take n uniques ++ drop (suc n) uniques)
one_and_others test zero [] = refl
one_and_others test (suc n) [] = refl
one_and_others test zero (unique ∷ uniques) = refl
one_and_others test (suc n) (unique ∷ uniques) =
    swapped (test unique) (passes test (slice_get uniques n)) (list_any test (take n uniques ++ drop (suc n) uniques)) (list_any test uniques) (one_and_others test n uniques)

-- the clustered key clashes, where there is one
abbrev pub own : Option Index → Row → Option Row → Row → Bool
own None new besides row = false
own (Some unique) new besides row = clashes_at unique.places unique.places new besides row

both : (a n b r : Bool) → ((a && n) || r) && b ≡ (a && n && b) || (r && b)
both a n b r = sym (shared a n b r)

parts_at : (key : Option Index) (uniques rest : List Index) (new row : Row) (besides : Option Row) → list_any (by_unique new row) uniques ≡ passes (by_unique new row) key || list_any (by_unique new row) rest
    → list_any (by_unique new row) uniques && not (is_besides (places_of key) besides row) ≡ own key new besides row || by_others (places_of key) new besides (map (λ (unique : Index). unique.places) rest) row
parts_at None uniques rest new row besides is = ap (λ (b : Bool). b && not (is_besides [] besides row)) is ∙ sym (others_are [] new row besides rest)
parts_at (Some unique) uniques rest new row besides is =
    let places = unique.places in
    let b = not (is_besides places besides row) in
    ap (λ (x : Bool). x && b) is ∙ both (is_at places (key_of places new) row) (no_null (key_of places new)) b (list_any (by_unique new row) rest)
    ∙ ap (λ (x : Bool). clashes_at places places new besides row || x) (sym (others_are places new row besides rest))

parts_by : (n : Option ℕ) (uniques : List Index) (new row : Row) (besides : Option Row)
    → list_any (by_unique new row) uniques && not (is_besides (places_of (unique_at uniques n)) besides row) ≡ own (unique_at uniques n) new besides row || by_others (places_of (unique_at uniques n)) new besides (map (λ (unique : Index). unique.places) (all_but n uniques)) row
parts_by None uniques new row besides = parts_at None uniques uniques new row besides refl
parts_by (Some n) uniques new row besides = parts_at (slice_get uniques n) uniques (take n uniques ++ drop (suc n) uniques) new row besides (one_and_others (by_unique new row) n uniques)

pub parts : (schema : Schema) (new : Row) (besides : Option Row) (row : Row) → clash schema.uniques new row && not (is_besides (key_places schema) besides row) ≡ own (clustered_key schema) new besides row || by_others (key_places schema) new besides (other_keys schema) row
parts schema new besides row = parts_by (clustered_place schema) schema.uniques new row besides

-- Before there are rows no index is wanted.
keyed : (slab : Rows) (order : List ℕ) (schema : Schema) (indexes : List KeyIndex) (clustered : List ℕ) (new : Row) (besides : Option Row) → (0 < length order → keys_of indexes ≡ other_keys schema)
    → find (by_others clustered new besides (keys_of indexes)) (rows_of slab order) ≡ find (by_others clustered new besides (other_keys schema)) (rows_of slab order)
keyed slab [] schema indexes clustered new besides are = refl
keyed slab (entry ∷ order) schema indexes clustered new besides are = ap (λ (keys : List (List ℕ)). find (by_others clustered new besides keys) (rows_of slab (entry ∷ order))) (are (omega arith))

abbrev test_of : Schema → Row → Option Row → Row → Bool
test_of schema new besides row = clash schema.uniques new row && not (is_besides (key_places schema) besides row)

-- the first clash is the earlier of what the clustered order and the indexes find
pub clash_is : (slab : Rows) (order : List ℕ) (schema : Schema) (indexes : List KeyIndex) (new : Row) (besides : Option Row) → Ascending (compare_by (key_places schema) []) (rows_of slab order) → AllByRecursion (IsIndexed (key_places schema) slab order) indexes
    → (0 < length order → keys_of indexes ≡ other_keys schema)
    → find (test_of schema new besides) (rows_of slab order) ≡ earlier (by_key (key_places schema)) (find (own (clustered_key schema) new besides) (rows_of slab order)) (earliest (key_places schema) new besides slab indexes)
clash_is slab order schema indexes new besides asc all are =
    let clustered = key_places schema in
    let rows = rows_of slab order in
    let mine = own (clustered_key schema) new besides in
    let others = by_others clustered new besides (other_keys schema) in
    find_same (test_of schema new besides) (λ (row : Row). mine row || others row) (parts schema new besides) rows
    ∙ find_either (by_key clustered) mine others rows (key_tied clustered) (key_turned clustered) (alone clustered rows asc)
    ∙ ap (λ (o : Option Row). earlier (by_key clustered) (find mine rows) o) (sym (earliest_is clustered new besides slab order indexes asc all ∙ keyed slab order schema indexes clustered new besides are))

-- where there are rows, there is room for rows
some_room : (clustered : List ℕ) (slab : Rows) (order : List ℕ) → IsListed clustered [] slab order → slab_len slab ≤ slab.capacity → 0 < length order → 0 < slab.capacity
some_room clustered slab order is held some = let counted = is.counted in omega (arith, counted, held, some)

-- without a clustered key the indexes alone decide
pub clash_by_others : (slab : Rows) (order : List ℕ) (schema : Schema) (indexes : List KeyIndex) (new : Row) (besides : Option Row) → IsStored schema slab order indexes → clustered_key schema ≡ None → find (test_of schema new besides) (rows_of slab order) ≡ earliest (key_places schema) new besides slab indexes
clash_by_others slab order schema indexes new besides stored none =
    let rows = rows_of slab order in
    let nothing : find (own (clustered_key schema) new besides) rows ≡ None = ap (λ (key : Option Index). find (own key new besides) rows) none ∙ none_by_nulls (own None new besides) (λ row. refl) rows in
    clash_is slab order schema indexes new besides stored.listed.ascends stored.indexed (λ some. stored.keyed (some_room (key_places schema) slab order stored.listed stored.held some))
    ∙ ap (λ (o : Option Row). earlier (by_key (key_places schema)) o (earliest (key_places schema) new besides slab indexes)) nothing

-- with one, the clustered order is asked too
pub clash_by_both : (slab : Rows) (order : List ℕ) (schema : Schema) (indexes : List KeyIndex) (new : Row) (besides : Option Row) → IsStored schema slab order indexes → (key : Index) × (clustered_key schema ≡ Some key)
    → find (test_of schema new besides) (rows_of slab order) ≡ earlier (by_key (key_places schema)) (find (clashes_at (key_places schema) (key_places schema) new besides) (rows_of slab order)) (earliest (key_places schema) new besides slab indexes)
clash_by_both slab order schema indexes new besides stored some =
    let rows = rows_of slab order in
    let places_are : some.0.places ≡ key_places schema = sym (ap places_of some.1) in
    let mine : find (own (clustered_key schema) new besides) rows ≡ find (clashes_at (key_places schema) (key_places schema) new besides) rows =
    ap (λ (k : Option Index). find (own k new besides) rows) some.1 ∙ ap (λ (places : List ℕ). find (clashes_at places places new besides) rows) places_are
    in
    clash_is slab order schema indexes new besides stored.listed.ascends stored.indexed (λ there. stored.keyed (some_room (key_places schema) slab order stored.listed stored.held there))
    ∙ ap (λ (o : Option Row). earlier (by_key (key_places schema)) o (earliest (key_places schema) new besides slab indexes)) mine

module _ {A B : Type 0} where
  pub none_by : (f : A → B) (o : Option A) (k : Option B) (b : Bool) → option_map f o ≡ k → is_some o ≡ not b → b ≡ true → k ≡ None
  none_by f None k b same is holds = sym same
  none_by f (Some x) k b same is holds = let wrong : true ≡ false = is ∙ ap not holds in absurd (cc)

  pub some_by : (f : A → B) (o : Option A) (k : Option B) (b : Bool) → option_map f o ≡ k → is_some o ≡ not b → b ≡ false → (x : B) × (k ≡ Some x)
  some_by f None k b same is falls = let wrong : false ≡ true = is ∙ ap not falls in absurd (cc)
  some_by f (Some x) k b same is falls = (f x, sym same)
