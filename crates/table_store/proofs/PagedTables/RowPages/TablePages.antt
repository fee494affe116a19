-- The pages of rows, from the pages of their entries.
use Rattle.std.proofs.Common.{◌≡◌, ◌∙◌, ℕ, zero, suc, ◌-◌, Bool, List, [], ◌∷◌, ◌++◌, length, map, get_or, cond, leb, Ordering, Less, Equal, Greater, refl, sym, ap, arith}
use Rattle.std.specs.Ordering.{is_gt, ordering_then}
use Rattle.std.specs.List.{AllByRecursion, concat, flat_map, prefix_len}
use Rattle.std.proofs.lemmas.List.{length-map, map-append}
use Rattle.base_values.specs.KeyOrder.{compare_keys}
use Rattle.base_values.specs.GhoSchema.Rows.{key_of}
use Rattle.base_values.specs.GhoSchema.Tables.{Ascends}
use Rattle.base_page_list.specs.Pages.{Dense, ArePages, flat, pages_made, first_passes, last_page}
use Rattle.base_page_list.proofs.Tested.{all_left, all_right}
use Rattle.table_store.proofs.Orders.{Row}
use Rattle.table_store.specs.RowLists.{comes_before}
use Rattle.base_page_list.specs.Orders.{Ascending}
use Rattle.table_store.specs.PagedTables.RowPages.RowOrders.{row_of, rows_of, compare_by, is_before}
use Rattle.table_store.specs.PagedTables.RowPages.StoredRows.{DenseRows, ArePagesOfRows}
use Rattle.table_store.proofs.PagedTables.RowPages.RowPlaces.{Rows}

-- what holds of all entries holds of those of a page
pub page_all : (P : ℕ → Type 0) (n : ℕ) (pages : List (List ℕ)) → AllByRecursion P (flat pages) → AllByRecursion P (get_or pages n [])
page_all P n [] all = tt
page_all P zero (page ∷ pages) all = all_left P page (flat pages) all
page_all P (suc n) (page ∷ pages) all = page_all P n pages (all_right P page (flat pages) all)

-- the pages together are the rows
pub rows_of_pages : (f : ℕ → Row) (pages : List (List ℕ)) → flat_map (λ (page : List Row). page) (map (map f) pages) ≡ map f (concat pages)
rows_of_pages f [] = refl
rows_of_pages f (page ∷ pages) = ap (λ (rows : List Row). map f page ++ rows) (rows_of_pages f pages) ∙ sym (map-append f page (concat pages))

dense_rows : (slab : Rows) (page : List ℕ) (pages : List (List ℕ)) → Dense page pages → DenseRows (rows_of slab page) (map (rows_of slab) pages)
dense_rows slab page [] dense = tt
dense_rows slab page (next ∷ pages) dense =
    let size = length-map page (row_of slab) in
    let next_size = length-map next (row_of slab) in
    omega (arith, size, next_size, dense)

pub sizes_of_rows : (slab : Rows) (pages : List (List ℕ)) → ArePages pages → ArePagesOfRows (map (rows_of slab) pages)
sizes_of_rows slab [] are = tt
sizes_of_rows slab (page ∷ pages) are =
    let size = length-map page (row_of slab) in
    let some = are.0 in
    let few = are.1 in
    (omega (arith, size, some), omega (arith, size, few), dense_rows slab page pages are.2, sizes_of_rows slab pages are.3)

-- A put makes as many pages of rows as of entries.
size_at : (f : ℕ → Row) (n : ℕ) (pages : List (List ℕ)) → length (get_or (map (map f) pages) n []) ≡ length (get_or pages n [])
size_at f n [] = refl
size_at f zero (page ∷ pages) = length-map page f
size_at f (suc n) (page ∷ pages) = size_at f n pages

abbrev full : ℕ → ℕ
full size = cond (leb 64 size) 1 0

pub made_of_rows : (f : ℕ → Row) (n : ℕ) (pages : List (List ℕ)) → pages_made (map (map f) pages) n ≡ pages_made pages n
made_of_rows f n [] = refl
made_of_rows f n (page ∷ pages) = ap (λ (size : ℕ). full size) (size_at f n (page ∷ pages))

first_same : (p q : Row → Bool) → ((row : Row) → p row ≡ q row) → (page : List Row) → first_passes p page ≡ first_passes q page
first_same p q same [] = refl
first_same p q same (row ∷ page) = same row

starts_same : (p q : Row → Bool) → ((row : Row) → p row ≡ q row) → (pages : List (List Row)) → prefix_len (first_passes p) pages ≡ prefix_len (first_passes q) pages
starts_same p q same [] = refl
starts_same p q same (page ∷ pages) = let others = starts_same p q same pages in rw (first_same p q same page, others) refl

gt_then : (o : Ordering) → is_gt (ordering_then o Equal) ≡ is_gt o
gt_then Less = refl
gt_then Equal = refl
gt_then Greater = refl

before_same : (places : List ℕ) (row other : Row) → is_before places [] row other ≡ comes_before places (key_of places row) other
unfolding key_of
before_same places row other = gt_then (compare_keys (key_of places row) (key_of places other))

pub last_of_rows : (places : List ℕ) (row : Row) (pages : List (List Row)) → last_page (is_before places [] row) pages ≡ last_page (comes_before places (key_of places row)) pages
last_of_rows places row pages = ap (λ (n : ℕ). n - 1) (starts_same (is_before places [] row) (comes_before places (key_of places row)) (before_same places row) pages)

-- Rows in order of the clustered key alone.
less_then : (o : Ordering) → ordering_then o Equal ≡ Less → o ≡ Less
less_then Less is = refl
less_then Equal is = absurd (cc)
less_then Greater is = absurd (cc)

pub all_less : (places : List ℕ) (row : Row) (rows : List Row) → AllByRecursion (λ other. compare_by places [] row other ≡ Less) rows → AllByRecursion (λ other. compare_keys (key_of places row) (key_of places other) ≡ Less) rows
unfolding key_of
all_less places row [] less = tt
all_less places row (other ∷ rows) less = (less_then (compare_keys (key_of places row) (key_of places other)) less.0, all_less places row rows less.1)

pub ascends_alone : (places : List ℕ) (rows : List Row) → Ascending (compare_by places []) rows → Ascends places rows
ascends_alone places [] asc = tt
ascends_alone places (row ∷ rows) asc = (all_less places row rows asc.0, ascends_alone places rows asc.1)
