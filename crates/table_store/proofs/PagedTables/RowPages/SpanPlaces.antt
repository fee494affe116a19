-- The entries of the rows in a span stand together.
use Rattle.std.proofs.Common.{◌≡◌, inl, inr, ◌∙◌, ℕ, zero, suc, ◌+◌, ◌-◌, Bool, true, false, cond, not, ◌&&◌, List, [], ◌∷◌, take, drop, filter, refl, sym, ap, arith}
use Rattle.std.specs.List.{AllByRecursion, prefix_len}
use Rattle.std.proofs.lemmas.List.{take-map, drop-map}
use Rattle.base_page_list.specs.Pages.{FailsOn, between}
use Rattle.base_page_list.proofs.Tested.{none_before}
use Rattle.table_store.proofs.Orders.{Row, FailsOn as RowsFailOn}
use Rattle.table_store.proofs.RowsBetween.{start, between as rows_between}
use Rattle.base_page_list.specs.Orders.{Has}
use Rattle.table_store.specs.PagedTables.RowPages.RowOrders.{row_of, rows_of}
use Rattle.base_page_list.proofs.Ascending.{prefix_map}
use Rattle.table_store.proofs.PagedTables.RowPages.RowPlaces.{Rows}

has_drop : (n z : ℕ) (ys : List ℕ) → Has (drop n ys) z → Has ys z
has_drop zero z ys has = has
has_drop (suc n) z [] has = has
has_drop (suc n) z (y ∷ ys) has = inr (has_drop n z ys has)

has_take : (n z : ℕ) (ys : List ℕ) → Has (take n ys) z → Has ys z
has_take zero z [] has = has
has_take zero z (y ∷ ys) has = absurd has
has_take (suc n) z [] has = has
has_take (suc n) z (y ∷ ys) (inl is) = inl is
has_take (suc n) z (y ∷ ys) (inr has) = inr (has_take n z ys has)

pub has_between : (from to z : ℕ) (ys : List ℕ) → Has (between from to ys) z → Has ys z
has_between from to z ys has = has_drop from z ys (has_take (to - from) z (drop from ys) has)

module _ {X : Type 0} where
  prefix_drop_by : (test : X → Bool) (k : ℕ) (x : X) (xs : List X) (b : Bool) → test x ≡ b → (test x ≡ false → AllByRecursion (λ other. test other ≡ false) xs) → prefix_len test (drop k xs) ≡ prefix_len test xs - k → prefix_len test (drop k xs) ≡ cond b (1 + prefix_len test xs) 0 - suc k
  prefix_drop_by test k x xs true is fails others = omega (arith, others)
  prefix_drop_by test k x xs false is fails others = let none = none_before test xs (fails is) in omega (arith, others, none)

  -- how many pass behind the first ones
  prefix_drop : (test : X → Bool) (k : ℕ) (xs : List X) → FailsOn test xs → prefix_len test (drop k xs) ≡ prefix_len test xs - k
  prefix_drop test zero xs fails = omega arith
  prefix_drop test (suc k) [] fails = omega arith
  prefix_drop test (suc k) (x ∷ xs) fails = prefix_drop_by test k x xs (test x) refl fails.0 (prefix_drop test k xs fails.1)

rows_fail_on : (test : Row → Bool) (rows : List Row) → FailsOn test rows → RowsFailOn test rows
rows_fail_on test [] fails = tt
rows_fail_on test (row ∷ rows) fails = (fails.0, rows_fail_on test rows fails.1)

-- the rows between the places where one test begins to pass and another ends to
pub rows_of_between : (first second : Row → Bool) (slab : Rows) (entries : List ℕ) (from to : ℕ) → from ≡ prefix_len (λ e. not (first (row_of slab e))) entries → to ≡ prefix_len (λ e. second (row_of slab e)) entries
    → FailsOn (λ row. not (first row)) (rows_of slab entries) → FailsOn second (rows_of slab entries) → rows_of slab (between from to entries) ≡ filter (λ row. first row && second row) (rows_of slab entries)
rows_of_between first second slab entries from to from_is to_is under fails =
    let rows = rows_of slab entries in
    let starts : from ≡ start first rows = from_is ∙ prefix_map (row_of slab) (λ row. not (first row)) entries in
    let ends : to ≡ prefix_len second rows = to_is ∙ prefix_map (row_of slab) second entries in
    let count : prefix_len second (drop from rows) ≡ to - from = prefix_drop second from rows fails ∙ ap (λ (n : ℕ). n - from) (sym ends) in
    sym (take-map (row_of slab) (to - from) (drop from entries))
    ∙ ap (λ (rs : List Row). take (to - from) rs) (sym (drop-map (row_of slab) from entries))
    ∙ ap (λ (n : ℕ). take n (drop from rows)) (sym count)
    ∙ ap (λ (n : ℕ). take (prefix_len second (drop n rows)) (drop n rows)) starts
    ∙ sym (rows_between first second rows (rows_fail_on (λ row. not (first row)) rows under) (rows_fail_on second rows fails))
