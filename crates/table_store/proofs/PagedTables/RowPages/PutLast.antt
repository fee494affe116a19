-- Rows put one behind the other, in order of the clustered key.
use Rattle.std.proofs.Common.{◌≡◌, ℕ, List, [], ◌∷◌, ◌++◌, find, None, Less, Greater, refl, sym, ap, ◌∙◌, subst, append_assoc}
use Rattle.std.specs.Ordering.{ordering_reverse}
use Rattle.std.specs.List.{AllByRecursion}
use Rattle.base_values.specs.KeyOrder.{compare_keys}
use Rattle.base_values.proofs.Orders.{keys_total}
use Rattle.base_values.specs.GhoSchema.Rows.{key_of, with_row}
use Rattle.base_values.specs.GhoSchema.Tables.{Ascends}
use Rattle.base_page_list.proofs.Tested.{all_left, all_right}
use Rattle.table_store.proofs.Orders.{Row}
use Rattle.table_store.specs.RowLists.{is_at}

following : (places : List ℕ) (first row : Row) (rows : List Row) → AllByRecursion (λ other. compare_keys (key_of places first) (key_of places other) ≡ Less) (rows ++ row ∷ []) → compare_keys (key_of places row) (key_of places first) ≡ Greater
following places first row rows less =
    let last = all_right (λ (other : Row). compare_keys (key_of places first) (key_of places other) ≡ Less) rows (row ∷ []) less in
    keys_total.antisymm (key_of places row) (key_of places first) ∙ ap ordering_reverse last.0

-- a row that comes behind all others is put behind them
pub put_after : (places : List ℕ) (row : Row) (rows : List Row) → Ascends places (rows ++ row ∷ []) → with_row places row rows ≡ rows ++ row ∷ []
unfolding with_row
put_after places row [] ascends = refl
put_after places row (first ∷ rows) ascends = rw (following places first row rows ascends.0) (ap (λ (rs : List Row). first ∷ rs) (put_after places row rows ascends.1))

-- and none of them has its key
pub new_after : (places : List ℕ) (row : Row) (rows : List Row) → Ascends places (rows ++ row ∷ []) → find (is_at places (key_of places row)) rows ≡ None
new_after places row [] ascends = refl
new_after places row (first ∷ rows) ascends = rw (following places first row rows ascends.0) (new_after places row rows ascends.1)

front_ascends : (places : List ℕ) (rows others : List Row) → Ascends places (rows ++ others) → Ascends places rows
front_ascends places [] others ascends = tt
front_ascends places (row ∷ rows) others ascends =
    (all_left (λ (other : Row). compare_keys (key_of places row) (key_of places other) ≡ Less) rows others ascends.0, front_ascends places rows others ascends.1)

-- the next of rows in order comes behind those before it
pub next_ascends : (places : List ℕ) (rows others all : List Row) (row : Row) → Ascends places all → rows ++ row ∷ others ≡ all → Ascends places (rows ++ row ∷ [])
next_ascends places rows others all row ascends is = front_ascends places (rows ++ row ∷ []) others (subst (Ascends places) (sym (append_assoc rows (row ∷ []) others ∙ is)) ascends)
