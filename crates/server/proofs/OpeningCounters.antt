-- Counters at a server's start, table by table and row by row.
use Rattle.std.proofs.Common.{◌≡◌, ℕ, zero, suc, ◌+◌, ◌≤◌, List, [], ◌∷◌, ◌++◌, length, drop, fold, Some, sym, ap, ◌∙◌, arith, append-nil, append_assoc}
use Rattle.std.specs.Prelude.{max}
use Rattle.std.specs.List.{flat_map, slice_get}
use Rattle.std.proofs.lemmas.List.{drop_all}
use Rattle.std.proofs.lemmas.List.Concat.{flat_map-cons}
use Rattle.std.proofs.lemmas.Option.{same_Some}
use Rattle.base_values.specs.declared.value.Value.{Value}
use Rattle.table_store.specs.Databases.{StoredTable, TableRows, database}
use Rattle.server_model.specs.declared.counter.Counter.{Counter}
use Rattle.server_model.specs.States.{after_value, counter_of, start_at}

-- the greatest of a number, and of one more than each row's value of the column
abbrev pub most_in : ℕ → ℕ → List (List Value) → ℕ
most_in place least rows = fold (λ most row. max most (after_value (slice_get row place))) least rows

-- the row that is next is counted
pub next_counted : (place most later : ℕ) (row : List Value) (rows rest : List (List Value)) (table : TableRows) → rows ≡ row ∷ rest → later ≡ max most (after_value (slice_get row place)) → most_in place most rows ≡ start_at table place → most_in place later rest ≡ start_at table place
next_counted place most later row rows rest table is more so_far = ap (λ (n : ℕ). most_in place n rest) more ∙ (ap (most_in place most) (sym is) ∙ so_far)

pub all_counted : (place most : ℕ) (rows : List (List Value)) (table : TableRows) → rows ≡ [] → most_in place most rows ≡ start_at table place → most ≡ start_at table place
all_counted place most rows table none so_far = ap (most_in place most) (sym none) ∙ so_far

-- the item at this place is the first of those from there on
from_here : {X : Type 0} (xs : List X) (i : ℕ) (x : X) → slice_get xs i ≡ Some x → drop i xs ≡ x ∷ drop (i + 1) xs
from_here [] i x is = absurd (cc)
from_here (y ∷ xs) zero x is = ap (λ z. z ∷ xs) (same_Some y x is)
from_here (y ∷ xs) (suc i) x is = let next : suc i + 1 ≡ suc (i + 1) = omega arith in rw next (from_here xs i x is)

-- the counters so far, and those of the tables that are left, are all
pub one_table : (tables : List StoredTable) (n : ℕ) (stored : StoredTable) (counters after all : List Counter) → slice_get tables n ≡ Some stored → after ≡ counters ++ counter_of stored.table → counters ++ flat_map counter_of (database (drop n tables)) ≡ all → after ++ flat_map counter_of (database (drop (n + 1) tables)) ≡ all
one_table tables n stored counters after all at is so_far =
    let rest : List Counter = flat_map counter_of (database (drop (n + 1) tables)) in
    ap (λ (xs : List Counter). xs ++ rest) is
    ∙ (append_assoc counters (counter_of stored.table) rest
    ∙ (ap (λ (xs : List Counter). counters ++ xs) (sym (flat_map-cons counter_of stored.table (database (drop (n + 1) tables))))
    ∙ (ap (λ (xs : List StoredTable). counters ++ flat_map counter_of (database xs)) (sym (from_here tables n stored at)) ∙ so_far)))

pub all_tables : (tables : List StoredTable) (n : ℕ) (counters all : List Counter) → length tables ≤ n → counters ++ flat_map counter_of (database (drop n tables)) ≡ all → counters ≡ all
all_tables tables n counters all over so_far = sym (append-nil counters) ∙ (ap (λ (xs : List StoredTable). counters ++ flat_map counter_of (database xs)) (sym (drop_all n tables over)) ∙ so_far)
