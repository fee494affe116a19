-- Tests of rows that clash.
use Rattle.std.proofs.Common.{◌≡◌, ◌∙◌, ℕ, Bool, true, false, cond, List, [], ◌∷◌, Option, Some, None, find, not, ◌&&◌, refl, ap}
use Rattle.base_values.specs.GhoSchema.Rows.{key_of}
use Rattle.base_values.specs.GhoSchema.Tables.{no_null}
use Rattle.table_store.proofs.Orders.{Row}
use Rattle.table_store.specs.RowLists.{is_at, is_besides}
use Rattle.table_store.specs.PagedTables.RowPages.Clashes.{clashes_at, besides_test}

pub find_same : (p q : Row → Bool) → ((row : Row) → p row ≡ q row) → (rows : List Row) → find p rows ≡ find q rows
find_same p q same [] = refl
find_same p q same (row ∷ rows) =
    ap (λ (b : Bool). cond b (Some row) (find p rows)) (same row) ∙ ap (λ (o : Option Row). cond (q row) (Some row) o) (find_same p q same rows)

nulls : (a b c : Bool) → b ≡ false → a && b && c ≡ false
nulls true b c falls = ap (λ (x : Bool). x && c) falls
nulls false b c falls = refl

pub none_by_nulls : (test : Row → Bool) → ((row : Row) → test row ≡ false) → (rows : List Row) → find test rows ≡ None
none_by_nulls test never [] = refl
none_by_nulls test never (row ∷ rows) = ap (λ (b : Bool). cond b (Some row) (find test rows)) (never row) ∙ none_by_nulls test never rows

pub clash_of_nulls : (clustered places : List ℕ) (new : Row) (besides : Option Row) (rows : List Row) → no_null (key_of places new) ≡ false → find (clashes_at clustered places new besides) rows ≡ None
clash_of_nulls clustered places new besides rows falls =
    none_by_nulls (clashes_at clustered places new besides) (λ row. nulls (is_at places (key_of places new) row) (no_null (key_of places new)) (not (is_besides clustered besides row)) falls) rows

all_true : (a b c : Bool) → b ≡ true → c ≡ true → a && b && c ≡ a
all_true true b c holds other = ap (λ (x : Bool). x && c) holds ∙ other
all_true false b c holds other = refl

one_true : (a b c : Bool) → b ≡ true → a && b && c ≡ a && c
one_true true b c holds = ap (λ (x : Bool). x && c) holds
one_true false b c holds = refl

pub clash_plain : (clustered places : List ℕ) (new : Row) (rows : List Row) → no_null (key_of places new) ≡ true → find (clashes_at clustered places new None) rows ≡ find (is_at places (key_of places new)) rows
clash_plain clustered places new rows holds =
    find_same (clashes_at clustered places new None) (is_at places (key_of places new)) (λ row. all_true (is_at places (key_of places new) row) (no_null (key_of places new)) true holds refl) rows

pub clash_named : (clustered places : List ℕ) (new named : Row) (rows : List Row) → no_null (key_of places new) ≡ true → find (clashes_at clustered places new (Some named)) rows ≡ find (besides_test places (key_of places new) clustered named) rows
clash_named clustered places new named rows holds =
    find_same (clashes_at clustered places new (Some named)) (besides_test places (key_of places new) clustered named)
    (λ row. one_true (is_at places (key_of places new) row) (no_null (key_of places new)) (not (is_at clustered named row)) holds) rows
