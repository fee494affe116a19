-- Tables stay tables, and databases databases.
use Rattle.std.proofs.Common.{◌≡◌, ℕ, zero, suc, ◌<◌, Bool, true, false, not, ◌&&◌, List, [], ◌∷◌, length, find, filter, cond, Option, Some, None, Ok, Ordering, Less, Equal, Greater, refl, ap, subst, ◌∙◌, arith}
use Rattle.std.specs.Ordering.{is_eq, match_ordering, ordering_reverse}
use Rattle.std.specs.List.{AllByRecursion, slice_get}
use Rattle.std.proofs.lemmas.Bool.{or_parts}
use Rattle.base_values.specs.declared.value.Value.{Value}
use Rattle.base_values.specs.declared.value.Value.TheVariants.{Null, Num, Text, Blob}
use Rattle.base_values.specs.KeyOrder.{compare_keys}
use Rattle.base_values.specs.Laws.{StoresNullWhereNullable}
use Rattle.base_values.specs.StoredValues.{stores}
use Rattle.base_values.proofs.Orders.{keys_total, tied_keys}
use Rattle.base_values.specs.declared.gho_schema.schema.Schema.{Schema}
use Rattle.base_values.specs.declared.gho_schema.schema.Column.{Column}
use Rattle.base_values.specs.declared.gho_schema.schema.Index.{Index}
use Rattle.base_values.specs.GhoSchema.ClusteredKey.{is_not_null, clustered_place, unique_at}
use Rattle.base_values.specs.GhoSchema.Rows.{key_of, key_places, places_of, with_row}
use Rattle.base_values.specs.GhoSchema.Tables.{IsRow, no_null, clash, Apart, IsTable}
use Rattle.base_values.proofs.GhoSchema.Orders.{all-with_row}
use Rattle.table_store.specs.RowLists.{is_at, without_key}
use Rattle.table_store.specs.ClusteredKeys.{HasClusteredKey}
use Rattle.table_store.specs.Databases.{TableRows, clashing, IsNewIn}
use Rattle.table_store.proofs.Orders.{Row, is_Equal}
use Rattle.table_store.proofs.Ascending.{all-filter, ascends-with_row, ascends-filter}
use Rattle.table_store.proofs.FoundRows.{none_found}

-- clashes go both ways
even : (o back : Ordering) → back ≡ ordering_reverse o → is_eq back ≡ is_eq o
even Less back is = rw is refl
even Equal back is = rw is refl
even Greater back is = rw is refl

eq_then : (b : Bool) (x y : Bool) → (b ≡ true → x ≡ y) → (b && x) ≡ (b && y)
eq_then true x y same = same refl
eq_then false x y same = refl

pub clash_both : (uniques : List Index) (row other : Row) → clash uniques row other ≡ clash uniques other row
clash_both [] row other = refl
clash_both (index ∷ uniques) row other =
    let one = key_of index.places row in
    let two = key_of index.places other in
    let turned : is_eq (compare_keys two one) ≡ is_eq (compare_keys one two) = even (compare_keys one two) (compare_keys two one) (keys_total.antisymm two one) in
    let first : (is_eq (compare_keys one two) && no_null one) ≡ (is_eq (compare_keys two one) && no_null two) =
    rw turned (eq_then (is_eq (compare_keys one two)) (no_null one) (no_null two) (λ (tied : is_eq (compare_keys one two) ≡ true). ap no_null (tied_keys one two (is_Equal (compare_keys one two) tied))))
    in
    rw (first, clash_both uniques row other) refl

-- rows that don't clash with the row that is put
pub apart_here : (uniques : List Index) (o : Ordering) (row first : Row) (rows placed : List Row) → AllByRecursion (λ other. clash uniques row other ≡ false) (first ∷ rows) → Apart uniques (first ∷ rows)
    → AllByRecursion (λ other. clash uniques first other ≡ false) placed → Apart uniques placed → Apart uniques (match_ordering o (row ∷ first ∷ rows) (row ∷ first ∷ rows) (first ∷ placed))
apart_here uniques Less row first rows placed none apart all rest = (none, apart)
apart_here uniques Equal row first rows placed none apart all rest = (none, apart)
apart_here uniques Greater row first rows placed none apart all rest = (all, rest)

apart-with_row : (uniques : List Index) (places : List ℕ) (row : Row) (rows : List Row) → AllByRecursion (λ other. clash uniques row other ≡ false) rows → Apart uniques rows → Apart uniques (with_row places row rows)
unfolding with_row
apart-with_row uniques places row [] none apart = (tt, tt)
apart-with_row uniques places row (first ∷ rows) none apart =
    apart_here uniques (compare_keys (key_of places row) (key_of places first)) row first rows (with_row places row rows) none apart
    (all-with_row (λ other. clash uniques first other ≡ false) places row rows (clash_both uniques first row ∙ none.0) apart.0) (apart-with_row uniques places row rows none.1 apart.1)

kept_apart : (uniques : List Index) (b : Bool) (row : Row) (rows : List Row) → AllByRecursion (λ other. clash uniques row other ≡ false) rows → Apart uniques rows → Apart uniques (cond b (row ∷ rows) rows)
kept_apart uniques true row rows none apart = (none, apart)
kept_apart uniques false row rows none apart = apart

pub apart-filter : (uniques : List Index) (test : Row → Bool) (rows : List Row) → Apart uniques rows → Apart uniques (filter test rows)
apart-filter uniques test [] apart = tt
apart-filter uniques test (row ∷ rows) apart =
    kept_apart uniques (test row) row (filter test rows) (all-filter (λ other. clash uniques row other ≡ false) test rows apart.0) (apart-filter uniques test rows apart.1)

-- some rows of a table are a table
pub some_rows : (schema : Schema) (test : Row → Bool) (rows : List Row) → IsTable schema rows → IsTable schema (filter test rows)
some_rows schema test rows are = record {
  rows_fit = all-filter (IsRow schema.columns) test rows are.rows_fit;
  ascends = ascends-filter (key_places schema) test rows are.ascends;
  apart = apart-filter schema.uniques test rows are.apart;
}

-- a search that finds none
none_parts : (b : Bool) (row : Row) (rest : Option Row) → cond (b && true) (Some row) rest ≡ None → (b ≡ false) × (rest ≡ None)
none_parts true row rest none = absurd (cc)
none_parts false row rest none = (refl, none)

none_clash : (uniques : List Index) (row : Row) (rows : List Row) → find (λ other. clash uniques row other && true) rows ≡ None → AllByRecursion (λ other. clash uniques row other ≡ false) rows
none_clash uniques row [] none = tt
none_clash uniques row (first ∷ rows) none =
    let parts = none_parts (clash uniques row first) first (find (λ other. clash uniques row other && true) rows) none in
    (parts.0, none_clash uniques row rows parts.1)

-- a column that may not be null stores no null
no_null_here : StoresNullWhereNullable → (column : Column) (v : Value) → stores v column.kind column.nullable ≡ Ok v → not column.nullable ≡ true → no_null (v ∷ []) ≡ true
no_null_here where_nullable column Null fits not_null = let reported = (where_nullable Null column.kind column.nullable fits).1 in absurd (cc (ap not reported))
no_null_here where_nullable column (Num n) fits not_null = refl
no_null_here where_nullable column (Text text) fits not_null = refl
no_null_here where_nullable column (Blob blob) fits not_null = refl

value_there : StoresNullWhereNullable → (columns : List Column) (row : Row) (place : ℕ) → IsRow columns row → is_not_null (slice_get columns place) ≡ true → (v : Value) × (slice_get row place ≡ Some v) × (no_null (v ∷ []) ≡ true)
value_there where_nullable [] row place fits not_null = absurd cc
value_there where_nullable (column ∷ columns) [] place fits not_null = absurd fits
value_there where_nullable (column ∷ columns) (v ∷ vs) zero fits not_null = (v, refl, no_null_here where_nullable column v fits.0 not_null)
value_there where_nullable (column ∷ columns) (v ∷ vs) (suc place) fits not_null = value_there where_nullable columns vs place fits.1 not_null

more_no_null : (v : Value) (vs : List Value) → no_null (v ∷ []) ≡ true → no_null vs ≡ true → no_null (v ∷ vs) ≡ true
more_no_null Null vs here others = absurd cc
more_no_null (Num n) vs here others = others
more_no_null (Text text) vs here others = others
more_no_null (Blob blob) vs here others = others

pub key_no_null : StoresNullWhereNullable → (columns : List Column) (row : Row) (places : List ℕ) → IsRow columns row → AllByRecursion (λ place. is_not_null (slice_get columns place) ≡ true) places → no_null (key_of places row) ≡ true
unfolding key_of
key_no_null where_nullable columns row [] fits not_null = refl
key_no_null where_nullable columns row (place ∷ places) fits not_null =
    let there = value_there where_nullable columns row place fits not_null.0 in
    rw there.1 (more_no_null there.0 (key_of places row) there.2 (key_no_null where_nullable columns row places fits not_null.1))

-- rows that don't clash have other keys
other_key : (index : Index) (uniques : List Index) (row other : Row) → no_null (key_of index.places row) ≡ true → clash (index ∷ uniques) row other ≡ false → is_at index.places (key_of index.places row) other ≡ false
other_key index uniques row other full none =
    let parts = or_parts (is_eq (compare_keys (key_of index.places row) (key_of index.places other)) && no_null (key_of index.places row)) (clash uniques row other) none in
    first_false (is_eq (compare_keys (key_of index.places row) (key_of index.places other))) (no_null (key_of index.places row)) full parts.0
  where
    first_false : (b n : Bool) → n ≡ true → (b && n) ≡ false → b ≡ false
    first_false true n full none = absurd (cc)
    first_false false n full none = refl

key_at : (uniques : List Index) (place : ℕ) (index : Index) (row other : Row) → slice_get uniques place ≡ Some index → no_null (key_of index.places row) ≡ true → clash uniques row other ≡ false → is_at index.places (key_of index.places row) other ≡ false
key_at [] place index row other at full none = absurd (cc)
key_at (first ∷ uniques) zero index row other at full none = let same : first ≡ index = cc in other_key index uniques row other full (subst (λ (i : Index). clash (i ∷ uniques) row other ≡ false) same none)
key_at (first ∷ uniques) (suc place) index row other at full none =
    let parts = or_parts (is_eq (compare_keys (key_of first.places row) (key_of first.places other)) && no_null (key_of first.places row)) (clash uniques row other) none in
    key_at uniques place index row other at full parts.1

keys_at : (uniques : List Index) (place : ℕ) (index : Index) (row : Row) (rows : List Row) → slice_get uniques place ≡ Some index → no_null (key_of index.places row) ≡ true → AllByRecursion (λ other. clash uniques row other ≡ false) rows
    → AllByRecursion (λ other. is_at index.places (key_of index.places row) other ≡ false) rows
keys_at uniques place index row [] at full none = tt
keys_at uniques place index row (other ∷ rows) at full none = (key_at uniques place index row other at full none.0, keys_at uniques place index row rows at full none.1)

new_at : (uniques : List Index) (place : ℕ) (found : Option Index) (row : Row) (rows : List Row) → slice_get uniques place ≡ found → 0 < length (places_of found) → no_null (key_of (places_of found) row) ≡ true
    → AllByRecursion (λ other. clash uniques row other ≡ false) rows → find (is_at (places_of found) (key_of (places_of found) row)) rows ≡ None
new_at uniques place None row rows at some full none = absurd (omega arith)
new_at uniques place (Some index) row rows at some full none =
    none_found (is_at index.places (key_of index.places row)) (is_at index.places (key_of index.places row)) rows (λ other fails. fails) (keys_at uniques place index row rows at full none)

new_key : (uniques : List Index) (o : Option ℕ) (row : Row) (rows : List Row) → 0 < length (places_of (unique_at uniques o)) → no_null (key_of (places_of (unique_at uniques o)) row) ≡ true
    → AllByRecursion (λ other. clash uniques row other ≡ false) rows → find (is_at (places_of (unique_at uniques o)) (key_of (places_of (unique_at uniques o)) row)) rows ≡ None
new_key uniques None row rows some full none = absurd (omega arith)
new_key uniques (Some place) row rows some full none = new_at uniques place (slice_get uniques place) row rows refl some full none

pub put_keeps : StoresNullWhereNullable → (table : TableRows) (row : Row) → HasClusteredKey table.schema → IsTable table.schema table.rows → IsRow table.schema.columns row → clashing table row None ≡ None
    → IsNewIn row table × IsTable table.schema (with_row (key_places table.schema) row table.rows)
put_keeps where_nullable table row keyed is_table fits none =
    let apart = none_clash table.schema.uniques row table.rows none in
    let full = key_no_null where_nullable table.schema.columns row (key_places table.schema) fits keyed.not_null in
    let new : IsNewIn row table = new_key table.schema.uniques (clustered_place table.schema) row table.rows keyed.some full apart in (
      new,
      record {
        rows_fit = all-with_row (IsRow table.schema.columns) (key_places table.schema) row table.rows fits is_table.rows_fit;
        ascends = ascends-with_row (key_places table.schema) row table.rows new is_table.ascends;
        apart = apart-with_row table.schema.uniques (key_places table.schema) row table.rows apart is_table.apart;
      },
    )

pub remove_keeps : (schema : Schema) (rows : List Row) (key : Row) → IsTable schema rows → IsTable schema (without_key (key_places schema) key rows)
remove_keeps schema rows key is_table = record {
  rows_fit = all-filter (IsRow schema.columns) (λ row. not (is_at (key_places schema) key row)) rows is_table.rows_fit;
  ascends = ascends-filter (key_places schema) (λ row. not (is_at (key_places schema) key row)) rows is_table.ascends;
  apart = apart-filter schema.uniques (λ row. not (is_at (key_places schema) key row)) rows is_table.apart;
}
