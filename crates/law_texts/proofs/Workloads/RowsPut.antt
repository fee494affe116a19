-- The rows of a workload are put into its table one behind the other.
use Rattle.std.proofs.Common.{◌≡◌, ◌∙◌, ℕ, zero, suc, ◌+◌, ◌<◌, ◌≤◌, ◌^◌, Bool, true, false, not, ◌&&◌, ◌||◌, nat_lt, List, [], ◌∷◌, ◌++◌, map, Some, None, Greater, Ok, refl, sym, ap, arith}
use Rattle.std.specs.Prelude.{find, pos}
use Rattle.std.proofs.lemmas.Bool.Decides.{nat_tests}
use Rattle.std.proofs.lemmas.Fmt.{decimal_injective}
use Rattle.std.proofs.lemmas.List.FromFn.{map-range_with_len_more}
use Rattle.std.specs.Fmt.{decimal}
use Rattle.std.specs.List.{range_with_len}
use Rattle.std.specs.Ordering.{is_eq}
use Rattle.base_values.specs.declared.value.Value.{Value}
use Rattle.base_values.specs.declared.value.Value.TheVariants.{Num, Text}
use Rattle.base_values.specs.KeyOrder.{compare_values, compare_keys}
use Rattle.base_values.proofs.Orders.{tied_keys}
use Rattle.base_values.specs.GhoSchema.ClusteredKey.{clustered_among}
use Rattle.base_values.specs.GhoSchema.Rows.{key_of, key_places, with_row}
use Rattle.base_values.specs.GhoSchema.Tables.{clash}
use Rattle.table_store.specs.Databases.{TableRows}
use Rattle.table_store.proofs.Orders.{is_Equal}
use Rattle.plan_reader.specs.PlanTables.Rows.{put_text, next_number, put_texts}
use Rattle.top_workload.specs.Workloads.{row_count}
use Rattle.law_texts.specs.Workloads.Rows.{table_schema, row_values, opening_rows, opening_table}
use Rattle.law_texts.proofs.Workloads.RowsRead.{row_read}
use Rattle.law_texts.specs.Workloads.Document.Texts.{row_sql, row_key, row_value, row_texts}

abbrev Row : Type 0
Row = List Value

-- ---- two rows

ids_greater : (key other value another : ℕ) → other < key → compare_keys (key_of (0 ∷ []) (row_values key value)) (key_of (0 ∷ []) (row_values other another)) ≡ Greater
unfolding key_of compare_values
ids_greater key other value another less =
    let no : nat_lt key other ≡ false = grind (arith, nat_tests) in
    let yes : nat_lt other key ≡ true = grind (arith, nat_tests) in
    rw (no, yes) refl

not_tied : (a b : List Value) → (a ≡ b → ⊥) → is_eq (compare_keys a b) ≡ false
not_tied a b apart = go (is_eq (compare_keys a b)) refl
  where
    go : (tied : Bool) → is_eq (compare_keys a b) ≡ tied → tied ≡ false
    go true is = absurd (apart (tied_keys a b (is_Equal (compare_keys a b) is)))
    go false is = refl

none_ties : (first second no_null too : Bool) → first ≡ false → second ≡ false → ((first && no_null) || ((second && too) || false)) ≡ false
none_ties first second no_null too is also = rw (is, also) refl

ids_differ : (key other : ℕ) → other < key → (let a : List Value = Num (pos key) ∷ [] in let b : List Value = Num (pos other) ∷ [] in a ≡ b) → ⊥
ids_differ key other less same = let one : key ≡ other = cc in absurd (omega arith)

names_differ : (key other : ℕ) → other < key → key < 2 ^ 63 → (let a : List Value = Text (117 ∷ decimal key) ∷ [] in let b : List Value = Text (117 ∷ decimal other) ∷ [] in a ≡ b) → ⊥
names_differ key other less few same =
    let digits : decimal key ≡ decimal other = cc in
    let one : key ≡ other = decimal_injective key other (omega arith) (omega arith) digits in
    absurd (omega arith)

apart : (key other value another : ℕ) → other < key → key < 2 ^ 63 → clash table_schema.uniques (row_values key value) (row_values other another) ≡ false
unfolding key_of
apart key other value another less few =
    none_ties (is_eq (compare_keys (Num (pos key) ∷ []) (Num (pos other) ∷ []))) (is_eq (compare_keys (Text (117 ∷ decimal key) ∷ []) (Text (117 ∷ decimal other) ∷ []))) _ _
    (not_tied (Num (pos key) ∷ []) (Num (pos other) ∷ []) (ids_differ key other less)) (not_tied (Text (117 ∷ decimal key) ∷ []) (Text (117 ∷ decimal other) ∷ []) (names_differ key other less few))

-- ---- one row behind others

abbrev row : ℕ → ℕ → Row
row number place = row_values (row_key place) (row_value number place)

abbrev sql : ℕ → ℕ → List ℕ
sql number place = row_sql (row_key place) (row_value number place)

module _ (number place : ℕ) (few : place < 20000) where
  none_clashes : (from count : ℕ) → from + count ≤ place → find (λ other. clash table_schema.uniques (row number place) other && not false) (map (row number) (range_with_len from count)) ≡ None
  none_clashes from zero within = refl
  none_clashes from (suc count) within =
      rw (apart (row_key place) (row_key from) (row_value number place) (row_value number from) (omega (arith, within)) (omega (arith, few))) (none_clashes (from + 1) count (omega (arith, within)))

  put_last : (from count : ℕ) → from + count ≤ place → with_row (0 ∷ []) (row number place) (map (row number) (range_with_len from count)) ≡ map (row number) (range_with_len from count) ++ row number place ∷ []
  unfolding with_row
  put_last from zero within = refl
  put_last from (suc count) within =
      rw (ids_greater (row_key place) (row_key from) (row_value number place) (row_value number from) (omega (arith, within))) (ap (λ (rows : List Row). row number from ∷ rows) (put_last (from + 1) count (omega (arith, within))))

abbrev table : List Row → TableRows
table rows = record { schema = table_schema; rows = rows }

-- the table with so many rows
abbrev table_of : ℕ → ℕ → TableRows
table_of number count = table (map (row number) (range_with_len 0 count))

places_are : key_places table_schema ≡ 0 ∷ []
unfolding clustered_among
places_are = refl

put_one : (number place : ℕ) → place < 20000 → put_text (table_of number place) (sql number place) ≡ Some (table_of number (place + 1))
unfolding put_text
put_one number place few =
    rw (row_read (row_key place) (row_value number place) (omega (arith, few)) (omega arith), none_clashes number place few 0 place (omega arith))
    (rw (places_are, put_last number place few 0 place (omega arith)) (ap (λ (rows : List Row). Some (table rows)) (sym (map-range_with_len_more (row number) 0 place place (omega arith)))))

-- ---- all rows

put_from : (number row place count : ℕ) → place + count ≤ 20000 → put_texts row (table_of number place) (map (sql number) (range_with_len place count)) ≡ Ok (table_of number (place + count))
unfolding put_texts
put_from number row place zero few = let all : place ≡ place + 0 = omega arith in ap (λ (n : ℕ). Ok (table_of number n)) all
put_from number row place (suc count) few =
    let all : (place + 1) + count ≡ place + suc count = omega arith in
    rw (put_one number place (omega (arith, few))) (put_from number (next_number row) (place + 1) count (omega (arith, few)) ∙ ap (λ (n : ℕ). Ok (table_of number n)) all)

pub rows_put : (number : ℕ) → put_texts 1 (table []) (row_texts number) ≡ Ok (opening_table number)
unfolding opening_rows row_texts
rows_put number =
    let all : 0 + row_count number ≡ row_count number = omega arith in
    put_from number 1 0 (row_count number) (omega arith) ∙ ap (λ (n : ℕ). Ok (table_of number n)) all
