-- Rows that are met stand, in order, and stay so while those before them are changed.
use Rattle.std.proofs.Common.{◌≡◌, ℕ, suc, ◌==◌, ◌≤◌, arith, Bool, true, false, not, ◌&&◌, ◌||◌, List, [], ◌∷◌, length, get_or, filter, find, cond, is_some, Option, Some, Less, refl, sym, ap, ◌∙◌, subst}
use Rattle.std.proofs.lemmas.Bool.{false≢true, or_right}
use Rattle.std.proofs.lemmas.Bool.Decides.{nat_tests}
use Rattle.std.specs.List.{AllByRecursion, list_any}
use Rattle.base_values.specs.declared.value.Value.{Value}
use Rattle.base_values.specs.KeyOrder.{compare_keys}
use Rattle.base_values.specs.declared.gho_schema.schema.Schema.{Schema}
use Rattle.base_values.specs.GhoSchema.Rows.{key_of, key_places, with_row}
use Rattle.base_values.specs.GhoSchema.Tables.{Ascends, IsRow, IsTable, clash}
use Rattle.base_values.specs.declared.event.Change.TheVariants as changes
use Rattle.table_store.specs.ClusteredKeys.{HasClusteredKey}
use Rattle.table_store.specs.RowLists.{is_at}
use Rattle.table_store.specs.Databases.{TableRows, clashing}
use Rattle.table_store.proofs.Orders.{Row}
use Rattle.table_store.proofs.Ascending.{all-filter, ascends-filter}
use Rattle.table_store.proofs.TableLaws.{some_rows}
use Rattle.server_model.specs.Rows.{same_row, stands, without_row, change_rows}
use Rattle.server_model.specs.StatementResults.{with_sets, clashes_besides}
use Rattle.server_model.specs.LockedRows.Coverage.{SetsFit}
use Rattle.server_model.proofs.LockedRows.OneRow.{same_removal}
use Rattle.server_model.proofs.LockedRows.Standing.{one_row, same_itself, stands-put, stands-filter, other_row}
use Rattle.server_model.proofs.LockedRows.WellFormed.{well_formed_put, with_sets_row, none_besides}
use Rattle.server_seen.specs.FittingChanges.{FitsRows}
use Rattle.server_execute.specs.RowUpdates.{AreMet}
use Rattle.server_execute.proofs.NewKeys.{new_from}

-- what holds of all rows holds of one that stands
one_here : (P : Row → Type 0) (row first : Row) (rows : List Row) (b : Bool) → same_row row first ≡ b → P first → (stands row rows ≡ true → P row) → (b || stands row rows) ≡ true → P row
one_here P row first rows true same holds rest stood = subst P (sym (one_row row first same)) holds
one_here P row first rows false same holds rest stood = rest stood

pub of_standing : (P : Row → Type 0) (row : Row) (rows : List Row) → AllByRecursion P rows → stands row rows ≡ true → P row
unfolding stands
of_standing P row [] all stood = absurd (false≢true stood)
of_standing P row (first ∷ rows) all stood = one_here P row first rows (same_row row first) refl all.0 (of_standing P row rows all.1) stood

-- all rows stand among themselves
more_stand : (first : Row) (some rows : List Row) → AllByRecursion (λ row. stands row rows ≡ true) some → AllByRecursion (λ row. stands row (first ∷ rows) ≡ true) some
unfolding stands
more_stand first [] rows all = tt
more_stand first (row ∷ some) rows all = (or_right (same_row row first) (stands row rows) all.0, more_stand first some rows all.1)

pub all_exist : (rows : List Row) → AllByRecursion (λ row. stands row rows ≡ true) rows
unfolding stands
all_exist [] = tt
all_exist (row ∷ rows) = (rw (same_itself row) refl, more_stand row rows rows (all_exist rows))

-- those of rows in order that pass a test are met
pub are_met : (places : List ℕ) (test : Row → Bool) (rows : List Row) → Ascends places rows → AreMet places (filter test rows) rows
are_met places test rows ascends = record {
  ascends = ascends-filter places test rows ascends;
  stand = all-filter (λ row. stands row rows ≡ true) test rows (all_exist rows);
}

-- the first of the rows that are met stands
pub first_met : (places : List ℕ) (met rows : List Row) (old other : Row) → AreMet places met rows → 1 ≤ length met → old ≡ get_or met 0 other → stands old rows ≡ true
first_met places [] rows old other are le is = absurd (omega (arith, le))
first_met places (row ∷ met) rows old other are le is = subst (λ (r : Row). stands r rows ≡ true) (sym is) are.stand.0

after_stand : (places : List ℕ) (old : Row) (met rows : List Row) → AllByRecursion (λ other. compare_keys (key_of places old) (key_of places other) ≡ Less) met → AllByRecursion (λ row. stands row rows ≡ true) met → AllByRecursion (λ row. stands row (without_row old rows) ≡ true) met
after_stand places old [] rows less stood = tt
after_stand places old (row ∷ met) rows less stood =
    (stands-filter (λ other. not (same_row old other)) row rows ∙ rw (stood.0, other_row places old row (same_row old row) refl less.0) refl, after_stand places old met rows less.1 stood.1)

-- those behind a row that is taken out are met, and also where a row is put
pub met_without : (places : List ℕ) (old : Row) (met rows : List Row) → AreMet places (old ∷ met) rows → AreMet places met (without_row old rows)
met_without places old met rows are = record { ascends = are.ascends.1; stand = after_stand places old met rows are.ascends.0 are.stand.1 }

stand_with : (places : List ℕ) (new : Row) (met rows : List Row) → AllByRecursion (λ row. stands row rows ≡ true) met → AllByRecursion (λ row. stands row (with_row places new rows) ≡ true) met
stand_with places new [] rows stood = tt
stand_with places new (row ∷ met) rows stood = (stands-put places row new rows ∙ or_right (same_row row new) (stands row rows) stood.0, stand_with places new met rows stood.1)

-- the first of the rows that are met becomes a row that clashes with none besides it
pub record IsChanged (schema : Schema) (old new : Row) (met rows : List Row) : Type 0 where
  pub fits : FitsRows (key_places schema) rows (changes.Update old new)
  pub is_table : IsTable schema (change_rows (key_places schema) (changes.Update old new) rows)
  pub after_met : AreMet (key_places schema) met (change_rows (key_places schema) (changes.Update old new) rows)

pub changed_one : (schema : Schema) → HasClusteredKey schema → (sets : List (Option Value)) → SetsFit schema.columns sets → (old : Row) (met rows : List Row) → AreMet (key_places schema) (old ∷ met) rows → IsTable schema rows
    → clashes_besides schema (with_sets sets old) old rows ≡ false → IsChanged schema old (with_sets sets old) met rows
unfolding change_rows
changed_one schema key sets sound old met rows are is_table none =
    let places : List ℕ = key_places schema in
    let new : Row = with_sets sets old in
    let full : IsRow schema.columns (with_sets sets old) = with_sets_row schema.columns sets old sound (of_standing (IsRow schema.columns) old rows is_table.rows_fit are.stand.0) in
    let less : IsTable schema (without_row old rows) = some_rows schema (λ other. not (same_row old other)) rows is_table in
    let put : IsTable schema (with_row (key_places schema) (with_sets sets old) (without_row old rows)) = well_formed_put schema key new (without_row old rows) full (none_besides schema new old rows none) less in
    record {
      fits = (are.stand.0, new_from places new (without_row old rows) put.ascends);
      is_table = put;
      after_met = record { ascends = are.ascends.1; stand = stand_with places new met (without_row old rows) (met_without places old met rows are).stand };
    }

-- some rows pass a test where those that pass are not none
not_none : (n : ℕ) → (suc n == 0) ≡ false
not_none n = grind (arith, nat_tests)

pass_first : (test : Row → Bool) (row : Row) (rows : List Row) (b : Bool) → test row ≡ b → not (length (filter test rows) == 0) ≡ list_any test rows → not (length (cond b (row ∷ filter test rows) (filter test rows)) == 0) ≡ (b || list_any test rows)
pass_first test row rows true is rest = ap not (not_none (length (filter test rows)))
pass_first test row rows false is rest = rest

pub some_pass : (test : Row → Bool) (rows : List Row) → not (length (filter test rows) == 0) ≡ list_any test rows
some_pass test [] = refl
some_pass test (row ∷ rows) = pass_first test row rows (test row) refl (some_pass test rows)

-- those of the rows that pass a test, of which some pass another
any_first : (first second : Row → Bool) (row : Row) (rows : List Row) (b : Bool) → first row ≡ b → list_any second (filter first rows) ≡ list_any (λ r. first r && second r) rows
    → list_any second (cond b (row ∷ filter first rows) (filter first rows)) ≡ ((b && second row) || list_any (λ r. first r && second r) rows)
any_first first second row rows true is rest = ap (λ (b : Bool). second row || b) rest
any_first first second row rows false is rest = rest

-- ... and those that are found
found_left : (first : Row → Bool) (row : Row) (left : List Row) (found : Option Row) (b c : Bool) → first row ≡ b → is_some found ≡ list_any first left → is_some (cond (b && c) (Some row) found) ≡ list_any first (cond c (row ∷ left) left)
found_left first row left found true true is rest = sym (ap (λ (b : Bool). b || list_any first left) is)
found_left first row left found true false is rest = rest
found_left first row left found false true is rest = rest ∙ sym (ap (λ (b : Bool). b || list_any first left) is)
found_left first row left found false false is rest = rest

found_among : (first second : Row → Bool) (rows : List Row) → is_some (find (λ row. first row && second row) rows) ≡ list_any first (filter second rows)
found_among first second [] = refl
found_among first second (row ∷ rows) = found_left first row (filter second rows) (find (λ r. first r && second r) rows) (first row) (second row) refl (found_among first second rows)

any_left : (first : Row → Bool) (row : Row) (left : List Row) (some b c : Bool) → first row ≡ b → some ≡ list_any first left → ((b && c) || some) ≡ list_any first (cond c (row ∷ left) left)
any_left first row left some true true is rest = sym (ap (λ (b : Bool). b || list_any first left) is)
any_left first row left some true false is rest = rest
any_left first row left some false true is rest = rest ∙ sym (ap (λ (b : Bool). b || list_any first left) is)
any_left first row left some false false is rest = rest

any_of_left : (first second : Row → Bool) (rows : List Row) → list_any (λ row. first row && second row) rows ≡ list_any first (filter second rows)
any_of_left first second [] = refl
any_of_left first second (row ∷ rows) = any_left first row (filter second rows) (list_any (λ r. first r && second r) rows) (first row) (second row) refl (any_of_left first second rows)

-- a new row clashes with one besides a row of a table exactly where it clashes with one besides the row of its key
besides_by_key : (schema : Schema) (new old : Row) (rows : List Row) → Ascends (key_places schema) rows → stands old rows ≡ true → is_some (clashing (record { schema = schema; rows = rows }) new (Some (key_of (key_places schema) old))) ≡ clashes_besides schema new old rows
besides_by_key schema new old rows ascends stood =
    found_among (clash schema.uniques new) (λ other. not (is_at (key_places schema) (key_of (key_places schema) old) other)) rows
    ∙ ap (list_any (clash schema.uniques new)) (same_removal (key_places schema) old rows ascends stood)
    ∙ sym (any_of_left (clash schema.uniques new) (λ other. not (same_row old other)) rows)

pub clashes_found : (table : TableRows) (new old key : Row) → key ≡ key_of (key_places table.schema) old → Ascends (key_places table.schema) table.rows → stands old table.rows ≡ true → is_some (clashing table new (Some key)) ≡ clashes_besides table.schema new old table.rows
clashes_found table new old key is ascends stood = ap (λ (k : Row). is_some (clashing table new (Some k))) is ∙ besides_by_key table.schema new old table.rows ascends stood

pub any_among : (first second : Row → Bool) (rows : List Row) → list_any second (filter first rows) ≡ list_any (λ row. first row && second row) rows
any_among first second [] = refl
any_among first second (row ∷ rows) = any_first first second row rows (first row) refl (any_among first second rows)
