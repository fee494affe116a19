-- The applier's REPLACE of given values is work on the row's image, and is refused as CopyRow is.
use Rattle.std.proofs.Common.{◌≡◌, ℕ, zero, suc, ◌+◌, ◌==◌, Bool, true, false, ◌||◌, cond, List, [], ◌∷◌, length, map, Option, Some, None, Result, Ok, Err, refl, sym, ap, ◌∙◌, subst, arith}
use Rattle.std.proofs.lemmas.Bool.Decides.{nat_tests}
use Rattle.std.specs.Prelude.{position}
use Rattle.std.proofs.lemmas.Bool.{false≢true}
use Rattle.std.specs.List.{AllByRecursion, list_any, slice_get}
use Rattle.base_values.specs.GhoSchema.Rows.{key_places}
use Rattle.base_script.specs.declared.statement.Condition.TheVariants as conditions
use Rattle.base_script.specs.declared.statement.Set.{Set}
use Rattle.base_values.specs.declared.value.Value.{Value}
use Rattle.base_values.specs.declared.unfit.Unfit.{Unfit}
use Rattle.base_values.specs.StoredValues.{stores}
use Rattle.base_values.specs.declared.gho_schema.schema.Schema.{Schema}
use Rattle.base_values.specs.declared.gho_schema.schema.Column.{Column}
use Rattle.base_values.specs.declared.row_conversion.map.MapColumn.{MapColumn}
use Rattle.base_values.specs.declared.row_conversion.conversion_fault.UnfitAt.{UnfitAt}
use Rattle.base_values.specs.RowConversion.ConvertedRows.{source, value_first, converted_row_from, converted_row}
use Rattle.base_script.specs.declared.statement.Statement.TheVariants as statements
use Rattle.server_model.specs.declared.answer.Answer.{Answer}
use Rattle.table_store.proofs.Orders.{Row}
use Rattle.server_model.specs.declared.work.Work.TheVariants.{Refuse, Replace, Delete, Update}
use Rattle.proof_journals.proofs.Ghost.Applying.{all_set, at_key}
use Rattle.proof_journals.specs.Ghost.HeldKeys.{Clustered}
use Rattle.proof_journals.specs.Ghost.Statements.{SameColumns}
use Rattle.server_model.specs.Answers.{refuses_value}
use Rattle.server_model.proofs.LockedRows.Tests.{are_one}
use Rattle.server_model.specs.Checks.{◌>>=◌, are_distinct, beside, has_columns, key_from, new_row, places_from, places_named, reach_equal, reach_of, row_from, set_first, sets_from, wanted_each, value_at, work_of}

-- the values that a row gives the new columns, before they are stored
abbrev pub given : List MapColumn → Row → List Value
given map' row = map (λ (c : MapColumn). source c.origin row) map'

-- the row, or the refusal with the column's place
abbrev pub row_or : Result Row UnfitAt → Result Row Answer
row_or (Ok row) = Ok row
row_or (Err at) = Err (refuses_value at)

-- the values stand beside the places from this one on
abbrev pub Stand : ℕ → List ℕ → List Value → List Value → Type 0
Stand place places values own = (j : ℕ) → beside (place + j) places values ≡ slice_get own j

one_more : (place : ℕ) (stored : Result Value Unfit) (others : Result Row UnfitAt) (rest : Result Row Answer) → rest ≡ row_or others → (value_at place stored >>= (λ value. rest >>= (λ row. Ok (value ∷ row)))) ≡ row_or (value_first place stored others)
one_more place (Ok value) (Ok others) rest is = rw is refl
one_more place (Ok value) (Err at) rest is = rw is refl
one_more place (Err reason) others rest is = refl

row_given : (place : ℕ) (columns : List Column) (cs : List MapColumn) (row : Row) (places : List ℕ) (values : List Value) → SameColumns columns cs → Stand place places values (given cs row) → row_from place columns places values ≡ row_or (converted_row_from place cs row)
unfolding row_from converted_row_from
row_given place [] [] row places values same stand = refl
row_given place [] (c ∷ cs) row places values same stand = absurd same
row_given place (column ∷ columns) [] row places values same stand = absurd same
row_given place (column ∷ columns) (c ∷ cs) row places values same stand =
    let zero_more : place + 0 ≡ place = omega arith in
    let here : beside place places values ≡ Some (source c.origin row) = ap (λ (n : ℕ). beside n places values) (sym zero_more) ∙ stand 0 in
    let rest : row_from (place + 1) columns places values ≡ row_or (converted_row_from (place + 1) cs row) = row_given (place + 1) columns cs row places values same.2 (λ j. let e : (place + 1) + j ≡ place + (suc j) = omega arith in ap (λ (n : ℕ). beside n places values) e ∙ stand (suc j)) in
    rw (here, same.0, same.1) (one_more place (stores (source c.origin row) c.kind c.nullable) (converted_row_from (place + 1) cs row) (row_from (place + 1) columns places values) rest)

-- the places of all columns, in order
pub not_here : (place j : ℕ) → ((place + (suc j)) == place) ≡ false
not_here place j = grind (arith, nat_tests)

pub is_here : (place : ℕ) → ((place + 0) == place) ≡ true
is_here place = grind (arith, nat_tests)

stand_all : (place : ℕ) (columns : List Column) (cs : List MapColumn) (row : Row) → SameColumns columns cs → Stand place (places_from place columns) (given cs row) (given cs row)
unfolding beside
stand_all place [] [] row same j = refl
stand_all place [] (c ∷ cs) row same j = absurd same
stand_all place (column ∷ columns) [] row same j = absurd same
stand_all place (column ∷ columns) (c ∷ cs) row same zero = rw (is_here place) refl
stand_all place (column ∷ columns) (c ∷ cs) row same (suc j) =
    rw (not_here place j) (let e : place + (suc j) ≡ (place + 1) + j = omega arith in ap (λ (n : ℕ). beside n (places_from (place + 1) columns) (given cs row)) e ∙ stand_all (place + 1) columns cs row same.2 j)

length_given : (place : ℕ) (columns : List Column) (cs : List MapColumn) (row : Row) → SameColumns columns cs → length (places_from place columns) ≡ length (given cs row)
length_given place [] [] row same = refl
length_given place [] (c ∷ cs) row same = absurd same
length_given place (column ∷ columns) [] row same = absurd same
length_given place (column ∷ columns) (c ∷ cs) row same = ap suc (length_given (place + 1) columns cs row same.2)

pub same_number : (n : ℕ) → (n == n) ≡ true
same_number n = grind (arith, nat_tests)

pub new_row_given : (schema : Schema) (cs : List MapColumn) (row : Row) → SameColumns schema.columns cs → new_row schema None (given cs row) ≡ row_or (converted_row cs row)
unfolding new_row
new_row_given schema cs row same =
    let long : (length (places_from 0 schema.columns) == length (given cs row)) ≡ true = ap (λ (n : ℕ). n == length (given cs row)) (length_given 0 schema.columns cs row same) ∙ same_number (length (given cs row)) in
    rw long (row_given 0 schema.columns cs row (places_from 0 schema.columns) (given cs row) same (stand_all 0 schema.columns cs row same))

-- *REPLACE of the given values*
pub replace_work : (schema : Schema) (cs : List MapColumn) (name : List ℕ) (row made : Row) → SameColumns schema.columns cs → converted_row cs row ≡ Ok made → work_of schema (statements.Replace name None (given cs row) None) ≡ Replace made
unfolding work_of
replace_work schema cs name row made same imaged = rw (new_row_given schema cs row same, imaged) refl

pub replace_refused : (schema : Schema) (cs : List MapColumn) (name : List ℕ) (row : Row) (at : UnfitAt) → SameColumns schema.columns cs → converted_row cs row ≡ Err at → work_of schema (statements.Replace name None (given cs row) None) ≡ Refuse (refuses_value at)
unfolding work_of
replace_refused schema cs name row at same imaged = rw (new_row_given schema cs row same, imaged) refl

-- ---- DELETE and UPDATE by key

-- what the schema gives: the names find these places, no place twice, and the first key of just these columns is the clustered one
pub record FindsKey (schema : Schema) (at : Clustered schema) (named : List ℕ) (names : List (List ℕ)) : Type 0 where
  pub places : places_named schema names ≡ Ok named
  pub once : are_distinct named ≡ true
  pub first : position (has_columns named) schema.uniques ≡ Some at.place

-- the value beside a place that is named
beside_named : (value : ℕ → Value) (place : ℕ) (named : List ℕ) → list_any (λ other. place == other) named ≡ true → beside place named (map value named) ≡ Some (value place)
unfolding beside
beside_named value place [] is = absurd (false≢true is)
beside_named value place (first ∷ named) is = by (place == first) refl is (beside_named value place named)
  where
    by : (b : Bool) → (place == first) ≡ b → (b || list_any (λ other. place == other) named) ≡ true → (list_any (λ other. place == other) named ≡ true → beside place named (map value named) ≡ Some (value place))
        → cond (place == first) (Some (value first)) (beside place named (map value named)) ≡ Some (value place)
    by true same any rest = rw same (ap (λ (n : ℕ). Some (value n)) (sym (are_one place first same)))
    by false same any rest = rw same (rest any)

-- *A key's values*, where each of its places is named
pub named_values : (value : ℕ → Value) (key named : List ℕ) → AllByRecursion (λ place. list_any (λ other. place == other) named ≡ true) key → key_from key named (map value named) ≡ map value key
named_values value [] named all = refl
named_values value (place ∷ key) named all = rw (beside_named value place named all.0) (ap (λ (k : List Value). value place ∷ k) (named_values value key named all.1))

-- *The condition by key reaches the key*, where the values given are sought as those of the key's places
pub reach_given : (schema : Schema) (at : Clustered schema) (named : List ℕ) (sets : List Set) (sought key : Row) → FindsKey schema at named (map (λ (s : Set). s.column) sets) → wanted_each schema named (map (λ (s : Set). s.value) sets) ≡ Ok sought → key_from (key_places schema) named sought ≡ key
    → reach_of schema (conditions.Equal sets) ≡ Ok (at_key schema at key)
unfolding reach_of reach_equal
reach_given schema at named sets sought key finds wanted is =
    let own : key_from at.index.places named sought ≡ key = subst (λ (p : List ℕ). key_from p named sought ≡ key) at.its is in
    rw (finds.places, finds.once, finds.first, wanted, at.there, own) refl

-- *DELETE by key*
pub delete_text : (schema : Schema) (at : Clustered schema) (named : List ℕ) (name : List ℕ) (sets : List Set) (sought key : Row) → FindsKey schema at named (map (λ (s : Set). s.column) sets) → wanted_each schema named (map (λ (s : Set). s.value) sets) ≡ Ok sought → key_from (key_places schema) named sought ≡ key
    → work_of schema (statements.Delete name (conditions.Equal sets)) ≡ Delete (at_key schema at key)
unfolding work_of
delete_text schema at named name sets sought key finds wanted is = rw (reach_given schema at named sets sought key finds wanted is) refl

-- all columns set: the image, or the first that refuses
abbrev pub sets_or : Result Row UnfitAt → Result (List (Option Value)) UnfitAt
sets_or (Ok row) = Ok (all_set row)
sets_or (Err at) = Err at

one_set : (place : ℕ) (stored : Result Value Unfit) (others : Result Row UnfitAt) → set_first place (Some stored) (sets_or others) ≡ sets_or (value_first place stored others)
one_set place (Ok value) (Ok others) = refl
one_set place (Ok value) (Err at) = refl
one_set place (Err reason) (Ok others) = refl
one_set place (Err reason) (Err at) = refl

pub sets_given : (place : ℕ) (columns : List Column) (cs : List MapColumn) (row : Row) (places : List ℕ) (values : List Value) → SameColumns columns cs → Stand place places values (given cs row) → sets_from place columns places values ≡ sets_or (converted_row_from place cs row)
unfolding sets_from converted_row_from
sets_given place [] [] row places values same stand = refl
sets_given place [] (c ∷ cs) row places values same stand = absurd same
sets_given place (column ∷ columns) [] row places values same stand = absurd same
sets_given place (column ∷ columns) (c ∷ cs) row places values same stand =
    let zero_more : place + 0 ≡ place = omega arith in
    let here : beside place places values ≡ Some (source c.origin row) = ap (λ (n : ℕ). beside n places values) (sym zero_more) ∙ stand 0 in
    let rest : sets_from (place + 1) columns places values ≡ sets_or (converted_row_from (place + 1) cs row) = sets_given (place + 1) columns cs row places values same.2 (λ j. let e : (place + 1) + j ≡ place + (suc j) = omega arith in ap (λ (n : ℕ). beside n places values) e ∙ stand (suc j)) in
    rw (here, same.0, same.1, rest) (one_set place (stores (source c.origin row) c.kind c.nullable) (converted_row_from (place + 1) cs row))

-- *UPDATE of all columns by key*
pub update_text : (schema : Schema) (at : Clustered schema) (named : List ℕ) (cs : List MapColumn) (name : List ℕ) (row : Row) (all sets : List Set) (sought key : Row) → SameColumns schema.columns cs → places_named schema (map (λ (s : Set). s.column) all) ≡ Ok (places_from 0 schema.columns) → are_distinct (places_from 0 schema.columns) ≡ true → map (λ (s : Set). s.value) all ≡ given cs row
    → FindsKey schema at named (map (λ (s : Set). s.column) sets) → wanted_each schema named (map (λ (s : Set). s.value) sets) ≡ Ok sought → key_from (key_places schema) named sought ≡ key
    → work_of schema (statements.Update name all (conditions.Equal sets)) ≡ Update (at_key schema at key) (sets_or (converted_row cs row))
unfolding work_of
update_text schema at named cs name row all sets sought key same found once values finds wanted is =
    rw (found, once, reach_given schema at named sets sought key finds wanted is, values, sets_given 0 schema.columns cs row (places_from 0 schema.columns) (given cs row) same (stand_all 0 schema.columns cs row same)) refl
