-- A converted row that is copied: where the table's columns are the map's, each stores its value as it is.
use Rattle.std.proofs.Common.{◌≡◌, ℕ, true, zero, suc, ◌+◌, ◌==◌, ◌<◌, ◌≤◌, List, [], ◌∷◌, length, drop, get_or, Some, None, Result, Ok, Err, refl, sym, ap, ◌∙◌, subst, arith, eqb-true}
use Rattle.std.specs.Prelude.{Bool, ◌↔◌, IsTrue}
use Rattle.std.proofs.lemmas.List.{drop_all, nil_from_length}
use Rattle.base_values.specs.declared.kind.Kind.{Kind}
use Rattle.base_values.specs.declared.value.Value.{Value}
use Rattle.base_values.specs.declared.unfit.Unfit.{Unfit}
use Rattle.base_values.specs.StoredValues.{stores}
use Rattle.base_values.specs.declared.gho_schema.schema.Column.{Column}
use Rattle.base_values.specs.declared.gho_schema.schema.Schema.{Schema}
use Rattle.base_values.specs.GhoSchema.Tables.{IsRow}
use Rattle.base_values.specs.declared.row_conversion.conversion_fault.UnfitAt.{UnfitAt}
use Rattle.base_values.specs.declared.row_conversion.map.MapColumn.{MapColumn}
use Rattle.base_values.specs.RowConversion.ConvertedRows.{source, value_first, converted_row_from, converted_row}
use Rattle.base_values.proofs.StoredValues.{keeps}
use Rattle.base_values.proofs.GhoSchema.Loops.{from_here}
use Rattle.server_model.specs.Checks.{beside, new_row, places_from, row_from}
use Rattle.proof_journals.specs.Ghost.Statements.{SameColumns}
use Rattle.proof_journals.proofs.Ghost.Texts.{Stand, is_here, not_here, same_number}

-- A CONVERTED ROW IS ONE OF THE COLUMNS

stored_again : (value stored : Value) (kind own : Kind) (nullable own_nullable : Bool) → own ≡ kind → own_nullable ≡ nullable → stores value kind nullable ≡ Ok stored → stores stored own own_nullable ≡ Ok stored
stored_again value stored kind own nullable own_nullable same same_nullable is = rw (same, same_nullable) (keeps value kind nullable stored is).again

is_row_from : (place : ℕ) (columns : List Column) (cs : List MapColumn) (row made : List Value) → SameColumns columns cs → converted_row_from place cs row ≡ Ok made → IsRow columns made
unfolding converted_row_from
is_row_from place [] [] row made same is = let none : [] ≡ made = cc in subst (IsRow []) none tt
is_row_from place [] (c ∷ cs) row made same is = absurd same
is_row_from place (column ∷ columns) [] row made same is = absurd same
is_row_from place (column ∷ columns) (c ∷ cs) row made same is = by (stores (source c.origin row) c.kind c.nullable) refl (converted_row_from (place + 1) cs row) (λ values there. is_row_from (place + 1) columns cs row values same.2 there) is
  where
    by : (stored : Result Value Unfit) → stores (source c.origin row) c.kind c.nullable ≡ stored → (others : Result (List Value) UnfitAt) → ((values : List Value) → others ≡ Ok values → IsRow columns values) → value_first place stored others ≡ Ok made → IsRow (column ∷ columns) made
    by (Err reason) here others rest is = absurd cc
    by (Ok value) here (Err at) rest is = absurd cc
    by (Ok value) here (Ok values) rest is =
        let both : value ∷ values ≡ made = cc in
        let first : stores value column.kind column.nullable ≡ Ok value = stored_again (source c.origin row) value c.kind column.kind c.nullable column.nullable same.0 same.1 here in
        subst (IsRow (column ∷ columns)) both (first, rest values refl)

pub converted_row_is_row : (columns : List Column) (map : List MapColumn) (row made : List Value) → converted_row map row ≡ Ok made → SameColumns columns map → IsRow columns made
converted_row_is_row columns map row made is same = is_row_from 0 columns map row made same is

-- A ROW OF THE COLUMNS IS STORED AS IT IS

row_kept : (place : ℕ) (columns : List Column) (made : List Value) (places : List ℕ) (values : List Value) → IsRow columns made → Stand place places values made → row_from place columns places values ≡ Ok made
unfolding row_from
row_kept place [] [] places values is stand = refl
row_kept place [] (v ∷ made) places values is stand = absurd is
row_kept place (column ∷ columns) [] places values is stand = absurd is
row_kept place (column ∷ columns) (v ∷ made) places values is stand =
    let zero_more : place + 0 ≡ place = omega arith in
    let here : beside place places values ≡ Some v = ap (λ (n : ℕ). beside n places values) (sym zero_more) ∙ stand 0 in
    let rest : row_from (place + 1) columns places values ≡ Ok made =
    row_kept (place + 1) columns made places values is.1 (λ j. let e : (place + 1) + j ≡ place + (suc j) = omega arith in ap (λ (n : ℕ). beside n places values) e ∙ stand (suc j)) in
    rw (here, is.0, rest) refl

stand_all : (place : ℕ) (columns : List Column) (made : List Value) → IsRow columns made → Stand place (places_from place columns) made made
unfolding beside
stand_all place [] [] is j = refl
stand_all place [] (v ∷ made) is j = absurd is
stand_all place (column ∷ columns) [] is j = absurd is
stand_all place (column ∷ columns) (v ∷ made) is zero = rw (is_here place) refl
stand_all place (column ∷ columns) (v ∷ made) is (suc j) =
    rw (not_here place j) (let e : place + (suc j) ≡ (place + 1) + j = omega arith in ap (λ (n : ℕ). beside n (places_from (place + 1) columns) made) e ∙ stand_all (place + 1) columns made is.1 j)

length_row : (place : ℕ) (columns : List Column) (made : List Value) → IsRow columns made → length (places_from place columns) ≡ length made
length_row place [] [] is = refl
length_row place [] (v ∷ made) is = absurd is
length_row place (column ∷ columns) [] is = absurd is
length_row place (column ∷ columns) (v ∷ made) is = ap suc (length_row (place + 1) columns made is.1)

pub new_row_kept : (schema : Schema) (made : List Value) → IsRow schema.columns made → new_row schema None made ≡ Ok made
unfolding new_row
new_row_kept schema made is =
    let long : (length (places_from 0 schema.columns) == length made) ≡ true = ap (λ (n : ℕ). n == length made) (length_row 0 schema.columns made is) ∙ same_number (length made) in
    rw long (row_kept 0 schema.columns made (places_from 0 schema.columns) made is (stand_all 0 schema.columns made is))

-- THE COLUMNS ONE BY ONE

-- the columns that are left are the map's that are left just where all are
abbrev pub Left : Type 0 → List Column → List MapColumn → Type 0
Left All rest map = SameColumns rest map ↔ All

left_here : (All : Type 0) (rest columns : List Column) (map : List MapColumn) (i : ℕ) (new : MapColumn) → i < length map → new ≡ get_or map i new → rest ≡ columns → Left All rest (drop i map) → Left All columns (new ∷ drop (i + 1) map)
left_here All rest columns map i new lt is front left = subst (λ (cs : List MapColumn). Left All columns cs) (from_here map i new lt is) (subst (λ (own : List Column). Left All own (drop i map)) front left)

pub left_next : (All : Type 0) (rest others : List Column) (column : Column) (map : List MapColumn) (i : ℕ) (new : MapColumn) → i < length map → new ≡ get_or map i new → rest ≡ column ∷ others
    → (column.kind ≡ new.kind) × (column.nullable ≡ new.nullable) → Left All rest (drop i map) → Left All others (drop (i + 1) map)
left_next All rest others column map i new lt is front same left =
    let here : Left All (column ∷ others) (new ∷ drop (i + 1) map) = left_here All rest (column ∷ others) map i new lt is front left in
    (λ next. here.0 (same.0, same.1, next), λ all. (here.1 all).2)

pub left_differs : (All : Type 0) (rest others : List Column) (column : Column) (map : List MapColumn) (i : ℕ) (new : MapColumn) → i < length map → new ≡ get_or map i new → rest ≡ column ∷ others
    → Left All rest (drop i map) → All → (column.kind ≡ new.kind) × (column.nullable ≡ new.nullable)
left_differs All rest others column map i new lt is front left all =
    let same : SameColumns (column ∷ others) (new ∷ drop (i + 1) map) = (left_here All rest (column ∷ others) map i new lt is front left).1 all in
    (same.0, same.1)

pub left_short : (All : Type 0) (rest : List Column) (map : List MapColumn) (i : ℕ) (new : MapColumn) → i < length map → new ≡ get_or map i new → rest ≡ [] → Left All rest (drop i map) → All → ⊥
left_short All rest map i new lt is none left all = (left_here All rest [] map i new lt is none left).1 all

pub left_none : (All : Type 0) (rest : List Column) (map : List MapColumn) (i : ℕ) → length map ≤ i → Left All rest (drop i map) → IsTrue (length rest == 0) ↔ All
left_none All rest map i le left = by rest (subst (λ (cs : List MapColumn). Left All rest cs) (drop_all i map le) left)
  where
    by : (rest : List Column) → Left All rest [] → IsTrue (length rest == 0) ↔ All
    by [] left = (λ none. left.0 tt, λ all. refl)
    by (column ∷ rest) left = (λ long. let none : column ∷ rest ≡ [] = nil_from_length (column ∷ rest) (eqb-true (length (column ∷ rest)) 0 long) in absurd cc, λ all. absurd (left.1 all))
