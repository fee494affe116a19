-- The image of a row has the row's values in the columns of unique keys.
use Rattle.std.proofs.Common.{◌≡◌, ℕ, zero, suc, ◌+◌, Bool, true, false, cond, List, [], ◌∷◌, length, Option, Some, None, Result, Ok, Err, unwrap_or, refl, sym, ap, subst, ◌∙◌}
use Rattle.std.specs.Prelude.{ℤ, int_le, nat_le, ◌&&◌}
use Rattle.std.specs.Fmt.{signed_decimal}
use Rattle.std.specs.List.{slice_get}
use Rattle.base_values.specs.declared.unfit.Unfit.{Unfit}
use Rattle.base_values.specs.declared.unfit.Unfit.TheVariants as unfit
use Rattle.base_values.specs.declared.kind.Kind.{Kind}
use Rattle.base_values.specs.declared.kind.Kind.TheVariants.{Int, VarChar, VarBinary}
use Rattle.base_values.specs.declared.value.Value.{Value}
use Rattle.base_values.specs.declared.value.Value.TheVariants.{Null, Num, Text, Blob}
use Rattle.base_values.specs.StoredValues.{lowest, highest, character_count, text_number, in_range, text_within, bytes_within, as_number, stores}
use Rattle.base_values.specs.declared.gho_schema.schema.Column.{Column}
use Rattle.base_values.specs.declared.gho_schema.schema.Schema.{Schema}
use Rattle.base_values.specs.GhoSchema.Rows.{key_of}
use Rattle.base_values.specs.GhoSchema.Tables.{IsRow}
use Rattle.base_values.specs.declared.row_conversion.conversion_fault.UnfitAt.{UnfitAt}
use Rattle.base_values.specs.declared.row_conversion.map.MapColumn.{MapColumn}
use Rattle.base_values.specs.declared.row_conversion.map.Origin.TheVariants.{Old}
use Rattle.base_values.specs.RowConversion.ConvertedRows.{source, before, value_first, converted_row_from, converted_row}
use Rattle.sql_change.specs.declared.so_far.AlteredSoFar.{AlteredSoFar}
use Rattle.sql_change.specs.AlteredSchema.{map_of}
use Rattle.sql_change.specs.Columns.{is_key_conversion}
use Rattle.proof_schemas.proofs.Alters.Traces.{SamePlace, SamePlaces}

-- ---- values of one sort are stored as they are

abbrev stored : Value → Result Value Unfit
stored v = Ok v

stored-is : (a b : Value) → stored a ≡ stored b → a ≡ b
stored-is a b e = cc

if_stored : (b : Bool) (a w : Value) (u : Unfit) → cond b (Ok a) (Err u) ≡ Ok w → a ≡ w
if_stored true a w u e = stored-is a w e
if_stored false a w u e = absurd cc

in_range-is : (bytes : ℕ) (unsigned : Bool) (n : ℤ) (w : Value) → in_range bytes unsigned n ≡ Ok w → Num n ≡ w
unfolding in_range
in_range-is bytes unsigned n w e = if_stored (int_le (lowest bytes unsigned) n && int_le n (highest bytes unsigned)) (Num n) w unfit.Range e

text_within-is : (limit : ℕ) (text : List ℕ) (w : Value) → text_within limit text ≡ Ok w → Text text ≡ w
unfolding text_within
text_within-is limit text w e = if_stored (nat_le (character_count text) limit) (Text text) w unfit.Length e

bytes_within-is : (limit : ℕ) (bytes : List ℕ) (w : Value) → bytes_within limit bytes ≡ Ok w → Blob bytes ≡ w
unfolding bytes_within
bytes_within-is limit bytes w e = if_stored (nat_le (length bytes) limit) (Blob bytes) w unfit.Length e

as_number-is : (bytes : ℕ) (unsigned : Bool) (o : Option ℤ) (w : Value) → as_number (in_range bytes unsigned) o ≡ Ok w → (n : ℤ) × (Num n ≡ w)
as_number-is bytes unsigned None w e = absurd cc
as_number-is bytes unsigned (Some n) w e = (n, in_range-is bytes unsigned n w e)

null-is : (nullable : Bool) (w : Value) → cond nullable (Ok Null) (Err unfit.Null) ≡ Ok w → Null ≡ w
null-is nullable w e = if_stored nullable Null w unfit.Null e

num_text : (n : ℤ) (t : List ℕ) → Num n ≡ Text t → ⊥
num_text n t e = absurd cc

num_blob : (n : ℤ) (b : List ℕ) → Num n ≡ Blob b → ⊥
num_blob n b e = absurd cc

text_blob : (t b : List ℕ) → Text t ≡ Blob b → ⊥
text_blob t b e = absurd cc

-- what one column stores as itself, another of its sort stores as itself, if at all
same_value : (v w : Value) (kind new : Kind) (nullable also : Bool) → stores v kind nullable ≡ Ok v → is_key_conversion kind new ≡ true → stores v new also ≡ Ok w → v ≡ w
unfolding stores
same_value Null w kind new nullable also own sort e = null-is also w e
same_value (Num n) w (Int b u) (Int c v) nullable also own sort e = in_range-is c v n w e
same_value (Text t) w (Int b u) (Int c v) nullable also own sort e = let n = as_number-is b u (text_number t) (Text t) own in absurd (num_text n.0 t n.1)
same_value (Blob x) w (Int b u) (Int c v) nullable also own sort e = absurd cc
same_value (Num n) w (VarChar i) (VarChar j) nullable also own sort e = absurd (num_text n (signed_decimal n) (sym (text_within-is i (signed_decimal n) (Num n) own)))
same_value (Text t) w (VarChar i) (VarChar j) nullable also own sort e = text_within-is j t w e
same_value (Blob x) w (VarChar i) (VarChar j) nullable also own sort e = absurd cc
same_value (Num n) w (VarBinary i) (VarBinary j) nullable also own sort e = absurd (num_blob n (signed_decimal n) (sym (bytes_within-is i (signed_decimal n) (Num n) own)))
same_value (Text t) w (VarBinary i) (VarBinary j) nullable also own sort e = absurd (text_blob t t (sym (bytes_within-is i t (Text t) own)))
same_value (Blob x) w (VarBinary i) (VarBinary j) nullable also own sort e = bytes_within-is j x w e
same_value (Num n) w (Int b u) (VarChar j) nullable also own sort e = absurd cc
same_value (Text t) w (Int b u) (VarChar j) nullable also own sort e = absurd cc
same_value (Blob x) w (Int b u) (VarChar j) nullable also own sort e = absurd cc
same_value (Num n) w (Int b u) (VarBinary j) nullable also own sort e = absurd cc
same_value (Text t) w (Int b u) (VarBinary j) nullable also own sort e = absurd cc
same_value (Blob x) w (Int b u) (VarBinary j) nullable also own sort e = absurd cc
same_value (Num n) w (VarChar i) (Int c v) nullable also own sort e = absurd cc
same_value (Text t) w (VarChar i) (Int c v) nullable also own sort e = absurd cc
same_value (Blob x) w (VarChar i) (Int c v) nullable also own sort e = absurd cc
same_value (Num n) w (VarChar i) (VarBinary j) nullable also own sort e = absurd cc
same_value (Text t) w (VarChar i) (VarBinary j) nullable also own sort e = absurd cc
same_value (Blob x) w (VarChar i) (VarBinary j) nullable also own sort e = absurd cc
same_value (Num n) w (VarBinary i) (Int c v) nullable also own sort e = absurd cc
same_value (Text t) w (VarBinary i) (Int c v) nullable also own sort e = absurd cc
same_value (Blob x) w (VarBinary i) (Int c v) nullable also own sort e = absurd cc
same_value (Num n) w (VarBinary i) (VarChar j) nullable also own sort e = absurd cc
same_value (Text t) w (VarBinary i) (VarChar j) nullable also own sort e = absurd cc
same_value (Blob x) w (VarBinary i) (VarChar j) nullable also own sort e = absurd cc

-- ---- images by place

abbrev made_of : List Value → Result (List Value) UnfitAt
made_of vs = Ok vs

pub made-is : (a b : List Value) → made_of a ≡ made_of b → a ≡ b
made-is a b e = cc

-- the first value of an image and the others
pub record Front (s : Result Value Unfit) (o : Result (List Value) UnfitAt) (made : List Value) : Type 0 where
  pub first : Value
  pub others : List Value
  pub stores_first : s ≡ Ok first
  pub rest : o ≡ Ok others
  pub is : first ∷ others ≡ made

pub front-of : (column : ℕ) (s : Result Value Unfit) (o : Result (List Value) UnfitAt) (made : List Value) → value_first column s o ≡ Ok made → Front s o made
front-of column (Ok v) (Ok vs) made e = record { first = v; others = vs; stores_first = refl; rest = refl; is = made-is (v ∷ vs) made e }
front-of column (Ok v) (Err u) made e = absurd cc
front-of column (Err r) o made e = absurd cc

-- what the image has at a place
pub record ConvertedRowAt (new : MapColumn) (row made : List Value) (place : ℕ) : Type 0 where
  pub value : Value
  pub here : slice_get made place ≡ Some value
  pub stores_it : stores (source new.origin row) new.kind new.nullable ≡ Ok value

abbrev some_column : MapColumn → Option MapColumn
some_column c = Some c

map_column-is : (a b : MapColumn) → some_column a ≡ some_column b → a ≡ b
map_column-is a b e = cc

converted_row-at : (map : List MapColumn) (row made : List Value) (column place : ℕ) (new : MapColumn) → converted_row_from column map row ≡ Ok made → slice_get map place ≡ Some new → ConvertedRowAt new row made place
unfolding converted_row_from
converted_row-at [] row made column place new e at = absurd cc
converted_row-at (m ∷ map) row made column zero new e at =
    let f = front-of column (stores (source m.origin row) m.kind m.nullable) (converted_row_from (column + 1) map row) made e in
    let same : m ≡ new = map_column-is m new at in
    subst (λ (n : MapColumn). ConvertedRowAt n row made zero) same (record { value = f.first; here = ap (λ (vs : List Value). slice_get vs 0) (sym f.is); stores_it = f.stores_first })
converted_row-at (m ∷ map) row made column (suc place) new e at =
    let f = front-of column (stores (source m.origin row) m.kind m.nullable) (converted_row_from (column + 1) map row) made e in
    let later = converted_row-at map row f.others (column + 1) place new f.rest at in
    record { value = later.value; here = ap (λ (vs : List Value). slice_get vs (suc place)) (sym f.is) ∙ later.here; stores_it = later.stores_it }

-- what a row has at a place
pub record RowAt (column : Column) (row : List Value) (place : ℕ) : Type 0 where
  pub value : Value
  pub here : slice_get row place ≡ Some value
  pub stores_it : stores value column.kind column.nullable ≡ Ok value

abbrev some_old : Column → Option Column
some_old c = Some c

old-is : (a b : Column) → some_old a ≡ some_old b → a ≡ b
old-is a b e = cc

row-at : (columns : List Column) (row : List Value) (place : ℕ) (column : Column) → IsRow columns row → slice_get columns place ≡ Some column → RowAt column row place
row-at [] row place column is at = absurd cc
row-at (c ∷ columns) [] place column is at = absurd is
row-at (c ∷ columns) (v ∷ row) zero column is at = let same : c ≡ column = old-is c column at in subst (λ (x : Column). RowAt x (v ∷ row) zero) same (record { value = v; here = refl; stores_it = is.0 })
row-at (c ∷ columns) (v ∷ row) (suc place) column is at = let later = row-at columns row place column is.1 at in record { value = later.value; here = later.here; stores_it = later.stores_it }

-- the map at a place of a column that was there
pub map-at : (columns : List Column) (origins : List (Option ℕ)) (place before : ℕ) (column : Column) → slice_get columns place ≡ Some column → slice_get origins place ≡ Some (Some before) → slice_get (map_of columns origins) place ≡ Some (record { kind = column.kind; nullable = column.nullable; origin = Old before })
unfolding map_of
map-at [] origins place before column at from = absurd cc
map-at (c ∷ columns) [] place before column at from = absurd cc
map-at (c ∷ columns) (Some o ∷ origins) zero before column at from =
    let same : c ≡ column = old-is c column at in
    let there : o ≡ before = cc in
    ap (λ (x : Column). Some (record { kind = x.kind; nullable = x.nullable; origin = Old o })) same ∙ ap (λ (n : ℕ). Some (record { kind = column.kind; nullable = column.nullable; origin = Old n })) there
map-at (c ∷ columns) (None ∷ origins) zero before column at from = absurd cc
map-at (c ∷ columns) (o ∷ origins) (suc place) before column at from = map-at columns origins place before column at from

-- ---- keys

module _ (old : Schema) (standing : AlteredSoFar) (row made : List Value) (is : IsRow old.columns row) (e : converted_row (map_of standing.schema.columns standing.origins) row ≡ Ok made) where
  value-same : (place before : ℕ) → SamePlace old standing place before → slice_get made place ≡ slice_get row before
  value-same place before same =
      let there = row-at old.columns row before same.source is same.there in
      let new : MapColumn = record { kind = same.column.kind; nullable = same.column.nullable; origin = Old before } in
      let here = converted_row-at (map_of standing.schema.columns standing.origins) row made 0 place new e (map-at standing.schema.columns standing.origins place before same.column same.here same.origin) in
      let from : source (Old before) row ≡ there.value = ap (λ (o : Option Value). unwrap_or o Null) there.here in
      let value : there.value ≡ here.value = same_value there.value here.value same.source.kind same.column.kind same.source.nullable same.column.nullable there.stores_it same.sort (subst (λ (v : Value). stores v same.column.kind same.column.nullable ≡ Ok here.value) from here.stores_it) in
      here.here ∙ ap (λ (v : Value). Some v) (sym value) ∙ sym there.here

  pub key-same : (places others : List ℕ) → SamePlaces old standing places others → key_of places made ≡ key_of others row
  unfolding key_of
  key-same [] [] same = refl
  key-same [] (q ∷ qs) same = absurd same
  key-same (p ∷ ps) [] same = absurd same
  key-same (p ∷ ps) (q ∷ qs) same = rw (value-same p q same.0, key-same ps qs same.1) refl
