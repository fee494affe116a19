-- The clustered keys of a table's rows are of its kinds; and so are the keys that the server answers.
use Rattle.std.proofs.Common.{◌≡◌, ◌≤◌, ℕ, zero, suc, ◌-◌, Bool, true, false, cond, ◌&&◌, List, [], ◌∷◌, take, length, Option, Some, None, Ok, Err, refl, subst, arith}
use Rattle.std.specs.Prelude.{nat_lt, nat_le, int_le, unwrap_or}
use Rattle.std.specs.List.{AllByRecursion, slice_get, flat_map}
use Rattle.std.specs.Fmt.{signed_decimal}
use Rattle.std.proofs.lemmas.Bool.{false≢true, not-true}
use Rattle.std.proofs.lemmas.Bool.Decides.{nat_tests}
use Rattle.base_values.specs.declared.kind.Kind.{Kind}
use Rattle.base_values.specs.declared.kind.Kind.TheVariants.{Int, VarChar, VarBinary}
use Rattle.base_values.specs.declared.value.Value.{Value}
use Rattle.base_values.specs.declared.value.Value.TheVariants.{Null, Num, Text, Blob}
use Rattle.base_values.specs.declared.span.Bound.{Bound}
use Rattle.base_values.specs.declared.span.Bound.TheVariants.{Closed}
use Rattle.base_values.specs.declared.span.Span.{Span}
use Rattle.base_values.specs.Spans.{has}
use Rattle.base_values.specs.StoredValues.{IsOfKind, AreOfKinds, stores, in_range, text_within, bytes_within, text_number, as_number, lowest, highest, character_count}
use Rattle.base_values.specs.declared.gho_schema.schema.Column.{Column}
use Rattle.base_values.specs.declared.gho_schema.schema.Schema.{Schema}
use Rattle.base_values.specs.GhoSchema.ClusteredKey.{is_not_null}
use Rattle.base_values.specs.GhoSchema.Rows.{key_of, key_places}
use Rattle.base_values.specs.GhoSchema.Tables.{IsRow}
use Rattle.table_store.specs.Databases.{TableRows, rows_in}
use Rattle.table_store.proofs.Ascending.{all-filter}
use Rattle.server_model.specs.Chunks.{keys_of, keys_in, last_of, chunk_end, end_key}
use Rattle.server_model.specs.Conditions.{kind_in, key_kinds}
use Rattle.server_model.specs.LockedRows.Coverage.{IsWellFormedTable}

-- A VALUE

abbrev Row : Type 0
Row = List Value

num_in : (b : Bool) (n : _) (value : Value) → cond b (Ok (Num n)) (Err Rattle.base_values.specs.declared.unfit.Unfit.TheVariants.Range) ≡ Ok value → Num n ≡ value
num_in true n value is = cc
num_in false n value is = absurd cc

text_in : (b : Bool) (text : List ℕ) (value : Value) → cond b (Ok (Text text)) (Err Rattle.base_values.specs.declared.unfit.Unfit.TheVariants.Length) ≡ Ok value → Text text ≡ value
text_in true text value is = cc
text_in false text value is = absurd cc

blob_in : (b : Bool) (blob : List ℕ) (value : Value) → cond b (Ok (Blob blob)) (Err Rattle.base_values.specs.declared.unfit.Unfit.TheVariants.Length) ≡ Ok value → Blob blob ≡ value
blob_in true blob value is = cc
blob_in false blob value is = absurd cc

-- what a column that may not be null stores as it is, is of its kind
stored_kind : (value : Value) (kind : Kind) → stores value kind false ≡ Ok value → IsOfKind value kind
unfolding stores in_range text_within bytes_within
stored_kind Null kind is = absurd cc
stored_kind (Num n) (Int bytes unsigned) is = tt
stored_kind (Num n) (VarChar limit) is = absurd (no (text_in (nat_le (character_count (signed_decimal n)) limit) (signed_decimal n) (Num n) is)) where
  no : Text (signed_decimal n) ≡ Num n → ⊥
  no same = cc
stored_kind (Num n) (VarBinary limit) is = absurd (no (blob_in (nat_le (length (signed_decimal n)) limit) (signed_decimal n) (Num n) is)) where
  no : Blob (signed_decimal n) ≡ Num n → ⊥
  no same = cc
stored_kind (Text text) (VarChar limit) is = tt
stored_kind (Text text) (Int bytes unsigned) is = by (text_number text) is where
  by : (number : Option _) → as_number (in_range bytes unsigned) number ≡ Ok (Text text) → IsOfKind (Text text) (Int bytes unsigned)
  by None is = absurd cc
  by (Some n) is = absurd (no (num_in (int_le (lowest bytes unsigned) n && int_le n (highest bytes unsigned)) n (Text text) is)) where
    no : Num n ≡ Text text → ⊥
    no same = cc
stored_kind (Text text) (VarBinary limit) is = absurd (no (blob_in (nat_le (length text) limit) text (Text text) is)) where
  no : Blob text ≡ Text text → ⊥
  no same = cc
stored_kind (Blob blob) (VarBinary limit) is = tt
stored_kind (Blob blob) (Int bytes unsigned) is = absurd cc
stored_kind (Blob blob) (VarChar limit) is = absurd cc

-- A KEY

-- the value of a column that may not be null
value_kind : (columns : List Column) (row : Row) (place : ℕ) (P : Type 0) → IsRow columns row → is_not_null (slice_get columns place) ≡ true → ((column : Column) (value : Value) → slice_get columns place ≡ Some column → slice_get row place ≡ Some value → IsOfKind value column.kind → P) → P
value_kind [] row place P fits not_null then = absurd (false≢true not_null)
value_kind (column ∷ columns) [] place P fits not_null then = absurd fits
value_kind (column ∷ columns) (value ∷ row) zero P fits not_null then = then column value refl refl (stored_kind value column.kind (subst (λ (b : Bool). stores value column.kind b ≡ Ok value) (not-true column.nullable not_null) fits.0))
value_kind (column ∷ columns) (value ∷ row) (suc place) P fits not_null then = value_kind columns row place P fits.1 not_null then

key_typed : (columns : List Column) (row : Row) (places : List ℕ) → IsRow columns row → AllByRecursion (λ place. is_not_null (slice_get columns place) ≡ true) places → AreOfKinds (key_of places row) (flat_map (λ place. kind_in (slice_get columns place)) places)
unfolding key_of
key_typed columns row [] fits all = tt
key_typed columns row (place ∷ places) fits all =
    value_kind columns row place _ fits all.0
    (λ column value there here kind. rw (there, here) (kind, key_typed columns row places fits all.1))

-- all keys of rows
abbrev pub AreKeys : Schema → List (List Value) → Type 0
AreKeys schema keys = AllByRecursion (λ key. AreOfKinds key (key_kinds schema)) keys

keys_typed : (schema : Schema) (rows : List Row) → AllByRecursion (λ place. is_not_null (slice_get schema.columns place) ≡ true) (key_places schema) → AllByRecursion (IsRow schema.columns) rows → AreKeys schema (keys_of (key_places schema) rows)
keys_typed schema [] not_null all = tt
keys_typed schema (row ∷ rows) not_null all = (key_typed schema.columns row (key_places schema) all.0 not_null, keys_typed schema rows not_null all.1)

pub table_keys : (table : TableRows) → IsWellFormedTable table → AreKeys table.schema (keys_of (key_places table.schema) table.rows)
table_keys table is = keys_typed table.schema table.rows is.keyed.not_null is.is_table.rows_fit

pub span_typed : (table : TableRows) (span : Span) → IsWellFormedTable table → AreKeys table.schema (keys_in span table)
span_typed table span is = keys_typed table.schema (rows_in table span) is.keyed.not_null (all-filter (IsRow table.schema.columns) (λ row. has span (key_of (key_places table.schema) row)) table.rows is.is_table.rows_fit)

-- SOME OF THEM

pub last_typed : (schema : Schema) (key : List Value) (keys : List (List Value)) → AreOfKinds key (key_kinds schema) → AreKeys schema keys → AreOfKinds (last_of key keys) (key_kinds schema)
last_typed schema key [] is all = is
last_typed schema key (next ∷ keys) is all = last_typed schema next keys all.0 all.1

take_typed : (schema : Schema) (count : ℕ) (keys : List (List Value)) → AreKeys schema keys → AreKeys schema (take count keys)
take_typed schema zero keys all = tt
take_typed schema (suc count) [] all = tt
take_typed schema (suc count) (key ∷ keys) all = (all.0, take_typed schema count keys all.1)

slice_typed : (schema : Schema) (keys : List (List Value)) (place : ℕ) (top : List Value) → AreKeys schema keys → AreOfKinds top (key_kinds schema) → AreOfKinds (unwrap_or (slice_get keys place) top) (key_kinds schema)
slice_typed schema [] place top all is = is
slice_typed schema (key ∷ keys) zero top all is = all.0
slice_typed schema (key ∷ keys) (suc place) top all is = slice_typed schema keys place top all.1 is

pub end_typed : (table : TableRows) (low : Bound) (top : List Value) (size : ℕ) → IsWellFormedTable table → AreOfKinds top (key_kinds table.schema) → AreOfKinds (chunk_end low top size table) (key_kinds table.schema)
unfolding chunk_end
end_typed table low top size is typed = slice_typed table.schema (keys_in (record { low = low; high = Closed top }) table) (size - 1) top (span_typed table (record { low = low; high = Closed top }) is) typed

-- a chunk's keys, and its end
pub first_typed : (table : TableRows) (span : Span) (size : ℕ) → IsWellFormedTable table → AreKeys table.schema (take size (keys_in span table))
first_typed table span size is = take_typed table.schema size (keys_in span table) (span_typed table span is)

last_first : (schema : Schema) (size : ℕ) (keys : List (List Value)) → 1 ≤ size → nat_lt size (length keys) ≡ true → AreKeys schema keys → AreOfKinds (last_of [] (take size keys)) (key_kinds schema)
last_first schema zero keys some more all = absurd (omega (arith, some))
last_first schema (suc size) [] some more all = absurd (grind (arith, nat_tests, more))
last_first schema (suc size) (key ∷ keys) some more all = last_typed schema key (take size keys) all.0 (take_typed schema size keys all.1)

pub chunk_typed : (table : TableRows) (span : Span) (size : ℕ) → IsWellFormedTable table → 1 ≤ size → AreOfKinds (end_key span.high) (key_kinds table.schema)
    → AreOfKinds (cond (nat_lt size (length (keys_in span table))) (last_of [] (take size (keys_in span table))) (end_key span.high)) (key_kinds table.schema)
chunk_typed table span size is some high = by (nat_lt size (length (keys_in span table))) refl where
  by : (b : Bool) → nat_lt size (length (keys_in span table)) ≡ b → AreOfKinds (cond b (last_of [] (take size (keys_in span table))) (end_key span.high)) (key_kinds table.schema)
  by true more = last_first table.schema size (keys_in span table) some more (span_typed table span is)
  by false all = high
