-- Every schema that is read of a text can be printed.
use Rattle.std.proofs.Common.{◌≡◌, ℕ, zero, suc, ◌+◌, ◌-◌, ◌*◌, ◌/◌, ◌%◌, ◌^◌, ◌<◌, ◌≤◌, Bool, true, false, not, ◌&&◌, cond, eqb, List, [], ◌∷◌, ◌++◌, length, Option, Some, None, unwrap_or, Result, Ok, Err, refl, subst, map, arith, lit<, codes}
use Rattle.std.specs.Prelude.{ℤ, pos, negsuc, neg_ℤ, int_le, unsigned_abs, filter, find, is_none, is_some, position}
use Rattle.std.specs.Fmt.{digit_glyph, digits_onto, digits, decimal, signed_decimal}
use Rattle.std.specs.List.{AllByRecursion}
use Rattle.std.proofs.lemmas.Bool.Decides.{nat_tests}
use Rattle.base_values.specs.declared.unfit.Unfit.{Unfit}
use Rattle.base_values.specs.declared.kind.Kind.{Kind}
use Rattle.base_values.specs.declared.kind.Kind.TheVariants.{Int, VarChar, VarBinary}
use Rattle.base_values.specs.declared.value.Value.{Value}
use Rattle.base_values.specs.declared.value.Value.TheVariants.{Null, Num, Text, Blob}
use Rattle.base_values.specs.Laws.{StoresAgain}
use Rattle.base_values.specs.StoredValues.{half, lowest, highest, in_range, text_within, bytes_within, as_number, text_number, stores}
use Rattle.base_values.specs.declared.gho_schema.schema.Column.{Column}
use Rattle.base_values.specs.declared.gho_schema.schema.Index.{Index}
use Rattle.base_values.specs.declared.gho_schema.schema.Schema.{Schema}
use Rattle.base_values.specs.GhoSchema.Names.{same_name}
use Rattle.sql_grammar.specs.declared.code.SchemaCode.{SchemaCode}
use Rattle.sql_grammar.specs.declared.code.SchemaCode.TheVariants.{NoClusteredKey, BadDefault}
use Rattle.base_values.specs.SchemaRules.Results.{◌>>=◌}
use Rattle.sql_grammar.specs.Tokens.{text_words}
use Rattle.sql_create.specs.declared.keys.NamedKeys.{NamedKeys}
use Rattle.sql_create.specs.declared.parts.Parts.{Parts}
use Rattle.sql_create.specs.declared.written.Item.{Item}
use Rattle.sql_create.specs.declared.written.Item.TheVariants as items
use Rattle.sql_create.specs.declared.written.WrittenColumn.{WrittenColumn}
use Rattle.sql_create.specs.declared.written.WrittenKey.{WrittenKey}
use Rattle.base_values.specs.GhoSchema.ClusteredKey.{clustered_place}
use Rattle.base_values.specs.SchemaRules.Reasons.{first_reason}
use Rattle.sql_create.specs.DeclaredSchema.{column_names, size_reasons, name_reasons, nullable_of, declared_column, declared_columns, primary_index, key_index, schema_of, clustered, keyed, built, declared_parts, declared}
use Rattle.sql_create.specs.declared.written.TableOptions.{TableOptions}
use Rattle.sql_create.specs.AutoColumn.{started, counting}
use Rattle.base_values.specs.GhoSchema.AutoIncrement.{auto_place}
use Rattle.base_values.specs.SchemaRules.Defaults.{stored, stored_default, defaults_fit, default_or}
use Rattle.base_values.specs.SchemaRules.Names.{is_among, spelled, numbered, first_free, first_column}
use Rattle.sql_create.specs.Keys.{key_name, no_keys, with_key, named_keys}
use Rattle.base_values.specs.SchemaRules.Valid.{is_kind, StoresDefault, IsColumn}
use Rattle.sql_create.specs.Parts.{no_parts, own_key, with_item, parts_of}
use Rattle.sql_create.specs.CreateText.{schema_at}
use Rattle.sql_create.specs.Written.{written}
use Rattle.proof_schemas.proofs.Autos.{is_auto}
use Rattle.proof_schemas.proofs.Columns.{made}
use Rattle.proof_schemas.proofs.Counters.{counted}
use Rattle.base_values.proofs.SchemaRules.Lists.{All-append, All-at, All-filter, All-map, All-weaker, fold-keeps, position-found}
use Rattle.base_values.proofs.SchemaRules.Steps.{bind_ok, unless_ok, ok_is, default_is}
use Rattle.proof_schemas.proofs.Valid.{read-valid}
use Rattle.proof_schemas.specs.Printed.Laws.{CanQuote, CanQuoteKey, CanPrintKind, CanPrintDefault, CanPrintColumn, CanPrintStart, MayCountIn, FitsVersion}
use Rattle.proof_schemas.specs.ReadAgain.{MayStart, ReadSchemasCanPrint, ReadSchemasAreReadAgain}
use Rattle.proof_schemas.proofs.ReadAgain.Reread.{printed-again}
use Rattle.proof_schemas.proofs.ReadAgain.ReadDeclared.{read-declared}
use Rattle.proof_schemas.proofs.ReadAgain.Sound.{AreBytes, text-sound}
use Rattle.proof_schemas.proofs.ReadAgain.SoundValues.{SoundValue}
use Rattle.proof_schemas.proofs.ReadAgain.SoundReaders.{AreNames, SoundName, SoundKey}
use Rattle.proof_schemas.proofs.ReadAgain.SoundTables.{SoundDefault, SoundColumn, SoundItem, written-sound}
use Rattle.std.proofs.lemmas.Bool.{and_parts, leb-true}

-- ---- decimal digits

glyph-small : (d : ℕ) → digit_glyph false (d % 10) < 256
glyph-small d = grind (arith, nat_tests)

glyph-plain : (d : ℕ) → eqb (digit_glyph false (d % 10)) 96 ≡ false
glyph-plain d = grind (arith, nat_tests)

onto-by : (P : ℕ → Type 0) (b : Bool) (x y : List ℕ) → AllByRecursion P x → AllByRecursion P y → AllByRecursion P (cond b x y)
onto-by P true x y first second = first
onto-by P false x y first second = second

module _ (P : ℕ → Type 0) (each : (d : ℕ) → P (digit_glyph false (d % 10))) where
  onto-all : (k n : ℕ) (digits : List ℕ) → AllByRecursion P digits → AllByRecursion P (digits_onto k 10 false n digits)
  onto-all zero n digits all = all
  onto-all (suc k) n digits all = onto-by P (eqb (n / 10) 0) _ _ (each n, all) (onto-all k (n / 10) (digit_glyph false (n % 10) ∷ digits) (each n, all))

  decimal-all : (n : ℕ) → AllByRecursion P (decimal n)
  unfolding digits
  decimal-all n = onto-all 64 n [] tt

decimal-bytes : (n : ℕ) → AreBytes (decimal n)
decimal-bytes n = decimal-all (λ b. b < 256) glyph-small n

decimal-plain : (n : ℕ) → CanQuote (decimal n)
decimal-plain n = decimal-all (λ b. eqb b 96 ≡ false) glyph-plain n

signed-bytes : (number : ℤ) → AreBytes (signed_decimal number)
signed-bytes (pos n) = decimal-bytes n
signed-bytes (negsuc n) = (omega arith, decimal-bytes (suc n))

-- ---- defaults

abbrev AllStored : Result Value Unfit → Type 0
AllStored r = (value : Value) → r ≡ Ok value → SoundValue value

stored-if : (b : Bool) (value : Value) (reason : Unfit) → SoundValue value → AllStored (cond b (Ok value) (Err reason))
stored-if true value reason sound other e = subst SoundValue (ok_is {C = Unfit} value other e) sound
stored-if false value reason sound other e = absurd cc

stored-number : (bytes : ℕ) (unsigned : Bool) (o : Option ℤ) → AllStored (as_number (in_range bytes unsigned) o)
unfolding in_range
stored-number bytes unsigned None = λ value e. absurd cc
stored-number bytes unsigned (Some n) = stored-if (int_le (lowest bytes unsigned) n && int_le n (highest bytes unsigned)) (Num n) _ tt

stores-sound : (value : Value) (kind : Kind) (nullable : Bool) → SoundValue value → AllStored (stores value kind nullable)
unfolding stores in_range text_within bytes_within
stores-sound Null kind nullable sound = stored-if nullable Null _ tt
stores-sound (Num n) (Int bytes unsigned) nullable sound = stored-if (int_le (lowest bytes unsigned) n && int_le n (highest bytes unsigned)) (Num n) _ tt
stores-sound (Text text) (Int bytes unsigned) nullable sound = stored-number bytes unsigned (text_number text)
stores-sound (Blob blob) (Int bytes unsigned) nullable sound = λ value e. absurd cc
stores-sound (Num n) (VarChar limit) nullable sound = stored-if _ (Text (signed_decimal n)) _ (signed-bytes n)
stores-sound (Text text) (VarChar limit) nullable sound = stored-if _ (Text text) _ sound
stores-sound (Blob blob) (VarChar limit) nullable sound = λ value e. absurd cc
stores-sound (Num n) (VarBinary limit) nullable sound = stored-if _ (Blob (signed_decimal n)) _ (signed-bytes n)
stores-sound (Text text) (VarBinary limit) nullable sound = stored-if _ (Blob text) _ sound
stores-sound (Blob blob) (VarBinary limit) nullable sound = stored-if _ (Blob blob) _ sound

stored-sound : (r : Result Value Unfit) (default : Option Value) → AllStored r → stored r ≡ Ok default → SoundDefault default
stored-sound (Ok value) default all e = subst SoundDefault (ok_is {C = Unfit} (Some value) default e) (all value refl)
stored-sound (Err reason) default all e = absurd cc

null-sound : (nullable : Bool) → SoundDefault (cond nullable (Some Null) None)
null-sound true = tt
null-sound false = tt

pub default-sound : (kind : Kind) (nullable : Bool) (written default : Option Value) → SoundDefault written → stored_default kind nullable written ≡ Ok default → SoundDefault default
default-sound kind nullable (Some value) default sound e = stored-sound (stores value kind nullable) default (stores-sound value kind nullable sound) e
default-sound kind nullable None default sound e = subst SoundDefault (ok_is {C = Unfit} (cond nullable (Some Null) None) default e) (null-sound nullable)

abbrev SoundMade : ℕ → Column → Type 0
SoundMade version column = CanQuote column.name × (SoundDefault column.default × MayCountIn version column.auto)

column-made : (version : ℕ) (primaries : List (List (List ℕ))) (written : WrittenColumn) (column : Column) → SoundColumn version written → declared_column primaries written ≡ Ok column → SoundMade version column
unfolding declared_column
column-made version primaries written column sound e =
    let nullable = nullable_of primaries written in
    let b = bind_ok (default_or BadDefault (stored_default written.kind nullable written.attributes.plain.default)) (λ default. Ok (made written.name written.kind nullable default written.attributes.plain.auto)) column e in
    let default = default-sound written.kind nullable written.attributes.plain.default b.0 sound.1.0 (default_is BadDefault _ b.0 b.1) in
    subst (SoundMade version) (ok_is {C = SchemaCode} (made written.name written.kind nullable b.0 written.attributes.plain.auto) column b.2) (sound.0, (default, sound.1.1))

columns-made : (version : ℕ) (primaries : List (List (List ℕ))) (ws : List WrittenColumn) (columns : List Column) → AllByRecursion (SoundColumn version) ws → declared_columns primaries ws ≡ Ok columns → AllByRecursion (SoundMade version) columns
unfolding declared_columns
columns-made version primaries [] columns sound e = subst (AllByRecursion (SoundMade version)) (ok_is {C = SchemaCode} [] columns e) tt
columns-made version primaries (w ∷ ws) columns sound e =
    let a = bind_ok (declared_column primaries w) (λ first. declared_columns primaries ws >>= λ others. Ok (first ∷ others)) columns e in
    let b = bind_ok (declared_columns primaries ws) (λ others. Ok (a.0 ∷ others)) columns a.2 in
    subst (AllByRecursion (SoundMade version)) (ok_is {C = SchemaCode} (a.0 ∷ b.0) columns b.2) (column-made version primaries w a.0 sound.0 a.1, columns-made version primaries ws b.0 sound.1 b.1)

-- ---- numbers of an integer column

cond-less : (b : Bool) (x y most : ℕ) → x < most → y < most → cond b x y < most
cond-less true x y most first second = first
cond-less false x y most first second = second

half-small : (bytes : ℕ) → half bytes < 2 ^ 64
unfolding half
half-small bytes =
    cond-less (eqb bytes 1) (2 ^ 7) (cond (eqb bytes 2) (2 ^ 15) (cond (eqb bytes 3) (2 ^ 23) (cond (eqb bytes 4) (2 ^ 31) (2 ^ 63)))) (2 ^ 64) (lit< tt)
    (cond-less (eqb bytes 2) (2 ^ 15) (cond (eqb bytes 3) (2 ^ 23) (cond (eqb bytes 4) (2 ^ 31) (2 ^ 63))) (2 ^ 64) (lit< tt)
    (cond-less (eqb bytes 3) (2 ^ 23) (cond (eqb bytes 4) (2 ^ 31) (2 ^ 63)) (2 ^ 64) (lit< tt) (cond-less (eqb bytes 4) (2 ^ 31) (2 ^ 63) (2 ^ 64) (lit< tt) (lit< tt))))

below-twice : (n h a b : ℕ) → n ≤ 2 * h - 1 → h < a → 2 * a < b → n < b
below-twice n h a b le lt big = omega arith

below-half : (n h a b : ℕ) → n ≤ h - 1 → h < a → 2 * a < b → n < b
below-half n h a b le lt big = omega arith

next-half : (n h a b : ℕ) → n < h → h < a → 2 * a < b → suc n < b
next-half n h a b le lt big = omega arith

big : 2 * 2 ^ 64 < 10 ^ 38
big = lit< tt

above-lowest : (h n : ℕ) → int_le (neg_ℤ (pos h)) (negsuc n) ≡ true → n < h
above-lowest zero n e = absurd cc
above-lowest (suc k) n e = let le = leb-true n k e in omega (arith, le)

in-range-small : (number : ℤ) (bytes : ℕ) (unsigned : Bool) → (int_le (lowest bytes unsigned) number && int_le number (highest bytes unsigned)) ≡ true → unsigned_abs number < 10 ^ 38
in-range-small (pos n) bytes true e = below-twice n (half bytes) (2 ^ 64) (10 ^ 38) (leb-true n (2 * half bytes - 1) ((and_parts _ _ e).1)) (half-small bytes) big
in-range-small (pos n) bytes false e = below-half n (half bytes) (2 ^ 64) (10 ^ 38) (leb-true n (half bytes - 1) ((and_parts _ _ e).1)) (half-small bytes) big
in-range-small (negsuc n) bytes true e = absurd cc
in-range-small (negsuc n) bytes false e = next-half n (half bytes) (2 ^ 64) (10 ^ 38) (above-lowest (half bytes) n ((and_parts _ _ e).0)) (half-small bytes) big

if-num : (b : Bool) (n m : ℤ) (reason : Unfit) → cond b (Ok (Num n)) (Err reason) ≡ Ok (Num m) → b ≡ true
if-num true n m reason e = refl
if-num false n m reason e = absurd cc

not-text : (b : Bool) (text : List ℕ) (m : ℤ) (reason : Unfit) → cond b (Ok (Text text)) (Err reason) ≡ Ok (Num m) → ⊥
not-text true text m reason e = absurd cc
not-text false text m reason e = absurd cc

not-blob : (b : Bool) (blob : List ℕ) (m : ℤ) (reason : Unfit) → cond b (Ok (Blob blob)) (Err reason) ≡ Ok (Num m) → ⊥
not-blob true blob m reason e = absurd cc
not-blob false blob m reason e = absurd cc

number-small : (number : ℤ) (kind : Kind) (nullable : Bool) → stores (Num number) kind nullable ≡ Ok (Num number) → unsigned_abs number < 10 ^ 38
unfolding stores in_range text_within bytes_within
number-small number (Int bytes unsigned) nullable e = in-range-small number bytes unsigned (if-num _ number number _ e)
number-small number (VarChar limit) nullable e = absurd (not-text _ _ number _ e)
number-small number (VarBinary limit) nullable e = absurd (not-blob _ _ number _ e)

-- ---- columns

short : (n : ℕ) → n ≤ 1000 → n < 10 ^ 38
short n le = let more : 1000 < 10 ^ 38 = lit< tt in omega arith

pub kind-prints : (kind : Kind) → is_kind kind ≡ true → CanPrintKind kind
kind-prints (Int bytes unsigned) is = tt
kind-prints (VarChar limit) is = short limit (leb-true limit 1000 ((and_parts _ _ is).1))
kind-prints (VarBinary limit) is = short limit (leb-true limit 1000 ((and_parts _ _ is).1))

pub default-prints : (column : Column) (default : Option Value) → SoundDefault default → StoresDefault column default → CanPrintDefault default
default-prints column None sound stores = tt
default-prints column (Some Null) sound stores = tt
default-prints column (Some (Num number)) sound stores = number-small number column.kind column.nullable stores
default-prints column (Some (Text text)) sound stores = tt
default-prints column (Some (Blob blob)) sound stores = sound

columns-print : (version : ℕ) (columns : List Column) → AllByRecursion (SoundMade version) columns → AllByRecursion IsColumn columns → AllByRecursion CanPrintColumn columns
columns-print version [] sound are = tt
columns-print version (column ∷ columns) sound are = ((sound.0.0, kind-prints column.kind (are.0).kind, default-prints column column.default sound.0.1.0 (are.0).default), columns-print version columns sound.1 are.1)

-- ---- parts

record SoundParts (version : ℕ) (parts : Parts) : Type 0 where
  pub columns : AllByRecursion (SoundColumn version) parts.columns
  pub keys : AllByRecursion (λ key. SoundKey key.text) parts.keys

own_key-sound : (column : WrittenColumn) (b : Bool) → CanQuote column.name → AllByRecursion (λ (key : WrittenKey). SoundKey key.text) (cond b (record { is_unique = true; text = record { name = None; columns = column.name ∷ [] } } ∷ []) [])
own_key-sound column true can = ((tt, (can, tt)), tt)
own_key-sound column false can = tt

with_item-sound : (version : ℕ) (parts : Parts) (item : Item) → SoundParts version parts → SoundItem version item → SoundParts version (with_item parts item)
with_item-sound version parts (items.Column column) are is = record {
  columns = All-append (SoundColumn version) parts.columns (column ∷ []) are.columns (is, tt);
  keys = All-append (λ (key : WrittenKey). SoundKey key.text) parts.keys (own_key column) are.keys (own_key-sound column column.attributes.is_unique is.0);
}
with_item-sound version parts (items.Primary names) are is = record { columns = are.columns; keys = are.keys }
with_item-sound version parts (items.Key key) are is = record { columns = are.columns; keys = All-append (λ (k : WrittenKey). SoundKey k.text) parts.keys (key ∷ []) are.keys (is, tt) }

parts-sound : (version : ℕ) (written : List Item) → AllByRecursion (SoundItem version) written → SoundParts version (parts_of written)
unfolding parts_of
parts-sound version written all = fold-keeps (SoundParts version) (SoundItem version) with_item (with_item-sound version) no_parts written (record { columns = tt; keys = tt }) all

-- ---- names of keys

find-by : (b : Bool) (known : List ℕ) (others : Option (List ℕ)) (name : List ℕ) → CanQuote known → CanQuote (unwrap_or others name) → CanQuote (unwrap_or (cond b (Some known) others) name)
find-by true known others name can rest = can
find-by false known others name can rest = rest

find-plain : (test : List ℕ → Bool) (names : List (List ℕ)) (name : List ℕ) → AreNames names → CanQuote name → CanQuote (unwrap_or (find test names) name)
find-plain test [] name are can = can
find-plain test (known ∷ names) name are can = find-by (test known) known (find test names) name are.0 (find-plain test names name are.1 can)

spelled-plain : (names : List (List ℕ)) (name : List ℕ) → AreNames names → CanQuote name → CanQuote (spelled names name)
unfolding spelled
spelled-plain names name are can = find-plain (λ known. same_name known name) names name are can

numbered-by : (b : Bool) (base : List ℕ) (number : ℕ) → CanQuote base → CanQuote (cond b base (base ++ codes "_" ++ decimal number))
numbered-by true base number can = can
numbered-by false base number can = All-append (λ (byte : ℕ). eqb byte 96 ≡ false) (base ++ codes "_") (decimal number) (All-append (λ (byte : ℕ). eqb byte 96 ≡ false) base (codes "_") can (refl, tt)) (decimal-plain number)

numbered-plain : (base : List ℕ) (number : ℕ) → CanQuote base → CanQuote (numbered base number)
unfolding numbered
numbered-plain base number can = numbered-by (eqb number 1) base number can

free-by : (b : Bool) (x y : List ℕ) → CanQuote x → CanQuote y → CanQuote (cond b x y)
free-by true x y first second = first
free-by false x y first second = second

pub free-plain : (taken : List (List ℕ)) (base : List ℕ) (most number : ℕ) → CanQuote base → CanQuote (first_free taken base most number)
unfolding first_free
free-plain taken base zero number can = numbered-plain base number can
free-plain taken base (suc most) number can = free-by (is_among taken (numbered base number)) _ _ (free-plain taken base most (number + 1) can) (numbered-plain base number can)

first-plain : (names columns : List (List ℕ)) → AreNames names → AreNames columns → CanQuote (first_column names columns)
unfolding first_column
first-plain names [] are all = tt
first-plain names (column ∷ columns) are all = spelled-plain names column are all.0

name-plain : (names taken columns : List (List ℕ)) (name : Option (List ℕ)) → AreNames names → AreNames columns → SoundName name → CanQuote (key_name names taken columns name)
name-plain names taken columns (Some name) are all is = is
name-plain names taken columns None are all is = free-plain taken (first_column names columns) (length taken) 1 (first-plain names columns are all)

with_key-sound : (names : List (List ℕ)) → AreNames names → (named : NamedKeys) (key : WrittenKey) → AllByRecursion (λ key. SoundKey key.text) named.keys → SoundKey key.text → AllByRecursion (λ key. SoundKey key.text) (with_key names named key).keys
with_key-sound names are named key all is = All-append (λ (k : WrittenKey). SoundKey k.text) named.keys _ all ((name-plain names named.names key.text.columns key.text.name are is.1 is.0, is.1), tt)

named-sound : (names : List (List ℕ)) (keys : List WrittenKey) → AreNames names → AllByRecursion (λ key. SoundKey key.text) keys → AllByRecursion (λ key. SoundKey key.text) (named_keys names keys).keys
unfolding named_keys
named-sound names keys are all = fold-keeps (λ (named : NamedKeys). AllByRecursion (λ (key : WrittenKey). SoundKey key.text) named.keys) (λ key. SoundKey key.text) (with_key names) (with_key-sound names are) no_keys keys tt all

-- ---- the schema

names-are : (version : ℕ) (columns : List WrittenColumn) → AllByRecursion (SoundColumn version) columns → AreNames (column_names columns)
names-are version columns sound = All-map (SoundColumn version) CanQuote (λ column. column.name) (λ column is. is.0) columns sound

abbrev QuotesKey : Index → Type 0
QuotesKey index = CanQuoteKey index.name

pub name-quotes : (name : Option (List ℕ)) → SoundName name → CanQuoteKey name
name-quotes None is = tt
name-quotes (Some name) is = is

keys-quote : (names : List (List ℕ)) (keys : List WrittenKey) → AllByRecursion (λ key. SoundKey key.text) keys → AllByRecursion QuotesKey (map (key_index names) keys)
keys-quote names keys sound = All-map (λ (key : WrittenKey). SoundKey key.text) QuotesKey (key_index names) (λ key is. name-quotes key.text.name is.0) keys sound

primaries-quote : (names : List (List ℕ)) (primaries : List (List (List ℕ))) → AllByRecursion QuotesKey (map (primary_index names) primaries)
primaries-quote names [] = tt
primaries-quote names (primary ∷ primaries) = (tt, primaries-quote names primaries)

-- the schema can be printed, but for where its column starts, and its columns are those of the version
record PrintsParts (version : ℕ) (schema : Schema) : Type 0 where
  pub name : CanQuote schema.name
  pub columns : AllByRecursion (SoundMade version) schema.columns
  pub uniques : AllByRecursion QuotesKey schema.uniques
  pub indexes : AllByRecursion QuotesKey schema.indexes

whole-prints : (version : ℕ) (name comment : List ℕ) (parts : Parts) (keys : List WrittenKey) (columns : List Column) → CanQuote name → AllByRecursion (λ key. SoundKey key.text) keys → AllByRecursion (SoundMade version) columns
    → PrintsParts version (schema_of name comment (column_names parts.columns) parts.primaries keys columns)
unfolding schema_of
whole-prints version name comment parts keys columns can sound made =
    let names = column_names parts.columns in
    let front = filter (λ (key : WrittenKey). key.is_unique) keys in
    record {
      name = can;
      columns = made;
      uniques = All-append QuotesKey (map (primary_index names) parts.primaries) (map (key_index names) front) (primaries-quote names parts.primaries) (keys-quote names front (All-filter (λ (key : WrittenKey). SoundKey key.text) (λ key. key.is_unique) keys sound));
      indexes = keys-quote names (filter (λ key. not key.is_unique) keys) (All-filter (λ (key : WrittenKey). SoundKey key.text) (λ key. not key.is_unique) keys sound);
    }

started-prints : (version : ℕ) (schema : Schema) (start : Option ℕ) → PrintsParts version schema → PrintsParts version (started schema start)
started-prints version schema start prints = record { name = prints.name; columns = prints.columns; uniques = prints.uniques; indexes = prints.indexes }

parts-print : (version : ℕ) (migrated name : List ℕ) (options : TableOptions) (parts : Parts) (schema : Schema) → CanQuote name → SoundParts version parts → declared_parts migrated name options parts ≡ Ok schema → PrintsParts version schema
parts-print version migrated name options parts schema can sound e =
    let names = column_names parts.columns in
    let named = named_keys names parts.keys in
    let outer = unless_ok (first_reason (size_reasons migrated name parts)) (built name options names parts.primaries parts.columns named) schema e in
    let inner = unless_ok (first_reason (name_reasons names parts.primaries named)) (declared_columns parts.primaries parts.columns >>= keyed name options names parts.primaries named) schema outer.1 in
    let columns = bind_ok (declared_columns parts.primaries parts.columns) (keyed name options names parts.primaries named) schema inner.1 in
    let whole = schema_of name options.comment names parts.primaries named.keys columns.0 in
    let through = bind_ok (clustered whole) (counting options.start) schema columns.2 in
    let count = counted options.start through.0 schema through.2 in
    let last = unless_ok (first_reason ((not (defaults_fit whole.columns), BadDefault) ∷ (is_none (clustered_place whole), NoClusteredKey) ∷ [])) (Ok whole) through.0 through.1 in
    let prints : PrintsParts version through.0 = subst (PrintsParts version) (ok_is {C = SchemaCode} whole through.0 last.1)
    (whole-prints version name options.comment parts named.keys columns.0 can (named-sound names parts.keys (names-are version parts.columns sound.columns) sound.keys) (columns-made version parts.primaries parts.columns columns.0 sound.columns columns.1)) in
    subst (PrintsParts version) count.same (started-prints version through.0 count.start prints)

-- what was read can be printed in parts
read-parts : (version : ℕ) (migrated text : List ℕ) (schema : Schema) → AreBytes text → schema_at version migrated text ≡ Ok schema → PrintsParts version schema
unfolding schema_at declared
read-parts version migrated text schema are e =
    let table = bind_ok (written version (text_words text)) (declared migrated) schema e in
    let sound = written-sound version (text_words text) table.0 (text-sound text are) table.1 in
    parts-print version migrated table.0.name table.0.options (parts_of table.0.items) schema sound.name (parts-sound version table.0.items sound.items) table.2

start-prints : (place start : Option ℕ) → MayStart place start → CanPrintStart start
start-prints place None may = tt
start-prints None (Some start) may = absurd may
start-prints (Some place) (Some start) may = let high = may.1 in let more : 9223372036854775807 < 10 ^ 38 = lit< tt in omega (arith, high, more)

pub read-prints : StoresAgain → ReadSchemasCanPrint
read-prints again version migrated text schema are e =
    let parts = read-parts version migrated text schema are e in
    let valid = read-valid again version migrated text schema e in
    let declares = read-declared version migrated text schema e in
    record {
      name = parts.name;
      columns = columns-print version schema.columns parts.columns valid.columns;
      uniques = parts.uniques;
      indexes = parts.indexes;
      start = start-prints (auto_place schema) schema.start declares.start;
    }

-- ---- the version

never-auto : (version : ℕ) → MayCountIn version false
never-auto version on = absurd cc

start-fits : (version : ℕ) (columns : List Column) (place start : Option ℕ) → position is_auto columns ≡ place → AllByRecursion (λ column. MayCountIn version column.auto) columns → MayStart place start → MayCountIn version (is_some start)
start-fits version columns place None is all may = never-auto version
start-fits version columns None (Some start) is all may = absurd may
start-fits version columns (Some place) (Some start) is all may = λ on.
    let found = position-found is_auto columns place is in
    All-at (λ (column : Column). MayCountIn version column.auto) columns place found.item all found.is found.passes

-- a plan of the version may have a schema of such columns
pub fits-version : (version : ℕ) (schema : Schema) → AllByRecursion (λ column. MayCountIn version column.auto) schema.columns → MayStart (auto_place schema) schema.start → FitsVersion version schema
fits-version version schema all may = record { columns = all; start = start-fits version schema.columns (auto_place schema) schema.start refl all may }

pub read-fits : (version : ℕ) (migrated text : List ℕ) (schema : Schema) → AreBytes text → schema_at version migrated text ≡ Ok schema → FitsVersion version schema
read-fits version migrated text schema are e =
    let parts = read-parts version migrated text schema are e in
    fits-version version schema (All-weaker (SoundMade version) (λ (column : Column). MayCountIn version column.auto) (λ c made. made.1.1) schema.columns parts.columns) (read-declared version migrated text schema e).start

pub read-again : StoresAgain → ReadSchemasAreReadAgain
read-again again version migrated text schema are e =
    printed-again version migrated schema (read-prints again version migrated text schema are e) (read-valid again version migrated text schema e) (read-declared version migrated text schema e) (read-fits version migrated text schema are e)
