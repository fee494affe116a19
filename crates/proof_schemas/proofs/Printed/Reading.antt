-- Printed pieces are read as what was printed.
use Rattle.std.proofs.Common.{◌≡◌, ℕ, zero, suc, ◌+◌, ◌<◌, ◌≤◌, ◌^◌, append_assoc, ◌&&◌, ◌||◌, eqb-true, Bool, true, false, cond, eqb, List, [], ◌∷◌, ◌++◌, length, Option, Some, None, Result, Ok, refl, sym, ap, subst, ◌∙◌, codes, arith, length-append}
use Rattle.std.specs.Prelude.{nat_le, ℤ, unsigned_abs}
use Rattle.std.specs.Option.{option_map}
use Rattle.std.specs.Str.{bytes_eq}
use Rattle.std.specs.Fmt.{decimal}
use Rattle.std.specs.List.{position_or_len, AllByRecursion}
use Rattle.std.proofs.lemmas.Bool.{lt-ltb, eq-eqb}
use Rattle.std.proofs.lemmas.List.{take_at}
use Rattle.sql_words.specs.Meanings.{quoted_name}
use Rattle.sql_words.specs.Quoted.{name_inside}
use Rattle.base_values.specs.declared.kind.Kind.{Kind}
use Rattle.base_values.specs.declared.kind.Kind.TheVariants.{Int, VarChar, VarBinary}
use Rattle.base_values.specs.declared.value.Value.{Value}
use Rattle.base_values.specs.declared.value.Value.TheVariants.{Null, Num, Text, Blob}
use Rattle.base_values.specs.Literals.{printed}
use Rattle.base_values.specs.declared.gho_schema.schema.Column.{Column}
use Rattle.base_values.specs.GhoSchema.Names.{same_name}
use Rattle.sql_words.specs.declared.word.WordClass.TheVariants as class
use Rattle.sql_words.proofs.Reprinted.{text_value-printed_text, bytes_value-printed_bytes}
use Rattle.sql_grammar.specs.declared.attributes.Attribute.TheVariants.{Nullable, Default, AutoIncrement}
use Rattle.sql_grammar.specs.declared.code.SchemaCode.{SchemaCode}
use Rattle.sql_grammar.specs.declared.kinds.KindWord.TheVariants as kinds
use Rattle.sql_grammar.specs.declared.token.Token.{Token}
use Rattle.sql_grammar.specs.Attributes.{passed_at, attribute_at}
use Rattle.sql_grammar.specs.Listed.{gathered}
use Rattle.sql_grammar.specs.Kinds.{kind_word, width_at, length_at, kind_after, kind_at}
use Rattle.sql_grammar.specs.Tokens.{is_keyword, same_sign}
use Rattle.sql_grammar.specs.Versions.{has_counters}
use Rattle.sql_create.specs.declared.written.ColumnAttribute.TheVariants.{Plain}
use Rattle.sql_create.specs.declared.written.ColumnAttributes.{ColumnAttributes}
use Rattle.sql_create.specs.Columns.{unwritten_column, with_column_attribute, column_attribute_at, column_attributes_at, column_at}
use Rattle.base_values.specs.SchemaRules.Valid.{is_kind}
use Rattle.proof_schemas.proofs.Printed.Numbers.{number_value-decimal, number_value-printed}
use Rattle.sql_grammar.specs.Pieces.{after_name, name_at, after_sign, after_keyword, sign_at, number_at, keyword_at, literal_of, literal_at}
use Rattle.sql_show.specs.SchemaText.{quoted, integer_name}
use Rattle.proof_schemas.specs.Printed.Laws.{CanQuote, CanPrintKind, CanPrintDefault, CanPrintColumn, MayCountIn, default_read, line_of, PrintedColumnsAreRead}
use Rattle.proof_schemas.specs.Printed.Words.{keyword, name_word, sign_word, number_word, kind_words, null_words, default_words, auto_words, column_words}

-- ---- names

quote-place : (name : List ℕ) → CanQuote name → position_or_len (λ b. eqb b 96) (name ++ 96 ∷ []) ≡ length name
quote-place [] can = refl
quote-place (b ∷ name) can = let one : 1 + length name ≡ suc (length name) = omega arith in rw (can.0, quote-place name can.1) one

inside : (name : List ℕ) → CanQuote name → name_inside (name ++ 96 ∷ []) ≡ Some (record { value = name; length = length name + 1 })
unfolding name_inside
inside name can =
    let less : length name < length (name ++ 96 ∷ []) = omega (arith, length-append name (96 ∷ [])) in
    rw (quote-place name can, lt-ltb _ _ less, take_at name (96 ∷ []) (length name) refl) refl

whole : (name : List ℕ) → eqb (length name + 1) (length (name ++ 96 ∷ [])) ≡ true
whole name = let same : length name + 1 ≡ length (name ++ 96 ∷ []) = sym (length-append name (96 ∷ [])) in eq-eqb _ _ same

quoted-is : (name : List ℕ) → CanQuote name → quoted_name (quoted name) ≡ Some name
quoted-is name can = rw (inside name can, whole name) refl

-- a quoted name is read as the name
pub name-read : (name : List ℕ) (rest : List Token) → CanQuote name → name_at (name_word name ∷ rest) ≡ Ok (name, rest)
unfolding name_at after_name
name-read name rest can = rw (quoted-is name can) refl

-- ---- kinds

word-tinyint : kind_word (keyword (codes "TINYINT")) ≡ Some (kinds.Integer 1)
unfolding kind_word is_keyword same_name
word-tinyint = refl

word-smallint : kind_word (keyword (codes "SMALLINT")) ≡ Some (kinds.Integer 2)
unfolding kind_word is_keyword same_name
word-smallint = refl

word-mediumint : kind_word (keyword (codes "MEDIUMINT")) ≡ Some (kinds.Integer 3)
unfolding kind_word is_keyword same_name
word-mediumint = refl

word-int : kind_word (keyword (codes "INT")) ≡ Some (kinds.Integer 4)
unfolding kind_word is_keyword same_name
word-int = refl

word-bigint : kind_word (keyword (codes "BIGINT")) ≡ Some (kinds.Integer 8)
unfolding kind_word is_keyword same_name
word-bigint = refl

word-varchar : kind_word (keyword (codes "VARCHAR")) ≡ Some kinds.VarChar
unfolding kind_word is_keyword same_name
word-varchar = refl

word-varbinary : kind_word (keyword (codes "VARBINARY")) ≡ Some kinds.VarBinary
unfolding kind_word is_keyword same_name
word-varbinary = refl

abbrev IsWordOf : ℕ → Type 0
IsWordOf bytes = kind_word (keyword (integer_name bytes)) ≡ Some (kinds.Integer bytes)

at_number : (bytes n : ℕ) (b : Bool) → eqb bytes n ≡ b → (P : ℕ → Type 0) → P n → (b ≡ false → P bytes) → P bytes
at_number bytes n true e P here other = subst P (sym (eqb-true bytes n e)) here
at_number bytes n false e P here other = other refl

true_false : true ≡ false → ⊥
true_false e = absurd cc

none_of : (a b c d e : Bool) → (a || b || c || d || e) ≡ true → a ≡ false → b ≡ false → c ≡ false → d ≡ false → e ≡ false → ⊥
none_of a b c d e some na nb nc nd ne = let no : (a || b || c || d || e) ≡ false = rw (na, nb, nc, nd, ne) refl in absurd (true_false (sym some ∙ no))

word-integer : (bytes : ℕ) (unsigned : Bool) → is_kind (Int bytes unsigned) ≡ true → IsWordOf bytes
word-integer bytes unsigned is =
    at_number bytes 1 (eqb bytes 1) refl IsWordOf word-tinyint (λ no1.
    at_number bytes 2 (eqb bytes 2) refl IsWordOf word-smallint (λ no2.
    at_number bytes 3 (eqb bytes 3) refl IsWordOf word-mediumint (λ no3.
    at_number bytes 4 (eqb bytes 4) refl IsWordOf word-int (λ no4.
    at_number bytes 8 (eqb bytes 8) refl IsWordOf word-bigint (λ no8. absurd (none_of (eqb bytes 1) (eqb bytes 2) (eqb bytes 3) (eqb bytes 4) (eqb bytes 8) is no1 no2 no3 no4 no8))))))

-- neither a width nor UNSIGNED stands here
pub record EndsKind (tail : List Token) : Type 0 where
  pub no_width : after_sign (codes "(") tail ≡ None
  pub unsigned : after_keyword (codes "UNSIGNED") tail ≡ None

integer-read : (bytes : ℕ) (unsigned : Bool) (tail : List Token) → IsWordOf bytes → EndsKind tail → kind_at (keyword (integer_name bytes) ∷ (cond unsigned (keyword (codes "UNSIGNED") ∷ []) [] ++ tail)) ≡ Ok (Int bytes unsigned, tail)
unfolding kind_at kind_after width_at after_sign after_keyword is_keyword same_sign same_name
integer-read bytes true tail word ends = rw word refl
integer-read bytes false tail word ends = rw (word, ends.no_width, ends.unsigned) refl

length-read : (limit : ℕ) (tail : List Token) → (nat_le 1 limit && nat_le limit 1000) ≡ true → limit < 10 ^ 38 → length_at (sign_word (codes "(") ∷ number_word (decimal limit) ∷ sign_word (codes ")") ∷ tail) ≡ Ok (limit, tail)
unfolding length_at sign_at after_sign same_sign number_at
length-read limit tail within few = rw (number_value-decimal limit few, within) refl

kind-read : (kind : Kind) (tail : List Token) → is_kind kind ≡ true → CanPrintKind kind → EndsKind tail → kind_at (kind_words kind ++ tail) ≡ Ok (kind, tail)
unfolding kind_at kind_after
kind-read (Int bytes unsigned) tail is can ends = integer-read bytes unsigned tail (word-integer bytes unsigned is) ends
kind-read (VarChar limit) tail is can ends = rw (word-varchar, length-read limit tail is can) refl
kind-read (VarBinary limit) tail is can ends = rw (word-varbinary, length-read limit tail is can) refl

-- ---- attributes

abbrev with_default : ColumnAttributes → Option Value → ColumnAttributes
with_default so_far None = so_far
with_default so_far (Some value) = with_column_attribute so_far (Plain (Default value))

abbrev with_auto : ColumnAttributes → Bool → ColumnAttributes
with_auto so_far true = with_column_attribute so_far (Plain AutoIncrement)
with_auto so_far false = so_far

abbrev gather : ℕ → ℕ → ColumnAttributes → List Token → Result (ColumnAttributes × List Token) SchemaCode
gather version fuel so_far words = gathered (column_attribute_at version) with_column_attribute fuel so_far words

module _ (version : ℕ) (sign : List ℕ) (rest : List Token) where
  abbrev end_words : List Token
  end_words = sign_word sign ∷ rest

  stop : (fuel : ℕ) (so_far : ColumnAttributes) → 0 < fuel → gather version fuel so_far end_words ≡ Ok (so_far, end_words)
  unfolding gathered column_attribute_at attribute_at passed_at is_keyword
  stop zero so_far lt = absurd (omega arith)
  stop (suc fuel) so_far lt = refl

  auto-step : (fuel : ℕ) (so_far : ColumnAttributes) → has_counters version ≡ true → gather version (suc fuel) so_far (keyword (codes "AUTO_INCREMENT") ∷ end_words) ≡ gather version fuel (with_auto so_far true) end_words
  unfolding gathered column_attribute_at attribute_at is_keyword same_name
  auto-step fuel so_far may = rw may refl

  auto-gather : (auto : Bool) (fuel : ℕ) (so_far : ColumnAttributes) → MayCountIn version auto → length (auto_words auto ++ end_words) ≤ fuel → gather version fuel so_far (auto_words auto ++ end_words) ≡ Ok (with_auto so_far auto, end_words)
  auto-gather false fuel so_far may le = stop fuel so_far (omega arith)
  auto-gather true zero so_far may le = absurd (omega arith)
  auto-gather true (suc fuel) so_far may le = auto-step fuel so_far (may refl) ∙ stop fuel (with_auto so_far true) (omega arith)

  default-step : (fuel : ℕ) (so_far : ColumnAttributes) (word : Token) (value : Value) (tail : List Token) → literal_of word ≡ Some value → gather version (suc fuel) so_far (keyword (codes "DEFAULT") ∷ word ∷ tail) ≡ gather version fuel (with_default so_far (Some value)) tail
  unfolding gathered column_attribute_at attribute_at is_keyword same_name literal_at
  default-step fuel so_far word value tail is = rw is refl

  default-stop : (auto : Bool) (fuel : ℕ) (so_far : ColumnAttributes) (word : Token) (value : Value) → MayCountIn version auto → literal_of word ≡ Some value → length (keyword (codes "DEFAULT") ∷ word ∷ (auto_words auto ++ end_words)) ≤ fuel
      → gather version fuel so_far (keyword (codes "DEFAULT") ∷ word ∷ (auto_words auto ++ end_words)) ≡ Ok (with_auto (with_default so_far (Some value)) auto, end_words)
  default-stop auto zero so_far word value may is le = absurd (omega arith)
  default-stop auto (suc fuel) so_far word value may is le = default-step fuel so_far word value (auto_words auto ++ end_words) is ∙ auto-gather auto fuel (with_default so_far (Some value)) may (omega arith)

  num-literal : (number : ℤ) → unsigned_abs number < 10 ^ 38 → literal_of (number_word (printed (Num number))) ≡ Some (Num number)
  unfolding is_keyword printed
  num-literal number few = ap (option_map Num) (number_value-printed number few)

  text-literal : (text : List ℕ) → literal_of (record { class = class.Text; text = printed (Text text) }) ≡ Some (Text text)
  unfolding is_keyword printed
  text-literal text = ap (option_map Text) (text_value-printed_text text)

  bytes-literal : (bytes : List ℕ) → AllByRecursion (λ byte. byte < 256) bytes → literal_of (record { class = class.Bytes; text = printed (Blob bytes) }) ≡ Some (Blob bytes)
  unfolding is_keyword printed
  bytes-literal bytes small = ap (option_map Blob) (bytes_value-printed_bytes bytes small)

  default-gather : (default : Option Value) (auto : Bool) (fuel : ℕ) (so_far : ColumnAttributes) → CanPrintDefault default → MayCountIn version auto → length (default_words default ++ (auto_words auto ++ end_words)) ≤ fuel
      → gather version fuel so_far (default_words default ++ (auto_words auto ++ end_words)) ≡ Ok (with_auto (with_default so_far (default_read default)) auto, end_words)
  default-gather None auto fuel so_far can may le = auto-gather auto fuel so_far may le
  default-gather (Some Null) auto fuel so_far can may le = auto-gather auto fuel so_far may le
  default-gather (Some (Num number)) auto fuel so_far can may le = default-stop auto fuel so_far (number_word (printed (Num number))) (Num number) may (num-literal number can) le
  default-gather (Some (Text text)) auto fuel so_far can may le = default-stop auto fuel so_far (record { class = class.Text; text = printed (Text text) }) (Text text) may (text-literal text) le
  default-gather (Some (Blob bytes)) auto fuel so_far can may le = default-stop auto fuel so_far (record { class = class.Bytes; text = printed (Blob bytes) }) (Blob bytes) may (bytes-literal bytes can) le

  abbrev attributes_of : Bool → Option Value → Bool → ColumnAttributes
  attributes_of nullable default auto = record { plain = record { nullable = cond nullable None (Some false); default = default; auto = auto }; is_primary = false; is_unique = false }

  abbrev not_null : ColumnAttributes
  not_null = with_column_attribute unwritten_column (Plain (Nullable false))

  null-step : (fuel : ℕ) (words : List Token) → gather version (suc fuel) unwritten_column (keyword (codes "NOT") ∷ keyword (codes "NULL") ∷ words) ≡ gather version fuel not_null words
  unfolding gathered column_attribute_at attribute_at is_keyword same_name keyword_at after_keyword
  null-step fuel words = refl

  shape-null : (default : Option Value) (auto : Bool) → with_auto (with_default unwritten_column default) auto ≡ attributes_of true default auto
  shape-null None true = refl
  shape-null None false = refl
  shape-null (Some value) true = refl
  shape-null (Some value) false = refl

  shape-not : (default : Option Value) (auto : Bool) → with_auto (with_default not_null default) auto ≡ attributes_of false default auto
  shape-not None true = refl
  shape-not None false = refl
  shape-not (Some value) true = refl
  shape-not (Some value) false = refl

  abbrev read_as : ColumnAttributes → Result (ColumnAttributes × List Token) SchemaCode
  read_as attributes = Ok (attributes, end_words)

  attributes-read : (nullable : Bool) (default : Option Value) (auto : Bool) → CanPrintDefault default → MayCountIn version auto
      → column_attributes_at version (null_words nullable ++ (default_words default ++ (auto_words auto ++ end_words))) ≡ Ok (attributes_of nullable (default_read default) auto, end_words)
  unfolding column_attributes_at
  attributes-read true default auto can may =
      let words = default_words default ++ (auto_words auto ++ end_words) in
      default-gather default auto (length words) unwritten_column can may (omega arith) ∙ ap read_as (shape-null (default_read default) auto)
  attributes-read false default auto can may =
      let words = default_words default ++ (auto_words auto ++ end_words) in
      null-step (suc (length words)) words ∙ default-gather default auto (suc (length words)) not_null can may (omega arith) ∙ ap read_as (shape-not (default_read default) auto)

  -- ---- a column

  auto-ends : (auto : Bool) → bytes_eq sign (codes "(") ≡ false → EndsKind (auto_words auto ++ end_words)
  unfolding after_sign after_keyword is_keyword same_sign same_name
  auto-ends true other = record { no_width = refl; unsigned = refl }
  auto-ends false other = record { no_width = rw other refl; unsigned = refl }

  default-ends : (default : Option Value) (auto : Bool) → bytes_eq sign (codes "(") ≡ false → EndsKind (default_words default ++ (auto_words auto ++ end_words))
  unfolding after_sign after_keyword is_keyword same_sign same_name
  default-ends None auto other = auto-ends auto other
  default-ends (Some Null) auto other = auto-ends auto other
  default-ends (Some (Num number)) auto other = record { no_width = refl; unsigned = refl }
  default-ends (Some (Text text)) auto other = record { no_width = refl; unsigned = refl }
  default-ends (Some (Blob bytes)) auto other = record { no_width = refl; unsigned = refl }

  null-ends : (nullable : Bool) (words : List Token) → EndsKind words → EndsKind (null_words nullable ++ words)
  unfolding after_sign after_keyword is_keyword same_sign same_name
  null-ends true words ends = ends
  null-ends false words ends = record { no_width = refl; unsigned = refl }

  column-parts : (column : Column) → CanPrintColumn column → MayCountIn version column.auto → is_kind column.kind ≡ true → bytes_eq sign (codes "(") ≡ false
      → column_at version (name_word column.name ∷ (kind_words column.kind ++ (null_words column.nullable ++ (default_words column.default ++ (auto_words column.auto ++ end_words))))) ≡ Ok (line_of column, end_words)
  unfolding column_at
  column-parts column can may is other =
      let default = default_words column.default ++ (auto_words column.auto ++ end_words) in
      let tail = null_words column.nullable ++ default in
      let ends = null-ends column.nullable default (default-ends column.default column.auto other) in
      rw (name-read column.name (kind_words column.kind ++ tail) can.0, kind-read column.kind tail is can.1 ends, attributes-read column.nullable column.default column.auto can.2 may) refl

pub column-read : PrintedColumnsAreRead
column-read version column sign rest can may is other =
    let front : List Token = name_word column.name ∷ kind_words column.kind in
    let null = null_words column.nullable in
    let default = default_words column.default in
    let auto = auto_words column.auto in
    let words : List Token = sign_word sign ∷ rest in
    let apart : column_words column ++ words ≡ front ++ (null ++ (default ++ (auto ++ words))) =
    append_assoc (front ++ null ++ default) auto words ∙ append_assoc (front ++ null) default (auto ++ words) ∙ append_assoc front null (default ++ (auto ++ words)) in
    ap (column_at version) apart ∙ column-parts version sign rest column can may is other
