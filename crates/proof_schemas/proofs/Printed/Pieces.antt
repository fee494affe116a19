-- The words of a column's line and of a key's.
use Rattle.std.proofs.Common.{◌≡◌, ℕ, zero, suc, ◌<◌, ◌^◌, Bool, true, false, cond, eqb, List, [], ◌∷◌, ◌++◌, length, Option, Some, None, Ok, refl, codes, arith}
use Rattle.std.specs.Prelude.{ℤ, unsigned_abs, get_or}
use Rattle.std.specs.Char.{is_ascii_digit}
use Rattle.std.specs.Fmt.{decimal, signed_decimal}
use Rattle.std.specs.List.{flat_map, AllByRecursion}
use Rattle.base_values.specs.declared.kind.Kind.{Kind}
use Rattle.base_values.specs.declared.kind.Kind.TheVariants.{Int, VarChar, VarBinary}
use Rattle.base_values.specs.declared.value.Value.{Value}
use Rattle.base_values.specs.declared.value.Value.TheVariants.{Null, Num, Text, Blob}
use Rattle.base_values.specs.Literals.{printed}
use Rattle.base_values.specs.declared.gho_schema.schema.Column.{Column}
use Rattle.sql_words.specs.declared.word.WordClass.TheVariants as class
use Rattle.sql_words.specs.declared.front.Front.TheVariants.{Found}
use Rattle.sql_words.specs.Characters.{begins_with}
use Rattle.sql_words.specs.Front.{front_at}
use Rattle.sql_words.specs.Meanings.{number_value}
use Rattle.sql_words.specs.Printed.{printed_text, printed_bytes}
use Rattle.sql_words.proofs.NumberWords.{front_at-number_value}
use Rattle.sql_words.proofs.Reprinted.{front_at-printed_text, front_at-printed_bytes}
use Rattle.sql_grammar.specs.declared.token.Token.{Token}
use Rattle.sql_show.specs.SchemaText.{quoted, integer_name, printed_kind, written_default, printed_default, column_line, column_name, key_names, key_columns, unique_front, index_front}
use Rattle.proof_schemas.specs.Printed.Laws.{CanQuote, CanQuoteKey, CanPrintKind, CanPrintValue, CanPrintDefault, CanPrintColumn}
use Rattle.proof_schemas.specs.Printed.Words.{keyword, name_word, sign_word, number_word, length_words, kind_words, null_words, written_words, default_words, auto_words, column_words, names_words, places_words, unique_words, index_words}
use Rattle.proof_schemas.proofs.Printed.Lexing.{Lexes, lex-gap, lex-word, IsEnd, Writes, Closes, Begins, closes-writes, writes-then, closes-then, closes-both, writes-closed, closes-name}
use Rattle.proof_schemas.proofs.Printed.Numbers.{number_value-decimal, number_value-printed}

-- ---- words that an end follows

module _ (place : ℕ) where
  front-tinyint : (rest : List ℕ) → IsEnd rest → front_at place (codes "TINYINT" ++ rest) ≡ Ok (Found class.Name 7)
  unfolding front_at
  front-tinyint [] end = refl
  front-tinyint (c ∷ rest) end = rw end.0 refl

  front-smallint : (rest : List ℕ) → IsEnd rest → front_at place (codes "SMALLINT" ++ rest) ≡ Ok (Found class.Name 8)
  unfolding front_at
  front-smallint [] end = refl
  front-smallint (c ∷ rest) end = rw end.0 refl

  front-mediumint : (rest : List ℕ) → IsEnd rest → front_at place (codes "MEDIUMINT" ++ rest) ≡ Ok (Found class.Name 9)
  unfolding front_at
  front-mediumint [] end = refl
  front-mediumint (c ∷ rest) end = rw end.0 refl

  front-int : (rest : List ℕ) → IsEnd rest → front_at place (codes "INT" ++ rest) ≡ Ok (Found class.Name 3)
  unfolding front_at
  front-int [] end = refl
  front-int (c ∷ rest) end = rw end.0 refl

  front-bigint : (rest : List ℕ) → IsEnd rest → front_at place (codes "BIGINT" ++ rest) ≡ Ok (Found class.Name 6)
  unfolding front_at
  front-bigint [] end = refl
  front-bigint (c ∷ rest) end = rw end.0 refl

  front-unsigned : (rest : List ℕ) → IsEnd rest → front_at place (codes "UNSIGNED" ++ rest) ≡ Ok (Found class.Name 8)
  unfolding front_at
  front-unsigned [] end = refl
  front-unsigned (c ∷ rest) end = rw end.0 refl

  front-null : (rest : List ℕ) → IsEnd rest → front_at place (codes "NULL" ++ rest) ≡ Ok (Found class.Name 4)
  unfolding front_at
  front-null [] end = refl
  front-null (c ∷ rest) end = rw end.0 refl

  front-auto : (rest : List ℕ) → IsEnd rest → front_at place (codes "AUTO_INCREMENT" ++ rest) ≡ Ok (Found class.Name 14)
  unfolding front_at
  front-auto [] end = refl
  front-auto (c ∷ rest) end = rw end.0 refl

-- ---- words that a blank or a sign follows

module _ (place : ℕ) (rest : List ℕ) where
  front-not : front_at place (codes "NOT" ++ 32 ∷ rest) ≡ Ok (Found class.Name 3)
  unfolding front_at
  front-not = refl

  front-default : front_at place (codes "DEFAULT" ++ 32 ∷ rest) ≡ Ok (Found class.Name 7)
  unfolding front_at
  front-default = refl

  front-varchar : front_at place (codes "VARCHAR" ++ 40 ∷ rest) ≡ Ok (Found class.Name 7)
  unfolding front_at
  front-varchar = refl

  front-varbinary : front_at place (codes "VARBINARY" ++ 40 ∷ rest) ≡ Ok (Found class.Name 9)
  unfolding front_at
  front-varbinary = refl

  front-primary : front_at place (codes "PRIMARY" ++ 32 ∷ rest) ≡ Ok (Found class.Name 7)
  unfolding front_at
  front-primary = refl

  front-unique : front_at place (codes "UNIQUE" ++ 32 ∷ rest) ≡ Ok (Found class.Name 6)
  unfolding front_at
  front-unique = refl

  front-key : front_at place (codes "KEY" ++ 32 ∷ rest) ≡ Ok (Found class.Name 3)
  unfolding front_at
  front-key = refl

  front-open : front_at place (40 ∷ rest) ≡ Ok (Found class.Sign 1)
  unfolding front_at
  front-open = refl

  front-close : front_at place (41 ∷ rest) ≡ Ok (Found class.Sign 1)
  unfolding front_at
  front-close = refl

  front-comma : front_at place (44 ∷ rest) ≡ Ok (Found class.Sign 1)
  unfolding front_at
  front-comma = refl

-- ---- nothing, signs and blanks

writes-nothing : Writes [] []
writes-nothing rest ts end lex = lex

closes-nothing : Closes [] []
closes-nothing rest ts lex = lex

begins-nothing : Begins []
begins-nothing rest end = end

pub closes-blank : Closes (codes " ") []
closes-blank rest ts lex = lex-gap 32 rest ts refl lex

pub closes-open : Closes (codes "(") (sign_word (codes "(") ∷ [])
closes-open rest ts lex = lex-word class.Sign (codes "(") rest ts (omega arith) (λ place. front-open place rest) lex

pub closes-close : Closes (codes ")") (sign_word (codes ")") ∷ [])
closes-close rest ts lex = lex-word class.Sign (codes ")") rest ts (omega arith) (λ place. front-close place rest) lex

pub closes-comma : (rest : List ℕ) (ts : List Token) → Lexes rest ts → Lexes (44 ∷ rest) (sign_word (codes ",") ∷ ts)
closes-comma rest ts lex = lex-word class.Sign (codes ",") rest ts (omega arith) (λ place. front-comma place rest) lex

-- ---- numbers

pub end-digit : (rest : List ℕ) → IsEnd rest → is_ascii_digit (get_or rest 0 0) ≡ false
end-digit [] end = refl
end-digit (c ∷ rest) end = end.1

pub end-quote : (rest : List ℕ) → IsEnd rest → begins_with 39 rest ≡ false
end-quote [] end = refl
end-quote (c ∷ rest) end = end.2

some_length : (bytes : List ℕ) (number : ℤ) → number_value bytes ≡ Some number → 0 < length bytes
some_length [] number e = absurd cc
some_length (b ∷ bytes) number e = omega arith

pub writes-number : (bytes : List ℕ) (number : ℤ) → number_value bytes ≡ Some number → Writes bytes (number_word bytes ∷ [])
writes-number bytes number e rest ts end lex = lex-word class.Number bytes rest ts (some_length bytes number e) (λ place. front_at-number_value place bytes rest number e (end-digit rest end)) lex

-- ---- kinds

abbrev IsOneWord : List ℕ → Type 0
IsOneWord name = Writes name (keyword name ∷ [])

either : (b : Bool) (x y : List ℕ) → IsOneWord x → IsOneWord y → IsOneWord (cond b x y)
either true x y first second = first
either false x y first second = second

writes-integer : (bytes : ℕ) → IsOneWord (integer_name bytes)
writes-integer bytes =
    either (eqb bytes 1) _ _ (λ rest ts end lex. lex-word class.Name (codes "TINYINT") rest ts (omega arith) (λ place. front-tinyint place rest end) lex)
    (either (eqb bytes 2) _ _ (λ rest ts end lex. lex-word class.Name (codes "SMALLINT") rest ts (omega arith) (λ place. front-smallint place rest end) lex)
    (either (eqb bytes 3) _ _ (λ rest ts end lex. lex-word class.Name (codes "MEDIUMINT") rest ts (omega arith) (λ place. front-mediumint place rest end) lex)
    (either (eqb bytes 4) _ _ (λ rest ts end lex. lex-word class.Name (codes "INT") rest ts (omega arith) (λ place. front-int place rest end) lex)
    (λ rest ts end lex. lex-word class.Name (codes "BIGINT") rest ts (omega arith) (λ place. front-bigint place rest end) lex))))

writes-unsigned : (unsigned : Bool) → Writes (cond unsigned (codes " UNSIGNED") []) (cond unsigned (keyword (codes "UNSIGNED") ∷ []) [])
writes-unsigned true rest ts end lex = lex-gap 32 (codes "UNSIGNED" ++ rest) _ refl (lex-word class.Name (codes "UNSIGNED") rest ts (omega arith) (λ place. front-unsigned place rest end) lex)
writes-unsigned false rest ts end lex = lex

begins-unsigned : (unsigned : Bool) → Begins (cond unsigned (codes " UNSIGNED") [])
begins-unsigned true rest end = (refl, refl, refl)
begins-unsigned false rest end = end

stops-close : (rest : List ℕ) → IsEnd (codes ")" ++ rest)
stops-close rest = (refl, refl, refl)

closes-varchar : Closes (codes "VARCHAR(") (keyword (codes "VARCHAR") ∷ sign_word (codes "(") ∷ [])
closes-varchar rest ts lex = lex-word class.Name (codes "VARCHAR") (40 ∷ rest) _ (omega arith) (λ place. front-varchar place rest) (closes-open rest ts lex)

closes-varbinary : Closes (codes "VARBINARY(") (keyword (codes "VARBINARY") ∷ sign_word (codes "(") ∷ [])
closes-varbinary rest ts lex = lex-word class.Name (codes "VARBINARY") (40 ∷ rest) _ (omega arith) (λ place. front-varbinary place rest) (closes-open rest ts lex)

closes-length : (limit : ℕ) → limit < 10 ^ 38 → Closes (decimal limit ++ codes ")") (number_word (decimal limit) ∷ sign_word (codes ")") ∷ [])
closes-length limit few = writes-closed (decimal limit) (codes ")") (number_word (decimal limit) ∷ []) (sign_word (codes ")") ∷ []) (writes-number (decimal limit) _ (number_value-decimal limit few)) stops-close closes-close

writes-kind : (kind : Kind) → CanPrintKind kind → Writes (printed_kind kind) (kind_words kind)
unfolding printed_kind
writes-kind (Int bytes unsigned) can = writes-then (integer_name bytes) (cond unsigned (codes " UNSIGNED") []) (keyword (integer_name bytes) ∷ []) (cond unsigned (keyword (codes "UNSIGNED") ∷ []) []) (writes-integer bytes) (begins-unsigned unsigned) (writes-unsigned unsigned)
writes-kind (VarChar limit) can = closes-writes (codes "VARCHAR(" ++ decimal limit ++ codes ")") (length_words (codes "VARCHAR") limit) (closes-both (codes "VARCHAR(") (decimal limit ++ codes ")") (keyword (codes "VARCHAR") ∷ sign_word (codes "(") ∷ []) (number_word (decimal limit) ∷ sign_word (codes ")") ∷ []) closes-varchar (closes-length limit can))
writes-kind (VarBinary limit) can = closes-writes (codes "VARBINARY(" ++ decimal limit ++ codes ")") (length_words (codes "VARBINARY") limit) (closes-both (codes "VARBINARY(") (decimal limit ++ codes ")") (keyword (codes "VARBINARY") ∷ sign_word (codes "(") ∷ []) (number_word (decimal limit) ∷ sign_word (codes ")") ∷ []) closes-varbinary (closes-length limit can))

-- ---- attributes

writes-null : (nullable : Bool) → Writes (cond nullable [] (codes " NOT NULL")) (null_words nullable)
writes-null true rest ts end lex = lex
writes-null false rest ts end lex =
    lex-gap 32 (codes "NOT NULL" ++ rest) _ refl (lex-word class.Name (codes "NOT") (codes " NULL" ++ rest) _ (omega arith) (λ place. front-not place (codes "NULL" ++ rest))
    (lex-gap 32 (codes "NULL" ++ rest) _ refl (lex-word class.Name (codes "NULL") rest ts (omega arith) (λ place. front-null place rest end) lex)))

begins-null : (nullable : Bool) → Begins (cond nullable [] (codes " NOT NULL"))
begins-null true rest end = end
begins-null false rest end = (refl, refl, refl)

closes-default : Closes (codes " DEFAULT ") (keyword (codes "DEFAULT") ∷ [])
closes-default rest ts lex = lex-gap 32 (codes "DEFAULT " ++ rest) _ refl (lex-word class.Name (codes "DEFAULT") (codes " " ++ rest) _ (omega arith) (λ place. front-default place rest) (lex-gap 32 rest ts refl lex))

pub writes-text : (text : List ℕ) → Writes (printed (Text text)) (record { class = class.Text; text = printed (Text text) } ∷ [])
unfolding printed
writes-text text rest ts end lex = lex-word class.Text (printed_text text) rest ts (omega arith) (λ place. front_at-printed_text place text rest (end-quote rest end)) lex

writes-bytes : (bytes : List ℕ) → AllByRecursion (λ byte. byte < 256) bytes → Writes (printed (Blob bytes)) (record { class = class.Bytes; text = printed (Blob bytes) } ∷ [])
unfolding printed
writes-bytes bytes small rest ts end lex = lex-word class.Bytes (printed_bytes bytes) rest ts (omega arith) (λ place. front_at-printed_bytes place bytes rest small) lex

writes-num : (number : ℤ) → unsigned_abs number < 10 ^ 38 → Writes (printed (Num number)) (number_word (printed (Num number)) ∷ [])
unfolding printed
writes-num number few = writes-number (signed_decimal number) number (number_value-printed number few)

writes-value : (value : Value) → CanPrintValue value → Writes (written_default value) (written_words value)
writes-value Null can = writes-nothing
writes-value (Num number) can = closes-then (codes " DEFAULT ") (printed (Num number)) (keyword (codes "DEFAULT") ∷ []) (number_word (printed (Num number)) ∷ []) closes-default (writes-num number can)
writes-value (Text text) can = closes-then (codes " DEFAULT ") (printed (Text text)) (keyword (codes "DEFAULT") ∷ []) (record { class = class.Text; text = printed (Text text) } ∷ []) closes-default (writes-text text)
writes-value (Blob bytes) can = closes-then (codes " DEFAULT ") (printed (Blob bytes)) (keyword (codes "DEFAULT") ∷ []) (record { class = class.Bytes; text = printed (Blob bytes) } ∷ []) closes-default (writes-bytes bytes can)

begins-value : (value : Value) → Begins (written_default value)
begins-value Null rest end = end
begins-value (Num number) rest end = (refl, refl, refl)
begins-value (Text text) rest end = (refl, refl, refl)
begins-value (Blob bytes) rest end = (refl, refl, refl)

writes-default : (default : Option Value) → CanPrintDefault default → Writes (printed_default default) (default_words default)
writes-default None can = writes-nothing
writes-default (Some value) can = writes-value value can

begins-default : (default : Option Value) → Begins (printed_default default)
begins-default None = begins-nothing
begins-default (Some value) = begins-value value

writes-auto : (auto : Bool) → Writes (cond auto (codes " AUTO_INCREMENT") []) (auto_words auto)
writes-auto true rest ts end lex = lex-gap 32 (codes "AUTO_INCREMENT" ++ rest) _ refl (lex-word class.Name (codes "AUTO_INCREMENT") rest ts (omega arith) (λ place. front-auto place rest end) lex)
writes-auto false rest ts end lex = lex

begins-auto : (auto : Bool) → Begins (cond auto (codes " AUTO_INCREMENT") [])
begins-auto true rest end = (refl, refl, refl)
begins-auto false rest end = end

-- ---- a column's line

pub writes-column : (column : Column) → CanPrintColumn column → Writes (column_line column) (column_words column)
unfolding column_line
writes-column column can =
    let null = cond column.nullable [] (codes " NOT NULL") in
    let default = printed_default column.default in
    let name = closes-both (quoted column.name) (codes " ") (name_word column.name ∷ []) [] (closes-name column.name can.0) closes-blank in
    let kind = closes-then (quoted column.name ++ codes " ") (printed_kind column.kind) (name_word column.name ∷ []) (kind_words column.kind) name (writes-kind column.kind can.1) in
    let to_null = writes-then (quoted column.name ++ codes " " ++ printed_kind column.kind) null (name_word column.name ∷ kind_words column.kind) (null_words column.nullable) kind (begins-null column.nullable) (writes-null column.nullable) in
    let to_default = writes-then (quoted column.name ++ codes " " ++ printed_kind column.kind ++ null) default (name_word column.name ∷ kind_words column.kind ++ null_words column.nullable) (default_words column.default) to_null (begins-default column.default) (writes-default column.default can.2) in
    writes-then (quoted column.name ++ codes " " ++ printed_kind column.kind ++ null ++ default) (cond column.auto (codes " AUTO_INCREMENT") []) (name_word column.name ∷ kind_words column.kind ++ null_words column.nullable ++ default_words column.default) (auto_words column.auto) to_default (begins-auto column.auto) (writes-auto column.auto)

-- ---- keys

pub named : (columns : List Column) (place : ℕ) → AllByRecursion CanPrintColumn columns → CanQuote (column_name columns place)
named [] place all = tt
named (column ∷ columns) zero all = all.0.0
named (column ∷ columns) (suc place) all = named columns place all.1

closes-comma_name : (name : List ℕ) → CanQuote name → Closes (codes ", " ++ quoted name) (sign_word (codes ",") ∷ name_word name ∷ [])
closes-comma_name name can rest ts lex = closes-comma (32 ∷ (quoted name ++ rest)) _ (lex-gap 32 (quoted name ++ rest) _ refl (closes-name name can rest ts lex))

closes-names : (columns : List Column) (places : List ℕ) → AllByRecursion CanPrintColumn columns
    → Closes (flat_map (λ next. codes ", " ++ quoted (column_name columns next)) places) (flat_map (λ next. sign_word (codes ",") ∷ name_word (column_name columns next) ∷ []) places)
closes-names columns [] all = closes-nothing
closes-names columns (place ∷ places) all =
    closes-both (codes ", " ++ quoted (column_name columns place)) _ (sign_word (codes ",") ∷ name_word (column_name columns place) ∷ []) _ (closes-comma_name (column_name columns place) (named columns place all)) (closes-names columns places all)

closes-key_names : (columns : List Column) (places : List ℕ) → AllByRecursion CanPrintColumn columns → Closes (key_names columns places) (names_words columns places)
unfolding key_names
closes-key_names columns [] all = closes-nothing
closes-key_names columns (place ∷ places) all = closes-both (quoted (column_name columns place)) _ (name_word (column_name columns place) ∷ []) _ (closes-name (column_name columns place) (named columns place all)) (closes-names columns places all)

pub closes-key_columns : (columns : List Column) (places : List ℕ) → AllByRecursion CanPrintColumn columns → Closes (key_columns columns places) (places_words columns places)
unfolding key_columns
closes-key_columns columns places all =
    closes-both (codes "(") (key_names columns places ++ codes ")") (sign_word (codes "(") ∷ []) (names_words columns places ++ sign_word (codes ")") ∷ []) closes-open
    (closes-both (key_names columns places) (codes ")") (names_words columns places) (sign_word (codes ")") ∷ []) (closes-key_names columns places all) closes-close)

closes-key : Closes (codes "KEY ") (keyword (codes "KEY") ∷ [])
closes-key rest ts lex = lex-word class.Name (codes "KEY") (codes " " ++ rest) _ (omega arith) (λ place. front-key place rest) (lex-gap 32 rest ts refl lex)

closes-key_name : (name : List ℕ) → CanQuote name → Closes (codes "KEY " ++ quoted name ++ codes " ") (keyword (codes "KEY") ∷ name_word name ∷ [])
closes-key_name name can =
    closes-both (codes "KEY ") (quoted name ++ codes " ") (keyword (codes "KEY") ∷ []) (name_word name ∷ []) closes-key
    (closes-both (quoted name) (codes " ") (name_word name ∷ []) [] (closes-name name can) closes-blank)

pub closes-unique_front : (name : Option (List ℕ)) → CanQuoteKey name → Closes (unique_front name) (unique_words name)
closes-unique_front None can = λ rest ts lex. lex-word class.Name (codes "PRIMARY") (codes " KEY " ++ rest) _ (omega arith) (λ place. front-primary place (codes "KEY " ++ rest)) (lex-gap 32 (codes "KEY " ++ rest) _ refl (closes-key rest ts lex))
closes-unique_front (Some name) can = λ rest ts lex. lex-word class.Name (codes "UNIQUE") (32 ∷ ((codes "KEY " ++ quoted name ++ codes " ") ++ rest)) _ (omega arith) (λ place. front-unique place ((codes "KEY " ++ quoted name ++ codes " ") ++ rest)) (lex-gap 32 ((codes "KEY " ++ quoted name ++ codes " ") ++ rest) _ refl (closes-key_name name can rest ts lex))

pub closes-index_front : (name : Option (List ℕ)) → CanQuoteKey name → Closes (index_front name) (index_words name)
closes-index_front None can = closes-key
closes-index_front (Some name) can = closes-key_name name can
