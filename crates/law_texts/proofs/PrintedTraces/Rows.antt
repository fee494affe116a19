-- The words of a printed row, and that it is one line, read as that row.
use Rattle.std.proofs.Common.{◌≡◌, ◌∙◌, ℕ, suc, ◌/◌, ◌%◌, ◌<◌, ◌^◌, ◌==◌, Bool, true, false, cond, List, [], ◌∷◌, ◌++◌, length, Some, None, Ok, refl, sym, ap, subst, codes, arith, append-nil, append_assoc}
use Rattle.std.specs.Prelude.{ℤ, pos, negsuc, unsigned_abs}
use Rattle.std.specs.Fmt.{decimal, digit_glyph, signed_decimal}
use Rattle.std.specs.List.{AllByRecursion, flat_map}
use Rattle.std.specs.Option.{option_map, option_to_list}
use Rattle.std.specs.Str.{bytes_eq}
use Rattle.std.proofs.lemmas.Bool.Decides.{nat_tests}
use Rattle.std.proofs.lemmas.Slice.Eq.{bytes_eq-Decides}
use Rattle.base_values.specs.declared.value.Value.{Value}
use Rattle.base_values.specs.declared.value.Value.TheVariants.{Null, Num, Text, Blob}
use Rattle.base_values.specs.Literals.{escaped, hexadecimal, listed, printed, printed_row}
use Rattle.sql_words.specs.declared.word.WordClass.TheVariants as class
use Rattle.sql_words.specs.declared.front.Front.TheVariants.{Found}
use Rattle.sql_words.specs.Front.{front_at}
use Rattle.sql_words.specs.Printed.{printed_bytes}
use Rattle.sql_words.proofs.Reprinted.{bytes_value-printed_bytes, front_at-printed_bytes, text_value-printed_text}
use Rattle.sql_grammar.specs.declared.token.Token.{Token}
use Rattle.sql_grammar.specs.Pieces.{literal_of}
use Rattle.sql_grammar.specs.Tokens.{is_keyword, text_words}
use Rattle.sql_grammar.proofs.WordValues.ReadBack.{decimal_digits}
use Rattle.base_values.specs.GhoSchema.Names.{same_name}
use Rattle.proof_schemas.specs.Printed.Laws.{CanPrintValue}
use Rattle.proof_schemas.specs.Printed.Words.{keyword, number_word, sign_word}
use Rattle.proof_schemas.proofs.Printed.Lexing.{Begins, Closes, IsEnd, Lexes, Writes, closes-then, lex-end, lex-gap, lex-word, writes-closed, writes-then}
use Rattle.proof_schemas.proofs.Printed.Numbers.{number_value-printed}
use Rattle.proof_schemas.proofs.Printed.Pieces.{closes-close, closes-comma, closes-open, writes-number, writes-text}
use Rattle.proof_schemas.proofs.Printed.Tables.{lexes-words}
use Rattle.top_trace_reader.specs.Literals.{has_none, literals_in, row_in, row_printed_so}
use Rattle.law_texts.specs.PrintedTraces.{CanPrintRow}
use Rattle.law_texts.proofs.PrintedTraces.Lines.{Avoids, avoids-append, avoids-digits, avoids-known}

-- ---- words

abbrev pub value_word : Value → Token
value_word Null = keyword (codes "NULL")
value_word (Num number) = number_word (printed (Num number))
value_word (Text text) = record { class = class.Text; text = printed (Text text) }
value_word (Blob blob) = record { class = class.Bytes; text = printed (Blob blob) }

front_null : (place : ℕ) (rest : List ℕ) → IsEnd rest → front_at place (codes "NULL" ++ rest) ≡ Ok (Found class.Name 4)
unfolding front_at
front_null place [] end = refl
front_null place (byte ∷ rest) end = rw end.0 refl

writes-value : (value : Value) → CanPrintValue value → Writes (printed value) (value_word value ∷ [])
unfolding printed
writes-value Null can rest ts end lex = lex-word class.Name (codes "NULL") rest ts (omega arith) (λ place. front_null place rest end) lex
writes-value (Num number) can rest ts end lex = writes-number (signed_decimal number) number (number_value-printed number can) rest ts end lex
writes-value (Text text) can rest ts end lex = writes-text text rest ts end lex
writes-value (Blob blob) can rest ts end lex = lex-word class.Bytes (printed_bytes blob) rest ts (omega arith) (λ place. front_at-printed_bytes place blob rest can) lex

abbrev more_texts : List Value → List ℕ
more_texts values = flat_map (λ next. codes ", " ++ printed next) values

abbrev more_words : List Value → List Token
more_words values = flat_map (λ next. sign_word (codes ",") ∷ value_word next ∷ []) values

writes-next : (value : Value) → CanPrintValue value → Writes (codes ", " ++ printed value) (sign_word (codes ",") ∷ value_word value ∷ [])
writes-next value can rest ts end lex = closes-comma (32 ∷ (printed value ++ rest)) (value_word value ∷ ts) (lex-gap 32 (printed value ++ rest) (value_word value ∷ ts) refl (writes-value value can rest ts end lex))

begins-more : (values : List Value) → Begins (more_texts values)
begins-more [] rest end = end
begins-more (value ∷ values) rest end = (refl, refl, refl)

writes-more : (values : List Value) → AllByRecursion CanPrintValue values → Writes (more_texts values) (more_words values)
writes-more [] can rest ts end lex = lex
writes-more (value ∷ values) can rest ts end lex =
    writes-then (codes ", " ++ printed value) (more_texts values) (sign_word (codes ",") ∷ value_word value ∷ []) (more_words values) (writes-next value can.0) (begins-more values) (writes-more values can.1) rest ts end lex

abbrev pub listed_words : List Value → List Token
listed_words [] = []
listed_words (value ∷ values) = value_word value ∷ more_words values

writes-listed : (row : List Value) → AllByRecursion CanPrintValue row → Writes (listed row) (listed_words row)
unfolding listed
writes-listed [] can rest ts end lex = lex
writes-listed (value ∷ values) can rest ts end lex = writes-then (printed value) (more_texts values) (value_word value ∷ []) (more_words values) (writes-value value can.0) (begins-more values) (writes-more values can.1) rest ts end lex

-- a row's words, between parentheses
abbrev pub row_words : List Value → List Token
row_words row = (sign_word (codes "(") ∷ listed_words row) ++ sign_word (codes ")") ∷ []

stops-close : (rest : List ℕ) → IsEnd (codes ")" ++ rest)
stops-close rest = (refl, refl, refl)

pub closes-row : (row : List Value) → AllByRecursion CanPrintValue row → Closes (printed_row row) (row_words row)
unfolding printed_row
closes-row row can =
    writes-closed (codes "(" ++ listed row) (codes ")") (sign_word (codes "(") ∷ listed_words row) (sign_word (codes ")") ∷ [])
    (closes-then (codes "(") (listed row) (sign_word (codes "(") ∷ []) (listed_words row) closes-open (writes-listed row can)) stops-close closes-close

row_lexes : (row : List Value) → AllByRecursion CanPrintValue row → Lexes (printed_row row) (row_words row)
row_lexes row can =
    let all : Lexes (printed_row row ++ []) (row_words row ++ []) = closes-row row can [] [] lex-end in
    subst (λ (text : List ℕ). Lexes text (row_words row)) (append-nil (printed_row row)) (subst (λ (words : List Token). Lexes (printed_row row ++ []) words) (append-nil (row_words row)) all)

-- ---- values

literal_is : (value : Value) → CanPrintValue value → literal_of (value_word value) ≡ Some value
unfolding is_keyword same_name printed
literal_is Null can = refl
literal_is (Num number) can = ap (option_map Num) (number_value-printed number can)
literal_is (Text text) can = ap (option_map Text) (text_value-printed_text text)
literal_is (Blob blob) can = ap (option_map Blob) (bytes_value-printed_bytes blob can)

pub literals-append : (one other : List Token) → literals_in (one ++ other) ≡ literals_in one ++ literals_in other
unfolding literals_in
literals-append [] other = refl
literals-append (word ∷ one) other =
    ap (λ (more : List Value). option_to_list (literal_of word) ++ more) (literals-append one other) ∙ sym (append_assoc (option_to_list (literal_of word)) (literals_in one) (literals_in other))

-- a word that stands for a value, before others
pub literal_first : (word : Token) (value : Value) (words : List Token) (values : List Value) → literal_of word ≡ Some value → literals_in words ≡ values → literals_in (word ∷ words) ≡ value ∷ values
unfolding literals_in
literal_first word value words values is others = rw (is, others) refl

-- a word that stands for none
pub literal_none : (word : Token) (words : List Token) → literal_of word ≡ None → literals_in (word ∷ words) ≡ literals_in words
unfolding literals_in
literal_none word words is = rw is refl

sign_none : (sign : List ℕ) → literal_of (sign_word sign) ≡ None
unfolding is_keyword
sign_none sign = refl

literals_more : (values : List Value) → AllByRecursion CanPrintValue values → literals_in (more_words values) ≡ values
unfolding literals_in
literals_more [] can = refl
literals_more (value ∷ values) can =
    literal_none (sign_word (codes ",")) (value_word value ∷ more_words values) (sign_none (codes ",")) ∙ literal_first (value_word value) value (more_words values) values (literal_is value can.0) (literals_more values can.1)

literals_listed : (row : List Value) → AllByRecursion CanPrintValue row → literals_in (listed_words row) ≡ row
unfolding literals_in
literals_listed [] can = refl
literals_listed (value ∷ values) can = literal_first (value_word value) value (more_words values) values (literal_is value can.0) (literals_more values can.1)

close_none : literals_in (sign_word (codes ")") ∷ []) ≡ []
unfolding literals_in is_keyword
close_none = refl

pub literals_row : (row : List Value) → AllByRecursion CanPrintValue row → literals_in (row_words row) ≡ row
literals_row row can =
    literals-append (sign_word (codes "(") ∷ listed_words row) (sign_word (codes ")") ∷ [])
    ∙ ap (λ (front : List Value). front ++ literals_in (sign_word (codes ")") ∷ [])) (literal_none (sign_word (codes "(")) (listed_words row) (sign_none (codes "(")) ∙ literals_listed row can)
    ∙ ap (λ (back : List Value). row ++ back) close_none ∙ append-nil row

-- ---- the row is read

pub same_text : (text : List ℕ) → bytes_eq text text ≡ true
same_text text = (bytes_eq-Decides text text).1 refl

has_some : (row : List Value) → 0 < length row → has_none row ≡ false
has_some row some = grind (arith, nat_tests)

pub row_read : (row : List Value) → CanPrintRow row → row_in (printed_row row) ≡ Some row
unfolding row_in
row_read row can =
    let words : text_words (printed_row row) ≡ record { words = row_words row; is_faulty = false } = lexes-words (printed_row row) (row_words row) (row_lexes row can.1) in
    let found : literals_in (text_words (printed_row row)).words ≡ row = rw words (literals_row row can.1) in
    ap (row_printed_so (printed_row row)) found ∙ rw (same_text (printed_row row), has_some row can.0) refl

-- ---- it is one line

chosen : (mark : ℕ) (b : Bool) (one other : List ℕ) → Avoids mark one → (b ≡ false → Avoids mark other) → Avoids mark (cond b one other)
chosen mark true one other first second = first
chosen mark false one other first second = second refl

-- a line feed is escaped
one_line_byte : (byte : ℕ) → Avoids 10 (escaped byte)
one_line_byte byte =
    chosen 10 (byte == 39) (codes "''") _ (avoids-known 10 (codes "''") refl) (λ quote. chosen 10 (byte == 92) (codes "\\\\") _ (avoids-known 10 (codes "\\\\") refl) (λ backslash. chosen 10 (byte == 10) (codes "\\n") _ (avoids-known 10 (codes "\\n") refl) (λ feed.
    chosen 10 (byte == 13) (codes "\\r") _ (avoids-known 10 (codes "\\r") refl) (λ back. chosen 10 (byte == 9) (codes "\\t") _ (avoids-known 10 (codes "\\t") refl) (λ tab. chosen 10 (byte == 0) (codes "\\0") _ (avoids-known 10 (codes "\\0") refl) (λ none. (feed, tt)))))))

pub one_line_text : (text : List ℕ) → Avoids 10 (flat_map escaped text)
one_line_text [] = tt
one_line_text (byte ∷ text) = avoids-append 10 (escaped byte) (flat_map escaped text) (one_line_byte byte) (one_line_text text)

one_line_glyph : (digit : ℕ) → (digit_glyph false digit == 10) ≡ false
one_line_glyph digit = grind (arith, nat_tests)

one_line_bytes : (blob : List ℕ) → Avoids 10 (flat_map hexadecimal blob)
one_line_bytes [] = tt
one_line_bytes (byte ∷ blob) = (one_line_glyph (byte / 16), (one_line_glyph (byte % 16), one_line_bytes blob))

one_line_number : (number : ℤ) → unsigned_abs number < 10 ^ 38 → Avoids 10 (signed_decimal number)
one_line_number (pos n) few = avoids-digits 10 (decimal n) (omega arith) (decimal_digits n few).all
one_line_number (negsuc n) few = (refl, avoids-digits 10 (decimal (suc n)) (omega arith) (decimal_digits (suc n) few).all)

one_line_value : (value : Value) → CanPrintValue value → Avoids 10 (printed value)
unfolding printed
one_line_value Null can = avoids-known 10 (codes "NULL") refl
one_line_value (Num number) can = one_line_number number can
one_line_value (Text text) can = (refl, avoids-append 10 (flat_map escaped text) (codes "'") (one_line_text text) (refl, tt))
one_line_value (Blob blob) can = (refl, (refl, avoids-append 10 (flat_map hexadecimal blob) (codes "'") (one_line_bytes blob) (refl, tt)))

one_line_more : (values : List Value) → AllByRecursion CanPrintValue values → Avoids 10 (more_texts values)
one_line_more [] can = tt
one_line_more (value ∷ values) can = (refl, (refl, avoids-append 10 (printed value) (more_texts values) (one_line_value value can.0) (one_line_more values can.1)))

one_line_listed : (row : List Value) → AllByRecursion CanPrintValue row → Avoids 10 (listed row)
unfolding listed
one_line_listed [] can = tt
one_line_listed (value ∷ values) can = avoids-append 10 (printed value) (more_texts values) (one_line_value value can.0) (one_line_more values can.1)

pub one_line_row : (row : List Value) → AllByRecursion CanPrintValue row → Avoids 10 (printed_row row)
unfolding printed_row
one_line_row row can = (refl, avoids-append 10 (listed row) (codes ")") (one_line_listed row can) (refl, tt))
