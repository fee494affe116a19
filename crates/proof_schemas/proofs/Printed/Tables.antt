-- The words of a schema's text.
use Rattle.std.proofs.Common.{◌≡◌, ℕ, false, List, [], ◌∷◌, ◌++◌, Option, Some, None, Result, Ok, Err, refl, ap, subst, ◌∙◌, codes, map, arith, append_assoc, append-nil}
use Rattle.std.specs.Fmt.{decimal}
use Rattle.std.specs.List.{flat_map, AllByRecursion}
use Rattle.base_values.specs.declared.value.Value.TheVariants.{Text}
use Rattle.base_values.specs.Literals.{printed}
use Rattle.base_values.specs.declared.gho_schema.schema.Column.{Column}
use Rattle.base_values.specs.declared.gho_schema.schema.Index.{Index}
use Rattle.base_values.specs.declared.gho_schema.schema.Schema.{Schema}
use Rattle.sql_words.specs.declared.word.WordClass.TheVariants as class
use Rattle.sql_words.specs.declared.word.WordFault.{WordFault}
use Rattle.sql_words.specs.declared.front.Front.TheVariants.{Found}
use Rattle.sql_words.specs.Front.{front_at}
use Rattle.sql_words.specs.Readings.{Reading, words_of}
use Rattle.sql_grammar.specs.declared.token.Token.{Token}
use Rattle.sql_grammar.specs.Tokens.{token_of, words_to, text_words}
use Rattle.sql_show.specs.SchemaText.{quoted, column_line, key_columns, unique_front, unique_line, index_front, index_line, lines_of, joined, printed_start, printed_comment, printed_schema}
use Rattle.proof_schemas.specs.Printed.Laws.{CanQuoteKey, CanPrintColumn, CanPrintStart, CanPrint, PrintedSchemasHaveWords}
use Rattle.proof_schemas.specs.Printed.Words.{keyword, name_word, sign_word, number_word, column_words, places_words, unique_words, index_words, lines_words, joined_words, start_words, comment_words, schema_words}
use Rattle.proof_schemas.proofs.Printed.Lexing.{Lexes, lex-end, lex-gap, lex-word, IsEnd, Writes, Closes, Begins, closes-writes, writes-then, closes-then, closes-both, writes-closed, closes-name}
use Rattle.proof_schemas.proofs.Printed.Numbers.{number_value-decimal}
use Rattle.proof_schemas.proofs.Printed.Pieces.{closes-close, closes-comma, closes-open, writes-column, writes-number, writes-text, closes-key_columns, closes-unique_front, closes-index_front}

-- ---- lines

-- each line has its words
abbrev AllWrite : List (List ℕ) → List (List Token) → Type 0
AllWrite [] [] = Unit {0}
AllWrite (line ∷ lines) (words ∷ others) = Writes line words × AllWrite lines others
AllWrite lines words = ⊥

all-both : (a : List (List ℕ)) (ws : List (List Token)) (b : List (List ℕ)) (vs : List (List Token)) → AllWrite a ws → AllWrite b vs → AllWrite (a ++ b) (ws ++ vs)
all-both [] [] b vs first second = second
all-both [] (w ∷ ws) b vs first second = absurd first
all-both (l ∷ a) [] b vs first second = absurd first
all-both (l ∷ a) (w ∷ ws) b vs first second = (first.0, all-both a ws b vs first.1 second)

all-map : {X : Type 0} (P : X → Type 0) (line : X → List ℕ) (words : X → List Token) → ((x : X) → P x → Writes (line x) (words x)) → (xs : List X) → AllByRecursion P xs → AllWrite (map line xs) (map words xs)
all-map P line words each [] all = tt
all-map P line words each (x ∷ xs) all = (each x all.0, all-map P line words each xs all.1)

module _ (columns : List Column) (can : AllByRecursion CanPrintColumn columns) where
  writes-unique : (index : Index) → CanQuoteKey index.name → Writes (unique_line columns index) (unique_words index.name ++ places_words columns index.places)
  unfolding unique_line
  writes-unique index name =
      closes-writes (unique_front index.name ++ key_columns columns index.places) (unique_words index.name ++ places_words columns index.places)
      (closes-both (unique_front index.name) (key_columns columns index.places) (unique_words index.name) (places_words columns index.places) (closes-unique_front index.name name) (closes-key_columns columns index.places can))

  writes-index : (index : Index) → CanQuoteKey index.name → Writes (index_line columns index) (index_words index.name ++ places_words columns index.places)
  unfolding index_line
  writes-index index name =
      closes-writes (index_front index.name ++ key_columns columns index.places) (index_words index.name ++ places_words columns index.places)
      (closes-both (index_front index.name) (key_columns columns index.places) (index_words index.name) (places_words columns index.places) (closes-index_front index.name name) (closes-key_columns columns index.places can))

all-lines : (schema : Schema) → CanPrint schema → AllWrite (lines_of schema) (lines_words schema)
all-lines schema can =
    let columns = all-map CanPrintColumn column_line column_words writes-column schema.columns can.columns in
    let uniques = all-map (λ (index : Index). CanQuoteKey index.name) (unique_line schema.columns) (λ index. unique_words index.name ++ places_words schema.columns index.places) (writes-unique schema.columns can.columns) schema.uniques can.uniques in
    let indexes = all-map (λ (index : Index). CanQuoteKey index.name) (index_line schema.columns) (λ index. index_words index.name ++ places_words schema.columns index.places) (writes-index schema.columns can.columns) schema.indexes can.indexes in
    let unique_words_all = map (λ index. unique_words index.name ++ places_words schema.columns index.places) schema.uniques in
    all-both (map column_line schema.columns ++ map (unique_line schema.columns) schema.uniques) (map column_words schema.columns ++ unique_words_all) (map (index_line schema.columns) schema.indexes) _
    (all-both (map column_line schema.columns) (map column_words schema.columns) (map (unique_line schema.columns) schema.uniques) unique_words_all columns uniques) indexes

-- ---- lines with a comma between them

abbrev more_lines : List (List ℕ) → List ℕ
more_lines lines = flat_map (λ next. codes ",\n  " ++ next) lines

abbrev more_words : List (List Token) → List Token
more_words lines = flat_map (λ next. sign_word (codes ",") ∷ next) lines

closes-next : Closes (codes ",\n  ") (sign_word (codes ",") ∷ [])
closes-next rest ts lex = closes-comma (codes "\n  " ++ rest) _ (lex-gap 10 (codes "  " ++ rest) _ refl (lex-gap 32 (codes " " ++ rest) _ refl (lex-gap 32 rest ts refl lex)))

begins-more : (lines : List (List ℕ)) → Begins (more_lines lines)
begins-more [] = λ rest end. end
begins-more (line ∷ lines) = λ rest end. (refl, refl, refl)

writes-more : (lines : List (List ℕ)) (words : List (List Token)) → AllWrite lines words → Writes (more_lines lines) (more_words words)
writes-more [] [] all = λ rest ts end lex. lex
writes-more [] (w ∷ words) all = absurd all
writes-more (line ∷ lines) [] all = absurd all
writes-more (line ∷ lines) (w ∷ words) all =
    writes-then (codes ",\n  " ++ line) (more_lines lines) (sign_word (codes ",") ∷ w) (more_words words) (closes-then (codes ",\n  ") line (sign_word (codes ",") ∷ []) w closes-next all.0) (begins-more lines) (writes-more lines words all.1)

closes-margin : Closes (codes "  ") []
closes-margin rest ts lex = lex-gap 32 (codes " " ++ rest) _ refl (lex-gap 32 rest ts refl lex)

writes-joined : (lines : List (List ℕ)) (words : List (List Token)) → AllWrite lines words → Writes (joined lines) (joined_words words)
unfolding joined
writes-joined [] [] all = λ rest ts end lex. lex
writes-joined [] (w ∷ words) all = absurd all
writes-joined (line ∷ lines) [] all = absurd all
writes-joined (line ∷ lines) (w ∷ words) all =
    closes-then (codes "  ") (line ++ more_lines lines) [] (w ++ more_words words) closes-margin (writes-then line (more_lines lines) w (more_words words) all.0 (begins-more lines) (writes-more lines words all.1))

-- ---- the table

module _ (place : ℕ) (rest : List ℕ) where
  front-create : front_at place (codes "CREATE" ++ 32 ∷ rest) ≡ Ok (Found class.Name 6)
  unfolding front_at
  front-create = refl

  front-table : front_at place (codes "TABLE" ++ 32 ∷ rest) ≡ Ok (Found class.Name 5)
  unfolding front_at
  front-table = refl

  front-comment : front_at place (codes "COMMENT" ++ 61 ∷ rest) ≡ Ok (Found class.Name 7)
  unfolding front_at
  front-comment = refl

  front-start : front_at place (codes "AUTO_INCREMENT" ++ 61 ∷ rest) ≡ Ok (Found class.Name 14)
  unfolding front_at
  front-start = refl

  front-equals : front_at place (61 ∷ rest) ≡ Ok (Found class.Sign 1)
  unfolding front_at
  front-equals = refl

closes-create : Closes (codes "CREATE TABLE ") (keyword (codes "CREATE") ∷ keyword (codes "TABLE") ∷ [])
closes-create rest ts lex =
    lex-word class.Name (codes "CREATE") (codes " TABLE " ++ rest) _ (omega arith) (λ place. front-create place (codes "TABLE " ++ rest))
    (lex-gap 32 (codes "TABLE " ++ rest) _ refl (lex-word class.Name (codes "TABLE") (codes " " ++ rest) _ (omega arith) (λ place. front-table place rest) (lex-gap 32 rest ts refl lex)))

closes-opening : Closes (codes " (\n") (sign_word (codes "(") ∷ [])
closes-opening rest ts lex = lex-gap 32 (codes "(\n" ++ rest) _ refl (closes-open (codes "\n" ++ rest) _ (lex-gap 10 rest ts refl lex))

closes-closing : Closes (codes "\n)") (sign_word (codes ")") ∷ [])
closes-closing rest ts lex = lex-gap 10 (codes ")" ++ rest) _ refl (closes-close rest ts lex)

closes-comment : Closes (codes " COMMENT=") (keyword (codes "COMMENT") ∷ sign_word (codes "=") ∷ [])
closes-comment rest ts lex =
    lex-gap 32 (codes "COMMENT=" ++ rest) _ refl (lex-word class.Name (codes "COMMENT") (codes "=" ++ rest) _ (omega arith) (λ place. front-comment place rest)
    (lex-word class.Sign (codes "=") rest ts (omega arith) (λ place. front-equals place rest) lex))

begins-comment : (comment : List ℕ) → Begins (printed_comment comment)
begins-comment [] rest end = end
begins-comment (byte ∷ bytes) rest end = (refl, refl, refl)

closes-start : Closes (codes " AUTO_INCREMENT=") (keyword (codes "AUTO_INCREMENT") ∷ sign_word (codes "=") ∷ [])
closes-start rest ts lex =
    lex-gap 32 (codes "AUTO_INCREMENT=" ++ rest) _ refl (lex-word class.Name (codes "AUTO_INCREMENT") (codes "=" ++ rest) _ (omega arith) (λ place. front-start place rest)
    (lex-word class.Sign (codes "=") rest ts (omega arith) (λ place. front-equals place rest) lex))

writes-start : (start : Option ℕ) → CanPrintStart start → Writes (printed_start start) (start_words start)
writes-start None can = λ rest ts end lex. lex
writes-start (Some number) can = closes-then (codes " AUTO_INCREMENT=") (decimal number) (keyword (codes "AUTO_INCREMENT") ∷ sign_word (codes "=") ∷ []) (number_word (decimal number) ∷ []) closes-start (writes-number (decimal number) _ (number_value-decimal number can))

writes-comments : (comment : List ℕ) → Writes (printed_comment comment) (comment_words comment)
writes-comments [] = λ rest ts end lex. lex
writes-comments (byte ∷ bytes) = closes-then (codes " COMMENT=") (printed (Text (byte ∷ bytes))) (keyword (codes "COMMENT") ∷ sign_word (codes "=") ∷ []) (record { class = class.Text; text = printed (Text (byte ∷ bytes)) } ∷ []) closes-comment (writes-text (byte ∷ bytes))

closes-line : Closes (codes "\n") []
closes-line rest ts lex = lex-gap 10 rest ts refl lex

stops-line : (rest : List ℕ) → IsEnd (codes "\n" ++ rest)
stops-line rest = (refl, refl, refl)

stops-closing : (rest : List ℕ) → IsEnd (codes "\n)" ++ rest)
stops-closing rest = (refl, refl, refl)

-- the words of the text, with nothing behind
lexes-schema : (schema : Schema) → CanPrint schema → Lexes (printed_schema schema ++ []) (schema_words schema ++ [])
unfolding printed_schema
lexes-schema schema can =
    let comment = printed_comment schema.comment in
    let start = printed_start schema.start in
    let starts = start_words schema.start in
    let comments = comment_words schema.comment in
    let lines = joined (lines_of schema) in
    let body = joined_words (lines_words schema) in
    let front : List Token = keyword (codes "CREATE") ∷ keyword (codes "TABLE") ∷ name_word schema.name ∷ sign_word (codes "(") ∷ [] in
    let close : List Token = sign_word (codes ")") ∷ [] in
    let name_text : List ℕ = codes "CREATE TABLE " ++ quoted schema.name in
    let open_text : List ℕ = name_text ++ codes " (\n" in
    let name : Closes name_text (keyword (codes "CREATE") ∷ keyword (codes "TABLE") ∷ name_word schema.name ∷ []) =
    closes-both (codes "CREATE TABLE ") (quoted schema.name) (keyword (codes "CREATE") ∷ keyword (codes "TABLE") ∷ []) (name_word schema.name ∷ []) closes-create (closes-name schema.name can.name) in
    let opened : Closes open_text front =
    closes-both name_text (codes " (\n") (keyword (codes "CREATE") ∷ keyword (codes "TABLE") ∷ name_word schema.name ∷ []) (sign_word (codes "(") ∷ []) name closes-opening in
    let table : Writes (open_text ++ lines) (front ++ body) =
    closes-then open_text lines front body opened (writes-joined (lines_of schema) (lines_words schema) (all-lines schema can)) in
    let closed : Closes (open_text ++ lines ++ codes "\n)") (front ++ body ++ close) =
    writes-closed (open_text ++ lines) (codes "\n)") (front ++ body) close table stops-closing closes-closing in
    let begun : Writes (open_text ++ lines ++ codes "\n)" ++ start) (front ++ body ++ close ++ starts) =
    closes-then (open_text ++ lines ++ codes "\n)") start (front ++ body ++ close) starts closed (writes-start schema.start can.start) in
    let commented : Writes (open_text ++ lines ++ codes "\n)" ++ start ++ comment) (front ++ body ++ close ++ starts ++ comments) =
    writes-then (open_text ++ lines ++ codes "\n)" ++ start) comment (front ++ body ++ close ++ starts) comments begun (begins-comment schema.comment) (writes-comments schema.comment) in
    let whole : Closes (open_text ++ lines ++ codes "\n)" ++ start ++ comment ++ codes "\n") (front ++ body ++ close ++ starts ++ comments ++ []) =
    writes-closed (open_text ++ lines ++ codes "\n)" ++ start ++ comment) (codes "\n") (front ++ body ++ close ++ starts ++ comments) [] commented stops-line closes-line in
    let same : front ++ body ++ close ++ starts ++ comments ++ [] ≡ schema_words schema =
    append-nil (front ++ body ++ close ++ starts ++ comments) ∙ append_assoc (front ++ body ++ close) starts comments ∙ append_assoc (front ++ body) close (starts ++ comments) in
    subst (λ (words : List Token). Lexes (printed_schema schema ++ []) (words ++ [])) same (whole [] [] lex-end)

pub words-are : (text : List ℕ) (read : Result (List Reading) WordFault) (ws : List Reading) (ts : List Token) → read ≡ Ok ws → map token_of ws ≡ ts → words_to text read ≡ record { words = ts; is_faulty = false }
words-are text (Ok us) ws ts e same = let is : us ≡ ws = cc in ap (λ (vs : List Reading). record { words = map token_of vs; is_faulty = false }) is ∙ ap (λ (vs : List Token). record { words = vs; is_faulty = false }) same
words-are text (Err fault) ws ts e same = absurd cc

pub lexes-words : (text : List ℕ) (ts : List Token) → Lexes text ts → text_words text ≡ record { words = ts; is_faulty = false }
unfolding text_words
lexes-words text ts lex = let r = lex 0 in words-are text (words_of text) r.0 ts r.1 r.2

pub printed-words : PrintedSchemasHaveWords
printed-words schema can =
    let lex = subst (λ (t : List ℕ). Lexes t (schema_words schema)) (append-nil (printed_schema schema)) (subst (λ (us : List Token). Lexes (printed_schema schema ++ []) us) (append-nil (schema_words schema)) (lexes-schema schema can)) in
    lexes-words (printed_schema schema) (schema_words schema) lex
