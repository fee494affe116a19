-- The words of a schema's text are read as its columns and keys.
use Rattle.std.proofs.Common.{◌≡◌, ℕ, zero, suc, ◌<◌, ◌≤◌, true, false, List, [], ◌∷◌, ◌++◌, length, Option, Some, None, Ok, refl, ap, ◌∙◌, codes, map, arith, append_assoc, length-append}
use Rattle.std.specs.Prelude.{is_some}
use Rattle.std.specs.List.{flat_map, AllByRecursion}
use Rattle.std.specs.Str.{bytes_eq}
use Rattle.std.proofs.lemmas.List.{length-map}
use Rattle.base_values.specs.Literals.{printed}
use Rattle.base_values.specs.GhoSchema.Names.{same_name}
use Rattle.base_values.specs.declared.gho_schema.schema.Column.{Column}
use Rattle.base_values.specs.declared.gho_schema.schema.Index.{Index}
use Rattle.base_values.specs.declared.gho_schema.schema.Schema.{Schema}
use Rattle.sql_words.proofs.Reprinted.{text_value-printed_text}
use Rattle.sql_grammar.specs.declared.code.SchemaCode.TheVariants.{Syntax}
use Rattle.sql_grammar.specs.declared.token.Token.{Token}
use Rattle.sql_grammar.specs.Keys.{names_at, key_columns_at, key_name_at, key_at}
use Rattle.sql_grammar.specs.Listed.{listed, gathered}
use Rattle.sql_grammar.specs.Pieces.{after_keyword, after_sign, keyword_at, sign_at, name_at, number_at, text_at}
use Rattle.sql_grammar.specs.Scope.{is_no_item}
use Rattle.sql_grammar.specs.Tokens.{is_keyword, same_sign}
use Rattle.sql_create.specs.declared.written.Item.{Item}
use Rattle.sql_create.specs.declared.written.Item.TheVariants as items
use Rattle.base_values.specs.SchemaRules.Valid.{is_kind, IsColumn, IsKey, IsValid}
use Rattle.sql_create.specs.Options.{value_words, comment_at, start_at, option_at, options_at}
use Rattle.sql_show.specs.SchemaText.{column_name}
use Rattle.sql_create.specs.Written.{primary_item_at, after_key_word, item_at, items_at, table_at, written}
use Rattle.proof_schemas.specs.Printed.Laws.{CanQuote, CanQuoteKey, CanPrintColumn, CanPrintStart, CanPrint, MayCountIn, FitsVersion, start_read, names_read, unique_read, index_read, line_of, table_read, PrintedSchemasAreWritten}
use Rattle.proof_schemas.specs.Printed.Words.{name_word, sign_word, column_words, names_words, places_words, unique_words, index_words, lines_words, joined_words, start_words, comment_words, schema_words}
use Rattle.proof_schemas.proofs.Printed.Numbers.{number_value-decimal}
use Rattle.proof_schemas.proofs.Printed.Pieces.{named}
use Rattle.proof_schemas.proofs.Printed.Reading.{name-read, column-read}
use Rattle.proof_schemas.proofs.Printed.Tables.{printed-words}

-- ---- the names of a key's columns

module _ (columns : List Column) (can : AllByRecursion CanPrintColumn columns) (tail : List Token) where
  abbrev closing : List Token
  closing = sign_word (codes ")") ∷ tail

  abbrev more_names : List ℕ → List Token
  more_names places = flat_map (λ next. sign_word (codes ",") ∷ name_word (column_name columns next) ∷ []) places

  names-listed : (place : ℕ) (places : List ℕ) (fuel : ℕ) → length (more_names places) < fuel
      → listed name_at Syntax fuel (name_word (column_name columns place) ∷ (more_names places ++ closing)) ≡ Ok (column_name columns place ∷ map (column_name columns) places, closing)
  unfolding listed after_sign same_sign
  names-listed place places zero lt = absurd (omega arith)
  names-listed place [] (suc fuel) lt = rw (name-read (column_name columns place) closing (named columns place can)) refl
  names-listed place (next ∷ places) (suc fuel) lt =
      let others : List Token = sign_word (codes ",") ∷ name_word (column_name columns next) ∷ (more_names places ++ closing) in
      rw (name-read (column_name columns place) others (named columns place can), names-listed next places fuel (omega arith)) refl

  names-read : (place : ℕ) (places : List ℕ) → names_at (name_word (column_name columns place) ∷ (more_names places ++ closing)) ≡ Ok (names_read columns (place ∷ places), closing)
  unfolding names_at
  names-read place places =
      let enough : length (more_names places) < length (name_word (column_name columns place) ∷ (more_names places ++ closing)) = omega (arith, length-append (more_names places) closing) in
      names-listed place places (length (name_word (column_name columns place) ∷ (more_names places ++ closing))) enough

  columns-read : (places : List ℕ) → 0 < length places → key_columns_at (places_words columns places ++ tail) ≡ Ok (names_read columns places, tail)
  unfolding key_columns_at sign_at after_sign same_sign
  columns-read [] lt = absurd (omega arith)
  columns-read (place ∷ places) lt =
      let names = names_words columns (place ∷ places) in
      let read : names_at ((names ++ sign_word (codes ")") ∷ []) ++ tail) ≡ Ok (names_read columns (place ∷ places), closing) = ap names_at (append_assoc names (sign_word (codes ")") ∷ []) tail) ∙ names-read place places in
      rw read refl

module _ (version : ℕ) where
  -- ---- items

  -- the words are read as this item, where a comma or a parenthesis stands behind them
  abbrev IsReadAs : List Token → Item → Type 0
  IsReadAs words item = (sign : List ℕ) (rest : List Token) → bytes_eq sign (codes "(") ≡ false → item_at version (words ++ sign_word sign ∷ rest) ≡ Ok (item, sign_word sign ∷ rest)

  column-item : (column : Column) → CanPrintColumn column → MayCountIn version column.auto → is_kind column.kind ≡ true → IsReadAs (column_words column) (items.Column (line_of column))
  unfolding item_at is_keyword is_no_item
  column-item column can may is sign rest other = rw (column-read version column sign rest can may is other) refl

  module _ (columns : List Column) (can : AllByRecursion CanPrintColumn columns) where
    key-read : (name : List ℕ) (places : List ℕ) (tail : List Token) → CanQuote name → 0 < length places → key_at (name_word name ∷ (places_words columns places ++ tail)) ≡ Ok (record { name = Some name; columns = names_read columns places }, tail)
    unfolding key_at key_name_at after_sign same_sign
    key-read name places tail quote some = rw (name-read name (places_words columns places ++ tail) quote, columns-read columns can tail places some) refl

    plain-read : (places : List ℕ) (tail : List Token) → 0 < length places → key_at (places_words columns places ++ tail) ≡ Ok (record { name = None; columns = names_read columns places }, tail)
    unfolding key_at key_name_at after_sign same_sign
    plain-read places tail some = rw (columns-read columns can tail places some) refl

    unique-item : (index : Index) (name : Option (List ℕ)) → CanQuoteKey name → 0 < length index.places → IsReadAs (unique_words name ++ places_words columns index.places) (unique_read columns index name)
    unfolding item_at is_keyword same_name primary_item_at keyword_at after_keyword after_key_word
    unique-item index None quote some sign rest other = rw (columns-read columns can (sign_word sign ∷ rest) index.places some) refl
    unique-item index (Some name) quote some sign rest other = rw (key-read name index.places (sign_word sign ∷ rest) quote some) refl

    index-item : (index : Index) (name : Option (List ℕ)) → CanQuoteKey name → 0 < length index.places
        → IsReadAs (index_words name ++ places_words columns index.places) (items.Key (record { is_unique = false; text = record { name = name; columns = names_read columns index.places } }))
    unfolding item_at is_keyword same_name
    index-item index None quote some sign rest other = rw (plain-read index.places (sign_word sign ∷ rest) some) refl
    index-item index (Some name) quote some sign rest other = rw (key-read name index.places (sign_word sign ∷ rest) quote some) refl

  -- ---- lists of items

  both-all : {X : Type 0} (P Q : X → Type 0) (xs : List X) → AllByRecursion P xs → AllByRecursion Q xs → AllByRecursion (λ x. P x × Q x) xs
  both-all P Q [] ps qs = tt
  both-all P Q (x ∷ xs) ps qs = ((ps.0, qs.0), both-all P Q xs ps.1 qs.1)

  abbrev AllReadAs : List (List Token) → List Item → Type 0
  AllReadAs [] [] = Unit {0}
  AllReadAs (words ∷ lines) (item ∷ items) = IsReadAs words item × AllReadAs lines items
  AllReadAs lines items = ⊥

  read-both : (a : List (List Token)) (xs : List Item) (b : List (List Token)) (ys : List Item) → AllReadAs a xs → AllReadAs b ys → AllReadAs (a ++ b) (xs ++ ys)
  read-both [] [] b ys first second = second
  read-both [] (x ∷ xs) b ys first second = absurd first
  read-both (w ∷ a) [] b ys first second = absurd first
  read-both (w ∷ a) (x ∷ xs) b ys first second = (first.0, read-both a xs b ys first.1 second)

  read-map : {X : Type 0} (P : X → Type 0) (words : X → List Token) (item : X → Item) → ((x : X) → P x → IsReadAs (words x) (item x)) → (xs : List X) → AllByRecursion P xs → AllReadAs (map words xs) (map item xs)
  read-map P words item each [] all = tt
  read-map P words item each (x ∷ xs) all = (each x all.0, read-map P words item each xs all.1)

  abbrev more_lines : List (List Token) → List Token
  more_lines lines = flat_map (λ next. sign_word (codes ",") ∷ next) lines

  module _ (tail : List Token) where
    abbrev table_end : List Token
    table_end = sign_word (codes ")") ∷ tail

    items-listed : (line : List Token) (item : Item) (lines : List (List Token)) (others : List Item) (fuel : ℕ) → IsReadAs line item → AllReadAs lines others → length lines < fuel
        → listed (item_at version) Syntax fuel (line ++ (more_lines lines ++ table_end)) ≡ Ok (item ∷ others, table_end)
    unfolding listed after_sign same_sign
    items-listed line item lines others zero first all lt = absurd (omega arith)
    items-listed line item [] [] (suc fuel) first all lt = rw (first (codes ")") tail refl) refl
    items-listed line item [] (x ∷ others) (suc fuel) first all lt = absurd all
    items-listed line item (next ∷ lines) [] (suc fuel) first all lt = absurd all
    items-listed line item (next ∷ lines) (x ∷ others) (suc fuel) first all lt =
        let following : (next ++ more_lines lines) ++ table_end ≡ next ++ (more_lines lines ++ table_end) = append_assoc next (more_lines lines) table_end in
        rw (following, first (codes ",") (next ++ (more_lines lines ++ table_end)) refl, items-listed next x lines others fuel all.0 all.1 (omega arith)) refl

  more-long : (lines : List (List Token)) → length lines ≤ length (more_lines lines)
  more-long [] = omega arith
  more-long (line ∷ lines) = let rest = more-long lines in omega (arith, length-append line (more_lines lines), rest)

  items-read : (lines : List (List Token)) (all : List Item) (tail : List Token) → AllReadAs lines all → 0 < length lines → items_at version (joined_words lines ++ sign_word (codes ")") ∷ tail) ≡ Ok (all, sign_word (codes ")") ∷ tail)
  unfolding items_at
  items-read [] all tail read some = absurd (omega arith)
  items-read (line ∷ lines) [] tail read some = absurd read
  items-read (line ∷ lines) (item ∷ others) tail read some =
      let end : List Token = sign_word (codes ")") ∷ tail in
      let apart : (line ++ more_lines lines) ++ end ≡ line ++ (more_lines lines ++ end) = append_assoc line (more_lines lines) end in
      let enough : length lines < length (line ++ (more_lines lines ++ end)) = let long = more-long lines in omega (arith, length-append line (more_lines lines ++ end), length-append (more_lines lines) end, long) in
      rw apart (items-listed tail line item lines others (length (line ++ (more_lines lines ++ end))) read.0 read.1 enough)

  -- ---- the table

  options-read : (start : Option ℕ) (comment : List ℕ) → CanPrintStart start → MayCountIn version (is_some start) → options_at version (start_words start ++ comment_words comment) ≡ Ok (record { comment = comment; start = start_read start }, [])
  unfolding options_at gathered option_at comment_at start_at value_words text_at number_at after_sign same_sign is_keyword same_name printed
  options-read None [] can may = refl
  options-read None (byte ∷ bytes) can may = rw (text_value-printed_text (byte ∷ bytes)) refl
  options-read (Some number) [] can may = rw (may refl, number_value-decimal number can) refl
  options-read (Some number) (byte ∷ bytes) can may = rw (may refl, number_value-decimal number can, text_value-printed_text (byte ∷ bytes)) refl

  lines-read : (schema : Schema) → CanPrint schema → IsValid schema → FitsVersion version schema → AllReadAs (lines_words schema) (table_read schema).items
  lines-read schema can valid fits =
      let columns = read-map (λ (column : Column). CanPrintColumn column × (IsColumn column × MayCountIn version column.auto)) column_words (λ column. items.Column (line_of column)) (λ column both. column-item column both.0 both.1.1 both.1.0.kind) schema.columns
      (both-all CanPrintColumn (λ (column : Column). IsColumn column × MayCountIn version column.auto) schema.columns can.columns (both-all IsColumn (λ (column : Column). MayCountIn version column.auto) schema.columns valid.columns fits.columns)) in
      let uniques = read-map (λ (index : Index). CanQuoteKey index.name × IsKey (length schema.columns) index) (λ index. unique_words index.name ++ places_words schema.columns index.places) (λ index. unique_read schema.columns index index.name) (λ index both. unique-item schema.columns can.columns index index.name both.0 both.1.some) schema.uniques
      (both-all (λ index. CanQuoteKey index.name) (IsKey (length schema.columns)) schema.uniques can.uniques valid.uniques) in
      let indexes = read-map (λ (index : Index). CanQuoteKey index.name × IsKey (length schema.columns) index) (λ index. index_words index.name ++ places_words schema.columns index.places) (index_read schema.columns) (λ index both. index-item schema.columns can.columns index index.name both.0 both.1.some) schema.indexes
      (both-all (λ index. CanQuoteKey index.name) (IsKey (length schema.columns)) schema.indexes can.indexes valid.indexes) in
      let unique_lines = map (λ index. unique_words index.name ++ places_words schema.columns index.places) schema.uniques in
      let unique_items = map (λ index. unique_read schema.columns index index.name) schema.uniques in
      read-both (map column_words schema.columns ++ unique_lines) (map (λ column. items.Column (line_of column)) schema.columns ++ unique_items) _ _ (read-both (map column_words schema.columns) (map (λ column. items.Column (line_of column)) schema.columns) unique_lines unique_items columns uniques) indexes

  some-lines : (schema : Schema) → IsValid schema → 0 < length (lines_words schema)
  some-lines schema valid =
      let unique_lines = map (λ index. unique_words index.name ++ places_words schema.columns index.places) schema.uniques in
      let index_lines = map (λ index. index_words index.name ++ places_words schema.columns index.places) schema.indexes in
      omega (arith, valid.some, length-map schema.columns column_words, length-append (map column_words schema.columns) unique_lines, length-append (map column_words schema.columns ++ unique_lines) index_lines)

  table-read : (schema : Schema) → CanPrint schema → IsValid schema → FitsVersion version schema → table_at version (schema_words schema) ≡ Ok (table_read schema)
  unfolding table_at keyword_at after_keyword is_keyword same_name sign_at after_sign same_sign
  table-read schema can valid fits =
      let body = joined_words (lines_words schema) in
      let tail = start_words schema.start ++ comment_words schema.comment in
      let end : List Token = sign_word (codes ")") ∷ tail in
      rw (name-read schema.name (sign_word (codes "(") ∷ (body ++ end)) can.name, items-read (lines_words schema) (table_read schema).items tail (lines-read schema can valid fits) (some-lines schema valid), options-read schema.start schema.comment can.start fits.start) refl

pub printed-written : PrintedSchemasAreWritten
unfolding written
printed-written version schema can valid fits = rw (printed-words schema can, table-read version schema can valid fits) refl
