-- Which texts are CREATE TABLE as this program reads it, and what each writes ("CREATE TABLE Statement").
use Rattle.std.specs.Prelude.{codes, ℕ, Bool, true, false, ◌||◌, if◌then◌else◌, List, [], ◌∷◌, length, Option, Some, None, Result, Ok, Err}
use Rattle.sql_grammar.specs.declared.code.SchemaCode.{SchemaCode}
use Rattle.sql_grammar.specs.declared.code.SchemaCode.TheVariants.{Syntax, Scope}
use Rattle.sql_grammar.specs.declared.token.Token.{Token}
use Rattle.sql_grammar.specs.declared.tokens.TextWords.{TextWords}
use Rattle.sql_grammar.specs.Keys.{key_columns_at, key_at}
use Rattle.sql_grammar.specs.Listed.{listed}
use Rattle.sql_grammar.specs.Pieces.{after_keyword, after_sign, keyword_at, sign_at, name_at}
use Rattle.base_values.specs.SchemaRules.Results.{◌>>=◌}
use Rattle.sql_grammar.specs.Reads.{Read}
use Rattle.sql_grammar.specs.Scope.{begins_no_item, mismatch, in_version}
use Rattle.sql_grammar.specs.Tokens.{is_keyword}
use Rattle.sql_create.specs.declared.written.Item.{Item}
use Rattle.sql_create.specs.declared.written.Item.TheVariants as items
use Rattle.sql_create.specs.declared.written.WrittenTable.{WrittenTable}
use Rattle.sql_create.specs.Columns.{column_at}
use Rattle.sql_create.specs.Options.{options_at}

-- PRIMARY KEY and its columns, after PRIMARY
unfoldable pub primary_item_at : List Token → Read Item
primary_item_at words = do
  rest ← keyword_at (codes "KEY") words
  columns ← key_columns_at rest
  Ok (items.Primary columns.0, columns.1)

-- a key that isn't the PRIMARY KEY
abbrev pub key_item_at : Bool → List Token → Read Item
key_item_at is_unique words = do
  key ← key_at words
  Ok (items.Key (record { is_unique = is_unique; text = key.0 }), key.1)

-- KEY or INDEX, which may come after UNIQUE
abbrev pub key_word : List Token → Option (List Token) → Option (List Token) → List Token
key_word words (Some rest) index = rest
key_word words None (Some rest) = rest
key_word words None None = words

unfoldable pub after_key_word : List Token → List Token
after_key_word words = key_word words (after_keyword (codes "KEY") words) (after_keyword (codes "INDEX") words)

abbrev pub column_item_at : ℕ → List Token → Read Item
column_item_at version words = do
  column ← column_at version words
  Ok (items.Column column.0, column.1)

-- An item between the parentheses. PRIMARY, UNIQUE, KEY and INDEX begin a key, unless they are in backquotes.
unfoldable pub item_at : ℕ → List Token → Read Item
item_at version [] = Err (mismatch [])
item_at version (word ∷ rest) =
    if is_keyword word (codes "PRIMARY") then primary_item_at rest
    else (if is_keyword word (codes "UNIQUE") then key_item_at true (after_key_word rest)
    else (if is_keyword word (codes "KEY") || is_keyword word (codes "INDEX") then key_item_at false rest
    else (if begins_no_item version word then Err Scope
    else column_item_at version (word ∷ rest))))

unfoldable pub items_at : ℕ → List Token → Read (List Item)
items_at version words = listed (item_at version) Syntax (length words) words

-- the words after a last ;
abbrev pub last_words : List Token → Option (List Token) → List Token
last_words words (Some rest) = rest
last_words words None = words

-- nothing follows the table
abbrev pub alone : WrittenTable → List Token → Result WrittenTable SchemaCode
alone table [] = Ok table
alone table (word ∷ rest) = Err (mismatch (word ∷ rest))

-- CREATE TABLE, the table's name, its items in parentheses, its options, and at most one ; after them.
unfoldable pub table_at : ℕ → List Token → Result WrittenTable SchemaCode
table_at version words = do
  rest ← keyword_at (codes "CREATE") words
  rest ← keyword_at (codes "TABLE") rest
  name ← name_at rest
  rest ← sign_at (codes "(") name.1
  items ← items_at version rest
  rest ← sign_at (codes ")") items.1
  options ← options_at version rest
  alone (record { name = name.0; items = items.0; options = options.0 }) (last_words options.1 (after_sign (codes ";") options.1))

-- a text whose first fault comes after a whole table is no CREATE TABLE
abbrev pub unless_faulty : Bool → WrittenTable → Result WrittenTable SchemaCode
unless_faulty true table = Err Syntax
unless_faulty false table = Ok table

-- the refusal as this version has it
abbrev pub refused_in : {A : Type 0} → ℕ → Result A SchemaCode → Result A SchemaCode
refused_in version (Ok read) = Ok read
refused_in version (Err code) = Err (in_version version code)

-- What the words of a text write, or the refusal of the first that doesn't fit. Where all that come before a fault of the text
-- fit, the fault is refused.
unfoldable pub written : ℕ → TextWords → Result WrittenTable SchemaCode
written version read = do
  table ← refused_in version (table_at version read.words)
  unless_faulty read.is_faulty table
