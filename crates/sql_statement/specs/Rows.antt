-- The lists of INSERT, REPLACE, UPDATE and SELECT.
use Rattle.std.specs.Prelude.{codes, ℕ, List, length, Option, Some, None, Ok}
use Rattle.base_values.specs.declared.value.Value.{Value}
use Rattle.base_script.specs.declared.statement.Set.{Set}
use Rattle.sql_grammar.specs.declared.token.Token.{Token}
use Rattle.sql_grammar.specs.Listed.{listed}
use Rattle.sql_grammar.specs.Pieces.{after_sign}
use Rattle.sql_grammar.specs.Reads.{◌>>=◌}
use Rattle.sql_statement.specs.declared.code.StatementCode.TheVariants.{Syntax}
use Rattle.sql_statement.specs.declared.rows.RowText.{RowText}
use Rattle.sql_statement.specs.Pieces.{Read, keyword_at, sign_at, name_at, names_at, literal_at}

-- literals with commas between them, at least one
unfoldable pub literals_at : List Token → Read (List Value)
literals_at words = listed literal_at Syntax (length words) words

-- column = literal, as SET has it: it may be NULL
unfoldable pub set_at : List Token → Read Set
set_at words = do
  column ← name_at words
  rest ← sign_at (codes "=") column.1
  value ← literal_at rest
  Ok (record { column = column.0; value = value.0 }, value.1)

-- the sets of an UPDATE, at least one
unfoldable pub sets_at : List Token → Read (List Set)
sets_at words = listed set_at Syntax (length words) words

abbrev pub in_parentheses : List Token → Option (List Token) → Read (Option (List (List ℕ)))
in_parentheses words None = Ok (None, words)
in_parentheses words (Some rest) = do
  names ← names_at rest
  rest ← sign_at (codes ")") names.1
  Ok (Some names.0, rest)

-- the columns in parentheses, where an opening one is there
unfoldable pub columns_at : List Token → Read (Option (List (List ℕ)))
columns_at words = in_parentheses words (after_sign (codes "(") words)

-- VALUES and one row in parentheses
unfoldable pub values_at : List Token → Read (List Value)
values_at words = do
  rest ← keyword_at (codes "VALUES") words
  rest ← sign_at (codes "(") rest
  values ← literals_at rest
  rest ← sign_at (codes ")") values.1
  Ok (values.0, rest)

-- INTO table [(columns)] VALUES (literals) ("INSERT Statement", "REPLACE Statement")
unfoldable pub row_at : List Token → Read RowText
row_at words = do
  rest ← keyword_at (codes "INTO") words
  table ← name_at rest
  columns ← columns_at table.1
  values ← values_at columns.1
  Ok (record { table = table.0; columns = columns.0; values = values.0 }, values.1)
