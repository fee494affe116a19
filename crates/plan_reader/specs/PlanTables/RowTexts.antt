-- Which texts are rows of a table.
use Rattle.std.specs.Prelude.{codes, ℕ, Bool, true, false, not, ◌&&◌, if◌then◌else◌, List, [], ◌∷◌, Option, Some, None}
use Rattle.std.specs.Result.{result_ok}
use Rattle.base_values.specs.declared.value.Value.{Value}
use Rattle.base_values.specs.StoredValues.{stores}
use Rattle.base_values.specs.declared.gho_schema.schema.Column.{Column}
use Rattle.base_values.specs.GhoSchema.Options.{◌>>=◌}
use Rattle.sql_grammar.specs.declared.token.Token.{Token}
use Rattle.sql_grammar.specs.declared.tokens.TextWords.{TextWords}
use Rattle.sql_grammar.specs.Pieces.{after_sign, literal_at}
use Rattle.sql_grammar.specs.Tokens.{text_words}

-- a literal, as the column stores it, and what follows it
unfoldable pub value_at : Column → List Token → Option (Value × List Token)
value_at column words = do
  literal ← result_ok (literal_at words)
  value ← result_ok (stores literal.0 column.kind column.nullable)
  Some (value, literal.1)

-- a parenthesis comes before the first value, and a comma in front of each other
abbrev pub mark : Bool → List ℕ
mark true = codes "("
mark false = codes ","

-- a value for each column, each after its mark
unfoldable pub values_at : List Column → Bool → List Token → Option (List Value × List Token)
values_at [] is_first words = Some ([], words)
values_at (column ∷ columns) is_first words = do
  rest ← after_sign (mark is_first) words
  value ← value_at column rest
  others ← values_at columns false value.1
  Some (value.0 ∷ others.0, others.1)

abbrev pub is_empty : List Token → Bool
is_empty [] = true
is_empty (word ∷ words) = false

-- The row that all words of a text are: one value a column, in parentheses (as one row of MySQL's manual, "VALUES
-- Statement"). A text with a fault is no row.
unfoldable pub row_of : List Column → TextWords → Option (List Value)
row_of columns read = do
  values ← values_at columns true read.words
  rest ← after_sign (codes ")") values.1
  if is_empty rest && not read.is_faulty then Some values.0 else None

-- the row that a text is
abbrev pub row_at : List Column → List ℕ → Option (List Value)
row_at columns text = row_of columns (text_words text)
