-- Single words of a statement, at the front of what is left of its line. (None of CREATE TABLE's words that this program
-- doesn't take means anything in a statement.)
use Rattle.std.specs.Prelude.{ℕ, List, Result, Ok, Err}
use Rattle.base_values.specs.declared.value.Value.{Value}
use Rattle.base_values.specs.declared.value.Value.TheVariants as values
use Rattle.sql_grammar.specs.declared.code.SchemaCode.{SchemaCode}
use Rattle.sql_grammar.specs.declared.token.Token.{Token}
use Rattle.sql_grammar.specs.Keys as keys
use Rattle.sql_grammar.specs.Pieces as table
use Rattle.sql_grammar.specs.Reads.{◌>>=◌}
use Rattle.sql_statement.specs.declared.code.StatementCode.{StatementCode}
use Rattle.sql_statement.specs.declared.code.StatementCode.TheVariants.{Syntax}

-- what is read at the front, and the words after it
abbrev pub Read : Type 0 → Type 0
Read A = Result (A × List Token) StatementCode

-- a word that doesn't fit is a mistake, whichever it is
abbrev pub fits : {A : Type 0} → Result A SchemaCode → Result A StatementCode
fits (Ok x) = Ok x
fits (Err code) = Err Syntax

abbrev pub keyword_at : List ℕ → List Token → Result (List Token) StatementCode
keyword_at known words = fits (table.keyword_at known words)

abbrev pub sign_at : List ℕ → List Token → Result (List Token) StatementCode
sign_at known words = fits (table.sign_at known words)

-- a name with or without backquotes; no word is kept from being one
abbrev pub name_at : List Token → Read (List ℕ)
name_at words = fits (table.name_at words)

-- names with commas between them, at least one
abbrev pub names_at : List Token → Read (List (List ℕ))
names_at words = fits (keys.names_at words)

-- NULL, a number, a text or bytes
abbrev pub literal_at : List Token → Read Value
literal_at words = fits (table.literal_at words)

abbrev pub unless_null : Value → List Token → Read Value
unless_null values.Null rest = Err Syntax
unless_null (values.Num number) rest = Ok (values.Num number, rest)
unless_null (values.Text text) rest = Ok (values.Text text, rest)
unless_null (values.Blob bytes) rest = Ok (values.Blob bytes, rest)

-- What a condition compares a column with: a literal but NULL (this project's rule).
unfoldable pub operand_at : List Token → Read Value
operand_at words = do
  value ← literal_at words
  unless_null value.0 value.1
