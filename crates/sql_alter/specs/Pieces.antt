-- The pieces of ALTER TABLE's text, each refused as a mistake where it doesn't fit.
use Rattle.std.specs.Prelude.{codes, Bool, ◌||◌, List, Option, Some, None, Result, Ok, Err}
use Rattle.sql_grammar.specs.declared.code.SchemaCode.{SchemaCode}
use Rattle.sql_grammar.specs.declared.token.Token.{Token}
use Rattle.sql_grammar.specs.Pieces.{after_keyword}
use Rattle.sql_grammar.specs.Tokens.{is_keyword}
use Rattle.sql_change.specs.declared.code.AlterCode.{AlterCode}
use Rattle.sql_change.specs.declared.code.AlterCode.TheVariants.{Syntax}

-- what is read at the front, and the words after it
abbrev pub Read : Type 0 → Type 0
Read A = Result (A × List Token) AlterCode

-- a piece of a table's text, in which this program tells no scope from a mistake
abbrev pub in_alter : {A : Type 0} → Result A SchemaCode → Result A AlterCode
in_alter (Ok x) = Ok x
in_alter (Err code) = Err Syntax

-- what follows a keyword that may be left out
abbrev pub without : List Token → Option (List Token) → List Token
without words (Some rest) = rest
without words None = words

-- COLUMN may be left out
unfoldable pub after_column : List Token → List Token
after_column words = without words (after_keyword (codes "COLUMN") words)

-- INDEX and KEY are one word
abbrev pub is_index_word : Token → Bool
is_index_word word = is_keyword word (codes "INDEX") || is_keyword word (codes "KEY")

-- what may come after ADD and DROP in MySQL and not here ("ALTER TABLE Statement")
unfoldable pub is_out_of_scope : Token → Bool
is_out_of_scope word = is_keyword word (codes "CONSTRAINT") || is_keyword word (codes "FOREIGN") || is_keyword word (codes "FULLTEXT") || is_keyword word (codes "SPATIAL") || is_keyword word (codes "CHECK") || is_keyword word (codes "PARTITION")
