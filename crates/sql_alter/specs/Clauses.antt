-- The clauses of an ALTER, and the ALTER TABLE that may come before them ("ALTER TABLE Statement").
use Rattle.std.specs.Prelude.{codes, ℕ, Bool, true, false, if◌then◌else◌, List, [], ◌∷◌, length, Option, Some, None, Result, Ok, Err}
use Rattle.std.specs.Str.{bytes_eq}
use Rattle.base_values.specs.declared.row_conversion.clause.Clause.{Clause}
use Rattle.sql_grammar.specs.declared.token.Token.{Token}
use Rattle.sql_grammar.specs.declared.tokens.TextWords.{TextWords}
use Rattle.sql_grammar.specs.Listed.{listed}
use Rattle.sql_grammar.specs.Pieces.{after_keyword, name_at}
use Rattle.base_values.specs.SchemaRules.Results.{◌>>=◌}
use Rattle.sql_grammar.specs.Tokens.{is_keyword, same_sign}
use Rattle.sql_change.specs.declared.code.AlterCode.{AlterCode}
use Rattle.sql_change.specs.declared.code.AlterCode.TheVariants as refusals
use Rattle.sql_alter.specs.Additions.{add_at, change_at, modify_at}
use Rattle.sql_alter.specs.Pieces.{Read, in_alter}
use Rattle.sql_alter.specs.Removals.{drop_at, rename_at}

-- A clause begins with one of five words. One that begins with another isn't taken, and one without any word is a mistake.
unfoldable pub clause_at : ℕ → List Token → Read Clause
clause_at version [] = Err refusals.Syntax
clause_at version (word ∷ rest) =
    if is_keyword word (codes "ADD") then add_at version rest
    else (if is_keyword word (codes "DROP") then drop_at rest
    else (if is_keyword word (codes "RENAME") then rename_at rest
    else (if is_keyword word (codes "CHANGE") then change_at version rest
    else (if is_keyword word (codes "MODIFY") then modify_at version rest
    else (if same_sign word (codes ",") then Err refusals.Syntax
    else Err refusals.Scope)))))

-- nothing follows the clauses
abbrev pub alone : List Clause → List Token → Result (List Clause) AlterCode
alone clauses [] = Ok clauses
alone clauses (word ∷ rest) = Err refusals.Syntax

unfoldable pub list_at : ℕ → List Token → Read (List Clause)
list_at version words = listed (clause_at version) refusals.Syntax (length words) words

unfoldable pub clauses_at : ℕ → List Token → Result (List Clause) AlterCode
clauses_at version words = do
  clauses ← list_at version words
  alone clauses.0 clauses.1

-- the name after ALTER TABLE has to be the migrated table's
abbrev pub of_table : List ℕ → List ℕ × List Token → Result (List Token) AlterCode
of_table table name = if bytes_eq name.0 table then Ok name.1 else Err refusals.Syntax

abbrev pub after_table : List ℕ → List Token → Option (List Token) → Result (List Token) AlterCode
after_table table words (Some rest) = in_alter (name_at rest) >>= of_table table
after_table table words None = Ok words

abbrev pub after_alter : List ℕ → List Token → Option (List Token) → Result (List Token) AlterCode
after_alter table words (Some rest) = after_table table words (after_keyword (codes "TABLE") rest)
after_alter table words None = Ok words

-- The words after ALTER TABLE and the table's name, where those come first.
unfoldable pub front_at : List ℕ → List Token → Result (List Token) AlterCode
front_at table words = after_alter table words (after_keyword (codes "ALTER") words)

abbrev pub unless_faulty : Bool → List Clause → Result (List Clause) AlterCode
unless_faulty true clauses = Err refusals.Syntax
unless_faulty false clauses = Ok clauses

-- What the words of a text say in a plan of this version, or the refusal of the first that doesn't fit. Where all that come before a fault of the text
-- fit, the fault is refused.
unfoldable pub read : ℕ → List ℕ → TextWords → Result (List Clause) AlterCode
read version table text = do
  rest ← front_at table text.words
  clauses ← clauses_at version rest
  unless_faulty text.is_faulty clauses
