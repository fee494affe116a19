-- Clauses that take something away or give it another name: DROP and RENAME ("ALTER TABLE Statement").
use Rattle.std.specs.Prelude.{codes, ◌||◌, if◌then◌else◌, List, [], ◌∷◌, Ok, Err}
use Rattle.base_values.specs.declared.row_conversion.clause.Clause.{Clause}
use Rattle.base_values.specs.declared.row_conversion.clause.Clause.TheVariants.{Drop, Rename, DropIndex}
use Rattle.sql_grammar.specs.declared.token.Token.{Token}
use Rattle.sql_grammar.specs.Pieces.{keyword_at, name_at}
use Rattle.base_values.specs.SchemaRules.Results.{◌>>=◌}
use Rattle.sql_grammar.specs.Tokens.{is_keyword}
use Rattle.sql_change.specs.declared.code.AlterCode.TheVariants as refusals
use Rattle.sql_alter.specs.Column.{primary_at}
use Rattle.sql_alter.specs.Pieces.{Read, in_alter, after_column, is_index_word, is_out_of_scope}

unfoldable pub drop_column_at : List Token → Read Clause
drop_column_at words = do
  name ← in_alter (name_at words)
  Ok (Drop name.0, name.1)

unfoldable pub drop_index_at : List Token → Read Clause
drop_index_at words = do
  name ← in_alter (name_at words)
  Ok (DropIndex name.0, name.1)

-- After DROP: what isn't taken, the PRIMARY KEY, a key or an index, or a column with or without COLUMN in front.
unfoldable pub drop_at : List Token → Read Clause
drop_at [] = Err refusals.Syntax
drop_at (word ∷ rest) =
    if is_out_of_scope word then Err refusals.Scope
    else (if is_keyword word (codes "PRIMARY") then primary_at rest
    else (if is_index_word word then drop_index_at rest
    else drop_column_at (after_column (word ∷ rest))))

-- a column's name, TO and its name afterwards
unfoldable pub rename_column_at : List Token → Read Clause
rename_column_at words = do
  old ← in_alter (name_at words)
  rest ← in_alter (keyword_at (codes "TO") old.1)
  new ← in_alter (name_at rest)
  Ok (Rename old.0 new.0, new.1)

-- After RENAME: a column after COLUMN, the table after TO or AS, or an index, which isn't taken.
unfoldable pub rename_at : List Token → Read Clause
rename_at [] = Err refusals.Syntax
rename_at (word ∷ rest) =
    if is_keyword word (codes "COLUMN") then rename_column_at rest
    else (if is_keyword word (codes "TO") || is_keyword word (codes "AS") then Err refusals.RenameTable
    else (if is_index_word word then Err refusals.Scope
    else Err refusals.Syntax))
