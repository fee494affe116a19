-- Clauses that write a column or an index: ADD, CHANGE and MODIFY ("ALTER TABLE Statement").
use Rattle.std.specs.Prelude.{codes, ℕ, if◌then◌else◌, List, [], ◌∷◌, Ok, Err}
use Rattle.base_values.specs.declared.row_conversion.clause.Clause.{Clause}
use Rattle.base_values.specs.declared.row_conversion.clause.Clause.TheVariants.{Add, Change, AddIndex}
use Rattle.sql_grammar.specs.declared.token.Token.{Token}
use Rattle.sql_grammar.specs.Keys.{key_at}
use Rattle.sql_grammar.specs.Pieces.{name_at}
use Rattle.base_values.specs.SchemaRules.Results.{◌>>=◌}
use Rattle.sql_grammar.specs.Tokens.{is_keyword}
use Rattle.sql_change.specs.declared.code.AlterCode.TheVariants as refusals
use Rattle.sql_alter.specs.Column.{primary_at, new_column_at, column_position_at}
use Rattle.sql_alter.specs.Pieces.{Read, in_alter, after_column, is_index_word, is_out_of_scope}

unfoldable pub add_column_at : ℕ → List Token → Read Clause
add_column_at version words = do
  column ← new_column_at version words
  column_position ← column_position_at column.1
  Ok (Add column.0 column_position.0, column_position.1)

unfoldable pub add_index_at : List Token → Read Clause
add_index_at words = do
  key ← in_alter (key_at words)
  Ok (AddIndex key.0.name key.0.columns, key.1)

-- After ADD: what isn't taken, a unique key, the PRIMARY KEY, an index, or a column with or without COLUMN in front.
unfoldable pub add_at : ℕ → List Token → Read Clause
add_at version [] = Err refusals.Syntax
add_at version (word ∷ rest) =
    if is_out_of_scope word then Err refusals.Scope
    else (if is_keyword word (codes "UNIQUE") then Err refusals.AddUnique
    else (if is_keyword word (codes "PRIMARY") then primary_at rest
    else (if is_index_word word then add_index_at rest
    else add_column_at version (after_column (word ∷ rest)))))

-- After CHANGE: a column, what it is afterwards, and where it is.
unfoldable pub change_at : ℕ → List Token → Read Clause
change_at version words = do
  old ← in_alter (name_at (after_column words))
  column ← new_column_at version old.1
  column_position ← column_position_at column.1
  Ok (Change old.0 column.0 column_position.0, column_position.1)

-- After MODIFY: the same with one name.
unfoldable pub modify_at : ℕ → List Token → Read Clause
modify_at version words = do
  column ← new_column_at version (after_column words)
  column_position ← column_position_at column.1
  Ok (Change column.0.name column.0 column_position.0, column_position.1)
