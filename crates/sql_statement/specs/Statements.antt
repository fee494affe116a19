-- What a line asks for, by its words: a statement, or where a transaction begins or ends (MySQL's manual, "Data Manipulation
-- Statements" and "START TRANSACTION, COMMIT, and ROLLBACK Statements").
use Rattle.std.specs.Prelude.{codes, if◌then◌else◌, List, [], ◌∷◌, Option, Some, None, Result, Ok, Err}
use Rattle.base_script.specs.declared.script.ScriptWord.{ScriptWord}
use Rattle.base_script.specs.declared.script.ScriptWord.TheVariants.{Begin, Commit, Rollback, Do}
use Rattle.base_script.specs.declared.statement.Shown.{Shown}
use Rattle.base_script.specs.declared.statement.Shown.TheVariants as shown
use Rattle.base_script.specs.declared.statement.Statement.TheVariants.{Insert, Replace, Delete, Update, Select}
use Rattle.sql_grammar.specs.declared.token.Token.{Token}
use Rattle.sql_grammar.specs.Pieces.{after_keyword, after_sign}
use Rattle.sql_grammar.specs.Reads.{◌>>=◌}
use Rattle.sql_grammar.specs.Tokens.{is_keyword, same_sign}
use Rattle.sql_statement.specs.declared.code.StatementCode.{StatementCode}
use Rattle.sql_statement.specs.declared.code.StatementCode.TheVariants.{Syntax, Scope}
use Rattle.sql_statement.specs.Conditions.{condition_at}
use Rattle.sql_statement.specs.Pieces.{Read, keyword_at, sign_at, name_at, names_at}
use Rattle.sql_statement.specs.Rows.{sets_at, row_at}
use Rattle.sql_statement.specs.Scope.{is_out_of_scope}

unfoldable pub insert_at : List Token → Read ScriptWord
insert_at words = do
  row ← row_at words
  Ok (Do (Insert row.0.table row.0.columns row.0.values None), row.1)

unfoldable pub replace_at : List Token → Read ScriptWord
replace_at words = do
  row ← row_at words
  Ok (Do (Replace row.0.table row.0.columns row.0.values None), row.1)

-- FROM table [WHERE condition] ("DELETE Statement")
unfoldable pub delete_at : List Token → Read ScriptWord
delete_at words = do
  rest ← keyword_at (codes "FROM") words
  table ← name_at rest
  condition ← condition_at table.1
  Ok (Do (Delete table.0 condition.0), condition.1)

-- table SET sets [WHERE condition] ("UPDATE Statement")
unfoldable pub update_at : List Token → Read ScriptWord
update_at words = do
  table ← name_at words
  rest ← keyword_at (codes "SET") table.1
  sets ← sets_at rest
  condition ← condition_at sets.1
  Ok (Do (Update table.0 sets.0 condition.0), condition.1)

-- COUNT(*) after its opening parenthesis
abbrev pub count_at : List Token → Read Shown
count_at words = do
  rest ← sign_at (codes "*") words
  rest ← sign_at (codes ")") rest
  Ok (shown.Count, rest)

abbrev pub listed_columns_at : List Token → Read Shown
listed_columns_at words = do
  names ← names_at words
  Ok (shown.Columns names.0, names.1)

-- COUNT is a function where an opening parenthesis comes after it, and a column's name elsewhere
abbrev pub count_or_columns : List Token → Option (List Token) → Read Shown
count_or_columns words (Some rest) = count_at rest
count_or_columns words None = listed_columns_at words

abbrev pub after_opening : Option (List Token) → Option (List Token)
after_opening None = None
after_opening (Some rest) = after_sign (codes "(") rest

unfoldable pub after_count : List Token → Option (List Token)
after_count words = after_opening (after_keyword (codes "COUNT") words)

abbrev pub all_or : List Token → Option (List Token) → Read Shown
all_or words (Some rest) = Ok (shown.All, rest)
all_or words None = count_or_columns words (after_count words)

-- `*`, COUNT(*), or columns
unfoldable pub shown_at : List Token → Read Shown
shown_at words = all_or words (after_sign (codes "*") words)

-- selected FROM table [WHERE condition] ("SELECT Statement")
unfoldable pub select_at : List Token → Read ScriptWord
select_at words = do
  shown ← shown_at words
  rest ← keyword_at (codes "FROM") shown.1
  table ← name_at rest
  condition ← condition_at table.1
  Ok (Do (Select table.0 shown.0 condition.0), condition.1)

-- TRANSACTION after START
abbrev pub start_at : List Token → Read ScriptWord
start_at words = do
  rest ← keyword_at (codes "TRANSACTION") words
  Ok (Begin, rest)

-- The first word tells what the line asks for.
unfoldable pub asked_at : List Token → Read ScriptWord
asked_at [] = Err Syntax
asked_at (word ∷ rest) =
    if is_keyword word (codes "INSERT") then insert_at rest
    else (if is_keyword word (codes "REPLACE") then replace_at rest
    else (if is_keyword word (codes "DELETE") then delete_at rest
    else (if is_keyword word (codes "UPDATE") then update_at rest
    else (if is_keyword word (codes "SELECT") then select_at rest
    else (if is_keyword word (codes "BEGIN") then Ok (Begin, rest)
    else (if is_keyword word (codes "START") then start_at rest
    else (if is_keyword word (codes "COMMIT") then Ok (Commit, rest)
    else (if is_keyword word (codes "ROLLBACK") then Ok (Rollback, rest)
    else Err Syntax))))))))

-- nothing is left, or one `;`
abbrev pub ended : ScriptWord → List Token → Result ScriptWord StatementCode
ended asked [] = Ok asked
ended asked (word ∷ []) = if same_sign word (codes ";") then Ok asked else Err Syntax
ended asked (word ∷ (other ∷ rest)) = Err Syntax

-- *What a line's words ask for*, or why they are refused: what the grammar leaves out on purpose comes first.
unfoldable pub statement_of : List Token → Result ScriptWord StatementCode
statement_of words =
    if is_out_of_scope words then Err Scope
    else (do
      asked ← asked_at words
      ended asked.0 asked.1)
