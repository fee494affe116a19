-- The conditions of statements ("WHERE Clause Optimization" has many more; that there are these three forms is this project's rule).
use Rattle.std.specs.Prelude.{codes, if◌then◌else◌, List, [], ◌∷◌, ◌++◌, length, Option, Some, None, Result, Ok, Err}
use Rattle.base_values.specs.GhoSchema.Names.{same_name}
use Rattle.sql_grammar.specs.declared.token.Token.{Token}
use Rattle.sql_grammar.specs.Listed.{gathered}
use Rattle.sql_grammar.specs.Pieces.{after_keyword}
use Rattle.sql_grammar.specs.Reads.{◌>>=◌}
use Rattle.sql_grammar.specs.Tokens.{is_keyword, same_sign}
use Rattle.base_script.specs.declared.statement.Comparison.{Comparison}
use Rattle.base_script.specs.declared.statement.Condition.{Condition}
use Rattle.base_script.specs.declared.statement.Condition.TheVariants.{All, Equal, Range}
use Rattle.base_script.specs.declared.statement.Set.{Set}
use Rattle.base_script.specs.declared.statement.Sign.{Sign}
use Rattle.base_script.specs.declared.statement.Sign.TheVariants.{Less, AtMost, More, AtLeast}
use Rattle.sql_statement.specs.declared.code.StatementCode.{StatementCode}
use Rattle.sql_statement.specs.declared.code.StatementCode.TheVariants.{Syntax}
use Rattle.sql_statement.specs.declared.conditions.ConditionForm.{ConditionForm}
use Rattle.sql_statement.specs.declared.conditions.ConditionForm.TheVariants.{Equality, Between, Comparing}
use Rattle.sql_statement.specs.Pieces.{Read, keyword_at, sign_at, name_at, operand_at}

-- column = literal
unfoldable pub equality_at : List Token → Read Set
equality_at words = do
  column ← name_at words
  rest ← sign_at (codes "=") column.1
  value ← operand_at rest
  Ok (record { column = column.0; value = value.0 }, value.1)

-- one more equality after AND, where AND is there
abbrev pub after_and : Option (List Token) → Result (Option (Set × List Token)) StatementCode
after_and None = Ok None
after_and (Some rest) = do
  set ← equality_at rest
  Ok (Some set)

unfoldable pub and_equality_at : List Token → Result (Option (Set × List Token)) StatementCode
and_equality_at words = after_and (after_keyword (codes "AND") words)

abbrev pub with_set : List Set → Set → List Set
with_set sets set = sets ++ set ∷ []

-- the equalities after the first
unfoldable pub more_equalities_at : List Set → List Token → Read (List Set)
more_equalities_at sets words = gathered and_equality_at with_set (length words) sets words

-- Equalities joined by AND.
unfoldable pub equalities_at : List Token → Read Condition
equalities_at words = do
  first ← equality_at words
  sets ← more_equalities_at (first.0 ∷ []) first.1
  Ok (Equal sets.0, sets.1)

-- the sign that a word is, where it is one of these
unfoldable pub sign_of : Token → Option Sign
sign_of word =
    if same_sign word (codes "<") then Some Less
    else (if same_sign word (codes "<=") then Some AtMost
    else (if same_sign word (codes ">") then Some More
    else (if same_sign word (codes ">=") then Some AtLeast
    else None)))

abbrev pub with_rest : List Token → Option Sign → Read Sign
with_rest rest (Some sign) = Ok (sign, rest)
with_rest rest None = Err Syntax

unfoldable pub comparison_sign_at : List Token → Read Sign
comparison_sign_at [] = Err Syntax
comparison_sign_at (word ∷ rest) = with_rest rest (sign_of word)

-- a column, one of the four signs, and a literal
unfoldable pub comparison_at : List Token → Read Comparison
comparison_at words = do
  column ← name_at words
  sign ← comparison_sign_at column.1
  value ← operand_at sign.1
  Ok (record { column = column.0; sign = sign.0; value = value.0 }, value.1)

-- the two are of one column
abbrev pub both_of : Comparison → Comparison → List Token → Read Condition
both_of first second rest = if same_name first.column second.column then Ok (Range (first ∷ second ∷ []), rest) else Err Syntax

abbrev pub with_second : Comparison → List Token → Option (List Token) → Read Condition
with_second first words None = Ok (Range (first ∷ []), words)
with_second first words (Some rest) = do
  second ← comparison_at rest
  both_of first second.0 second.1

-- One comparison, or two of one column joined by AND.
unfoldable pub comparisons_at : List Token → Read Condition
comparisons_at words = do
  first ← comparison_at words
  with_second first.0 first.1 (after_keyword (codes "AND") first.1)

-- Column BETWEEN low AND high: at least low, and at most high ("Comparison Functions and Operators").
unfoldable pub between_at : List Token → Read Condition
between_at words = do
  column ← name_at words
  rest ← keyword_at (codes "BETWEEN") column.1
  low ← operand_at rest
  rest ← keyword_at (codes "AND") low.1
  high ← operand_at rest
  Ok (Range (record { column = column.0; sign = AtLeast; value = low.0 } ∷ record { column = column.0; sign = AtMost; value = high.0 } ∷ []), high.1)

-- the word after the first column tells the form
unfoldable pub form_at : List Token → ConditionForm
form_at [] = Comparing
form_at (column ∷ []) = Comparing
form_at (column ∷ (word ∷ rest)) = if same_sign word (codes "=") then Equality else (if is_keyword word (codes "BETWEEN") then Between else Comparing)

abbrev pub of_form : ConditionForm → List Token → Read Condition
of_form Equality words = equalities_at words
of_form Between words = between_at words
of_form Comparing words = comparisons_at words

abbrev pub after_where : List Token → Option (List Token) → Read Condition
after_where words None = Ok (All, words)
after_where words (Some rest) = of_form (form_at rest) rest

-- WHERE and a condition; all rows where there is no WHERE.
unfoldable pub condition_at : List Token → Read Condition
condition_at words = after_where words (after_keyword (codes "WHERE") words)
