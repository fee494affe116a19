-- *The clauses of a text*.
use Rattle.std.specs.Prelude.{ℕ, List, Result}
use Rattle.base_values.specs.declared.row_conversion.clause.Clause.{Clause}
use Rattle.sql_grammar.specs.Tokens.{text_words}
use Rattle.sql_change.specs.declared.code.AlterCode.{AlterCode}
use Rattle.sql_alter.specs.Clauses.{read}

-- the clauses of an ALTER of the table of this name in a plan of this version, or the refusal that comes first in the text
abbrev pub alter_at : ℕ → List ℕ → List ℕ → Result (List Clause) AlterCode
alter_at version table text = read version table (text_words text)
