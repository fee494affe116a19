-- Reading from the front on: what is read and the words after it, or why the text is refused at the first word that doesn't
-- fit.
use Rattle.std.specs.Prelude.{List, Result}
pub use Rattle.base_values.specs.SchemaRules.Results.{◌>>=◌}
use Rattle.sql_grammar.specs.declared.code.SchemaCode.{SchemaCode}
use Rattle.sql_grammar.specs.declared.token.Token.{Token}

-- what is read at the front, and the words after it
abbrev pub Read : Type 0 → Type 0
Read A = Result (A × List Token) SchemaCode
