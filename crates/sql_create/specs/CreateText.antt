-- *The schema of a text*: what a text of CREATE TABLE declares, or why it is refused.
use Rattle.std.specs.Prelude.{ℕ, List, Result}
use Rattle.base_values.specs.declared.gho_schema.schema.Schema.{Schema}
use Rattle.sql_grammar.specs.declared.code.SchemaCode.{SchemaCode}
use Rattle.base_values.specs.SchemaRules.Results.{◌>>=◌}
use Rattle.sql_grammar.specs.Tokens.{text_words}
use Rattle.sql_create.specs.DeclaredSchema.{declared}
use Rattle.sql_create.specs.Written.{written}

-- The text's first word that doesn't fit a plan of this version is refused before all else; then the table that it writes is.
unfoldable pub schema_at : ℕ → List ℕ → List ℕ → Result Schema SchemaCode
schema_at version migrated text = do
  table ← written version (text_words text)
  declared migrated table
