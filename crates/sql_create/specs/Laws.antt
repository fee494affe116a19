-- What holds of all schemas that are read. The crate `law_texts::schemas` proves it.
use Rattle.std.specs.Prelude.{◌≡◌, ℕ, List, Ok}
use Rattle.base_values.specs.declared.gho_schema.schema.Schema.{Schema}
use Rattle.base_values.specs.SchemaRules.Valid.{IsValid}
use Rattle.sql_create.specs.CreateText.{schema_at}

-- Every schema that is read is valid.
abbrev pub ReadSchemasAreValid : Type 0
ReadSchemasAreValid = (version : ℕ) (migrated text : List ℕ) (schema : Schema) → schema_at version migrated text ≡ Ok schema → IsValid schema
