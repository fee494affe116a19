-- That the printed text of an altered schema gives it again. The functions of `law_texts::alters` prove each.
use Rattle.std.specs.Prelude.{◌≡◌, ℕ, ◌<◌, Bool, List, Ok}
use Rattle.std.specs.List.{AllByRecursion}
use Rattle.base_values.specs.declared.gho_schema.schema.Schema.{Schema}
use Rattle.base_values.specs.declared.row_conversion.clause.Clause.{Clause}
use Rattle.base_values.specs.SchemaRules.Valid.{IsValid}
use Rattle.proof_schemas.specs.Alters.Laws.{Altered}
use Rattle.sql_change.specs.AlteredSchema.{altered}
use Rattle.sql_alter.specs.AlterText.{alter_at}
use Rattle.proof_schemas.specs.ReadAgain.{IsDeclared}
use Rattle.sql_show.specs.SchemaText.{printed_schema}
use Rattle.sql_create.specs.CreateText.{schema_at}

-- An ALTER of a valid schema that CREATE TABLE gives leaves one that CREATE TABLE gives.
abbrev pub AlteredSchemasAreDeclared : Type 0
AlteredSchemasAreDeclared = (migrated : List ℕ) (approve : Bool) (schema : Schema) (clauses : List Clause) (new : Altered) → IsValid schema → IsDeclared migrated schema → altered approve schema clauses ≡ Ok new → IsDeclared migrated new.0

-- the text consists of bytes
abbrev pub AreBytes : List ℕ → Type 0
AreBytes text = AllByRecursion (λ byte. byte < 256) text

-- What is printed of the schema that an ALTER's text leaves of the schema of a CREATE TABLE's text is read as that schema.
abbrev pub AlteredSchemasAreReadAgain : Type 0
AlteredSchemasAreReadAgain =
    (version : ℕ) (migrated table create alter : List ℕ) (approve : Bool) (schema : Schema) (clauses : List Clause) (new : Altered) → AreBytes create → AreBytes alter → schema_at version migrated create ≡ Ok schema → alter_at version table alter ≡ Ok clauses → altered approve schema clauses ≡ Ok new
    → schema_at version migrated (printed_schema new.0) ≡ Ok new.0
