-- The numbers and the names of the refusals of CREATE TABLE (this project's rule).
use Rattle.std.specs.Prelude.{codes, ℕ, List}
use Rattle.sql_grammar.specs.declared.code.SchemaCode.{SchemaCode}
use Rattle.sql_grammar.specs.declared.code.SchemaCode.TheVariants.{Syntax, Scope, AutoIncrement, RepeatedName, UnknownKeyColumn, NoClusteredKey, TooManyColumns, TooManyKeys, NameTooLong, ReservedName, BadDefault, AutoColumn}

-- a refusal's number and its name
abbrev pub schema_code : SchemaCode → ℕ × List ℕ
schema_code Syntax = (10, codes "schema_syntax")
schema_code Scope = (11, codes "schema_scope")
schema_code AutoIncrement = (11, codes "schema_scope")
schema_code RepeatedName = (12, codes "repeated_name")
schema_code UnknownKeyColumn = (13, codes "unknown_key_column")
schema_code NoClusteredKey = (14, codes "no_clustered_key")
schema_code TooManyColumns = (15, codes "too_many_columns")
schema_code TooManyKeys = (16, codes "too_many_keys")
schema_code NameTooLong = (17, codes "name_too_long")
schema_code ReservedName = (18, codes "reserved_name")
schema_code BadDefault = (19, codes "bad_default")
schema_code AutoColumn = (32, codes "auto_column")

abbrev pub schema_number : SchemaCode → ℕ
schema_number code = (schema_code code).0

abbrev pub schema_name : SchemaCode → List ℕ
schema_name code = (schema_code code).1
