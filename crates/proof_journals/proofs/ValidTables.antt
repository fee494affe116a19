-- A new table of a valid schema is well formed.
use Rattle.std.proofs.Common.{List, [], ◌∷◌}
use Rattle.std.specs.List.{AllByRecursion}
use Rattle.base_values.specs.declared.gho_schema.schema.Column.{Column}
use Rattle.base_values.specs.declared.gho_schema.schema.Schema.{Schema}
use Rattle.base_values.specs.SchemaRules.Valid.{StoresDefault, IsColumn, IsValid}
use Rattle.server_model.specs.LockedRows.Coverage.{IsWellFormedTable}
use Rattle.plan_data.proofs.KeyedSchemas.{valid_keyed}

-- a default of a valid column can be stored in it
pub defaults_fit : (columns : List Column) → AllByRecursion IsColumn columns → AllByRecursion (λ column. StoresDefault column column.default) columns
defaults_fit [] all = tt
defaults_fit (column ∷ columns) all = (all.0.default, defaults_fit columns all.1)

-- *A new table of a valid schema is a table.*
pub valid_table : (schema : Schema) → IsValid schema → IsWellFormedTable (record { schema = schema; rows = [] })
valid_table schema is = record { keyed = valid_keyed schema is; defaults = defaults_fit schema.columns is.columns; is_table = record { rows_fit = tt; ascends = tt; apart = tt } }
