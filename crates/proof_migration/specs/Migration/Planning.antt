-- What the ghost relation asks of a migration, of each ALTER that is taken.
use Rattle.std.specs.Prelude.{◌≡◌, Bool, List, Ok}
use Rattle.base_values.specs.declared.value.Value.{Value}
use Rattle.base_values.specs.declared.gho_schema.schema.Schema.{Schema}
use Rattle.base_values.specs.GhoSchema.Tables.{IsTable}
use Rattle.base_values.specs.declared.row_conversion.clause.Clause.{Clause}
use Rattle.base_values.specs.SchemaRules.Valid.{IsValid}
use Rattle.sql_change.specs.AlteredSchema.{altered}
use Rattle.base_values.specs.ToolNames.{ghost_name}
use Rattle.plan_data.specs.PlanData.{Altered}
use Rattle.proof_journals.specs.Ghost.Rows.Timelines.{Migration, IsPlanned}

-- the migration of a table of this schema to what its ALTER leaves, which is made under the ghost's name
abbrev pub migration_of : Schema → Altered → Migration
migration_of schema new = record { name = schema.name; schema = schema; new = record (new.0) { name = ghost_name schema.name }; columns = new.1 }

-- *ALTERs are planned*: the migration of each table of a valid schema is what the ghost relation asks.
abbrev pub AltersArePlanned : Type 0
AltersArePlanned = (approve : Bool) (schema : Schema) (clauses : List Clause) (new : Altered) (rows : List (List Value)) → IsValid schema → altered approve schema clauses ≡ Ok new → IsTable schema rows → IsPlanned (migration_of schema new) rows
