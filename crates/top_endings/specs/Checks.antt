-- *Altered schema* of a plan.
use Rattle.std.specs.Prelude.{◌≡◌, ℕ, List, Some}
use Rattle.base_values.specs.declared.gho_schema.schema.Schema.{Schema}
use Rattle.base_values.specs.declared.row_conversion.map.MapColumn.{MapColumn}
use Rattle.sql_show.specs.SchemaText.{printed_schema}
use Rattle.plan_data.specs.PlanData.{PlanData, plan_altered}
use Rattle.top_endings.specs.declared.printed.Printed.{Printed}
use Rattle.top_endings.specs.declared.status.Status.TheVariants as statuses

-- The plan's ALTER leaves this schema of its table, with its columns' values from where the map says.
pub record Alters (plan : PlanData) (schema : Schema) : Type 0 where
  pub map : List MapColumn
  pub altered : plan_altered plan ≡ Some (schema, map)

-- the text of the schema that the plan's ALTER leaves
pub record IsSchemaText (plan : PlanData) (text : List ℕ) : Type 0 where
  pub schema : Schema
  pub alters : Alters plan schema
  pub text_is : text ≡ printed_schema schema

-- the altered schema of a plan, printed
pub record IsSchema (plan : PlanData) (printed : Printed) : Type 0 where
  pub status_is : printed.status ≡ statuses.Done
  pub shows : IsSchemaText plan printed.text
