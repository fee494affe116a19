-- What is planned, as the code walks over it. (This project's rule.)
use Rattle.std.specs.Prelude.{ℕ, ◌<◌, if◌then◌else◌, List, [], map}
use Rattle.std.specs.Str.{bytes_eq}
use Rattle.base_values.specs.declared.value.Value.{Value}
use Rattle.base_values.specs.declared.gho_schema.schema.Schema.{Schema}
use Rattle.base_values.specs.declared.row_conversion.map.MapColumn.{MapColumn}
use Rattle.base_values.specs.declared.event.RowEvent.{RowEvent}
use Rattle.base_script.specs.declared.statement.Set.{Set}
use Rattle.tool_program.specs.declared.event_applier.applier.Applier.{Applier}
use Rattle.tool_program.specs.declared.event_applier.applier.ApplyStep.{ApplyStep}
use Rattle.tool_program.specs.declared.event_applier.applier.ApplyStep.TheVariants.{Beginning, Applying}
use Rattle.tool_program.specs.declared.event_applier.batch_plan.Planned.{Planned}
use Rattle.tool_program.specs.declared.event_applier.batch_plan.Planned.TheVariants.{Put, Remove, Change}
use Rattle.tool_program.specs.EventApplier.Appliers.{Doing, Putting, Removing, Changing, doings, given_values, name_at, value_at}

-- what the code's borrowed rows are meant to do
abbrev pub meant : Planned → Doing
meant (Put row) = Putting row.now
meant (Remove row) = Removing row.now
meant (Change before after) = Changing before.now after.now

-- what is done for an event, where it is of the table
abbrev pub event_doings : Applier → RowEvent → List Doing
event_doings applier event = if bytes_eq event.table applier.table then doings applier.new_schema applier.map event.change else []

-- the columns at these places with a row's values
abbrev pub key_sets : Schema → List MapColumn → List Value → List ℕ → List Set
key_sets schema columns row places = map (λ place. record { column = name_at schema.columns place; value = value_at (given_values columns row) place }) places

-- a statement is made only where one was planned that wasn't done
abbrev pub StepFits : ApplyStep → Type 0
StepFits (Beginning batch) = 0 < batch.statements
StepFits (Applying batch done part) = done < batch.statements
StepFits step = Unit {0}
