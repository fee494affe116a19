-- What a plan says, and what its ALTER makes of its table (MySQL's manual, "ALTER TABLE Statement").
use Rattle.std.specs.Prelude.{ℕ, Bool, List, [], ◌∷◌, is_some, unwrap_or, Option, Some, None}
use Rattle.std.specs.List.{flat_map, repeat}
use Rattle.std.specs.Option.{option_map}
use Rattle.std.specs.Result.{result_ok}
use Rattle.base_values.specs.declared.gho_schema.schema.Schema.{Schema}
use Rattle.base_values.specs.GhoSchema.AutoIncrement.{auto_place}
use Rattle.base_values.specs.declared.row_conversion.clause.Clause.{Clause}
use Rattle.base_values.specs.declared.row_conversion.map.MapColumn.{MapColumn}
use Rattle.sql_change.specs.AlteredSchema.{altered}
use Rattle.table_store.specs.Databases.{TableRows, Database, find_table}
use Rattle.base_script.specs.declared.actor.Actor.{Actor}
use Rattle.base_script.specs.declared.loss.Loss.{Loss}
use Rattle.base_script.specs.declared.operator.Command.{Command}
use Rattle.base_script.specs.declared.script.ScriptLine.{ScriptLine}
use Rattle.plan_data.specs.declared.options.Options.{Options}
use Rattle.plan_data.specs.declared.runs.ActorRun.{ActorRun}

-- an accepted plan
pub record PlanData : Type 0 where
  -- the name of the table to migrate
  pub table : List ℕ
  -- the clauses of the ALTER
  pub alter : List Clause
  -- the opening tables, in the plan's order
  pub tables : Database
  -- each client's script
  pub clients : List (List ScriptLine)
  -- the operator's commands
  pub operator : List Command
  -- the losses of sessions
  pub faults : List Loss
  -- the order of turns that is asked for
  pub turns : List ActorRun
  pub options : Options

-- the turns of runs, one after the other
abbrev pub turns_in : List ActorRun → List Actor
turns_in runs = flat_map (λ run. repeat run.times (run.actor ∷ [])) runs

-- a new schema, and for each of its columns where its values come from
abbrev pub Altered : Type 0
Altered = Schema × List MapColumn

-- what the plan's clauses make of a schema; none where they are refused
abbrev pub altered_by : PlanData → Schema → Option Altered
altered_by plan schema = result_ok (altered plan.options.approve_renamed_columns schema plan.alter)

-- the new schema of the migrated table, and where its columns' values come from; none where the ALTER is refused
abbrev pub altered_in : PlanData → Option TableRows → Option Altered
altered_in plan None = None
altered_in plan (Some table) = altered_by plan table.schema

unfoldable pub plan_altered : PlanData → Option Altered
plan_altered plan = altered_in plan (find_table plan.table plan.tables)

-- the migrated table's schema, and what the ALTER makes of it. (An accepted plan has both; another has this empty one.)
abbrev pub no_schema : Schema
no_schema = record { name = []; columns = []; uniques = []; indexes = []; comment = []; start = None }

abbrev pub old_schema : PlanData → Schema
old_schema plan = unwrap_or (option_map (λ table. table.schema) (find_table plan.table plan.tables)) no_schema

-- the migrated table has an AUTO_INCREMENT column (no ALTER gives it one or takes it away)
abbrev pub has_counter : PlanData → Bool
has_counter plan = is_some (auto_place (old_schema plan))

abbrev pub new_altered : PlanData → Altered
new_altered plan = unwrap_or (altered_by plan (old_schema plan)) (no_schema, [])

unfoldable pub new_schema : PlanData → Schema
new_schema plan = (new_altered plan).0

unfoldable pub new_map : PlanData → List MapColumn
new_map plan = (new_altered plan).1
