-- What a plan's ALTER leaves, in the words of the program.
use Rattle.std.proofs.Common.{◌≡◌, refl, ap, Option, Some, None}
use Rattle.std.specs.Prelude.{unwrap_or, []}
use Rattle.std.specs.Option.{option_map}
use Rattle.table_store.specs.Databases.{TableRows, find_table}
use Rattle.plan_data.specs.PlanData.{PlanData, Altered, altered_by, altered_in, plan_altered, no_schema, new_schema, new_map}

altered_is : (plan : PlanData) (found : Option TableRows) (new : Altered) → altered_in plan found ≡ Some new → unwrap_or (altered_by plan (unwrap_or (option_map (λ table. table.schema) found) no_schema)) (no_schema, []) ≡ new
altered_is plan None new is = absurd cc
altered_is plan (Some table) new is = rw is refl

pub schema_is : (plan : PlanData) (new : Altered) → plan_altered plan ≡ Some new → new_schema plan ≡ new.0
unfolding plan_altered new_schema
schema_is plan new is = ap (λ (altered : Altered). altered.0) (altered_is plan (find_table plan.table plan.tables) new is)

pub map_is : (plan : PlanData) (new : Altered) → plan_altered plan ≡ Some new → new_map plan ≡ new.1
unfolding plan_altered new_map
map_is plan new is = ap (λ (altered : Altered). altered.1) (altered_is plan (find_table plan.table plan.tables) new is)
