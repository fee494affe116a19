-- The counters at the opening are small.
use Rattle.std.proofs.Common.{◌≡◌, ℕ, ◌+◌, Bool, true, false, List, [], ◌∷◌, cond, Option, Some, None, refl, ap, ◌∙◌, subst, arith}
use Rattle.std.specs.List.{AllByRecursion, flat_map}
use Rattle.std.specs.Option.{option_map}
use Rattle.std.specs.Str.{bytes_eq}
use Rattle.base_values.specs.declared.gho_schema.schema.Schema.{Schema}
use Rattle.base_values.specs.GhoSchema.AutoIncrement.{auto_place}
use Rattle.table_store.specs.Databases.{Database, TableRows, find_table}
use Rattle.server_model.specs.declared.counter.Counter.{Counter}
use Rattle.server_model.specs.States.{counter_of, next_of, start_at, started}
use Rattle.plan_data.specs.PlanData.{PlanData}
use Rattle.tool_program.specs.JournalWords.Journals.{state_after, state_at}
use Rattle.law_draws.specs.OtherTables.{MayCount}
use Rattle.law_draws.specs.SmallNumbers.{CountsIn, IsAtMost}
use Rattle.law_draws.proofs.NewTable.{IsSmall, most_joined}
use Rattle.law_draws.proofs.OtherTables.{counter_found, start_most, table_well}

started_small : (name : List ℕ) (table : TableRows) (auto : Option ℕ) → auto_place table.schema ≡ auto → MayCount table → IsAtMost (9223372036854775808 + 0) (next_of name (started table auto))
started_small name table None none may = tt
started_small name table (Some place) some may = by (bytes_eq table.schema.name name) where
  by : (b : Bool) → IsAtMost (9223372036854775808 + 0) (option_map (λ (counter : Counter). counter.next) (cond b (Some (record { table = table.schema.name; next = start_at table place })) None))
  by true = let most = start_most table place (may place some) in omega (arith, most)
  by false = tt

opening_small : (name : List ℕ) (tables : Database) → AllByRecursion MayCount tables → IsAtMost (9223372036854775808 + 0) (next_of name (flat_map counter_of tables))
opening_small name [] may = tt
opening_small name (table ∷ tables) may = most_joined name (9223372036854775808 + 0) (counter_of table) (flat_map counter_of tables) (started_small name table (auto_place table.schema) refl may.0) (opening_small name tables may.1)

pub small_begins : (name : List ℕ) (plan : PlanData) → AllByRecursion MayCount plan.tables → IsSmall name 0 (state_at plan [])
unfolding state_after
small_begins name plan may = record {
  counts = λ schema found place auto. let one = table_of_schema (find_table name plan.tables) schema found in subst (λ (s : Schema). CountsIn s place) one.2 (table_well name plan.tables one.0 may one.1 place (ap auto_place one.2 ∙ auto)).counts;
  small = opening_small name plan.tables may;
  has = λ schema found place auto. let one = table_of_schema (find_table name plan.tables) schema found in (start_at one.0 place, counter_found name place plan.tables one.0 one.1 (ap auto_place one.2 ∙ auto));
} where
  table_of_schema : (found : Option TableRows) (schema : Schema) → option_map (λ (t : TableRows). t.schema) found ≡ Some schema → (table : TableRows) × (found ≡ Some table) × (table.schema ≡ schema)
  table_of_schema None schema is = absurd cc
  table_of_schema (Some table) schema is = (table, refl, cc)
