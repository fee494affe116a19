-- Where the AUTO_INCREMENT columns of a plan that was read start, and that of the table which its ALTER makes: at numbers of 64 bits.
use Rattle.std.proofs.Common.{◌≡◌, ℕ, List, [], ◌∷◌, Option, Some, None, Ok, arith}
use Rattle.std.specs.List.{AllByRecursion}
use Rattle.table_store.specs.Databases.{Database}
use Rattle.plan_data.specs.PlanData.{PlanData, new_schema}
use Rattle.plan_reader.specs.Plans.{read}
use Rattle.proof_schemas.specs.ReadAgain.{MayStart}
use Rattle.proof_plans.specs.ReadPlans.Schemas.{IsAccepted}
use Rattle.proof_plans.proofs.ReadPlans.Declared.{made, new_made}
use Rattle.proof_plans.proofs.ReadPlans.Tables.{IsMade}
use Rattle.proof_plain.specs.Plain.{SmallIf}

small : (place start : Option ℕ) → MayStart place start → SmallIf start
small place None may = tt
small None (Some n) may = absurd may
small (Some place) (Some n) may = let less = may.1 in omega (arith, less)

made_small : (migrated : List ℕ) (tables : Database) → AllByRecursion (IsMade migrated) tables → AllByRecursion (λ table. SmallIf table.schema.start) tables
made_small migrated [] all = tt
made_small migrated (table ∷ tables) all = (small _ table.schema.start all.0.start, made_small migrated tables all.1)

-- ---- a plan

module _ (bytes : List ℕ) (plan : PlanData) (is : read bytes ≡ Ok plan) (accepted : IsAccepted plan) where
  pub starts_small : AllByRecursion (λ table. SmallIf table.schema.start) plan.tables
  starts_small = made_small plan.table plan.tables (made bytes plan is accepted)

  pub new_start_small : SmallIf (new_schema plan).start
  new_start_small = small _ (new_schema plan).start (new_made bytes plan is accepted).start
