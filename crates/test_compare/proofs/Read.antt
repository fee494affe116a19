-- A plan that was read may be run alone.
use Rattle.std.proofs.Common.{[], ◌∷◌}
use Rattle.std.specs.List.{AllByRecursion}
use Rattle.proof_schemas.specs.Alters.Laws.{IsClause}
use Rattle.table_store.specs.Databases.{Database}
use Rattle.plan_reader.specs.PlanTables.Tables.{IsSound}
use Rattle.plan_data.specs.PlanData.{PlanData}
use Rattle.proof_plans.specs.ReadPlans.Laws.{WasRead}
use Rattle.proof_plans.proofs.ReadPlans.Stated.{plans_accepted, read_worded}
use Rattle.test_histories.specs.Histories.{AreValid}

sound_valid : (tables : Database) → AllByRecursion IsSound tables → AreValid tables
sound_valid [] all = tt
sound_valid (table ∷ tables) all = (all.0.valid, sound_valid tables all.1)

pub read_valid : (plan : PlanData) → WasRead plan → AreValid plan.tables
read_valid plan was = sound_valid plan.tables (plans_accepted was.bytes plan was.is).sound

pub read_clauses : (plan : PlanData) → WasRead plan → AllByRecursion IsClause plan.alter
read_clauses plan was = (read_worded plan was).clauses
