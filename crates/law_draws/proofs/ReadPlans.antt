-- What every plan that is read has: its tables count, and so does what its ALTER leaves; and the numbers that its runs draw.
use Rattle.std.proofs.Common.{◌≡◌, ℕ, ◌≤◌, List, [], ◌∷◌, Option, Some, None, refl, sym, ap, ◌∙◌, subst, arith}
use Rattle.std.specs.Prelude.{unwrap_or}
use Rattle.std.specs.List.{AllByRecursion}
use Rattle.base_values.specs.declared.gho_schema.schema.Schema.{Schema}
use Rattle.base_values.specs.GhoSchema.AutoIncrement.{CountsAt, auto_place}
use Rattle.table_store.specs.Databases.{Database}
use Rattle.server_model.proofs.LockedRows.Counters.{found_named}
use Rattle.plan_data.specs.KeptRows.{KeepsRows}
use Rattle.plan_data.specs.PlanData.{Altered, PlanData, new_altered, new_schema, old_schema}
use Rattle.plan_keys.specs.PlanKeys.{few}
use Rattle.plan_reader.specs.PlanTables.Tables.{IsSound}
use Rattle.tool_program.specs.JournalWords.Journals.{state_at}
use Rattle.proof_schemas.specs.ReadAgain.{IsDeclared, MayStart}
use Rattle.proof_schemas.proofs.Alters.ReadAgain.Declared.{altered-held}
use Rattle.proof_schemas.proofs.Autos.{no-count, no-place}
use Rattle.proof_journals.specs.Ghost.Copies.{IsAltered}
use Rattle.proof_journals.specs.Machine.Runnable.{IsRunnable}
use Rattle.proof_migration.specs.Migration.Planning.{migration_of}
use Rattle.proof_plans.specs.Laws.{AcceptedRenamesFindTheAltered}
use Rattle.proof_plans.specs.ReadPlans.Laws.{ReadPlansAreRunnable, ReadPlansAreSerial, WasRead}
use Rattle.proof_plans.specs.ReadPlans.Schemas.{IsAccepted}
use Rattle.proof_plans.proofs.ReadPlans.Parts.{IsReadPlan, parts_of}
use Rattle.proof_plans.proofs.ReadPlans.Stated.{plans_accepted}
use Rattle.proof_plans.proofs.Tables.Old.{RenameLaws}
use Rattle.proof_plans.proofs.ReadPlans.Declared.{altered_is, made, new_made, old_made, old_valid, table_is, alters}
use Rattle.proof_plans.proofs.ReadPlans.Tables.{IsMade}
use Rattle.proof_plans.proofs.ReadPlans.Numbers.{options_ranged}
use Rattle.law_draws.specs.AllTables.{AcceptedRunsDraw}
use Rattle.law_draws.specs.OtherTables.{MayCount}
use Rattle.law_draws.specs.SmallNumbers.{CountsIn}
use Rattle.law_draws.proofs.AllTables.{Counts, all_drawn, counts_so, plain_so}

-- TABLES

start_small : (place : ℕ) (start : Option ℕ) → MayStart (Some place) start → unwrap_or start 1 ≤ 9223372036854775808
start_small place None may = omega arith
start_small place (Some n) may = let less = may.1 in omega (arith, less)

declared_counts : (migrated : List ℕ) (schema : Schema) (place : ℕ) → auto_place schema ≡ Some place → IsDeclared migrated schema → CountsAt schema (Some place)
declared_counts migrated schema place auto is = subst (CountsAt schema) auto is.counting.at

may_count : (migrated : List ℕ) (tables : Database) → AllByRecursion IsSound tables → AllByRecursion (IsMade migrated) tables → AllByRecursion MayCount tables
may_count migrated [] sound all = tt
may_count migrated (table ∷ tables) sound all = (well, may_count migrated tables sound.1 all.1) where
  well : MayCount table
  well place auto = record {
    counts = record { columns = sound.0.valid.columns; counts = (declared_counts migrated table.schema place auto all.0).1 };
    rows = sound.0.is_table.rows_fit;
    start = start_small place table.schema.start (subst (λ (o : Option ℕ). MayStart o table.schema.start) auto all.0.start);
  }

-- A PLAN

module _ (plan : PlanData) (was : WasRead plan) (runs : IsRunnable plan) where
  accepted : IsAccepted plan
  accepted = plans_accepted was.bytes plan was.is

  old_counts : (place : ℕ) → auto_place (old_schema plan) ≡ Some place → CountsIn (old_schema plan) place
  old_counts place auto = record { columns = (old_valid was.bytes plan was.is accepted).columns; counts = (declared_counts plan.table (old_schema plan) place auto (old_made was.bytes plan was.is accepted)).1 }

  -- a column that has AUTO_INCREMENT had it before
  none_new : auto_place (old_schema plan) ≡ None → auto_place (new_schema plan) ≡ None
  unfolding new_schema
  none_new none =
      let held = altered-held plan.table plan.options.approve_renamed_columns (old_schema plan) plan.alter (new_altered plan) (old_made was.bytes plan was.is accepted).shaped (alters was.bytes plan was.is accepted) in
      let zero = no-count (old_schema plan).columns none in
      let fewer = held.few in
      no-place (new_altered plan).0.columns (omega (arith, zero, fewer))

  counts : Counts plan
  counts = by (auto_place (new_schema plan)) refl (auto_place (old_schema plan)) refl where
    named : (old_schema plan).name ≡ plan.table
    named = ap (λ (s : Schema). s.name) (table_is was.bytes plan was.is accepted) ∙ found_named plan.table plan.tables accepted.table accepted.found

    by : (new : Option ℕ) → auto_place (new_schema plan) ≡ new → (old : Option ℕ) → auto_place (old_schema plan) ≡ old → Counts plan
    by None none old was_old = plain_so none old_counts
    by (Some place) some None none = absurd (let no : Some place ≡ None = sym some ∙ none_new none in cc)
    by (Some place) some (Some before) was_at = counts_so (record {
      old_place = before;
      old_auto = was_at;
      old_counts = old_counts before was_at;
      old_only = (declared_counts plan.table (old_schema plan) before was_at (old_made was.bytes plan was.is accepted)).0;
      named = named;
      new_place = place;
      new_auto = some;
      new_counts = record { columns = runs.fitting.valid.columns; counts = (declared_counts plan.table (new_schema plan) place some (new_made was.bytes plan was.is accepted)).1 };
      new_only = (declared_counts plan.table (new_schema plan) place some (new_made was.bytes plan was.is accepted)).0;
      new_start = start_small place (new_schema plan).start (subst (λ (o : Option ℕ). MayStart o (new_schema plan).start) some (new_made was.bytes plan was.is accepted).start);
      keeps = subst (λ (n : Altered). KeepsRows (old_schema plan) n) (sym (altered_is was.bytes plan was.is accepted)) (subst (λ (s : Schema). KeepsRows s accepted.new) (sym (table_is was.bytes plan was.is accepted)) accepted.keeps);
    })

-- TURNS

-- a run has a million turns at most
read_turns : (plan : PlanData) → WasRead plan → plan.options.turn_limit ≤ 1000000
read_turns plan was =
    let parts : IsReadPlan plan = parts_of was.bytes plan was.is in
    subst (λ (p : PlanData). p.options.turn_limit ≤ 1000000) parts.same (options_ranged parts.members parts.keys parts.said).turns.1

-- EVERY RUN

-- the laws that this stands on
pub record DrawLaws : Type 0 where
  pub rename : RenameLaws
  pub altered : AcceptedRenamesFindTheAltered
  pub runnable : ReadPlansAreRunnable
  pub serial : ReadPlansAreSerial

-- *Accepted runs draw so*
pub runs_draw : DrawLaws → AcceptedRunsDraw
runs_draw laws plan journal was kept few = all_drawn plan (record {
  rename = laws.rename;
  runs = runs;
  serial = laws.serial was.bytes plan was.is;
  may = may_count plan.table plan.tables one.sound (made was.bytes plan was.is one);
  counts = counts plan was runs;
  table = one.table;
  found = one.found;
  same = sym (table_is was.bytes plan was.is one);
  altered = λ before entry rename. subst (λ (n : Altered). IsAltered (migration_of (old_schema plan) n) (state_at plan before).tables) (sym (altered_is was.bytes plan was.is one))
      (subst (λ (s : Schema). IsAltered (migration_of s one.new) (state_at plan before).tables) (sym (table_is was.bytes plan was.is one)) (laws.altered plan one.table one.new before entry was one.found one.alters rename));
}) [] journal kept (let turns = read_turns plan was in omega (arith, few, turns)) where
  runs : IsRunnable plan
  runs = laws.runnable plan was

  one : IsAccepted plan
  one = accepted plan was runs
