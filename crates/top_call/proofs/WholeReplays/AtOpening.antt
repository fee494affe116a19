-- A server over the opening tables of a plan that was read.
use Rattle.std.proofs.Common.{◌≡◌, ℕ, zero, suc, ◌+◌, ◌≤◌, Bool, true, false, ◌||◌, List, [], ◌∷◌, length, take, Some, refl, sym, ap, subst, ◌∙◌, arith}
use Rattle.std.specs.List.{AllByRecursion, slice_get}
use Rattle.std.specs.Str.{IsUtf8, bytes_eq}
use Rattle.std.proofs.lemmas.List.{take_all}
use Rattle.std.proofs.lemmas.Option.{same_Some}
use Rattle.base_values.specs.SchemaRules.Limits.{is_table_name}
use Rattle.base_values.specs.ToolNames.{ghost_name, is_tool_name, log_name, old_name}
use Rattle.table_store.specs.Databases.{Database, StoredTable, database}
use Rattle.server.specs.Parts.{HaveValidSchemas}
use Rattle.server_model.specs.Conditions.{IsTableName}
use Rattle.server_model.proofs.LockedRows.Tests.{are_same}
use Rattle.plan_reader.specs.PlanTables.Tables.{IsSound}
use Rattle.proof_schemas.specs.ReadAgain.{IsDeclared}
use Rattle.proof_plans.specs.ReadPlans.Schemas.{IsAccepted}
use Rattle.proof_plans.proofs.ReadPlans.Declared.{made}
use Rattle.proof_plans.proofs.ReadPlans.Names.{names_fit}
use Rattle.proof_plans.proofs.ReadPlans.Stated.{plans_accepted, read_worded}
use Rattle.server_model.specs.declared.session.Limits.{Limits}
use Rattle.server_model.specs.States.{opened}
use Rattle.plan_data.specs.PlanData.{PlanData}
use Rattle.tool_program.specs.JournalWords.Journals.{opening}
use Rattle.server_model.specs.LockedRows.Databases.{IsWellFormedDatabase}
use Rattle.proof_journals.specs.Plans.{limits_of}
use Rattle.proof_journals.proofs.Openings.{opening_well_formed}
use Rattle.proof_plans.specs.ReadPlans.Laws.{ReadPlansAreSerial, WasRead}

pub well_formed : ReadPlansAreSerial → (plan : PlanData) → WasRead plan → (tables : Database) → tables ≡ plan.tables → IsWellFormedDatabase tables
well_formed law plan was tables is = subst IsWellFormedDatabase (sym is) (opening_well_formed plan.tables (law was.bytes plan was.is).tables)

pub at_opening : (plan : PlanData) (limits : Limits) (tables : Database) → limits ≡ limits_of plan → tables ≡ plan.tables → opened limits tables ≡ opening plan
at_opening plan limits tables same is = ap (λ (l : Limits). opened l tables) same ∙ ap (λ (t : Database). opened (limits_of plan) t) is

-- NAMES

-- the names so far, with one more
pub name_read : (tables : List StoredTable) (n : ℕ) (stored : StoredTable) → slice_get tables n ≡ Some stored → AllByRecursion (λ table. IsUtf8 table.schema.name) (database (take n tables)) → IsUtf8 stored.table.schema.name → AllByRecursion (λ table. IsUtf8 table.schema.name) (database (take (n + 1) tables))
name_read [] n stored at texts text = absurd cc
name_read (first ∷ tables) zero stored at texts text = (subst (λ (s : StoredTable). IsUtf8 s.table.schema.name) (sym (same_Some first stored at)) text, tt)
name_read (first ∷ tables) (suc n) stored at texts text = let next : suc n + 1 ≡ suc (n + 1) = omega arith in rw next (texts.0, name_read tables n stored at texts.1 text)

pub names_read : (tables : List StoredTable) (n : ℕ) → length tables ≤ n → AllByRecursion (λ table. IsUtf8 table.schema.name) (database (take n tables)) → AllByRecursion (λ table. IsUtf8 table.schema.name) (database tables)
names_read tables n over texts = subst (λ (all : List StoredTable). AllByRecursion (λ table. IsUtf8 table.schema.name) (database all)) (take_all n tables over) texts

-- one of the tool's names
tool_name : (table name : List ℕ) → AllByRecursion IsTableName (table ∷ ghost_name table ∷ log_name table ∷ old_name table ∷ []) → is_tool_name table name ≡ true → IsTableName name
tool_name table name names is = by (bytes_eq name (ghost_name table)) (bytes_eq name (log_name table)) (bytes_eq name (old_name table)) refl refl refl is where
  by : (ghost log old : Bool) → bytes_eq name (ghost_name table) ≡ ghost → bytes_eq name (log_name table) ≡ log → bytes_eq name (old_name table) ≡ old → (ghost || log || old) ≡ true → IsTableName name
  by true log old one other third is = subst IsTableName (sym (are_same name (ghost_name table) one)) names.1.0
  by false true old one other third is = subst IsTableName (sym (are_same name (log_name table) other)) names.1.1.0
  by false false true one other third is = subst IsTableName (sym (are_same name (old_name table) third)) names.1.1.1.0
  by false false false one other third is = absurd cc

-- a name that CREATE TABLE takes, where it is UTF-8
name_fits : (table name : List ℕ) → AllByRecursion IsTableName (table ∷ ghost_name table ∷ log_name table ∷ old_name table ∷ []) → IsUtf8 name → is_table_name (is_tool_name table name) name ≡ true → IsTableName name
name_fits table name names text is = by (is_tool_name table name) refl is where
  by : (tool : Bool) → is_tool_name table name ≡ tool → is_table_name tool name ≡ true → IsTableName name
  by true tool is = tool_name table name names tool
  by false tool is = (names_fit name is text).0

all_valid : (migrated : List ℕ) (tables : Database) → AllByRecursion IsTableName (migrated ∷ ghost_name migrated ∷ log_name migrated ∷ old_name migrated ∷ []) → AllByRecursion IsSound tables → AllByRecursion (λ table. IsDeclared migrated table.schema) tables
    → AllByRecursion (λ table. IsUtf8 table.schema.name) tables → HaveValidSchemas tables
all_valid migrated [] names sound declared texts = tt
all_valid migrated (table ∷ tables) names sound declared texts = (record { named = name_fits migrated table.schema.name names texts.0 declared.0.shaped.name; valid = sound.0.valid }, all_valid migrated tables names sound.1 declared.1 texts.1)

-- *The tables of a plan that was read have valid schemas*
pub valid_schemas : (plan : PlanData) → WasRead plan → (tables : Database) → tables ≡ plan.tables → AllByRecursion (λ table. IsUtf8 table.schema.name) tables → HaveValidSchemas tables
valid_schemas plan was tables is texts =
    let accepted : IsAccepted plan = plans_accepted was.bytes plan was.is in
    subst HaveValidSchemas (sym is) (all_valid plan.table plan.tables (read_worded plan was).names accepted.sound (made was.bytes plan was.is accepted) (subst (AllByRecursion (λ table. IsUtf8 table.schema.name)) is texts))
