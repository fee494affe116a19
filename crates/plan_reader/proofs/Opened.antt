-- What is found in an opening that was read.
use Rattle.std.proofs.Common.{◌≡◌, Bool, true, false, cond, ℕ, List, [], ◌∷◌, Option, Some, None, Result, Ok, Err, refl, ap, subst, ◌∙◌}
use Rattle.std.specs.List.{AllByRecursion}
use Rattle.sql_change.specs.declared.code.AlterCode.{AlterCode}
use Rattle.sql_change.specs.AlteredSchema.{altered}
use Rattle.sql_alter.specs.AlterText.{alter_at}
use Rattle.table_store.specs.Databases.{TableRows, Database, is_named, find_table}
use Rattle.base_values.proofs.SchemaRules.Steps.{bind_ok, ok_is, kept_out}
use Rattle.plan_data.specs.PlanData.{PlanData, Altered, plan_altered}
use Rattle.plan_keys.specs.PlanKeys.{KeyData}
use Rattle.plan_reader.specs.PlanTables.Tables.{tables_of, IsSound}
use Rattle.plan_reader.specs.declared.plan_tables.fault.TableRefusal.{TableRefusal}
use Rattle.plan_reader.specs.declared.fault.PlanRefusal.{PlanRefusal}
use Rattle.plan_reader.specs.declared.fault.PlanRefusal.TheVariants.{NoTable, Leftover}
use Rattle.plan_reader.specs.Openings.{OpeningData, without_leftovers, migrated_in, opening_of}
use Rattle.plan_reader.specs.Refusals.{of_tables, of_alter, or_refused}

-- ---- a table that is found is one of the tables

first_is : (b : Bool) (first table : TableRows) (rest : Option TableRows) → cond b (Some first) rest ≡ Some table → IsSound first → (rest ≡ Some table → IsSound table) → IsSound table
first_is true first table rest is sound others =
    let same : first ≡ table = cc in
    subst IsSound same sound
first_is false first table rest is sound others = others is

pub found_is : (name : List ℕ) (tables : Database) (table : TableRows) → AllByRecursion IsSound tables → find_table name tables ≡ Some table → IsSound table
found_is name [] table all is = absurd (cc)
found_is name (first ∷ tables) table all is = first_is (is_named name first) first table (find_table name tables) is all.0 (λ other. found_is name tables table all.1 other)

-- ---- what was read

pub tables_were : (read : Result Database TableRefusal) (tables : Database) → of_tables read ≡ Ok tables → read ≡ Ok tables
tables_were (Ok x) tables is = cc
tables_were (Err refusal) tables is = absurd (cc)

pub alter_was : {A : Type 0} (read : Result A AlterCode) (x : A) → of_alter read ≡ Ok x → read ≡ Ok x
alter_was (Ok y) x is = cc
alter_was (Err code) x is = absurd (cc)

there_was : (refusal : PlanRefusal) (o : Option TableRows) (table : TableRows) → or_refused refusal o ≡ Ok table → o ≡ Some table
there_was refusal (Some x) table is = cc
there_was refusal None table is = absurd (cc)

-- what an opening says, part by part
pub record IsOpening (keys : KeyData) (opening : OpeningData) : Type 0 where
  pub tables : tables_of keys.version keys.texts.table keys.texts.tables ≡ Ok opening.tables
  pub table : TableRows
  pub found : find_table keys.texts.table opening.tables ≡ Some table
  pub alters : altered keys.options.approve_renamed_columns table.schema opening.alter ≡ Ok opening.new

pub opening_is : (keys : KeyData) (opening : OpeningData) → opening_of keys ≡ Ok opening → IsOpening keys opening
unfolding opening_of
opening_is keys opening is =
    let tables = bind_ok (of_tables (tables_of keys.version keys.texts.table keys.texts.tables)) _ opening is in
    let table = bind_ok (migrated_in keys.texts.table tables.0) _ opening tables.2 in
    let allowed = bind_ok (without_leftovers keys.texts.table keys.options tables.0) _ opening table.2 in
    let clauses = bind_ok (of_alter (alter_at keys.version keys.texts.table keys.texts.alter)) _ opening allowed.2 in
    let new = bind_ok (of_alter (altered keys.options.approve_renamed_columns table.0.schema clauses.0)) (λ new. Ok (record { tables = allowed.0; alter = clauses.0; new = new })) opening clauses.2 in
    let parts = kept_out _ tables.0 allowed.0 Leftover allowed.1 in
    let made : OpeningData = record { tables = allowed.0; alter = clauses.0; new = new.0 } in
    let known : IsOpening keys made = record {
      tables = tables_were (tables_of keys.version keys.texts.table keys.texts.tables) tables.0 tables.1 ∙ ap (λ (t : Database). Ok t) parts.1;
      table = table.0;
      found = subst (λ (t : Database). find_table keys.texts.table t ≡ Some table.0) parts.1 (there_was NoTable (find_table keys.texts.table tables.0) table.0 table.1);
      alters = alter_was (altered keys.options.approve_renamed_columns table.0.schema clauses.0) new.0 new.1;
    } in
    subst (IsOpening keys) (ok_is made opening new.2) known

-- ---- what the ALTER makes of a plan's table

pub alters_plan : (plan : PlanData) (table : TableRows) (new : Altered) → find_table plan.table plan.tables ≡ Some table → altered plan.options.approve_renamed_columns table.schema plan.alter ≡ Ok new → plan_altered plan ≡ Some new
unfolding plan_altered
alters_plan plan table new found is = rw (found, is) refl
