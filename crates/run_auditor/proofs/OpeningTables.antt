-- The tables on which a trace begins.
use Rattle.std.proofs.Common.{◌≡◌, ◌≤◌, ℕ, suc, ◌+◌, Bool, true, false, not, ◌||◌, List, [], ◌∷◌, ◌++◌, filter, length, drop, cond, Option, Some, None, refl, sym, ap, ◌∙◌, subst, append-nil, append_assoc}
use Rattle.std.specs.Prelude.{option_to_list}
use Rattle.std.specs.List.{AllByRecursion, flat_map, slice_get}
use Rattle.std.specs.Option.{option_map}
use Rattle.std.proofs.lemmas.Bool.{or_parts}
use Rattle.base_values.specs.declared.gho_schema.schema.Schema.{Schema}
use Rattle.base_values.specs.ToolNames.{is_tool_name}
use Rattle.table_store.specs.Databases.{TableRows, Database, NamesDiffer, find_table, has_table, is_named}
use Rattle.table_store.proofs.NamedTables.{none_after}
use Rattle.plan_data.specs.PlanData.{PlanData}
use Rattle.server_model.specs.LockedRows.Coverage.{IsWellFormedTable}
use Rattle.server_model.specs.LockedRows.Databases.{IsWellFormedDatabase, WhereFound}
use Rattle.server_model.proofs.LockedRows.Tests.{same_bytes}
use Rattle.proof_journals.specs.Machine.MigrationTables.{schema_of}
use Rattle.tool_program.specs.JournalWords.Serials.{tables_left}
use Rattle.run_audit.specs.Audits.{opening_tables}
use Rattle.run_auditor.specs.Judging.{IsPlanned}
use Rattle.run_auditor.proofs.AlteredDatabases.{after_here, found_at, none_found, none_left}

-- the table is no leftover
abbrev pub is_kept : List ℕ → TableRows → Bool
is_kept name table = not (is_tool_name name table.schema.name)

-- ---- table by table

abbrev kept_first : List ℕ → TableRows → Database → Bool → Database
kept_first name table tables b = cond b (table ∷ filter (is_kept name) tables) (filter (is_kept name) tables)

pub kept_more : (name : List ℕ) (all before now : Database) (i : ℕ) (table : TableRows) → slice_get all i ≡ Some table → is_kept name table ≡ true → now ≡ before ++ table ∷ [] → before ++ filter (is_kept name) (drop i all) ≡ filter (is_kept name) all
    → now ++ filter (is_kept name) (drop (i + 1) all) ≡ filter (is_kept name) all
kept_more name all before now i table at keeps added so_far =
    ap (λ (b : Database). b ++ filter (is_kept name) (drop (i + 1) all)) added ∙ append_assoc before (table ∷ []) (filter (is_kept name) (drop (i + 1) all))
    ∙ ap (λ (b : Bool). before ++ kept_first name table (drop (i + 1) all) b) (sym keeps) ∙ ap (λ (rest : Database). before ++ filter (is_kept name) rest) (sym (after_here all i table at)) ∙ so_far

pub left_out : (name : List ℕ) (all before now : Database) (i : ℕ) (table : TableRows) → slice_get all i ≡ Some table → is_kept name table ≡ false → now ≡ before → before ++ filter (is_kept name) (drop i all) ≡ filter (is_kept name) all
    → now ++ filter (is_kept name) (drop (i + 1) all) ≡ filter (is_kept name) all
left_out name all before now i table at leaves same so_far =
    ap (λ (b : Database). b ++ filter (is_kept name) (drop (i + 1) all)) same
    ∙ ap (λ (b : Bool). before ++ kept_first name table (drop (i + 1) all) b) (sym leaves) ∙ ap (λ (rest : Database). before ++ filter (is_kept name) rest) (sym (after_here all i table at)) ∙ so_far

pub kept_all : (name : List ℕ) (all before : Database) (i : ℕ) → length all ≤ i → before ++ filter (is_kept name) (drop i all) ≡ filter (is_kept name) all → before ≡ filter (is_kept name) all
kept_all name all before i past so_far = sym (ap (λ (rest : Database). before ++ filter (is_kept name) rest) (none_left all i past) ∙ append-nil before) ∙ so_far

-- ---- those that are left

abbrev found_in : Database → TableRows → List TableRows
found_in tables table = option_to_list (find_table table.schema.name tables)

left_first : (name : List ℕ) (tables rest : Database) (table : TableRows) (b : Bool) → find_table table.schema.name tables ≡ Some table → flat_map (found_in tables) (filter (is_kept name) rest) ≡ filter (is_kept name) rest
    → flat_map (found_in tables) (kept_first name table rest b) ≡ kept_first name table rest b
left_first name tables rest table true found same = ap (λ (one : Option TableRows). option_to_list one ++ flat_map (found_in tables) (filter (is_kept name) rest)) found ∙ ap (λ (others : Database). table ∷ others) same
left_first name tables rest table false found same = same

left_is : (name : List ℕ) (tables some : Database) → AllByRecursion (λ table. find_table table.schema.name tables ≡ Some table) some → flat_map (found_in tables) (filter (is_kept name) some) ≡ filter (is_kept name) some
left_is name tables [] all = refl
left_is name tables (table ∷ some) all = left_first name tables some table (is_kept name table) all.0 (left_is name tables some all.1)

all_at : (P : TableRows → Type 0) (some : Database) → ((i : ℕ) (table : TableRows) → slice_get some i ≡ Some table → P table) → AllByRecursion P some
all_at P [] each = tt
all_at P (table ∷ some) each = (each 0 table refl, all_at P some (λ i one at. each (suc i) one at))

all_found : (tables : Database) → NamesDiffer tables → AllByRecursion (λ table. find_table table.schema.name tables ≡ Some table) tables
all_found tables differ = all_at (λ table. find_table table.schema.name tables ≡ Some table) tables (λ i table at. found_at table.schema.name tables i table differ at (same_bytes table.schema.name))

-- *The opening tables*
pub opening_is : (plan : PlanData) → NamesDiffer plan.tables → opening_tables plan ≡ filter (is_kept plan.table) plan.tables
unfolding tables_left
opening_is plan differ = left_is plan.table plan.tables plan.tables (all_found plan.tables differ)

-- ---- well formed

kept_formed : (name : List ℕ) (tables : Database) → AllByRecursion IsWellFormedTable tables → AllByRecursion IsWellFormedTable (filter (is_kept name) tables)
kept_formed name [] all = tt
kept_formed name (table ∷ tables) all = by (is_kept name table) (kept_formed name tables all.1) where
  by : (b : Bool) → AllByRecursion IsWellFormedTable (filter (is_kept name) tables) → AllByRecursion IsWellFormedTable (kept_first name table tables b)
  by true rest = (all.0, rest)
  by false rest = rest

found_formed : (name : List ℕ) (tables : Database) → AllByRecursion IsWellFormedTable tables → WhereFound IsWellFormedTable (find_table name tables)
found_formed name [] all = tt
found_formed name (table ∷ tables) all = by (is_named name table) (found_formed name tables all.1) where
  by : (b : Bool) → WhereFound IsWellFormedTable (find_table name tables) → WhereFound IsWellFormedTable (cond b (Some table) (find_table name tables))
  by true rest = all.0
  by false rest = rest

pub opening_formed : (plan : PlanData) (tables : Database) → tables ≡ filter (is_kept plan.table) plan.tables → AllByRecursion IsWellFormedTable plan.tables → IsWellFormedDatabase tables
opening_formed plan tables is all =
    subst IsWellFormedDatabase (sym is) (record { each = λ name. found_formed name (filter (is_kept plan.table) plan.tables) (kept_formed plan.table plan.tables all) })

-- ---- the migrated table's schema

kept_none : (name other : List ℕ) (tables : Database) → has_table other tables ≡ false → has_table other (filter (is_kept name) tables) ≡ false
kept_none name other [] none = refl
kept_none name other (table ∷ tables) none =
    let parts = or_parts (is_named other table) (has_table other tables) none in
    by (is_kept name table) parts.0 (kept_none name other tables parts.1)
  where
    by : (b : Bool) → is_named other table ≡ false → has_table other (filter (is_kept name) tables) ≡ false → has_table other (kept_first name table tables b) ≡ false
    by true here rest = ap (λ (c : Bool). c || has_table other (filter (is_kept name) tables)) here ∙ rest
    by false here rest = rest

-- what is found among those that are kept is found among all
kept_found : (name other : List ℕ) (tables : Database) (found : TableRows) → NamesDiffer tables → find_table other (filter (is_kept name) tables) ≡ Some found → find_table other tables ≡ Some found
kept_found name other [] found differ at = absurd (cc)
kept_found name other (table ∷ tables) found differ at = by (is_kept name table) (is_named other table) refl (kept_found name other tables found differ.1) at where
  by : (b c : Bool) → is_named other table ≡ c → (find_table other (filter (is_kept name) tables) ≡ Some found → find_table other tables ≡ Some found) → find_table other (kept_first name table tables b) ≡ Some found → cond c (Some table) (find_table other tables) ≡ Some found
  by true true is rest at = sym (ap (λ (d : Bool). cond d (Some table) (find_table other (filter (is_kept name) tables))) is) ∙ at
  by true false is rest at = rest (sym (ap (λ (d : Bool). cond d (Some table) (find_table other (filter (is_kept name) tables))) is) ∙ at)
  by false true is rest at =
      absurd (let none : find_table other (filter (is_kept name) tables) ≡ None = none_found other (filter (is_kept name) tables) (kept_none name other tables (none_after other table tables is differ.0)) in cc (none, at))
  by false false is rest at = rest at

planned_by : (plan : PlanData) (found : Option TableRows) (schema : Schema) → ((table : TableRows) → found ≡ Some table → find_table plan.table plan.tables ≡ Some table) → option_map (λ (t : TableRows). t.schema) found ≡ Some schema → schema_of plan.table plan.tables ≡ Some schema
planned_by plan None schema whole has = absurd (cc)
planned_by plan (Some table) schema whole has = ap (option_map (λ (t : TableRows). t.schema)) (whole table refl) ∙ has

pub opening_planned : (plan : PlanData) (tables : Database) → NamesDiffer plan.tables → tables ≡ filter (is_kept plan.table) plan.tables → IsPlanned plan tables
opening_planned plan tables differ is = λ schema has.
    planned_by plan (find_table plan.table tables) schema (λ table at. kept_found plan.table plan.table plan.tables table differ (ap (find_table plan.table) (sym is) ∙ at)) has
