-- Databases after the ALTER.
use Rattle.std.proofs.Common.{◌≡◌, ℕ, zero, suc, ◌+◌, ◌≤◌, Bool, true, false, ◌||◌, List, [], ◌∷◌, ◌++◌, map, length, drop, cond, Option, Some, None, refl, sym, ap, ◌∙◌, subst, append-nil, append_assoc, arith}
use Rattle.std.specs.Option.{option_map}
use Rattle.std.specs.List.{slice_get}
use Rattle.std.specs.Str.{bytes_eq}
use Rattle.std.proofs.lemmas.Bool.{or_parts}
use Rattle.base_values.specs.declared.value.Value.{Value}
use Rattle.base_values.specs.declared.gho_schema.schema.Schema.{Schema}
use Rattle.base_values.specs.GhoSchema.Rows.{key_places}
use Rattle.base_values.specs.GhoSchema.Tables.{Ascends}
use Rattle.table_store.specs.Databases.{TableRows, Database, StoredTable, database, NamesDiffer, find_table, has_table, is_named, with_change}
use Rattle.table_store.proofs.NamedTables.{no_change, none_after}
use Rattle.plan_data.specs.PlanData.{PlanData, altered_by, plan_altered}
use Rattle.plan_data.specs.PlanData as plans
use Rattle.server_model.specs.LockedRows.Coverage.{IsWellFormedTable}
use Rattle.server_model.specs.LockedRows.Databases.{IsWellFormedDatabase, WhereFound}
use Rattle.server_model.proofs.LockedRows.Tests.{are_same}
use Rattle.proof_journals.specs.Machine.MigrationTables.{schema_of}
use Rattle.base_values.specs.declared.row_conversion.map.MapColumn.{MapColumn}
use Rattle.base_values.specs.RowConversion.ConvertedRows.{converted_rows}
use Rattle.tool_program.specs.JournalWords.AlteredTables.{Altered, altered_table, imaged, plan_altered_table}
use Rattle.tool_program.specs.JournalWords.Serials.{altered_database, altered_in}
use Rattle.run_auditor.specs.Judging.{AltersTables, IsPlanned, MakesTable, after_these, joined, table_after, tables_after}

-- ---- the rows

-- the converted rows so far, and after them those of the others, where each has one
abbrev pub with_converted_rows : List (List Value) → Option (List (List Value)) → Option (List (List Value))
with_converted_rows front None = None
with_converted_rows front (Some others) = Some (front ++ others)

abbrev pub made_of : Schema → Option (List (List Value)) → Option TableRows
made_of schema rows = option_map (λ made. record { schema = schema; rows = made }) rows

-- what the plan's ALTER makes of a table of the schema that it was planned for
pub altered_is : (plan : PlanData) (table : TableRows) (schema : Schema) (map : List MapColumn) (rows : Option (List (List Value))) → altered_by plan table.schema ≡ plan_altered plan → plan_altered plan ≡ Some (schema, map) → rows ≡ converted_rows map table.rows
    → made_of schema rows ≡ plan_altered_table plan table
unfolding altered_table
altered_is plan table schema map rows planned altered converted = ap (made_of schema) converted ∙ sym (ap (λ (new : Option Altered). imaged new table.rows) (planned ∙ altered))

-- ... whose rows are in order of its key
pub ordered_by : (plan : PlanData) (table : TableRows) (schema copy : Schema) (map : List MapColumn) (rows given : List (List Value)) → ((after : TableRows) → plan_altered_table plan table ≡ Some after → Ascends (key_places after.schema) after.rows) → altered_by plan table.schema ≡ plan_altered plan
    → plan_altered plan ≡ Some (schema, map) → Some rows ≡ converted_rows map table.rows → copy ≡ schema → given ≡ rows → Ascends (key_places copy) given
ordered_by plan table schema copy map rows given ordered planned altered converted copied same =
    subst (λ (s : Schema). Ascends (key_places s) given) (sym copied)
    (subst (λ (r : List (List Value)). Ascends (key_places schema) r) (sym same) (ordered (record { schema = schema; rows = rows }) (sym (altered_is plan table schema map (Some rows) planned altered converted))))

-- ---- finding

or_other : (a b : Bool) → a ≡ false → (a || b) ≡ true → b ≡ true
or_other true b first both = absurd (cc)
or_other false b first both = both

pub none_found : (name : List ℕ) (tables : Database) → has_table name tables ≡ false → find_table name tables ≡ None
none_found name [] none = refl
none_found name (table ∷ tables) none =
    let parts = or_parts (is_named name table) (has_table name tables) none in
    ap (λ (b : Bool). cond b (Some table) (find_table name tables)) parts.0 ∙ none_found name tables parts.1

found_by : (name : List ℕ) (table found : TableRows) (tables : Database) (b : Bool) → is_named name table ≡ b → (find_table name tables ≡ Some found → is_named name found ≡ true) → cond b (Some table) (find_table name tables) ≡ Some found → is_named name found ≡ true
found_by name table found tables true is rest at = let same : table ≡ found = cc in subst (λ (t : TableRows). is_named name t ≡ true) same is
found_by name table found tables false is rest at = rest at

-- what is found has the name
pub found_named : (name : List ℕ) (tables : Database) (found : TableRows) → find_table name tables ≡ Some found → is_named name found ≡ true
found_named name [] found at = absurd (cc)
found_named name (table ∷ tables) found at = found_by name table found tables (is_named name table) refl (found_named name tables found) at

not_at : (name : List ℕ) (tables : Database) (i : ℕ) (table : TableRows) → has_table name tables ≡ false → slice_get tables i ≡ Some table → is_named name table ≡ false
not_at name [] zero table none at = absurd (cc)
not_at name [] (suc i) table none at = absurd (cc)
not_at name (first ∷ tables) zero table none at = let same : first ≡ table = cc in subst (λ (t : TableRows). is_named name t ≡ false) same (or_parts (is_named name first) (has_table name tables) none).0
not_at name (first ∷ tables) (suc i) table none at = not_at name tables i table (or_parts (is_named name first) (has_table name tables) none).1 at

-- the table of a name at a place is the one that is found
pub found_at : (name : List ℕ) (tables : Database) (i : ℕ) (table : TableRows) → NamesDiffer tables → slice_get tables i ≡ Some table → is_named name table ≡ true → find_table name tables ≡ Some table
found_at name [] zero table differ at is = absurd (cc)
found_at name [] (suc i) table differ at is = absurd (cc)
found_at name (first ∷ tables) zero table differ at is = let same : first ≡ table = cc in ap (λ (b : Bool). cond b (Some first) (find_table name tables)) (subst (λ (t : TableRows). is_named name t ≡ true) (sym same) is) ∙ ap (λ (t : TableRows). Some t) same
found_at name (first ∷ tables) (suc i) table differ at is = by (is_named name first) refl (found_at name tables i table differ.1 at is) where
  by : (b : Bool) → is_named name first ≡ b → find_table name tables ≡ Some table → cond b (Some first) (find_table name tables) ≡ Some table
  by true here rest =
      absurd (let none : has_table name tables ≡ false = none_after name first tables here differ.0 in let apart : is_named name table ≡ false = not_at name tables i table none at in cc (apart, is))
  by false here rest = rest

-- ---- table by table

database_length : (tables : List StoredTable) → length (database tables) ≡ length tables
database_length [] = refl
database_length (one ∷ tables) = ap suc (database_length tables)

pub past_all : (tables : List StoredTable) (i n : ℕ) → n ≡ length tables → n ≤ i → length (database tables) ≤ i
past_all tables i n count past = let same : length (database tables) ≡ length tables = database_length tables in omega (arith, same, count, past)

pub after_here : (tables : Database) (i : ℕ) (table : TableRows) → slice_get tables i ≡ Some table → drop i tables ≡ table ∷ drop (i + 1) tables
after_here [] zero table at = absurd (cc)
after_here [] (suc i) table at = absurd (cc)
after_here (first ∷ tables) zero table at = let same : first ≡ table = cc in ap (λ t. t ∷ tables) same
after_here (first ∷ tables) (suc i) table at = let next : suc i + 1 ≡ suc (i + 1) = omega arith in rw next (after_here tables i table at)

pub stored_here : (tables : List StoredTable) (i : ℕ) (one : StoredTable) → slice_get tables i ≡ Some one → slice_get (database tables) i ≡ Some one.table
stored_here [] zero one at = absurd (cc)
stored_here [] (suc i) one at = absurd (cc)
stored_here (first ∷ tables) zero one at = let same : first ≡ one = cc in ap (λ (s : StoredTable). Some s.table) same
stored_here (first ∷ tables) (suc i) one at = stored_here tables i one at

step_of : (plan : PlanData) (tables : Database) (i : ℕ) (table : TableRows) → slice_get tables i ≡ Some table → tables_after plan (drop i tables) ≡ joined (table_after plan table) (tables_after plan (drop (i + 1) tables))
unfolding tables_after
step_of plan tables i table at = ap (tables_after plan) (after_here tables i table at)

joined_more : (before : Database) (made : TableRows) (rest : Option Database) → after_these (before ++ made ∷ []) rest ≡ after_these before (joined (Some made) rest)
joined_more before made None = refl
joined_more before made (Some tables) = ap (λ (all : Database). Some all) (append_assoc before (made ∷ []) tables)

-- one table more is made
pub made_more : (plan : PlanData) (tables all before now : Database) (i : ℕ) (table made : TableRows) → slice_get tables i ≡ Some table → table_after plan table ≡ Some made → now ≡ before ++ made ∷ [] → after_these before (tables_after plan (drop i tables)) ≡ tables_after plan tables
    → after_these now (tables_after plan (drop (i + 1) tables)) ≡ tables_after plan tables
made_more plan tables all before now i table made at is added so_far =
    ap (λ (b : Database). after_these b (tables_after plan (drop (i + 1) tables))) added ∙ joined_more before made (tables_after plan (drop (i + 1) tables))
    ∙ ap (λ (m : Option TableRows). after_these before (joined m (tables_after plan (drop (i + 1) tables)))) (sym is) ∙ ap (after_these before) (sym (step_of plan tables i table at)) ∙ so_far

-- ... or can't be
pub made_none : (plan : PlanData) (tables before : Database) (i : ℕ) (table : TableRows) → slice_get tables i ≡ Some table → table_after plan table ≡ None → after_these before (tables_after plan (drop i tables)) ≡ tables_after plan tables → tables_after plan tables ≡ None
made_none plan tables before i table at is so_far =
    sym so_far ∙ ap (after_these before) (step_of plan tables i table at) ∙ ap (λ (m : Option TableRows). after_these before (joined m (tables_after plan (drop (i + 1) tables)))) is

pub none_left : (tables : Database) (i : ℕ) → length tables ≤ i → drop i tables ≡ []
none_left [] zero past = refl
none_left [] (suc i) past = refl
none_left (table ∷ tables) zero past = absurd (omega (arith, past))
none_left (table ∷ tables) (suc i) past = none_left tables i (omega (arith, past))

-- all are made
pub made_all : (plan : PlanData) (tables before : Database) (i : ℕ) → length tables ≤ i → after_these before (tables_after plan (drop i tables)) ≡ tables_after plan tables → Some before ≡ tables_after plan tables
unfolding tables_after
made_all plan tables before i past so_far =
    sym (ap (λ (rest : Database). after_these before (tables_after plan rest)) (none_left tables i past) ∙ ap (λ (all : Database). Some all) (append-nil before)) ∙ so_far

-- ---- as one change

others_after : (plan : PlanData) (tables : Database) → has_table plan.table tables ≡ false → tables_after plan tables ≡ Some tables
unfolding tables_after
others_after plan [] none = refl
others_after plan (table ∷ tables) none =
    let parts = or_parts (is_named plan.table table) (has_table plan.table tables) none in
    ap (λ (b : Bool). joined (cond b (plan_altered_table plan table) (Some table)) (tables_after plan tables)) parts.0 ∙ ap (joined (Some table)) (others_after plan tables parts.1)

abbrev changed_by : PlanData → Database → Option TableRows → Option Database
changed_by plan tables made = option_map (λ new. with_change plan.table (λ old. new) tables) made

first_changed : (plan : PlanData) (table : TableRows) (tables : Database) (made : Option TableRows) → is_named plan.table table ≡ true → has_table plan.table tables ≡ false → joined made (Some tables) ≡ changed_by plan (table ∷ tables) made
first_changed plan table tables None here none = refl
first_changed plan table tables (Some new) here none =
    ap (λ (all : Database). Some all)
    (ap (λ (rest : Database). new ∷ rest) (sym (no_change plan.table (λ old. new) tables none)) ∙ ap (λ (b : Bool). cond b new table ∷ with_change plan.table (λ old. new) tables) (sym here))

later_made : (plan : PlanData) (table : TableRows) (tables : Database) (made : Option TableRows) → is_named plan.table table ≡ false → joined (Some table) (changed_by plan tables made) ≡ changed_by plan (table ∷ tables) made
later_made plan table tables None here = refl
later_made plan table tables (Some new) here = ap (λ (b : Bool). Some (cond b new table ∷ with_change plan.table (λ old. new) tables)) (sym here)

later_changed : (plan : PlanData) (table : TableRows) (tables : Database) (found : Option TableRows) → is_named plan.table table ≡ false → joined (Some table) (altered_in plan tables found) ≡ altered_in plan (table ∷ tables) found
later_changed plan table tables None here = refl
later_changed plan table tables (Some old) here = later_made plan table tables (plan_altered_table plan old) here

in_after : (plan : PlanData) (tables : Database) → NamesDiffer tables → has_table plan.table tables ≡ true → tables_after plan tables ≡ altered_in plan tables (find_table plan.table tables)
unfolding tables_after
in_after plan [] differ has = absurd (cc)
in_after plan (table ∷ tables) differ has = by (is_named plan.table table) refl (in_after plan tables differ.1) where
  by : (b : Bool) → is_named plan.table table ≡ b → (has_table plan.table tables ≡ true → tables_after plan tables ≡ altered_in plan tables (find_table plan.table tables))
      → joined (cond b (plan_altered_table plan table) (Some table)) (tables_after plan tables) ≡ altered_in plan (table ∷ tables) (cond b (Some table) (find_table plan.table tables))
  by true here rest =
      let none : has_table plan.table tables ≡ false = none_after plan.table table tables here differ.0 in
      ap (joined (plan_altered_table plan table)) (others_after plan tables none) ∙ first_changed plan table tables (plan_altered_table plan table) here none
  by false here rest = ap (joined (Some table)) (rest (or_other (is_named plan.table table) (has_table plan.table tables) here has)) ∙ later_changed plan table tables (find_table plan.table tables) here

-- the tables after the ALTER
pub altered_all : (plan : PlanData) (tables : Database) → NamesDiffer tables → has_table plan.table tables ≡ true → tables_after plan tables ≡ altered_database plan tables
unfolding altered_database
altered_all plan tables differ has = in_after plan tables differ has

-- ... where the plan's isn't there
pub altered_none : (plan : PlanData) (tables : Database) → has_table plan.table tables ≡ false → altered_database plan tables ≡ None
unfolding altered_database
altered_none plan tables none = ap (altered_in plan tables) (none_found plan.table tables none)

-- ---- what the ALTER asks

planned_by : (plan : PlanData) (found : Option TableRows) (schema : Schema) → option_map (λ (t : TableRows). t.schema) found ≡ Some schema → altered_by plan schema ≡ plans.altered_in plan found
planned_by plan None schema is = absurd (cc)
planned_by plan (Some table) schema is = let same : table.schema ≡ schema = cc in ap (altered_by plan) (sym same)

-- what the plan's ALTER makes of the schema with which the trace begins
planned_altered : (plan : PlanData) (schema : Schema) → schema_of plan.table plan.tables ≡ Some schema → altered_by plan schema ≡ plan_altered plan
unfolding plan_altered
planned_altered plan schema is = planned_by plan (find_table plan.table plan.tables) schema is

found_schema : (plan : PlanData) (tables : Database) (table : TableRows) → IsPlanned plan tables → find_table plan.table tables ≡ Some table → schema_of plan.table plan.tables ≡ Some table.schema
found_schema plan tables table planned found = planned table.schema (ap (option_map (λ (t : TableRows). t.schema)) found)

pub planned_at : (plan : PlanData) (tables : Database) (i : ℕ) (table : TableRows) → IsPlanned plan tables → NamesDiffer tables → slice_get tables i ≡ Some table → is_named plan.table table ≡ true → altered_by plan table.schema ≡ plan_altered plan
planned_at plan tables i table planned differ at is = planned_altered plan table.schema (found_schema plan tables table planned (found_at plan.table tables i table differ at is))

formed_at : (plan : PlanData) (tables : Database) (table : TableRows) → IsWellFormedDatabase tables → find_table plan.table tables ≡ Some table → IsWellFormedTable table
formed_at plan tables table formed found = subst (WhereFound IsWellFormedTable) found (formed.each plan.table)

pub ordered_at : (plan : PlanData) (tables : Database) (i : ℕ) (table after : TableRows) → IsPlanned plan tables → IsWellFormedDatabase tables → AltersTables plan → NamesDiffer tables → slice_get tables i ≡ Some table → is_named plan.table table ≡ true → plan_altered_table plan table ≡ Some after
    → Ascends (key_places after.schema) after.rows
ordered_at plan tables i table after planned formed alters differ at is made =
    let found : find_table plan.table tables ≡ Some table = found_at plan.table tables i table differ at is in
    (alters table after (formed_at plan tables table formed found) (found_schema plan tables table planned found) made).formed.is_table.ascends

-- ---- well formed after it

abbrev change_one : Bool → TableRows → TableRows → TableRows
change_one b new table = cond b new table

-- what is found of a name after one table was changed to another of its name
found_changed : (name other : List ℕ) (new : TableRows) (tables : Database) → is_named name new ≡ true → find_table other (with_change name (λ old. new) tables) ≡ option_map (λ table. cond (is_named name table) new table) (find_table other tables)
found_changed name other new [] named = refl
found_changed name other new (table ∷ tables) named = by (is_named name table) refl (found_changed name other new tables named) where
  same_name : is_named name table ≡ true → is_named other new ≡ is_named other table
  same_name is = ap (λ (n : List ℕ). bytes_eq n other) (are_same new.schema.name name named ∙ sym (are_same table.schema.name name is))

  here : (c : Bool) (b : Bool) → is_named name table ≡ b → (rest : Option TableRows) → cond c (Some (cond b new table)) (option_map (λ t. cond (is_named name t) new t) rest) ≡ option_map (λ t. cond (is_named name t) new t) (cond c (Some table) rest)
  here true b is rest = ap (λ (d : Bool). Some (cond d new table)) (sym is)
  here false b is rest = refl

  by : (b : Bool) → is_named name table ≡ b → find_table other (with_change name (λ old. new) tables) ≡ option_map (λ t. cond (is_named name t) new t) (find_table other tables)
      → cond (is_named other (cond b new table)) (Some (cond b new table)) (find_table other (with_change name (λ old. new) tables)) ≡ option_map (λ t. cond (is_named name t) new t) (cond (is_named other table) (Some table) (find_table other tables))
  by true is rest =
      ap (λ (c : Bool). cond c (Some new) (find_table other (with_change name (λ old. new) tables))) (same_name is) ∙ ap (λ (f : Option TableRows). cond (is_named other table) (Some new) f) rest ∙ here (is_named other table) true is (find_table other tables)
  by false is rest = ap (λ (f : Option TableRows). cond (is_named other table) (Some table) f) rest ∙ here (is_named other table) false is (find_table other tables)

each_formed : (name : List ℕ) (new : TableRows) (found : Option TableRows) → IsWellFormedTable new → WhereFound IsWellFormedTable found → WhereFound IsWellFormedTable (option_map (λ table. cond (is_named name table) new table) found)
each_formed name new None formed is = tt
each_formed name new (Some table) formed is = by (is_named name table) where
  by : (b : Bool) → IsWellFormedTable (cond b new table)
  by true = formed
  by false = is

changed_formed : (name : List ℕ) (new : TableRows) (tables : Database) → is_named name new ≡ true → IsWellFormedTable new → IsWellFormedDatabase tables → IsWellFormedDatabase (with_change name (λ old. new) tables)
changed_formed name new tables named formed is = record { each = λ other. subst (WhereFound IsWellFormedTable) (sym (found_changed name other new tables named)) (each_formed name new (find_table other tables) formed (is.each other)) }

formed_by : (plan : PlanData) (tables after : Database) (table : TableRows) (made : Option TableRows) → AltersTables plan → IsPlanned plan tables → IsWellFormedDatabase tables → find_table plan.table tables ≡ Some table → plan_altered_table plan table ≡ made → changed_by plan tables made ≡ Some after
    → IsWellFormedDatabase after
formed_by plan tables after table None alters planned formed found is changed = absurd (cc)
formed_by plan tables after table (Some new) alters planned formed found is changed =
    let same : with_change plan.table (λ old. new) tables ≡ after = cc in
    let makes : MakesTable table new = alters table new (formed_at plan tables table formed found) (found_schema plan tables table planned found) is in
    let named : is_named plan.table new ≡ true = ap (λ (name : List ℕ). bytes_eq name plan.table) makes.name ∙ found_named plan.table tables table found in
    subst IsWellFormedDatabase same (changed_formed plan.table new tables named makes.formed formed)

formed_in : (plan : PlanData) (tables after : Database) (found : Option TableRows) → AltersTables plan → IsPlanned plan tables → IsWellFormedDatabase tables → find_table plan.table tables ≡ found → altered_in plan tables found ≡ Some after → IsWellFormedDatabase after
formed_in plan tables after None alters planned formed is altered = absurd (cc)
formed_in plan tables after (Some table) alters planned formed is altered = formed_by plan tables after table (plan_altered_table plan table) alters planned formed is refl altered

pub altered_formed : (plan : PlanData) (tables after : Database) → AltersTables plan → IsPlanned plan tables → IsWellFormedDatabase tables → altered_database plan tables ≡ Some after → IsWellFormedDatabase after
unfolding altered_database
altered_formed plan tables after alters planned formed altered = formed_in plan tables after (find_table plan.table tables) alters planned formed refl altered
