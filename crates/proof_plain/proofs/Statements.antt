-- What a statement, or the copy of a row, says of plain tables is plain, and so is what it writes.
use Rattle.std.proofs.Common.{◌≡◌, ℕ, zero, suc, ◌+◌, ◌^◌, ◌<◌, ◌≤◌, ◌==◌, Bool, true, false, cond, if◌then◌else◌, List, [], ◌∷◌, map, length, Option, Some, None, Result, Ok, Err, refl, sym, ap, subst, arith}
use Rattle.std.specs.Prelude.{pos, unwrap_or, position, find}
use Rattle.std.specs.List.{AllByRecursion, flat_map, list_any, slice_get}
use Rattle.std.specs.Option.{option_map, option_to_list}
use Rattle.std.proofs.lemmas.List.{length-map, length-append}
use Rattle.base_values.specs.declared.event.Change.{Change}
use Rattle.base_values.specs.declared.event.Change.TheVariants as changes
use Rattle.base_values.specs.declared.event.RowEvent.{RowEvent}
use Rattle.base_values.specs.declared.gho_schema.schema.Column.{Column}
use Rattle.base_values.specs.declared.gho_schema.schema.Schema.{Schema}
use Rattle.base_values.specs.declared.kind.Kind.{Kind}
use Rattle.base_values.specs.declared.mysql_errors.TheConstants.{ER_DUP_ENTRY, ER_FIELD_SPECIFIED_TWICE, ER_WRONG_VALUE_COUNT_ON_ROW}
use Rattle.base_values.specs.declared.row_conversion.conversion_fault.UnfitAt.{UnfitAt}
use Rattle.base_values.specs.declared.row_conversion.map.MapColumn.{MapColumn}
use Rattle.base_values.specs.declared.row_conversion.map.Origin.{Origin}
use Rattle.base_values.specs.declared.row_conversion.map.Origin.TheVariants.{Old, Added}
use Rattle.base_values.specs.declared.unfit.Unfit.{Unfit}
use Rattle.base_values.specs.declared.unfit.Unfit.TheVariants as unfits
use Rattle.base_values.specs.declared.value.Value.{Value}
use Rattle.base_values.specs.declared.value.Value.TheVariants.{Null, Num}
use Rattle.base_values.specs.GhoSchema.AutoIncrement.{auto_place}
use Rattle.base_values.specs.GhoSchema.ClusteredKey.{clustered_place, is_not_null}
use Rattle.base_values.specs.GhoSchema.Names.{same_name}
use Rattle.base_values.specs.GhoSchema.Rows.{key_places}
use Rattle.base_values.specs.GhoSchema.Tables.{IsRow, clash}
use Rattle.base_values.specs.RowConversion.ConvertedRows.{before, converted_row, converted_row_from, source, value_first}
use Rattle.base_values.specs.StoredValues.{error_number, seeks, stores}
use Rattle.base_values.proofs.SchemaRules.Lists.{All-append, position-within}
use Rattle.base_script.specs.declared.statement.Comparison.{Comparison}
use Rattle.base_script.specs.declared.statement.Condition.{Condition}
use Rattle.base_script.specs.declared.statement.Condition.TheVariants as conditions
use Rattle.base_script.specs.declared.statement.Set.{Set}
use Rattle.base_script.specs.declared.statement.Shown.{Shown}
use Rattle.base_script.specs.declared.statement.Shown.TheVariants as shown
use Rattle.base_script.specs.declared.statement.Statement.{Statement}
use Rattle.base_script.specs.declared.statement.Statement.TheVariants as statements
use Rattle.table_store.specs.Databases.{TableRows, Database, find_table, is_named, row_at_key}
use Rattle.table_store.specs.RowLists.{is_at}
use Rattle.table_store.proofs.Ascending.{all-filter}
use Rattle.server_model.specs.declared.answer.Answer.{Answer}
use Rattle.server_model.specs.declared.answer.Answer.TheVariants as answers
use Rattle.server_model.specs.declared.work.Reach.{Reach}
use Rattle.server_model.specs.declared.work.Selection.{Selection}
use Rattle.server_model.specs.declared.work.Selection.TheVariants.{AllColumns, Columns, Count}
use Rattle.server_model.specs.declared.work.Work.{Work}
use Rattle.server_model.specs.declared.work.Work.TheVariants.{Refuse, Insert, Copy, Replace, Delete, Update, Select}
use Rattle.server_model.specs.Answers.{refuses, refuses_value}
use Rattle.server_model.specs.Checks.{◌>>=◌, unless, or_unknown, place_of, places_named, are_distinct, has_columns, is_only, beside, value_at, given_or, row_from, places_listed, new_row, value_set, values_filled, filled_among, filled_at, filled_with, drawn_row, wanted_at, wanted_each, keyed, reach_equal, reach_range, reach_of, stored_set, set_first, sets_from, selection_of, or_refused, update_of, select_of, work_of}
use Rattle.server_model.specs.Operations.{Operation, copy_from, copy_work, events_of, operation_of, result_in}
use Rattle.server_model.specs.Rows.{change_rows, reaches, rows_met, same_row}
use Rattle.server_model.specs.StatementResults.{TableResult, change_first, clashes_besides, displaced, only, result_or_refusal, selected, tells, updated, updates, with_sets}
use Rattle.server_model.specs.LockedRows.Coverage.{IsWellFormedTable}
use Rattle.server_model.specs.LockedRows.Databases.{IsWellFormedDatabase, WhereFound}
use Rattle.proof_plain.specs.Plain.{BytesMap, BytesOrigin, BytesStatement, FewRows, HasBytes, HasFewRows, IfThere, IsDone, IsPlain, IsWrite, NoRows, PlainAnswer, PlainChange, PlainColumns, PlainDatabase, PlainEvents, PlainRow, PlainRows, PlainTable, ShownRow, ShowsSome}
use Rattle.proof_plain.proofs.Values.{rows_bytes, stored_plain}
use Rattle.proof_journals.proofs.Ghost.Rows.LineEvents.{filter_short}

abbrev Row : Type 0
Row = List Value

-- ---- refusals

number_small : (unfit : Unfit) → error_number unfit < 2 ^ 64
number_small unfits.Null = omega arith
number_small unfits.Range = omega arith
number_small unfits.Length = omega arith
number_small unfits.Kind = omega arith

-- what isn't refused has a property, and the number of a refusal is small
abbrev pub Fine : {A : Type 0} → (A → Type 0) → Result A Answer → Type 0
Fine P (Ok x) = P x
Fine P (Err refusal) = IsDone refusal

then_fine : {A B : Type 0} (Q : A → Type 0) (P : B → Type 0) (r : Result A Answer) (f : A → Result B Answer) → Fine Q r → ((x : A) → Q x → Fine P (f x)) → Fine P (r >>= f)
then_fine Q P (Ok x) f fine step = step x fine
then_fine Q P (Err refusal) f fine step = fine

unless_fine : (b : Bool) (number : ℕ) → number < 2 ^ 64 → Fine (λ (u : Unit {0}). Unit {0}) (unless b number)
unless_fine true number small = tt
unless_fine false number small = small

-- ---- places

abbrev Within : Schema → List ℕ → Type 0
Within schema places = AllByRecursion (λ place. place < length schema.columns) places

-- as many places of columns as there are names
abbrev AreNamed : Schema → List (List ℕ) → List ℕ → Type 0
AreNamed schema names places = (length places ≡ length names) × Within schema places

place_fine : (schema : Schema) (name : List ℕ) → Fine (λ place. place < length schema.columns) (place_of schema name)
place_fine schema name = by (position (λ (column : Column). same_name column.name name) schema.columns) refl where
  by : (found : Option ℕ) → position (λ (column : Column). same_name column.name name) schema.columns ≡ found → Fine (λ place. place < length schema.columns) (or_unknown found)
  by None is = omega arith
  by (Some place) is = position-within (λ (column : Column). same_name column.name name) schema.columns place is

places_fine : (schema : Schema) (names : List (List ℕ)) → Fine (AreNamed schema names) (places_named schema names)
unfolding places_named
places_fine schema [] = (refl, tt)
places_fine schema (name ∷ names) =
    then_fine (λ (place : ℕ). place < length schema.columns) (AreNamed schema (name ∷ names)) (place_of schema name) (λ place. places_named schema names >>= (λ places. Ok (place ∷ places))) (place_fine schema name)
    (λ place within. then_fine (AreNamed schema names) (AreNamed schema (name ∷ names)) (places_named schema names) (λ places. Ok (place ∷ places)) (places_fine schema names) (λ places are. (ap suc are.0, (within, are.1))))

-- ---- what a condition reaches

keyed_fine : {A : Type 0} (P : A → Type 0) (found : Option ℕ) (f : ℕ → Result A Answer) → ((place : ℕ) → Fine P (f place)) → Fine P (keyed found f)
keyed_fine P None f fine = omega arith
keyed_fine P (Some place) f fine = fine place

value_fine : (place : ℕ) (r : Result Value Unfit) → Fine (λ (v : Value). Unit {0}) (value_at place r)
value_fine place (Ok value) = tt
value_fine place (Err reason) = number_small reason

wanted_fine : (place : ℕ) (column : Option Column) (value : Value) → Fine (λ (v : Value). Unit {0}) (wanted_at place column (Some value))
wanted_fine place None value = omega arith
wanted_fine place (Some column) value = value_fine place (seeks value column.kind)

each_fine : (schema : Schema) (places : List ℕ) (values : List Value) → Fine (λ (vs : List Value). Unit {0}) (wanted_each schema places values)
unfolding wanted_each
each_fine schema [] values = tt
each_fine schema (place ∷ places) [] = tt
each_fine schema (place ∷ places) (value ∷ values) =
    then_fine (λ (v : Value). Unit {0}) (λ (vs : List Value). Unit {0}) (wanted_at place (slice_get schema.columns place) (Some value)) (λ first. wanted_each schema places values >>= (λ others. Ok (first ∷ others)))
    (wanted_fine place (slice_get schema.columns place) value)
    (λ first _. then_fine (λ (vs : List Value). Unit {0}) (λ (vs : List Value). Unit {0}) (wanted_each schema places values) (λ others. Ok (first ∷ others)) (each_fine schema places values) (λ others _. tt))

any_named : (schema : Schema) (names : List (List ℕ)) (r : Result (List ℕ) Answer) → Fine (AreNamed schema names) r → Fine (λ (places : List ℕ). Unit {0}) r
any_named schema names (Ok places) fine = tt
any_named schema names (Err refusal) fine = fine

some_places : (schema : Schema) (names : List (List ℕ)) → Fine (λ (places : List ℕ). Unit {0}) (places_named schema names)
some_places schema names = any_named schema names (places_named schema names) (places_fine schema names)

equal_fine : (schema : Schema) (names : List (List ℕ)) (values : List Value) → Fine (λ (reach : Reach). Unit {0}) (reach_equal schema names values)
unfolding reach_equal
equal_fine schema names values =
    then_fine (λ (places : List ℕ). Unit {0}) (λ (reach : Reach). Unit {0}) (places_named schema names) _ (some_places schema names)
    (λ places _. then_fine (λ (key : ℕ). Unit {0}) (λ (reach : Reach). Unit {0}) (keyed (if are_distinct places then position (has_columns places) schema.uniques else None) (λ place. Ok place)) _
    (keyed_fine (λ (key : ℕ). Unit {0}) (if are_distinct places then position (has_columns places) schema.uniques else None) (λ place. Ok place) (λ place. tt {0}))
    (λ key _. then_fine (λ (vs : List Value). Unit {0}) (λ (reach : Reach). Unit {0}) (wanted_each schema places values) _ (each_fine schema places values) (λ wanted _. tt {0})))

range_fine : (schema : Schema) (comparisons : List Comparison) → Fine (λ (reach : Reach). Unit {0}) (reach_range schema comparisons)
unfolding reach_range
range_fine schema comparisons =
    let names : List (List ℕ) = map (λ (one : Comparison). one.column) comparisons in
    let values : List Value = map (λ (one : Comparison). one.value) comparisons in
    then_fine (λ (places : List ℕ). Unit {0}) (λ (reach : Reach). Unit {0}) (places_named schema names) _ (some_places schema names)
    (λ places _. then_fine (λ (key : ℕ). Unit {0}) (λ (reach : Reach). Unit {0}) (keyed (if is_only (key_places schema) places then clustered_place schema else None) (λ place. Ok place)) _
    (keyed_fine (λ (key : ℕ). Unit {0}) (if is_only (key_places schema) places then clustered_place schema else None) (λ place. Ok place) (λ place. tt {0}))
    (λ key _. then_fine (λ (vs : List Value). Unit {0}) (λ (reach : Reach). Unit {0}) (wanted_each schema places values) _ (each_fine schema places values) (λ wanted _. tt {0})))

reach_fine : (schema : Schema) (condition : Condition) → Fine (λ (reach : Reach). Unit {0}) (reach_of schema condition)
unfolding reach_of
reach_fine schema conditions.All = keyed_fine (λ (reach : Reach). Unit {0}) (clustered_place schema) _ (λ place. tt {0})
reach_fine schema (conditions.Equal sets) = equal_fine schema (map (λ (set : Set). set.column) sets) (map (λ (set : Set). set.value) sets)
reach_fine schema (conditions.Range comparisons) = range_fine schema comparisons

-- ---- a new row

beside_bytes : (place : ℕ) (places : List ℕ) (values : List Value) → AllByRecursion HasBytes values → IfThere HasBytes (beside place places values)
unfolding beside
beside_bytes place [] values have = tt
beside_bytes place (other ∷ places) [] have = tt
beside_bytes place (other ∷ places) (value ∷ values) have = by (place == other) (beside_bytes place places values have.1) where
  by : (b : Bool) → IfThere HasBytes (beside place places values) → IfThere HasBytes (cond b (Some value) (beside place places values))
  by true rest = have.0
  by false rest = rest

stored_fine : (place : ℕ) (value : Value) (kind : Kind) (nullable : Bool) (r : Result Value Unfit) → HasBytes value → stores value kind nullable ≡ r → Fine IsPlain (value_at place r)
stored_fine place value kind nullable (Ok made) has is = stored_plain value kind nullable made has is
stored_fine place value kind nullable (Err reason) has is = number_small reason

given_fine : (place : ℕ) (column : Column) (given default : Option Value) → IfThere HasBytes given → IfThere IsPlain default → Fine IsPlain (given_or place column given default)
given_fine place column (Some value) default has plain = stored_fine place value column.kind column.nullable (stores value column.kind column.nullable) has refl
given_fine place column None (Some default) has plain = plain
given_fine place column None None has plain = omega arith

row_fine : (place : ℕ) (columns : List Column) (places : List ℕ) (values : List Value) → PlainColumns columns → AllByRecursion HasBytes values → Fine PlainRow (row_from place columns places values)
unfolding row_from
row_fine place [] places values plain have = tt
row_fine place (column ∷ columns) places values plain have =
    then_fine IsPlain PlainRow (given_or place column (beside place places values) column.default) (λ value. row_from (place + 1) columns places values >>= (λ row. Ok (value ∷ row)))
    (given_fine place column (beside place places values) column.default (beside_bytes place places values have) plain.0)
    (λ value here. then_fine PlainRow PlainRow (row_from (place + 1) columns places values) (λ row. Ok (value ∷ row)) (row_fine (place + 1) columns places values plain.1 have) (λ row others. (here, others)))

listed_fine : (schema : Schema) (names : Option (List (List ℕ))) → Fine (λ (places : List ℕ). Unit {0}) (places_listed schema names)
listed_fine schema None = tt
listed_fine schema (Some names) =
    then_fine (λ (places : List ℕ). Unit {0}) (λ (places : List ℕ). Unit {0}) (places_named schema names) _ (some_places schema names)
    (λ places _. then_fine (λ (u : Unit {0}). Unit {0}) (λ (places : List ℕ). Unit {0}) (unless (are_distinct places) ER_FIELD_SPECIFIED_TWICE) _ (unless_fine (are_distinct places) ER_FIELD_SPECIFIED_TWICE (omega arith)) (λ u _. tt))

new_fine : (schema : Schema) (names : Option (List (List ℕ))) (values : List Value) → PlainColumns schema.columns → AllByRecursion HasBytes values → Fine PlainRow (new_row schema names values)
unfolding new_row
new_fine schema names values plain have =
    then_fine (λ (places : List ℕ). Unit {0}) PlainRow (places_listed schema names) _ (listed_fine schema names)
    (λ places _. then_fine (λ (u : Unit {0}). Unit {0}) PlainRow (unless (length places == length values) ER_WRONG_VALUE_COUNT_ON_ROW) _ (unless_fine (length places == length values) ER_WRONG_VALUE_COUNT_ON_ROW (omega arith))
    (λ u _. row_fine 0 schema.columns places values plain have))

-- ... with the number that it drew
set_bytes : (place : ℕ) (places : List ℕ) (new : Value) (values : List Value) → HasBytes new → AllByRecursion HasBytes values → AllByRecursion HasBytes (value_set place places new values)
unfolding value_set
set_bytes place [] new values has have = tt
set_bytes place (other ∷ places) new [] has have = tt
set_bytes place (other ∷ places) new (value ∷ values) has have = by (place == other) (set_bytes place places new values has have.1) where
  by : (b : Bool) → AllByRecursion HasBytes (value_set place places new values) → AllByRecursion HasBytes (cond b (new ∷ values) (value ∷ value_set place places new values))
  by true rest = (has, have.1)
  by false rest = (have.0, rest)

filled_bytes : (place : ℕ) (places : List ℕ) (named : Bool) (number : ℕ) (values : List Value) → AllByRecursion HasBytes values → AllByRecursion HasBytes (values_filled place places named (Num (pos number)) values)
filled_bytes place places true number values have = set_bytes place places (Num (pos number)) values tt have
filled_bytes place places false number values have = All-append HasBytes values (Num (pos number) ∷ []) have (tt, tt)

among_bytes : (schema : Schema) (names : Option (List (List ℕ))) (values : List Value) (number place : ℕ) (listed : Result (List ℕ) Answer) → AllByRecursion HasBytes values → AllByRecursion HasBytes (filled_among schema names values (Num (pos number)) place listed).values
among_bytes schema names values number place (Err refusal) have = have
among_bytes schema names values number place (Ok places) have = filled_bytes place places (list_any (λ other. place == other) places) number values have

at_bytes : (schema : Schema) (names : Option (List (List ℕ))) (values : List Value) (number : ℕ) (auto : Option ℕ) → AllByRecursion HasBytes values → AllByRecursion HasBytes (filled_at schema names values (Num (pos number)) auto).values
at_bytes schema names values number None have = have
at_bytes schema names values number (Some place) have = among_bytes schema names values number place (places_listed schema names) have

with_bytes : (schema : Schema) (names : Option (List (List ℕ))) (values : List Value) (drawn : Option ℕ) → AllByRecursion HasBytes values → AllByRecursion HasBytes (filled_with schema names values drawn).values
with_bytes schema names values None have = have
with_bytes schema names values (Some number) have = at_bytes schema names values number (auto_place schema) have

drawn_fine : (schema : Schema) (names : Option (List (List ℕ))) (values : List Value) (drawn : Option ℕ) → PlainColumns schema.columns → AllByRecursion HasBytes values → Fine PlainRow (drawn_row schema names values drawn)
drawn_fine schema names values drawn plain have = new_fine schema (filled_with schema names values drawn).names (filled_with schema names values drawn).values plain (with_bytes schema names values drawn have)

-- ---- what columns are set to

abbrev PlainSets : Result (List (Option Value)) UnfitAt → Type 0
PlainSets (Ok sets) = AllByRecursion (IfThere IsPlain) sets
PlainSets (Err at) = Unit {0}

set_made : (place : ℕ) (value : Value) (kind : Kind) (nullable : Bool) (r : Result Value Unfit) (others : Result (List (Option Value)) UnfitAt) → HasBytes value → stores value kind nullable ≡ r → PlainSets others → PlainSets (set_first place (Some r) others)
set_made place value kind nullable (Ok made) (Ok sets) has is plain = (stored_plain value kind nullable made has is, plain)
set_made place value kind nullable (Ok made) (Err at) has is plain = tt
set_made place value kind nullable (Err reason) others has is plain = tt

set_plain : (place : ℕ) (column : Column) (given : Option Value) (others : Result (List (Option Value)) UnfitAt) → IfThere HasBytes given → PlainSets others → PlainSets (set_first place (stored_set column given) others)
set_plain place column None (Ok sets) has plain = (tt, plain)
set_plain place column None (Err at) has plain = tt
set_plain place column (Some value) others has plain = set_made place value column.kind column.nullable (stores value column.kind column.nullable) others has refl plain

sets_plain : (place : ℕ) (columns : List Column) (places : List ℕ) (values : List Value) → AllByRecursion HasBytes values → PlainSets (sets_from place columns places values)
unfolding sets_from
sets_plain place [] places values have = tt
sets_plain place (column ∷ columns) places values have = set_plain place column (beside place places values) (sets_from (place + 1) columns places values) (beside_bytes place places values have) (sets_plain (place + 1) columns places values have)

values_bytes : (sets : List Set) → AllByRecursion (λ (set : Set). HasBytes set.value) sets → AllByRecursion HasBytes (map (λ (set : Set). set.value) sets)
values_bytes [] have = tt
values_bytes (set ∷ sets) have = (have.0, values_bytes sets have.1)

-- ---- work

abbrev PlainSelection : Schema → Selection → Type 0
PlainSelection schema AllColumns = Unit {0}
PlainSelection schema (Columns places) = (0 < length places) × Within schema places
PlainSelection schema Count = Unit {0}

-- *Plain work*: its new values are plain, it shows something, and the number of its refusal is small
abbrev pub PlainWork : Schema → Work → Type 0
PlainWork schema (Refuse refusal) = IsDone refusal
PlainWork schema (Insert row) = PlainRow row
PlainWork schema (Copy row) = PlainRow row
PlainWork schema (Replace row) = PlainRow row
PlainWork schema (Delete reach) = Unit {0}
PlainWork schema (Update reach sets) = PlainSets sets
PlainWork schema (Select reach selection) = PlainSelection schema selection

refused_fine : {A : Type 0} (schema : Schema) (Q : A → Type 0) (r : Result A Answer) (work : A → Work) → Fine Q r → ((x : A) → Q x → PlainWork schema (work x)) → PlainWork schema (or_refused r work)
refused_fine schema Q (Ok x) work fine step = step x fine
refused_fine schema Q (Err refusal) work fine step = fine

selection_fine : (schema : Schema) (what : Shown) → ShowsSome what → Fine (PlainSelection schema) (selection_of schema what)
selection_fine schema shown.All some = tt
selection_fine schema (shown.Columns names) some =
    then_fine (AreNamed schema names) (PlainSelection schema) (places_named schema names) (λ places. Ok (Columns places)) (places_fine schema names) (λ places are. (subst (λ (n : ℕ). 0 < n) (sym are.0) some, are.1))
selection_fine schema shown.Count some = tt

pub work_plain : (schema : Schema) (statement : Statement) → PlainColumns schema.columns → BytesStatement statement → PlainWork schema (work_of schema statement)
unfolding work_of
work_plain schema (statements.Insert table columns values drawn) plain have = refused_fine schema PlainRow (drawn_row schema columns values drawn) Insert (drawn_fine schema columns values drawn plain have) (λ row is. is)
work_plain schema (statements.Replace table columns values drawn) plain have = refused_fine schema PlainRow (drawn_row schema columns values drawn) Replace (drawn_fine schema columns values drawn plain have) (λ row is. is)
work_plain schema (statements.Delete table condition) plain have = refused_fine schema (λ (reach : Reach). Unit {0}) (reach_of schema condition) Delete (reach_fine schema condition) (λ reach is. tt)
work_plain schema (statements.Update table sets condition) plain have =
    refused_fine schema (PlainWork schema) (update_of schema sets condition) (λ work. work)
    (then_fine (λ (places : List ℕ). Unit {0}) (PlainWork schema) (places_named schema (map (λ (set : Set). set.column) sets)) _ (some_places schema (map (λ (set : Set). set.column) sets))
    (λ places _. then_fine (λ (u : Unit {0}). Unit {0}) (PlainWork schema) (unless (are_distinct places) ER_FIELD_SPECIFIED_TWICE) _ (unless_fine (are_distinct places) ER_FIELD_SPECIFIED_TWICE (omega arith))
    (λ u _. then_fine (λ (reach : Reach). Unit {0}) (PlainWork schema) (reach_of schema condition) _ (reach_fine schema condition)
    (λ reach _. sets_plain 0 schema.columns places (map (λ (set : Set). set.value) sets) (values_bytes sets have)))))
    (λ work is. is)
work_plain schema (statements.Select table what condition) plain some =
    refused_fine schema (PlainWork schema) (select_of schema what condition) (λ work. work)
    (then_fine (PlainSelection schema) (PlainWork schema) (selection_of schema what) _ (selection_fine schema what some)
    (λ selection shows. then_fine (λ (reach : Reach). Unit {0}) (PlainWork schema) (reach_of schema condition) _ (reach_fine schema condition) (λ reach _. shows)))
    (λ work is. is)

-- ---- a copy

pub source_bytes : (origin : Origin) (row : Row) → BytesOrigin origin → PlainRow row → HasBytes (source origin row)
source_bytes (Old place) row has plain = at place row plain where
  at : (place : ℕ) (row : Row) → PlainRow row → HasBytes (unwrap_or (slice_get row place) Null)
  at place [] plain = tt
  at zero (value ∷ row) plain = (rows_bytes (value ∷ row) plain).0
  at (suc place) (value ∷ row) plain = at place row plain.1
source_bytes (Added value) row has plain = has

abbrev PlainMade : Result Row UnfitAt → Type 0
PlainMade (Ok made) = PlainRow made
PlainMade (Err at) = Unit {0}

first_plain : (column : ℕ) (value : Value) (kind : Kind) (nullable : Bool) (r : Result Value Unfit) (others : Result Row UnfitAt) → HasBytes value → stores value kind nullable ≡ r → PlainMade others → PlainMade (value_first column r others)
first_plain column value kind nullable (Ok made) (Ok others) has is plain = (stored_plain value kind nullable made has is, plain)
first_plain column value kind nullable (Ok made) (Err at) has is plain = tt
first_plain column value kind nullable (Err reason) others has is plain = tt

converted_from : (column : ℕ) (columns : List MapColumn) (row : Row) → BytesMap columns → PlainRow row → PlainMade (converted_row_from column columns row)
unfolding converted_row_from
converted_from column [] row have plain = tt
converted_from column (new ∷ columns) row have plain =
    first_plain column (source new.origin row) new.kind new.nullable (stores (source new.origin row) new.kind new.nullable) (converted_row_from (column + 1) columns row) (source_bytes new.origin row have.0 plain) refl (converted_from (column + 1) columns row have.1 plain)

pub converted_plain : (columns : List MapColumn) (row : Row) → BytesMap columns → PlainRow row → PlainMade (converted_row columns row)
converted_plain columns row have plain = converted_from 0 columns row have plain

made_copy : (schema : Schema) (made : Result Row UnfitAt) → PlainColumns schema.columns → PlainMade made → PlainWork schema (copy_work (Some made) schema)
made_copy schema (Err at) columns plain = number_small at.unfit
made_copy schema (Ok values) columns plain = refused_fine schema PlainRow (new_row schema None values) Copy (new_fine schema None values columns (rows_bytes values plain)) (λ row is. is)

abbrev pub PlainIfThere : Option Row → Type 0
PlainIfThere None = Unit {0}
PlainIfThere (Some row) = PlainRow row

pub found_row : (test : Row → Bool) (rows : List Row) → PlainRows rows → PlainIfThere (find test rows)
found_row test [] plain = tt
found_row test (row ∷ rows) plain = by (test row) (found_row test rows plain.1) where
  by : (b : Bool) → PlainIfThere (find test rows) → PlainIfThere (cond b (Some row) (find test rows))
  by true rest = plain.0
  by false rest = rest

copy_row : (schema : Schema) (columns : List MapColumn) (row : Option Row) → PlainColumns schema.columns → BytesMap columns → PlainIfThere row → PlainWork schema (copy_work (option_map (converted_row columns) row) schema)
copy_row schema columns None plain have is = omega arith
copy_row schema columns (Some row) plain have is = made_copy schema (converted_row columns row) plain (converted_plain columns row have is)

pub copy_plain : (schema : Schema) (from : Option TableRows) (columns : List MapColumn) (key : Row) → PlainColumns schema.columns → BytesMap columns → WhereFound PlainTable from → PlainWork schema (copy_from from columns key schema)
copy_plain schema None columns key plain have is = omega arith
copy_plain schema (Some table) columns key plain have is = copy_row schema columns (row_at_key table key) plain have (found_row (is_at (key_places table.schema) key) table.rows is.rows)

-- ---- what it says

pub record PlainResult (said : TableResult) : Type 0 where
  pub answer : PlainAnswer said.answer
  pub changes : AllByRecursion PlainChange said.changes

-- rows of some columns
abbrev pub HaveLength : ℕ → List Row → Type 0
HaveLength n rows = (0 < n) × AllByRecursion (λ row. length row ≡ n) rows

done_plain : (answer : Answer) → IsDone answer → PlainAnswer answer
done_plain (answers.Ok count) is = is
done_plain (answers.Refused number column) is = is
done_plain answer is = absurd is

only_plain : (answer : Answer) → PlainAnswer answer → PlainResult (only answer)
only_plain answer plain = record { answer = plain; changes = tt }

one_plain : (row : Row) (refusal : Answer) (b : Bool) → PlainAnswer refusal → PlainRow row → PlainResult (cond b (only refusal) (record { answer = answers.Ok 1; changes = changes.Write row ∷ [] }))
one_plain row refusal true small plain = record { answer = small; changes = tt }
one_plain row refusal false small plain = record { answer = omega arith; changes = (plain, tt) }

removed_plain : (rows : List Row) → PlainRows rows → AllByRecursion PlainChange (map changes.Delete rows)
removed_plain [] plain = tt
removed_plain (row ∷ rows) plain = (plain.0, removed_plain rows plain.1)

sets_row : (sets : List (Option Value)) (row : Row) → AllByRecursion (IfThere IsPlain) sets → PlainRow row → PlainRow (with_sets sets row)
unfolding with_sets
sets_row [] row sets plain = plain
sets_row (set ∷ sets) [] are plain = tt
sets_row (None ∷ sets) (value ∷ row) are plain = (plain.0, sets_row sets row are.1 plain.1)
sets_row (Some new ∷ sets) (value ∷ row) are plain = (are.0, sets_row sets row are.1 plain.1)

-- an UPDATE makes one change at most for each row that it meets
abbrev UpTo : ℕ → Result (List Change) Answer → Type 0
UpTo n (Ok all) = (length all ≤ n) × AllByRecursion PlainChange all
UpTo n (Err refusal) = IsDone refusal

up_later : (n : ℕ) (result : Result (List Change) Answer) → UpTo n result → UpTo (suc n) result
up_later n (Ok all) up = let less = up.0 in (omega (arith, less), up.1)
up_later n (Err refusal) up = up

up_first : (n : ℕ) (before after : Row) (result : Result (List Change) Answer) → PlainRow before → PlainRow after → UpTo n result → UpTo (suc n) (change_first (changes.Update before after) result)
up_first n before after (Ok all) one two up = let less = up.0 in (omega (arith, less), ((one, two), up.1))
up_first n before after (Err refusal) one two up = up

updates_plain : (schema : Schema) (sets : List (Option Value)) (met rows : List Row) → AllByRecursion (IfThere IsPlain) sets → PlainRows met → UpTo (length met) (updates schema sets met rows)
unfolding updates
updates_plain schema sets [] rows are plain = (omega arith, tt)
updates_plain schema sets (old ∷ met) rows are plain =
    by (same_row old (with_sets sets old)) (clashes_besides schema (with_sets sets old) old rows) (updates_plain schema sets met rows are plain.1)
    (updates_plain schema sets met (change_rows (key_places schema) (changes.Update old (with_sets sets old)) rows) are plain.1) where
      by : (same clashes : Bool) → UpTo (length met) (updates schema sets met rows) → UpTo (length met) (updates schema sets met (change_rows (key_places schema) (changes.Update old (with_sets sets old)) rows))
          → UpTo (suc (length met))
          (cond same (updates schema sets met rows) (cond clashes (Err (refuses ER_DUP_ENTRY)) (change_first (changes.Update old (with_sets sets old)) (updates schema sets met (change_rows (key_places schema) (changes.Update old (with_sets sets old)) rows)))))
      by true clashes still later = up_later (length met) (updates schema sets met rows) still
      by false true still later = omega arith
      by false false still later = up_first (length met) old (with_sets sets old) (updates schema sets met (change_rows (key_places schema) (changes.Update old (with_sets sets old)) rows)) plain.0 (sets_row sets old are plain.0) later

updated_plain : (n : ℕ) (result : Result (List Change) Answer) → n < 2 ^ 63 → UpTo n result → PlainResult (result_or_refusal result)
updated_plain n (Ok all) few up = let less = up.0 in record { answer = omega (arith, less, few); changes = up.1 }
updated_plain n (Err refusal) few up = only_plain refusal (done_plain refusal up)

unstored_plain : (schema : Schema) (at : UnfitAt) (met rows : List Row) → PlainResult (updated schema (Err at) met rows)
unstored_plain schema at [] rows = only_plain (answers.Ok 0) (omega arith)
unstored_plain schema at (row ∷ met) rows = only_plain (refuses_value at) (number_small at.unfit)

-- ---- what it shows

pub whole_rows : (n : ℕ) (rows : List Row) → HaveLength n rows → PlainRows rows → AllByRecursion ShownRow rows
whole_rows n [] have plain = tt
whole_rows n (row ∷ rows) have plain = (((let same = have.1.0 in let some = have.0 in omega (arith, same, some)), plain.0), whole_rows n rows (have.0, have.1.1) plain.1)

value_there : (place : ℕ) (row : Row) → place < length row → PlainRow row → ShownRow (option_to_list (slice_get row place))
value_there place [] within plain = absurd (omega (arith, within))
value_there zero (value ∷ row) within plain = (omega arith, (plain.0, tt))
value_there (suc place) (value ∷ row) within plain = value_there place row (omega (arith, within)) plain.1

abbrev picked : List ℕ → Row → Row
picked places row = flat_map (λ place. option_to_list (slice_get row place)) places

picked_plain : (n : ℕ) (places : List ℕ) (row : Row) → AllByRecursion (λ place. place < n) places → length row ≡ n → PlainRow row → PlainRow (picked places row)
picked_plain n [] row within same plain = tt
picked_plain n (place ∷ places) row within same plain =
    All-append IsPlain (option_to_list (slice_get row place)) (picked places row) (value_there place row (let less = within.0 in omega (arith, less, same)) plain).1 (picked_plain n places row within.1 same plain)

picked_some : (n : ℕ) (places : List ℕ) (row : Row) → 0 < length places → AllByRecursion (λ place. place < n) places → length row ≡ n → PlainRow row → 0 < length (picked places row)
picked_some n [] row some within same plain = absurd (omega (arith, some))
picked_some n (place ∷ places) row some within same plain =
    let first = (value_there place row (let less = within.0 in omega (arith, less, same)) plain).0 in
    let both = length-append (option_to_list (slice_get row place)) (picked places row) in
    omega (arith, first, both)

picked_rows : (n : ℕ) (places : List ℕ) (rows : List Row) → 0 < length places → AllByRecursion (λ place. place < n) places → AllByRecursion (λ row. length row ≡ n) rows → PlainRows rows → AllByRecursion ShownRow (map (picked places) rows)
picked_rows n places [] some within same plain = tt
picked_rows n places (row ∷ rows) some within same plain = ((picked_some n places row some within same.0 plain.0, picked_plain n places row within same.0 plain.0), picked_rows n places rows some within same.1 plain.1)

less_digits : (n : ℕ) → n < 2 ^ 63 → n < 10 ^ 38
less_digits n few = omega (arith, few)

shown_plain : (schema : Schema) (selection : Selection) (rows : List Row) → PlainSelection schema selection → HaveLength (length schema.columns) rows → PlainRows rows → length rows < 2 ^ 63 → PlainAnswer (selected selection rows)
shown_plain schema AllColumns rows shows have plain few = (omega (arith, few), whole_rows (length schema.columns) rows have plain)
shown_plain schema (Columns places) rows shows have plain few =
    let same = length-map rows (picked places) in (omega (arith, few, same), picked_rows (length schema.columns) places rows shows.0 shows.1 have.1 plain)
shown_plain schema Count rows shows have plain few = (omega arith, ((omega arith, (less_digits (length rows) few, tt)), tt))

-- *What a statement says of plain rows is plain*
pub tells_plain : (schema : Schema) (rows : List Row) (work : Work) → HaveLength (length schema.columns) rows → PlainRows rows → length rows < 2 ^ 63 → PlainWork schema work → PlainResult (tells schema rows work)
unfolding tells
tells_plain schema rows (Refuse refusal) have plain few is = only_plain refusal (done_plain refusal is)
tells_plain schema rows (Insert row) have plain few is = one_plain row (refuses ER_DUP_ENTRY) (list_any (clash schema.uniques row) rows) (omega arith) is
tells_plain schema rows (Copy row) have plain few is = one_plain row (answers.Ok 0) (list_any (clash schema.uniques row) rows) (omega arith) is
tells_plain schema rows (Replace row) have plain few is =
    let short = filter_short (clash schema.uniques row) rows in record {
      answer = omega (arith, short, few);
      changes = All-append PlainChange (map changes.Delete (displaced schema row rows)) (changes.Write row ∷ []) (removed_plain (displaced schema row rows) (all-filter PlainRow (clash schema.uniques row) rows plain)) (is, tt);
    }
tells_plain schema rows (Delete reach) have plain few is =
    let short = filter_short (reaches schema reach) rows in record { answer = omega (arith, short, few); changes = removed_plain (rows_met schema reach rows) (all-filter PlainRow (reaches schema reach) rows plain) }
tells_plain schema rows (Update reach (Ok sets)) have plain few is =
    let short = filter_short (reaches schema reach) rows in
    updated_plain (length (rows_met schema reach rows)) (updates schema sets (rows_met schema reach rows) rows) (omega (arith, short, few)) (updates_plain schema sets (rows_met schema reach rows) rows is (all-filter PlainRow (reaches schema reach) rows plain))
tells_plain schema rows (Update reach (Err at)) have plain few is = unstored_plain schema at (rows_met schema reach rows) rows
tells_plain schema rows (Select reach selection) have plain few is =
    let short = filter_short (reaches schema reach) rows in
    only_plain (selected selection (rows_met schema reach rows))
    (shown_plain schema selection (rows_met schema reach rows) is (have.0, all-filter (λ row. length row ≡ length schema.columns) (reaches schema reach) rows have.1) (all-filter PlainRow (reaches schema reach) rows plain) (omega (arith, short, few)))

-- ---- on a database

-- a table whose rows are plain, few, and rows of its columns
pub record IsSeen (table : TableRows) : Type 0 where
  pub plain : PlainTable table
  pub few : FewRows table
  pub length : HaveLength (length table.schema.columns) table.rows

row_length : (columns : List Column) (row : Row) → IsRow columns row → length row ≡ length columns
row_length [] [] is = refl
row_length [] (value ∷ row) is = absurd is
row_length (column ∷ columns) [] is = absurd is
row_length (column ∷ columns) (value ∷ row) is = ap suc (row_length columns row is.1)

pub rows_length : (columns : List Column) (rows : List Row) → AllByRecursion (IsRow columns) rows → AllByRecursion (λ row. length row ≡ length columns) rows
rows_length columns [] are = tt
rows_length columns (row ∷ rows) are = (row_length columns row are.0, rows_length columns rows are.1)

some_column : (columns : List Column) (places : List ℕ) → 0 < length places → AllByRecursion (λ place. is_not_null (slice_get columns place) ≡ true) places → 0 < length columns
some_column columns [] some are = absurd (omega (arith, some))
some_column [] (place ∷ places) some are = absurd cc
some_column (column ∷ columns) (place ∷ places) some are = omega arith

pub columns_some : (table : TableRows) → IsWellFormedTable table → 0 < length table.schema.columns
columns_some table is = some_column table.schema.columns (key_places table.schema) is.keyed.some is.keyed.not_null

table_seen : (found : Option TableRows) → WhereFound PlainTable found → WhereFound FewRows found → WhereFound IsWellFormedTable found → WhereFound IsSeen found
table_seen None plain few is = tt
table_seen (Some table) plain few is = record { plain = plain; few = few; length = (columns_some table is, rows_length table.schema.columns table.rows is.is_table.rows_fit) }

pub found_plain : (name : List ℕ) (tables : Database) → PlainDatabase tables → WhereFound PlainTable (find_table name tables)
found_plain name [] plain = tt
found_plain name (table ∷ tables) plain = by (is_named name table) (found_plain name tables plain.1) where
  by : (b : Bool) → WhereFound PlainTable (find_table name tables) → WhereFound PlainTable (cond b (Some table) (find_table name tables))
  by true rest = plain.0
  by false rest = rest

pub found_seen : (name : List ℕ) (tables : Database) → PlainDatabase tables → HasFewRows tables → IsWellFormedDatabase tables → WhereFound IsSeen (find_table name tables)
found_seen name tables plain few is = table_seen (find_table name tables) (found_plain name tables plain) (few name) (is.each name)

named_plain : (name : List ℕ) (all : List Change) → AllByRecursion PlainChange all → PlainEvents (events_of name all)
named_plain name [] plain = tt
named_plain name (change ∷ all) plain = (plain.0, named_plain name all plain.1)

-- the answer, and the events
pub record PlainSaid (given : Answer) (wrote : List RowEvent) : Type 0 where
  pub answer : PlainAnswer given
  pub events : PlainEvents wrote

pub said_plain : (operation : Operation) (found : Option TableRows) → WhereFound IsSeen found → ((table : TableRows) → PlainTable table → PlainWork table.schema (operation.work table.schema)) → PlainSaid (result_in operation found).answer (result_in operation found).events
said_plain operation None seen work = record { answer = omega arith; events = tt }
said_plain operation (Some table) seen work =
    let said = tells_plain table.schema table.rows (operation.work table.schema) seen.length seen.plain.rows seen.few (work table seen.plain) in record { answer = said.answer; events = named_plain operation.table (tells table.schema table.rows (operation.work table.schema)).changes said.changes }

-- ---- a statement that may draw a number has no rows

done_bare : (answer : Answer) → IsDone answer → NoRows answer
done_bare (answers.Ok count) is = tt
done_bare (answers.Refused number column) is = tt
done_bare answer is = absurd is

inserted_bare : (schema : Schema) (rows : List Row) (row : Result Row Answer) → Fine PlainRow row → NoRows (tells schema rows (or_refused row Insert)).answer
unfolding tells
inserted_bare schema rows (Err refusal) fine = done_bare refusal fine
inserted_bare schema rows (Ok row) fine = by (list_any (clash schema.uniques row) rows) where
  by : (b : Bool) → NoRows (cond b (only (refuses ER_DUP_ENTRY)) (record { answer = answers.Ok 1; changes = changes.Write row ∷ [] })).answer
  by true = tt
  by false = tt

replaced_bare : (schema : Schema) (rows : List Row) (row : Result Row Answer) → Fine PlainRow row → NoRows (tells schema rows (or_refused row Replace)).answer
unfolding tells
replaced_bare schema rows (Err refusal) fine = done_bare refusal fine
replaced_bare schema rows (Ok row) fine = tt

work_bare : (schema : Schema) (rows : List Row) (statement : Statement) → IsWrite statement → PlainColumns schema.columns → BytesStatement statement → NoRows (tells schema rows (work_of schema statement)).answer
unfolding work_of
work_bare schema rows (statements.Insert table columns values drawn) writes plain have = inserted_bare schema rows (drawn_row schema columns values drawn) (drawn_fine schema columns values drawn plain have)
work_bare schema rows (statements.Replace table columns values drawn) writes plain have = replaced_bare schema rows (drawn_row schema columns values drawn) (drawn_fine schema columns values drawn plain have)
work_bare schema rows (statements.Delete table condition) writes plain have = absurd writes
work_bare schema rows (statements.Update table sets condition) writes plain have = absurd writes
work_bare schema rows (statements.Select table what condition) writes plain have = absurd writes

pub said_bare : (statement : Statement) (found : Option TableRows) → WhereFound PlainTable found → IsWrite statement → BytesStatement statement → NoRows (result_in (operation_of statement) found).answer
said_bare statement None plain writes have = tt
said_bare statement (Some table) plain writes have = work_bare table.schema table.rows statement writes plain.columns have
