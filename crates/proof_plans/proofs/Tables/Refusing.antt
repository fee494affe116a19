-- Which numbers a statement's work is refused with, where its table stands: never ER_NO_SUCH_TABLE.
use Rattle.std.proofs.Common.{◌≡◌, ℕ, ◌+◌, ◌==◌, Bool, true, false, cond, List, [], ◌∷◌, length, map, Option, Some, None, Result, Ok, Err, refl}
use Rattle.std.specs.List.{list_any, position, slice_get}
use Rattle.base_values.specs.StoredValues.{error_number, stores, seeks}
use Rattle.base_values.specs.declared.unfit.Unfit.{Unfit}
use Rattle.base_values.specs.declared.unfit.Unfit.TheVariants as unfit
use Rattle.base_values.specs.declared.value.Value.{Value}
use Rattle.base_values.specs.GhoSchema.ClusteredKey.{clustered_place}
use Rattle.base_values.specs.GhoSchema.Rows.{key_places}
use Rattle.base_values.specs.GhoSchema.Tables.{clash}
use Rattle.base_values.specs.declared.gho_schema.schema.Column.{Column}
use Rattle.base_values.specs.declared.gho_schema.schema.Schema.{Schema}
use Rattle.base_values.specs.declared.row_conversion.conversion_fault.UnfitAt.{UnfitAt}
use Rattle.base_values.specs.declared.event.Change.{Change}
use Rattle.base_values.specs.declared.event.Change.TheVariants as changes
use Rattle.base_values.specs.declared.mysql_errors.TheConstants.{ER_NO_SUCH_TABLE, ER_FIELD_SPECIFIED_TWICE, ER_WRONG_VALUE_COUNT_ON_ROW, ER_DUP_ENTRY}
use Rattle.base_script.specs.declared.statement.Comparison.{Comparison}
use Rattle.base_script.specs.declared.statement.Condition.{Condition}
use Rattle.base_script.specs.declared.statement.Condition.TheVariants as conditions
use Rattle.base_script.specs.declared.statement.Set.{Set}
use Rattle.base_script.specs.declared.statement.Shown.{Shown}
use Rattle.base_script.specs.declared.statement.Shown.TheVariants as shown
use Rattle.base_script.specs.declared.statement.Statement.{Statement}
use Rattle.base_script.specs.declared.statement.Statement.TheVariants as statements
use Rattle.server_model.specs.declared.answer.Answer.{Answer}
use Rattle.server_model.specs.declared.answer.Answer.TheVariants as answers
use Rattle.server_model.specs.declared.work.Reach.{Reach}
use Rattle.server_model.specs.declared.work.Selection.{Selection}
use Rattle.server_model.specs.declared.work.Selection.TheVariants.{AllColumns, Columns, Count}
use Rattle.server_model.specs.declared.work.Work.{Work}
use Rattle.server_model.specs.declared.work.Work.TheVariants as works
use Rattle.server_model.specs.Answers.{refuses, refuses_value}
use Rattle.server_model.specs.Checks.{◌>>=◌, are_distinct, beside, given_or, has_columns, is_only, keyed, new_row, or_refused, or_unknown, place_of, places_listed, places_named, reach_equal, reach_of, reach_range, row_from, select_of, selection_of, wanted_at, wanted_each, unless, update_of, value_at, work_of, drawn_row}
use Rattle.server_model.specs.Rows.{change_rows, rows_met, same_row}
use Rattle.server_model.specs.StatementResults.{change_first, clashes_besides, only, result_or_refusal, selected, tells, updated, updates, with_sets}
use Rattle.proof_plans.specs.Tables.{is_missing}

-- the answer isn't ER_NO_SUCH_TABLE
abbrev pub IsOther : Answer → Type 0
IsOther answer = is_missing (Some answer) ≡ false

-- a result is such a one, or another refusal
abbrev Fine : {A : Type 0} → (A → Type 0) → Result A Answer → Type 0
Fine P (Ok x) = P x
Fine P (Err refusal) = IsOther refusal

abbrev Any : {A : Type 0} → A → Type 0
Any x = Unit {0}

then_fine : {A B : Type 0} (P : A → Type 0) (Q : B → Type 0) (r : Result A Answer) (f : A → Result B Answer) → Fine P r → ((x : A) → P x → Fine Q (f x)) → Fine Q (r >>= f)
then_fine P Q (Ok x) f one two = two x one
then_fine P Q (Err refusal) f one two = one

-- COLUMNS AND VALUES

unless_fine : (test : Bool) (number : ℕ) → (number == ER_NO_SUCH_TABLE) ≡ false → Fine Any (unless test number)
unless_fine true number off = tt
unless_fine false number off = off

pub unfit_other : (at : UnfitAt) → IsOther (refuses_value at)
unfit_other at = by at.unfit where
  by : (fault : Unfit) → (error_number fault == ER_NO_SUCH_TABLE) ≡ false
  by unfit.Null = refl
  by unfit.Range = refl
  by unfit.Length = refl
  by unfit.Kind = refl

value_fine : (place : ℕ) (r : Result Value Unfit) → Fine Any (value_at place r)
value_fine place (Ok value) = tt
value_fine place (Err reason) = unfit_other (record { column = place; unfit = reason })

unknown_fine : (found : Option ℕ) → Fine Any (or_unknown found)
unknown_fine None = refl
unknown_fine (Some place) = tt

keyed_fine : {A : Type 0} (found : Option ℕ) (f : ℕ → Result A Answer) → ((place : ℕ) → Fine Any (f place)) → Fine Any (keyed found f)
keyed_fine None f fine = refl
keyed_fine (Some place) f fine = fine place

places_fine : (schema : Schema) (names : List (List ℕ)) → Fine Any (places_named schema names)
unfolding places_named
places_fine schema [] = tt
places_fine schema (name ∷ names) = then_fine Any Any (place_of schema name) _ (unknown_fine _) (λ place any. then_fine Any Any (places_named schema names) _ (places_fine schema names) (λ places any. tt))

given_fine : (place : ℕ) (column : Column) (given default : Option Value) → Fine Any (given_or place column given default)
given_fine place column (Some value) default = value_fine place (stores value column.kind column.nullable)
given_fine place column None (Some default) = tt
given_fine place column None None = refl

row_fine : (place : ℕ) (columns : List Column) (places : List ℕ) (values : List Value) → Fine Any (row_from place columns places values)
unfolding row_from
row_fine place [] places values = tt
row_fine place (column ∷ columns) places values =
    then_fine Any Any (given_or place column (beside place places values) column.default) _ (given_fine place column (beside place places values) column.default)
    (λ value any. then_fine Any Any (row_from (place + 1) columns places values) _ (row_fine (place + 1) columns places values) (λ row any. tt))

listed_fine : (schema : Schema) (names : Option (List (List ℕ))) → Fine Any (places_listed schema names)
listed_fine schema None = tt
listed_fine schema (Some names) = then_fine Any Any (places_named schema names) _ (places_fine schema names) (λ places any. then_fine Any Any (unless (are_distinct places) ER_FIELD_SPECIFIED_TWICE) _ (unless_fine (are_distinct places) ER_FIELD_SPECIFIED_TWICE refl) (λ test any. tt))

new_fine : (schema : Schema) (names : Option (List (List ℕ))) (values : List Value) → Fine Any (new_row schema names values)
unfolding new_row
new_fine schema names values =
    then_fine Any Any (places_listed schema names) _ (listed_fine schema names)
    (λ places any. then_fine Any Any (unless (length places == length values) ER_WRONG_VALUE_COUNT_ON_ROW) _ (unless_fine (length places == length values) ER_WRONG_VALUE_COUNT_ON_ROW refl) (λ test any. row_fine 0 schema.columns places values))

-- CONDITIONS

wanted_one_fine : (place : ℕ) (column : Option Column) (value : Option Value) → Fine Any (wanted_at place column value)
wanted_one_fine place (Some column) (Some value) = value_fine place (seeks value column.kind)
wanted_one_fine place None value = refl
wanted_one_fine place (Some column) None = refl

wanted_fine : (schema : Schema) (places : List ℕ) (values : List Value) → Fine Any (wanted_each schema places values)
unfolding wanted_each
wanted_fine schema [] values = tt
wanted_fine schema (place ∷ places) [] = tt
wanted_fine schema (place ∷ places) (value ∷ values) =
    then_fine Any Any (wanted_at place (slice_get schema.columns place) (Some value)) _ (wanted_one_fine place (slice_get schema.columns place) (Some value))
    (λ first any. then_fine Any Any (wanted_each schema places values) _ (wanted_fine schema places values) (λ others any. tt))

equal_fine : (schema : Schema) (names : List (List ℕ)) (values : List Value) → Fine Any (reach_equal schema names values)
unfolding reach_equal
equal_fine schema names values =
    then_fine Any Any (places_named schema names) _ (places_fine schema names)
    (λ places any. then_fine {B = Reach} Any Any (keyed (cond (are_distinct places) (position (has_columns places) schema.uniques) None) (λ place. Ok place)) _
    (keyed_fine (cond (are_distinct places) (position (has_columns places) schema.uniques) None) (λ place. Ok place) (λ place. tt))
    (λ key any. then_fine {B = Reach} Any Any (wanted_each schema places values) _ (wanted_fine schema places values) (λ sought any. tt)))

range_fine : (schema : Schema) (comparisons : List Comparison) → Fine Any (reach_range schema comparisons)
unfolding reach_range
range_fine schema comparisons =
    then_fine Any Any (places_named schema (map (λ comparison. comparison.column) comparisons)) _ (places_fine schema (map (λ comparison. comparison.column) comparisons))
    (λ places any. then_fine {B = Reach} Any Any (keyed (cond (is_only (key_places schema) places) (clustered_place schema) None) (λ place. Ok place)) _
    (keyed_fine (cond (is_only (key_places schema) places) (clustered_place schema) None) (λ place. Ok place) (λ place. tt))
    (λ key any. then_fine {B = Reach} Any Any (wanted_each schema places (map (λ comparison. comparison.value) comparisons)) _ (wanted_fine schema places (map (λ comparison. comparison.value) comparisons)) (λ sought any. tt)))

reach_fine : (schema : Schema) (condition : Condition) → Fine Any (reach_of schema condition)
unfolding reach_of
reach_fine schema conditions.All = keyed_fine (clustered_place schema) _ (λ place. tt)
reach_fine schema (conditions.Equal sets) = equal_fine schema (map (λ set. set.column) sets) (map (λ set. set.value) sets)
reach_fine schema (conditions.Range comparisons) = range_fine schema comparisons

-- WORK

-- work that isn't refused, or with another number
abbrev pub IsFine : Work → Type 0
IsFine (works.Refuse refusal) = IsOther refusal
IsFine work = Unit {0}

or_fine : {A : Type 0} (P : A → Type 0) (r : Result A Answer) (f : A → Work) → Fine P r → ((x : A) → P x → IsFine (f x)) → IsFine (or_refused r f)
or_fine P (Ok x) f one two = two x one
or_fine P (Err refusal) f one two = one

update_fine : (schema : Schema) (sets : List Set) (condition : Condition) → Fine IsFine (update_of schema sets condition)
update_fine schema sets condition =
    then_fine Any IsFine (places_named schema (map (λ set. set.column) sets)) _ (places_fine schema (map (λ set. set.column) sets))
    (λ places any. then_fine Any IsFine (unless (are_distinct places) ER_FIELD_SPECIFIED_TWICE) _ (unless_fine (are_distinct places) ER_FIELD_SPECIFIED_TWICE refl)
    (λ test any. then_fine Any IsFine (reach_of schema condition) _ (reach_fine schema condition) (λ reach any. tt)))

selection_fine : (schema : Schema) (what : Shown) → Fine Any (selection_of schema what)
selection_fine schema shown.All = tt
selection_fine schema (shown.Columns names) = then_fine Any Any (places_named schema names) _ (places_fine schema names) (λ places any. tt)
selection_fine schema shown.Count = tt

select_fine : (schema : Schema) (what : Shown) (condition : Condition) → Fine IsFine (select_of schema what condition)
select_fine schema what condition =
    then_fine Any IsFine (selection_of schema what) _ (selection_fine schema what) (λ selection any. then_fine Any IsFine (reach_of schema condition) _ (reach_fine schema condition) (λ reach any. tt))

pub copy_fine : (schema : Schema) (values : List Value) → IsFine (or_refused (new_row schema None values) works.Copy)
copy_fine schema values = or_fine Any (new_row schema None values) works.Copy (new_fine schema None values) (λ row any. tt)

-- *A statement's work*
pub work_fine : (schema : Schema) (statement : Statement) → IsFine (work_of schema statement)
unfolding work_of
work_fine schema (statements.Insert table columns values drawn) = or_fine Any (drawn_row schema columns values drawn) works.Insert (new_fine schema _ _) (λ row any. tt)
work_fine schema (statements.Replace table columns values drawn) = or_fine Any (drawn_row schema columns values drawn) works.Replace (new_fine schema _ _) (λ row any. tt)
work_fine schema (statements.Delete table condition) = or_fine Any (reach_of schema condition) works.Delete (reach_fine schema condition) (λ reach any. tt)
work_fine schema (statements.Update table sets condition) = or_fine IsFine (update_of schema sets condition) (λ work. work) (update_fine schema sets condition) (λ work fine. fine)
work_fine schema (statements.Select table what condition) = or_fine IsFine (select_of schema what condition) (λ work. work) (select_fine schema what condition) (λ work fine. fine)

-- WHAT IT TELLS

first_fine : (change : Change) (r : Result (List Change) Answer) → Fine Any r → Fine Any (change_first change r)
first_fine change (Ok others) fine = tt
first_fine change (Err refusal) fine = fine

updates_fine : (schema : Schema) (sets : List (Option Value)) (met rows : List (List Value)) → Fine Any (updates schema sets met rows)
unfolding updates
updates_fine schema sets [] rows = tt
updates_fine schema sets (old ∷ met) rows =
    by (same_row old (with_sets sets old)) (clashes_besides schema (with_sets sets old) old rows) (updates schema sets met rows)
    (change_first (changes.Update old (with_sets sets old)) (updates schema sets met (change_rows (key_places schema) (changes.Update old (with_sets sets old)) rows))) (updates_fine schema sets met rows)
    (first_fine (changes.Update old (with_sets sets old)) (updates schema sets met (change_rows (key_places schema) (changes.Update old (with_sets sets old)) rows)) (updates_fine schema sets met (change_rows (key_places schema) (changes.Update old (with_sets sets old)) rows))) where
      by : (same clashes : Bool) (r s : Result (List Change) Answer) → Fine Any r → Fine Any s → Fine Any (cond same r (cond clashes (Err (refuses ER_DUP_ENTRY)) s))
      by true clashes r s one two = one
      by false true r s one two = refl
      by false false r s one two = two

reported_other : (r : Result (List Change) Answer) → Fine Any r → IsOther (result_or_refusal r).answer
reported_other (Ok all) fine = refl
reported_other (Err refusal) fine = fine

updated_other : (schema : Schema) (sets : Result (List (Option Value)) UnfitAt) (met rows : List (List Value)) → IsOther (updated schema sets met rows).answer
updated_other schema (Ok sets) met rows = reported_other (updates schema sets met rows) (updates_fine schema sets met rows)
updated_other schema (Err at) [] rows = refl
updated_other schema (Err at) (row ∷ met) rows = unfit_other at

selected_other : (selection : Selection) (rows : List (List Value)) → IsOther (selected selection rows)
selected_other AllColumns rows = refl
selected_other (Columns places) rows = refl
selected_other Count rows = refl

-- *What work tells*
pub tells_other : (schema : Schema) (rows : List (List Value)) (work : Work) → IsFine work → IsOther (tells schema rows work).answer
unfolding tells
tells_other schema rows (works.Refuse refusal) fine = fine
tells_other schema rows (works.Insert row) fine = by (list_any (clash schema.uniques row) rows) where
  by : (b : Bool) → IsOther (cond b (only (refuses ER_DUP_ENTRY)) (record { answer = answers.Ok 1; changes = changes.Write row ∷ [] })).answer
  by true = refl
  by false = refl
tells_other schema rows (works.Copy row) fine = by (list_any (clash schema.uniques row) rows) where
  by : (b : Bool) → IsOther (cond b (only (answers.Ok 0)) (record { answer = answers.Ok 1; changes = changes.Write row ∷ [] })).answer
  by true = refl
  by false = refl
tells_other schema rows (works.Replace row) fine = refl
tells_other schema rows (works.Delete reach) fine = refl
tells_other schema rows (works.Update reach sets) fine = updated_other schema sets (rows_met schema reach rows) rows
tells_other schema rows (works.Select reach selection) fine = selected_other selection (rows_met schema reach rows)
