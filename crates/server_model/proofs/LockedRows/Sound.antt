-- What a statement is to do makes rows of its table's columns.
use Rattle.base_values.specs.declared.mysql_errors.TheConstants.{ER_FIELD_SPECIFIED_TWICE, ER_WRONG_VALUE_COUNT_ON_ROW}
use Rattle.std.proofs.Common.{◌≡◌, ℕ, ◌+◌, Bool, List, [], ◌∷◌, map, Option, Some, None, Result, Ok, Err, refl}
use Rattle.std.specs.List.{AllByRecursion}
use Rattle.base_values.specs.declared.value.Value.{Value}
use Rattle.base_values.specs.declared.kind.Kind.{Kind}
use Rattle.base_values.specs.declared.unfit.Unfit.{Unfit}
use Rattle.base_values.specs.StoredValues.{stores}
use Rattle.base_values.proofs.StoredValues.{keeps}
use Rattle.base_values.specs.declared.gho_schema.schema.Schema.{Schema}
use Rattle.base_values.specs.declared.gho_schema.schema.Column.{Column}
use Rattle.base_values.specs.GhoSchema.Tables.{IsRow}
use Rattle.base_values.specs.declared.row_conversion.conversion_fault.UnfitAt.{UnfitAt}
use Rattle.base_script.specs.declared.statement.Statement.{Statement}
use Rattle.base_script.specs.declared.statement.Statement.TheVariants as statements
use Rattle.base_script.specs.declared.statement.Set.{Set}
use Rattle.server_model.specs.declared.answer.Answer.{Answer}
use Rattle.server_model.specs.declared.work.Reach.{Reach}
use Rattle.server_model.specs.declared.work.Selection.{Selection}
use Rattle.server_model.specs.declared.work.Work.{Work}
use Rattle.server_model.specs.declared.work.Work.TheVariants.{Insert, Replace, Delete, Update}
use Rattle.server_model.specs.Checks.{◌>>=◌, value_at, given_or, beside, row_from, new_row, drawn_row, places_listed, unless, places_named, are_distinct, reach_of, selection_of, set_first, stored_set, sets_from, or_refused, update_of, select_of, work_of}
use Rattle.base_values.specs.SchemaRules.Valid.{StoresDefault}
use Rattle.server_model.specs.LockedRows.Coverage.{SetsFit, IsSound}

-- what is not refused passes
abbrev pub OkIs : {A E : Type 0} → (A → Type 0) → Result A E → Type 0
OkIs P (Ok x) = P x
OkIs P (Err e) = Unit {0}

then_is : {A B : Type 0} (Q : A → Type 0) (P : B → Type 0) (r : Result A Answer) (f : A → Result B Answer) → OkIs Q r → ((x : A) → Q x → OkIs P (f x)) → OkIs P (r >>= f)
then_is Q P (Ok x) f is then = then x is
then_is Q P (Err e) f is then = tt

any_is : {A : Type 0} (r : Result A Answer) → OkIs (λ x. Unit {0}) r
any_is (Ok x) = tt
any_is (Err e) = tt

stored_again : (place : ℕ) (value : Value) (kind : Kind) (nullable : Bool) (r : Result Value Unfit) → stores value kind nullable ≡ r → OkIs (λ stored. stores stored kind nullable ≡ Ok stored) (value_at place r)
stored_again place value kind nullable (Ok stored) is = (keeps value kind nullable stored is).again
stored_again place value kind nullable (Err reason) is = tt

given_is : (place : ℕ) (column : Column) (given default : Option Value) → StoresDefault column default → OkIs (λ stored. stores stored column.kind column.nullable ≡ Ok stored) (given_or place column given default)
given_is place column (Some value) default fits = stored_again place value column.kind column.nullable (stores value column.kind column.nullable) refl
given_is place column None (Some default) fits = fits
given_is place column None None fits = tt

row_is : (place : ℕ) (columns : List Column) (places : List ℕ) (values : List Value) → AllByRecursion (λ column. StoresDefault column column.default) columns → OkIs (IsRow columns) (row_from place columns places values)
unfolding row_from
row_is place [] places values fits = tt
row_is place (column ∷ columns) places values fits =
    then_is (λ (stored : Value). stores stored column.kind column.nullable ≡ Ok stored) (IsRow (column ∷ columns)) (given_or place column (beside place places values) column.default)
    (λ value. row_from (place + 1) columns places values >>= (λ row. Ok (value ∷ row))) (given_is place column (beside place places values) column.default fits.0)
    (λ value here. then_is (IsRow columns) (IsRow (column ∷ columns)) (row_from (place + 1) columns places values) (λ row. Ok (value ∷ row)) (row_is (place + 1) columns places values fits.1) (λ row others. (here, others)))

pub new_is : (schema : Schema) (names : Option (List (List ℕ))) (values : List Value) → AllByRecursion (λ column. StoresDefault column column.default) schema.columns → OkIs (IsRow schema.columns) (new_row schema names values)
unfolding new_row
new_is schema names values fits =
    then_is (λ (places : List ℕ). Unit {0}) (IsRow schema.columns) (places_listed schema names) _ (any_is (places_listed schema names))
    (λ places _. then_is (λ (u : Unit {0}). Unit {0}) (IsRow schema.columns) (unless _ ER_WRONG_VALUE_COUNT_ON_ROW) _ (any_is (unless _ ER_WRONG_VALUE_COUNT_ON_ROW)) (λ u _. row_is 0 schema.columns places values fits))

abbrev pub SetsAre : List Column → Result (List (Option Value)) UnfitAt → Type 0
SetsAre columns (Ok sets) = SetsFit columns sets
SetsAre columns (Err at) = Unit {0}

set_is : (place : ℕ) (column : Column) (columns : List Column) (given : Option Value) (r : Result Value Unfit) (others : Result (List (Option Value)) UnfitAt) → (value : Value) → stores value column.kind column.nullable ≡ r → SetsAre columns others → SetsAre (column ∷ columns) (set_first place (Some r) others)
set_is place column columns given (Ok stored) (Ok sets) value is fit = ((keeps value column.kind column.nullable stored is).again, fit)
set_is place column columns given (Ok stored) (Err at) value is fit = tt
set_is place column columns given (Err reason) others value is fit = tt

set_here : (place : ℕ) (column : Column) (columns : List Column) (given : Option Value) (others : Result (List (Option Value)) UnfitAt) → SetsAre columns others → SetsAre (column ∷ columns) (set_first place (stored_set column given) others)
set_here place column columns None (Ok sets) fit = fit
set_here place column columns None (Err at) fit = tt
set_here place column columns (Some value) others fit = set_is place column columns (Some value) (stores value column.kind column.nullable) others value refl fit

sets_are : (place : ℕ) (columns : List Column) (places : List ℕ) (values : List Value) → SetsAre columns (sets_from place columns places values)
unfolding sets_from
sets_are place [] places values = tt
sets_are place (column ∷ columns) places values = set_here place column columns (beside place places values) (sets_from (place + 1) columns places values) (sets_are (place + 1) columns places values)

pub refused_or : {A : Type 0} (columns : List Column) (Q : A → Type 0) (r : Result A Answer) (work : A → Work) → OkIs Q r → ((x : A) → Q x → IsSound columns (work x)) → IsSound columns (or_refused r work)
refused_or columns Q (Ok x) work is then = then x is
refused_or columns Q (Err e) work is then = tt

update_is : (columns : List Column) (reach : Reach) (sets : Result (List (Option Value)) UnfitAt) → SetsAre columns sets → IsSound columns (Update reach sets)
update_is columns reach (Ok sets) fit = fit
update_is columns reach (Err at) fit = tt

-- *what a statement is to do is sound*
pub work_sound : (schema : Schema) (statement : Statement) → AllByRecursion (λ column. StoresDefault column column.default) schema.columns → IsSound schema.columns (work_of schema statement)
unfolding work_of
work_sound schema (statements.Insert table columns values drawn) fits = refused_or schema.columns (IsRow schema.columns) (drawn_row schema columns values drawn) Insert (new_is schema _ _ fits) (λ row is. is)
work_sound schema (statements.Replace table columns values drawn) fits = refused_or schema.columns (IsRow schema.columns) (drawn_row schema columns values drawn) Replace (new_is schema _ _ fits) (λ row is. is)
work_sound schema (statements.Delete table condition) fits = refused_or schema.columns (λ (reach : Reach). Unit {0}) (reach_of schema condition) Delete (any_is (reach_of schema condition)) (λ reach is. tt)
work_sound schema (statements.Update table sets condition) fits =
    refused_or schema.columns (IsSound schema.columns) (update_of schema sets condition) (λ work. work)
    (then_is (λ (places : List ℕ). Unit {0}) (IsSound schema.columns) (places_named schema (map (λ (set : Set). set.column) sets)) _ (any_is (places_named schema (map (λ (set : Set). set.column) sets)))
    (λ places _. then_is (λ (u : Unit {0}). Unit {0}) (IsSound schema.columns) (unless (are_distinct places) ER_FIELD_SPECIFIED_TWICE) _ (any_is (unless (are_distinct places) ER_FIELD_SPECIFIED_TWICE))
    (λ u _. then_is (λ (reach : Reach). Unit {0}) (IsSound schema.columns) (reach_of schema condition) _ (any_is (reach_of schema condition))
    (λ reach _. update_is schema.columns reach (sets_from 0 schema.columns places (map (λ (set : Set). set.value) sets)) (sets_are 0 schema.columns places (map (λ (set : Set). set.value) sets))))))
    (λ work is. is)
work_sound schema (statements.Select table shown condition) fits =
    refused_or schema.columns (IsSound schema.columns) (select_of schema shown condition) (λ work. work)
    (then_is (λ (selection : Selection). Unit {0}) (IsSound schema.columns) (selection_of schema shown) _ (any_is (selection_of schema shown))
    (λ selection _. then_is (λ (reach : Reach). Unit {0}) (IsSound schema.columns) (reach_of schema condition) _ (any_is (reach_of schema condition)) (λ reach _. tt)))
    (λ work is. is)
