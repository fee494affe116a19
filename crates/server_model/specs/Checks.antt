-- *Work*: what a statement is to do, as its table's schema alone decides. Columns, values and keys are checked before any
-- row is looked at. (MySQL's manual, "INSERT Statement", "REPLACE Statement", "DELETE Statement", "UPDATE Statement",
-- "SELECT Statement"; which conditions there are, and the order of the refusals, is this project's rule.)
use Rattle.std.specs.Prelude.{ℕ, pos, ◌+◌, ◌==◌, Bool, true, false, not, ◌&&◌, if◌then◌else◌, List, [], ◌∷◌, ◌++◌, length, map, position, Option, Some, None, Result, Ok, Err}
use Rattle.std.specs.Ordering.{is_gt, int_eq}
use Rattle.std.specs.List.{list_any, list_all, slice_get}
use Rattle.base_values.specs.declared.value.Value.{Value}
use Rattle.base_values.specs.declared.value.Value.TheVariants.{Null, Num}
use Rattle.base_values.specs.declared.unfit.Unfit.{Unfit}
use Rattle.base_values.specs.declared.span.Span.{Span}
use Rattle.base_values.specs.declared.span.Bound.{Bound}
use Rattle.base_values.specs.declared.span.Bound.TheVariants.{Open, Closed, Free}
use Rattle.base_values.specs.KeyOrder.{compare_keys}
use Rattle.base_values.specs.Spans.{point}
use Rattle.base_values.specs.StoredValues.{stores, seeks}
use Rattle.base_values.specs.declared.gho_schema.schema.Schema.{Schema}
use Rattle.base_values.specs.declared.gho_schema.schema.Column.{Column}
use Rattle.base_values.specs.declared.gho_schema.schema.Index.{Index}
use Rattle.base_values.specs.GhoSchema.Names.{same_name}
use Rattle.base_values.specs.GhoSchema.ClusteredKey.{clustered_place}
use Rattle.base_values.specs.GhoSchema.Rows.{key_places, places_at}
use Rattle.base_values.specs.GhoSchema.AutoIncrement.{auto_place}
use Rattle.base_values.specs.declared.row_conversion.conversion_fault.UnfitAt.{UnfitAt}
use Rattle.base_values.specs.declared.mysql_errors.TheConstants.{ER_BAD_FIELD_ERROR, ER_NO_DEFAULT_FOR_FIELD, ER_FIELD_SPECIFIED_TWICE, ER_WRONG_VALUE_COUNT_ON_ROW, ER_NOT_SUPPORTED_YET}
use Rattle.base_script.specs.declared.statement.Statement.{Statement}
use Rattle.base_script.specs.declared.statement.Statement.TheVariants as statements
use Rattle.base_script.specs.declared.statement.Condition.{Condition}
use Rattle.base_script.specs.declared.statement.Condition.TheVariants as conditions
use Rattle.base_script.specs.declared.statement.Comparison.{Comparison}
use Rattle.base_script.specs.declared.statement.Sign.{Sign}
use Rattle.base_script.specs.declared.statement.Sign.TheVariants as signs
use Rattle.base_script.specs.declared.statement.Shown.{Shown}
use Rattle.base_script.specs.declared.statement.Shown.TheVariants as shown
use Rattle.base_script.specs.declared.statement.Set.{Set}
use Rattle.server_model.specs.declared.answer.Answer.{Answer}
use Rattle.server_model.specs.Answers.{refuses, refuses_value}
use Rattle.server_model.specs.declared.work.Reach.{Reach}
use Rattle.server_model.specs.declared.work.Selection.{Selection}
use Rattle.server_model.specs.declared.work.Selection.TheVariants.{AllColumns, Columns, Count}
use Rattle.server_model.specs.declared.work.Work.{Work}
use Rattle.server_model.specs.declared.work.Work.TheVariants.{Refuse, Insert, Replace, Delete, Update, Select}

infixl 10 ◌>>=◌
-- goes on with what was not refused
abbrev pub ◌>>=◌ : {A B : Type 0} → Result A Answer → (A → Result B Answer) → Result B Answer
(Ok x) >>= f = f x
(Err refusal) >>= f = Err refusal

-- refused with this number, unless the test holds
abbrev pub unless : Bool → ℕ → Result (Unit {0}) Answer
unless true number = Ok tt
unless false number = Err (refuses number)

-- the place of the column of this name
abbrev pub or_unknown : Option ℕ → Result ℕ Answer
or_unknown None = Err (refuses ER_BAD_FIELD_ERROR)
or_unknown (Some place) = Ok place

abbrev pub place_of : Schema → List ℕ → Result ℕ Answer
place_of schema name = or_unknown (position (λ column. same_name column.name name) schema.columns)

unfoldable pub places_named : Schema → List (List ℕ) → Result (List ℕ) Answer
places_named schema [] = Ok []
places_named schema (name ∷ names) = do
  place ← place_of schema name
  places ← places_named schema names
  Ok (place ∷ places)

-- no place is named twice
unfoldable pub are_distinct : List ℕ → Bool
are_distinct [] = true
are_distinct (place ∷ places) = not (list_any (λ other. place == other) places) && are_distinct places

-- the value that is beside a place, where one does
unfoldable pub beside : ℕ → List ℕ → List Value → Option Value
beside place [] values = None
beside place (other ∷ places) [] = None
beside place (other ∷ places) (value ∷ values) = if place == other then Some value else beside place places values

-- a column's value, or that it is refused
abbrev pub value_at : ℕ → Result Value Unfit → Result Value Answer
value_at place (Ok value) = Ok value
value_at place (Err reason) = Err (refuses_value (record { column = place; unfit = reason }))

-- what a column of a new row has: the value given for it, else its default
abbrev pub given_or : ℕ → Column → Option Value → Option Value → Result Value Answer
given_or place column (Some value) default = value_at place (stores value column.kind column.nullable)
given_or place column None (Some default) = Ok default
given_or place column None None = Err (refuses ER_NO_DEFAULT_FOR_FIELD)

-- a new row, column by column, of values for the columns at these places
unfoldable pub row_from : ℕ → List Column → List ℕ → List Value → Result (List Value) Answer
row_from place [] places values = Ok []
row_from place (column ∷ columns) places values = do
  value ← given_or place column (beside place places values) column.default
  row ← row_from (place + 1) columns places values
  Ok (value ∷ row)

-- the places 0, 1 .. of columns
abbrev pub places_from : ℕ → List Column → List ℕ
places_from place [] = []
places_from place (column ∷ columns) = place ∷ places_from (place + 1) columns

-- the places of the columns that an INSERT names, each once; of all where it names none
abbrev pub places_listed : Schema → Option (List (List ℕ)) → Result (List ℕ) Answer
places_listed schema None = Ok (places_from 0 schema.columns)
places_listed schema (Some names) = do
  places ← places_named schema names
  _ ← unless (are_distinct places) ER_FIELD_SPECIFIED_TWICE
  Ok places

-- the new row of an INSERT or a REPLACE: as many values as columns, then column by column
unfoldable pub new_row : Schema → Option (List (List ℕ)) → List Value → Result (List Value) Answer
new_row schema names values = do
  places ← places_listed schema names
  _ ← unless (length places == length values) ER_WRONG_VALUE_COUNT_ON_ROW
  row_from 0 schema.columns places values

-- WHERE A NUMBER IS DRAWN

-- the value for the column of this place, in place of what is written for it
unfoldable pub value_set : ℕ → List ℕ → Value → List Value → List Value
value_set place [] new values = []
value_set place (other ∷ places) new [] = []
value_set place (other ∷ places) new (value ∷ values) = if place == other then new ∷ values else value ∷ value_set place places new values

-- the names, the column's own behind them where it isn't among them
abbrev pub names_filled : Option Column → Bool → Option (List (List ℕ)) → Option (List (List ℕ))
names_filled (Some column) false (Some names) = Some (names ++ column.name ∷ [])
names_filled column named names = names

abbrev pub values_filled : ℕ → List ℕ → Bool → Value → List Value → List Value
values_filled place places true number values = value_set place places number values
values_filled place places false number values = values ++ number ∷ []

-- the columns that an INSERT or a REPLACE names, and its values
pub record Given : Type 0 where
  pub names : Option (List (List ℕ))
  pub values : List Value

abbrev pub filled_among : Schema → Option (List (List ℕ)) → List Value → Value → ℕ → Result (List ℕ) Answer → Given
filled_among schema names values number place (Err refusal) = record { names = names; values = values }
filled_among schema names values number place (Ok places) =
    record {
      names = names_filled (slice_get schema.columns place) (list_any (λ other. place == other) places) names;
      values = values_filled place places (list_any (λ other. place == other) places) number values;
    }

abbrev pub filled_at : Schema → Option (List (List ℕ)) → List Value → Value → Option ℕ → Given
filled_at schema names values number None = record { names = names; values = values }
filled_at schema names values number (Some place) = filled_among schema names values number place (places_listed schema names)

-- *Filled*: what a statement says with the number that it drew as the literal of the AUTO_INCREMENT column: at the column's
-- place where the statement has no column list, else at its name; where the list is without it, behind the others.
abbrev pub filled_with : Schema → Option (List (List ℕ)) → List Value → Option ℕ → Given
filled_with schema names values None = record { names = names; values = values }
filled_with schema names values (Some number) = filled_at schema names values (Num (pos number)) (auto_place schema)

-- the new row of an INSERT or a REPLACE, with the number that it drew
abbrev pub drawn_row : Schema → Option (List (List ℕ)) → List Value → Option ℕ → Result (List Value) Answer
drawn_row schema names values drawn = new_row schema (filled_with schema names values drawn).names (filled_with schema names values drawn).values

-- the value that a new row is given for the column of a place, where the list of columns and the count of values are right
unfoldable pub value_given : Schema → Option (List (List ℕ)) → List Value → ℕ → Result (Option Value) Answer
value_given schema names values place = do
  places ← places_listed schema names
  _ ← unless (length places == length values) ER_WRONG_VALUE_COUNT_ON_ROW
  Ok (beside place places values)

-- what is stored is 0
abbrev pub is_zero : Result Value Unfit → Bool
is_zero (Ok (Num n)) = int_eq n (pos 0)
is_zero stored = false

-- A column draws where it is given no value, NULL or what is stored as 0 (MySQL's manual, "Using AUTO_INCREMENT").
abbrev pub draws_for : Option Column → Result (Option Value) Answer → Bool
draws_for (Some column) (Ok None) = true
draws_for (Some column) (Ok (Some Null)) = true
draws_for (Some column) (Ok (Some value)) = is_zero (stores value column.kind column.nullable)
draws_for column value = false

abbrev pub row_draws : Schema → Option (List (List ℕ)) → List Value → Option ℕ → Bool
row_draws schema names values None = false
row_draws schema names values (Some place) = draws_for (slice_get schema.columns place) (value_given schema names values place)

-- *Draws*: an INSERT or a REPLACE into a table of this schema draws a number for the AUTO_INCREMENT column.
unfoldable pub draws : Schema → Statement → Bool
draws schema (statements.Insert table columns values drawn) = row_draws schema columns values (auto_place schema)
draws schema (statements.Replace table columns values drawn) = row_draws schema columns values (auto_place schema)
draws schema statement = false

-- the key's columns are just these
abbrev pub has_columns : List ℕ → Index → Bool
has_columns places index = list_all (λ place. list_any (λ other. place == other) places) index.places && list_all (λ place. list_any (λ other. place == other) index.places) places

-- what the condition compares with the column at a place
abbrev pub wanted_at : ℕ → Option Column → Option Value → Result Value Answer
wanted_at place (Some column) (Some value) = value_at place (seeks value column.kind)
wanted_at place column value = Err (refuses ER_BAD_FIELD_ERROR)

-- the wanted values in the columns at these places, in the order in which they were written
unfoldable pub wanted_each : Schema → List ℕ → List Value → Result (List Value) Answer
wanted_each schema [] values = Ok []
wanted_each schema (place ∷ places) [] = Ok []
wanted_each schema (place ∷ places) (value ∷ values) = do
  first ← wanted_at place (slice_get schema.columns place) (Some value)
  others ← wanted_each schema places values
  Ok (first ∷ others)

-- the value in front, where there is one
abbrev pub with_value : Option Value → List Value → List Value
with_value None key = key
with_value (Some value) key = value ∷ key

-- a key's values, from values beside places
abbrev pub key_from : List ℕ → List ℕ → List Value → List Value
key_from [] places values = []
key_from (place ∷ key) places values = with_value (beside place places values) (key_from key places values)

-- a key by its place, where there is one
abbrev pub keyed : {A : Type 0} → Option ℕ → (ℕ → Result A Answer) → Result A Answer
keyed None f = Err (refuses ER_NOT_SUPPORTED_YET)
keyed (Some place) f = f place

-- equalities: on the columns of a unique key, the first of which they are all the columns, each once
unfoldable pub reach_equal : Schema → List (List ℕ) → List Value → Result Reach Answer
reach_equal schema names values = do
  places ← places_named schema names
  key ← keyed (if are_distinct places then position (has_columns places) schema.uniques else None) (λ place. Ok place)
  sought ← wanted_each schema places values
  Ok (record { key = key; span = point (key_from (places_at schema key) places sought) })

-- of two lower ends, and of two upper ends, the one that leaves less
abbrev pub inner_low : Bound → Bound → Bound
inner_low Free b = b
inner_low a Free = a
inner_low (Closed a) (Closed b) = if is_gt (compare_keys b a) then Closed b else Closed a
inner_low (Closed a) (Open b) = if is_gt (compare_keys a b) then Closed a else Open b
inner_low (Open a) (Closed b) = if is_gt (compare_keys b a) then Closed b else Open a
inner_low (Open a) (Open b) = if is_gt (compare_keys b a) then Open b else Open a

abbrev pub inner_high : Bound → Bound → Bound
inner_high Free b = b
inner_high a Free = a
inner_high (Closed a) (Closed b) = if is_gt (compare_keys a b) then Closed b else Closed a
inner_high (Closed a) (Open b) = if is_gt (compare_keys b a) then Closed a else Open b
inner_high (Open a) (Closed b) = if is_gt (compare_keys a b) then Closed b else Open a
inner_high (Open a) (Open b) = if is_gt (compare_keys a b) then Open b else Open a

-- the keys that one comparison leaves
abbrev pub span_of : Sign → List Value → Span
span_of signs.Less key = record { low = Free; high = Open key }
span_of signs.AtMost key = record { low = Free; high = Closed key }
span_of signs.More key = record { low = Open key; high = Free }
span_of signs.AtLeast key = record { low = Closed key; high = Free }

-- the keys that two spans have in common
abbrev pub both_spans : Span → Span → Span
both_spans a b = record { low = inner_low a.low b.low; high = inner_high a.high b.high }

abbrev pub whole : Span
whole = record { low = Free; high = Free }

-- the keys that comparisons leave together
abbrev pub spans_together : List Comparison → List Value → Span
spans_together [] values = whole
spans_together (comparison ∷ comparisons) [] = whole
spans_together (comparison ∷ comparisons) (value ∷ values) = both_spans (span_of comparison.sign (value ∷ [])) (spans_together comparisons values)

-- the places are all the one place of the key
abbrev pub is_only : List ℕ → List ℕ → Bool
is_only (place ∷ []) others = list_all (λ other. place == other) others
is_only key others = false

-- comparisons: of the one column of the clustered key
unfoldable pub reach_range : Schema → List Comparison → Result Reach Answer
reach_range schema comparisons = do
  places ← places_named schema (map (λ comparison. comparison.column) comparisons)
  key ← keyed (if is_only (key_places schema) places then clustered_place schema else None) (λ place. Ok place)
  sought ← wanted_each schema places (map (λ comparison. comparison.value) comparisons)
  Ok (record { key = key; span = spans_together comparisons sought })

-- what a condition reaches
unfoldable pub reach_of : Schema → Condition → Result Reach Answer
reach_of schema conditions.All = keyed (clustered_place schema) (λ place. Ok (record { key = place; span = whole }))
reach_of schema (conditions.Equal sets) = reach_equal schema (map (λ set. set.column) sets) (map (λ set. set.value) sets)
reach_of schema (conditions.Range comparisons) = reach_range schema comparisons

abbrev pub stored_set : Column → Option Value → Option (Result Value Unfit)
stored_set column None = None
stored_set column (Some value) = Some (stores value column.kind column.nullable)

-- what the columns are set to, in the schema's order, or the first that doesn't store its value
abbrev pub set_first : ℕ → Option (Result Value Unfit) → Result (List (Option Value)) UnfitAt → Result (List (Option Value)) UnfitAt
set_first place (Some (Err reason)) others = Err (record { column = place; unfit = reason })
set_first place (Some (Ok value)) (Ok others) = Ok (Some value ∷ others)
set_first place None (Ok others) = Ok (None ∷ others)
set_first place set (Err at) = Err at

unfoldable pub sets_from : ℕ → List Column → List ℕ → List Value → Result (List (Option Value)) UnfitAt
sets_from place [] places values = Ok []
sets_from place (column ∷ columns) places values = set_first place (stored_set column (beside place places values)) (sets_from (place + 1) columns places values)

-- what is shown
abbrev pub selection_of : Schema → Shown → Result Selection Answer
selection_of schema shown.All = Ok AllColumns
selection_of schema (shown.Columns names) = do
  places ← places_named schema names
  Ok (Columns places)
selection_of schema shown.Count = Ok Count

-- the work, or that the statement is refused
abbrev pub or_refused : {A : Type 0} → Result A Answer → (A → Work) → Work
or_refused (Ok x) work = work x
or_refused (Err refusal) work = Refuse refusal

-- an UPDATE's work: the columns that it sets, each once, then its condition
abbrev pub update_of : Schema → List Set → Condition → Result Work Answer
update_of schema sets condition = do
  places ← places_named schema (map (λ set. set.column) sets)
  _ ← unless (are_distinct places) ER_FIELD_SPECIFIED_TWICE
  reach ← reach_of schema condition
  Ok (Update reach (sets_from 0 schema.columns places (map (λ set. set.value) sets)))

-- a SELECT's work: the columns that it shows, then its condition
abbrev pub select_of : Schema → Shown → Condition → Result Work Answer
select_of schema shown condition = do
  selection ← selection_of schema shown
  reach ← reach_of schema condition
  Ok (Select reach selection)

-- *Work* of a statement on a table of this schema
unfoldable pub work_of : Schema → Statement → Work
work_of schema (statements.Insert table columns values drawn) = or_refused (drawn_row schema columns values drawn) Insert
work_of schema (statements.Replace table columns values drawn) = or_refused (drawn_row schema columns values drawn) Replace
work_of schema (statements.Delete table condition) = or_refused (reach_of schema condition) Delete
work_of schema (statements.Update table sets condition) = or_refused (update_of schema sets condition) (λ work. work)
work_of schema (statements.Select table shown condition) = or_refused (select_of schema shown condition) (λ work. work)
