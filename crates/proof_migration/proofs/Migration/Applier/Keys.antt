-- A condition on the columns of the clustered key reaches the key that a row of the table before has.
use Rattle.std.proofs.Common.{◌≡◌, ◌≢◌, ℕ, zero, suc, ◌+◌, Bool, true, false, not, ◌||◌, cond, ltb, List, [], ◌∷◌, length, map, unwrap_or, Option, Some, Result, Ok, refl, sym, ap, subst, ◌∙◌, arith}
use Rattle.std.specs.Prelude.{◌==◌, position, is_none}
use Rattle.std.specs.List.{AllByRecursion, list_all, list_any, position_or_len, slice_get}
use Rattle.std.proofs.lemmas.Bool.{and_parts, or_right, false≢true}
use Rattle.std.proofs.lemmas.Option.{cond_some}
use Rattle.base_values.specs.declared.kind.Kind.{Kind}
use Rattle.base_values.specs.declared.kind.Kind.TheVariants.{Int, VarChar, VarBinary}
use Rattle.base_values.specs.declared.value.Value.{Value}
use Rattle.base_values.specs.declared.value.Value.TheVariants.{Null, Num, Text, Blob}
use Rattle.base_values.specs.StoredValues.{IsOfKind, seeks, stores}
use Rattle.base_values.proofs.StoredValues.{keeps}
use Rattle.base_values.specs.declared.gho_schema.schema.Column.{Column}
use Rattle.base_values.specs.declared.gho_schema.schema.Index.{Index}
use Rattle.base_values.specs.declared.gho_schema.schema.Schema.{Schema}
use Rattle.base_values.specs.GhoSchema.ClusteredKey.{clustered_among, is_not_null, may_cluster}
use Rattle.base_values.specs.GhoSchema.Rows.{key_of, key_places}
use Rattle.base_values.specs.GhoSchema.Tables.{IsRow}
use Rattle.base_values.proofs.SchemaRules.Lists.{All-at, list_all-All, slice_get-map-some}
use Rattle.base_values.specs.declared.row_conversion.map.MapColumn.{MapColumn}
use Rattle.base_values.specs.RowConversion.ConvertedRows.{source}
use Rattle.sql_change.specs.Columns.{is_key_conversion}
use Rattle.table_store.specs.ClusteredKeys.{HasClusteredKey}
use Rattle.base_script.specs.declared.statement.Set.{Set}
use Rattle.server_model.specs.declared.answer.Answer.{Answer}
use Rattle.server_model.specs.Checks.{has_columns, places_named, wanted_at, wanted_each}
use Rattle.server_model.specs.Checks.{key_from as server_key_from}
use Rattle.server_model.proofs.LockedRows.Tests.{are_one, same_number}
use Rattle.tool_program.specs.EventApplier.Appliers.{each_once, given_values}
use Rattle.tool_program.specs.EventApplier.Appliers as appliers
use Rattle.tool_program.specs.EventApplier.BatchPlans.{key_sets}
use Rattle.proof_journals.specs.Ghost.Rows.Moments.{Row}
use Rattle.proof_journals.specs.Ghost.Rows.Timelines.{IsPlanned, Migration, old_places}
use Rattle.proof_journals.specs.Ghost.HeldKeys.{Clustered}
use Rattle.proof_journals.proofs.Ghost.Keys.{clustered}
use Rattle.proof_journals.proofs.Ghost.Texts.{FindsKey, named_values}
use Rattle.proof_schemas.proofs.Alters.Apart.{names-apart}
use Rattle.proof_migration.specs.Migration.Applier.FoundColumns.{FindsRows, IsFrom}
use Rattle.proof_migration.proofs.Migration.Applier.Names.{HasColumn, key_named}
use Rattle.proof_migration.proofs.Migration.Applier.NamedOnce.{all_named, named_once, own_named, same_columns, same_position}

-- VALUES OF ROWS

-- what a row has at a column's place
pub record ValueAt (column : Column) (row : Row) (place : ℕ) : Type 0 where
  pub value : Value
  pub here : slice_get row place ≡ Some value
  pub stored : stores value column.kind column.nullable ≡ Ok value

pub value_of : (columns : List Column) (row : Row) (place : ℕ) (column : Column) → IsRow columns row → slice_get columns place ≡ Some column → ValueAt column row place
value_of [] row place column is there = absurd cc
value_of (first ∷ columns) [] place column is there = absurd is
value_of (first ∷ columns) (value ∷ row) zero column is there =
    let same : first ≡ column = cc in subst (λ (c : Column). ValueAt c (value ∷ row) zero) same (record { value = value; here = refl; stored = is.0 })
value_of (first ∷ columns) (value ∷ row) (suc place) column is there = let later = value_of columns row place column is.1 there in record { value = later.value; here = later.here; stored = later.stored }

-- a value of one sort is sought as it is
seeks_own : (value : Value) (kind new : Kind) → IsOfKind value kind → is_key_conversion kind new ≡ true → seeks value new ≡ Ok value
unfolding seeks
seeks_own (Num n) (Int bytes unsigned) (Int others too) is sort = refl
seeks_own (Text text) (VarChar limit) (VarChar other) is sort = refl
seeks_own (Blob blob) (VarBinary limit) (VarBinary other) is sort = refl
seeks_own (Num n) (Int bytes unsigned) (VarChar other) is sort = absurd cc
seeks_own (Num n) (Int bytes unsigned) (VarBinary other) is sort = absurd cc
seeks_own (Text text) (VarChar limit) (Int others too) is sort = absurd cc
seeks_own (Text text) (VarChar limit) (VarBinary other) is sort = absurd cc
seeks_own (Blob blob) (VarBinary limit) (Int others too) is sort = absurd cc
seeks_own (Blob blob) (VarBinary limit) (VarChar other) is sort = absurd cc
seeks_own value kind new is sort = absurd is

not_null_stores : (value : Value) (kind : Kind) (nullable : Bool) → not nullable ≡ true → stores value kind nullable ≡ Ok value → value ≢ Null
not_null_stores value kind true other stored null = absurd (let no : false ≡ true = other in cc)
not_null_stores value kind false other stored null = absurd (let no : false ≡ true = ((keeps value kind false Null (stored ∙ ap (λ (v : Value). Ok v) null)).null refl).1 in cc)

-- WHAT A KEY'S CONDITION SEEKS

module _ (m : Migration) (row : Row) (fits : IsRow m.schema.columns row) where
  -- the value of one of the key's columns, which is no null
  old_value : (place : ℕ) (from : IsFrom m place) → ValueAt from.source row from.before
  old_value place from = value_of m.schema.columns row from.before from.source fits from.there

  given_at : (place : ℕ) (from : IsFrom m place) → appliers.value_at (given_values m.columns row) place ≡ (old_value place from).value
  given_at place from =
      ap (λ (o : Option Value). unwrap_or o Null) (slice_get-map-some (λ (c : MapColumn). source c.origin row) m.columns place _ from.mapped) ∙ ap (λ (o : Option Value). unwrap_or o Null) (old_value place from).here

  wanted_of : (place : ℕ) (from : IsFrom m place) → is_not_null (slice_get m.schema.columns from.before) ≡ true → seeks (old_value place from).value from.column.kind ≡ Ok (old_value place from).value
  wanted_of place from full =
      let not_null : not from.source.nullable ≡ true = ap is_not_null (sym from.there) ∙ full in
      let some : (old_value place from).value ≢ Null = not_null_stores (old_value place from).value from.source.kind from.source.nullable not_null (old_value place from).stored in
      seeks_own (old_value place from).value from.source.kind from.column.kind ((keeps (old_value place from).value from.source.kind from.source.nullable (old_value place from).value (old_value place from).stored).of_kind some) from.same_sort

  places_one : (place : ℕ) (places : List ℕ) (from : IsFrom m place) → old_places m.columns (place ∷ places) ≡ from.before ∷ old_places m.columns places
  places_one place places from = rw from.mapped refl

  key_step : (place : ℕ) (places : List ℕ) (from : IsFrom m place) → key_of (old_places m.columns (place ∷ places)) row ≡ (old_value place from).value ∷ key_of (old_places m.columns places) row
  unfolding key_of
  key_step place places from = ap (λ (l : List ℕ). key_of l row) (places_one place places from) ∙ rw ((old_value place from).here) refl

  -- *The values given for a key are sought as the row's own*
  pub key_wanted : (places : List ℕ) → AllByRecursion (IsFrom m) places → AllByRecursion (λ place. is_not_null (slice_get m.schema.columns place) ≡ true) (old_places m.columns places)
      → wanted_each m.new places (map (λ (s : Set). s.value) (key_sets m.new m.columns row places)) ≡ Ok (key_of (old_places m.columns places) row)
  unfolding wanted_each key_of
  key_wanted [] all full = refl
  key_wanted (place ∷ places) all full =
      let from : IsFrom m place = all.0 in
      let both = subst (AllByRecursion (λ (p : ℕ). is_not_null (slice_get m.schema.columns p) ≡ true)) (places_one place places from) full in
      let here : wanted_at place (slice_get m.new.columns place) (Some (appliers.value_at (given_values m.columns row) place)) ≡ Ok (old_value place from).value = rw (from.here, given_at place from, wanted_of place from both.0) refl in
      rw (here, key_wanted places all.1 both.1) (ap (λ (k : Row). let r : Result Row Answer = Ok k in r) (sym (key_step place places from)))

  -- the key's values, place by place
  pub key_values : (places : List ℕ) → AllByRecursion (IsFrom m) places → key_of (old_places m.columns places) row ≡ map (λ (place : ℕ). appliers.value_at (given_values m.columns row) place) places
  unfolding key_of
  key_values [] all = refl
  key_values (place ∷ places) all = key_step place places all.0 ∙ ap (λ (v : Value). v ∷ key_of (old_places m.columns places) row) (sym (given_at place all.0)) ∙ ap (λ (k : Row). appliers.value_at (given_values m.columns row) place ∷ k) (key_values places all.1)

  -- the columns from which those that are named come may be null where none of the key's may
  pub full_named : (P : ℕ → Type 0) (places : List ℕ) → AllByRecursion (IsFrom m) places → AllByRecursion P (old_places m.columns places) → AllByRecursion P (old_places m.columns (each_once places))
  full_named P [] all full = tt
  full_named P (place ∷ places) all full = by (list_any (λ other. place == other) places) refl (full_named P places all.1 both.1)
    where
      both : P (all.0).before × AllByRecursion P (old_places m.columns places)
      both = subst (AllByRecursion P) (places_one place places all.0) full

      by : (again : Bool) → list_any (λ other. place == other) places ≡ again → AllByRecursion P (old_places m.columns (each_once places)) → AllByRecursion P (old_places m.columns (cond (list_any (λ other. place == other) places) (each_once places) (place ∷ each_once places)))
      by true twice rest = subst (λ (b : Bool). AllByRecursion P (old_places m.columns (cond b (each_once places) (place ∷ each_once places)))) (sym twice) rest
      by false one rest =
          subst (λ (b : Bool). AllByRecursion P (old_places m.columns (cond b (each_once places) (place ∷ each_once places)))) (sym one)
          (subst (AllByRecursion P) (sym (places_one place (each_once places) all.0)) (both.0, rest))

-- THE FIRST KEY OF THESE COLUMNS

-- where the first item that passes one test passes another, which none passes that fails the one, it is the first there too
first_alike : {X : Type 0} (test other : X → Bool) → ((x : X) → other x ≡ true → test x ≡ true) → (xs : List X) (x : X) → slice_get xs (position_or_len test xs) ≡ Some x → other x ≡ true → position_or_len other xs ≡ position_or_len test xs
first_alike test other each [] x there passes = absurd cc
first_alike test other each (first ∷ xs) x there passes = by (test first) refl (other first) refl there (λ is. first_alike test other each xs x is passes)
  where
    by : (a : Bool) → test first ≡ a → (b : Bool) → other first ≡ b → slice_get (first ∷ xs) (cond (not a) (1 + position_or_len test xs) 0) ≡ Some x → (slice_get xs (position_or_len test xs) ≡ Some x → position_or_len other xs ≡ position_or_len test xs)
        → cond (not (other first)) (1 + position_or_len other xs) 0 ≡ cond (not (test first)) (1 + position_or_len test xs) 0
    by true is true also here rest = rw (is, also) refl
    by true is false also here rest = let same : first ≡ x = cc in absurd (false≢true (sym also ∙ ap other same ∙ passes))
    by false is true also here rest = absurd (false≢true (sym is ∙ each first also))
    by false is false also here rest =
        let later : slice_get xs (position_or_len test xs) ≡ Some x = (let e : 1 + position_or_len test xs ≡ suc (position_or_len test xs) = omega arith in subst (λ (n : ℕ). slice_get (first ∷ xs) n ≡ Some x) e here) in
        rw (is, also) (ap (λ (n : ℕ). 1 + n) (rest later))

first_same : {X : Type 0} (test other : X → Bool) (xs : List X) (place : ℕ) (x : X) → ((y : X) → other y ≡ true → test y ≡ true) → position test xs ≡ Some place → slice_get xs place ≡ Some x → other x ≡ true → position other xs ≡ Some place
first_same test other xs place x each is there passes =
    let found = cond_some (ltb (position_or_len test xs) (length xs)) (position_or_len test xs) place is in
    let alike : position_or_len other xs ≡ place = first_alike test other each xs x (ap (slice_get xs) found.1 ∙ there) passes ∙ found.1 in
    let within : ltb place (length xs) ≡ true = ap (λ (n : ℕ). ltb n (length xs)) (sym found.1) ∙ found.0 in
    rw alike (rw within refl)

among_own : (more places : List ℕ) → ((place : ℕ) → list_any (λ other. place == other) places ≡ true → list_any (λ other. place == other) more ≡ true) → list_all (λ place. list_any (λ other. place == other) more) places ≡ true
among_own more [] each = refl
among_own more (place ∷ places) each =
    let here : list_any (λ other. place == other) more ≡ true = each place (rw (same_number place) refl) in
    rw (here, among_own more places (λ p is. each p (or_right (p == place) (list_any (λ other. p == other) places) is))) refl

-- a key has its own columns
has_own : (index : Index) → has_columns index.places index ≡ true
has_own index = rw (among_own index.places index.places (λ place is. is)) refl

-- a place among those of columns that may not be null
among_full : (columns : List Column) (all : List ℕ) (place : ℕ) → AllByRecursion (λ p. is_not_null (slice_get columns p) ≡ true) all → list_any (λ other. place == other) all ≡ true → is_not_null (slice_get columns place) ≡ true
among_full columns [] place fine is = absurd (false≢true is)
among_full columns (first ∷ all) place fine is = by (place == first) refl is (among_full columns all place fine.1)
  where
    by : (b : Bool) → (place == first) ≡ b → (b || list_any (λ other. place == other) all) ≡ true → (list_any (λ other. place == other) all ≡ true → is_not_null (slice_get columns place) ≡ true) → is_not_null (slice_get columns place) ≡ true
    by true same any rest = ap (λ (p : ℕ). is_not_null (slice_get columns p)) (are_one place first same) ∙ fine.0
    by false same any rest = rest any

each_full : (columns : List Column) (places own : List ℕ) → AllByRecursion (λ place. is_not_null (slice_get columns place) ≡ true) places → AllByRecursion (λ place. list_any (λ other. place == other) places ≡ true) own → list_all (λ place. is_not_null (slice_get columns place)) own ≡ true
each_full columns places [] full all = refl
each_full columns places (place ∷ own) full all = rw (among_full columns places place full all.0, each_full columns places own full all.1) refl

-- a key of columns that may not be null may cluster
clusters : (columns : List Column) (places : List ℕ) (index : Index) → AllByRecursion (λ place. is_not_null (slice_get columns place) ≡ true) places → has_columns places index ≡ true → may_cluster columns index ≡ true
clusters columns places index full has =
    let parts = and_parts (list_all (λ place. list_any (λ other. place == other) places) index.places) (list_all (λ place. list_any (λ other. place == other) index.places) places) has in
    or_right (is_none index.name) (list_all (λ place. is_not_null (slice_get columns place)) index.places) (each_full columns places index.places full (list_all-All (λ place. list_any (λ other. place == other) places) index.places parts.0))

pub key_first : (schema : Schema) (at : Clustered schema) → HasClusteredKey schema → position (has_columns (key_places schema)) schema.uniques ≡ Some at.place
unfolding clustered_among
key_first schema at has =
    first_same (may_cluster schema.columns) (has_columns (key_places schema)) schema.uniques at.place at.index (λ index is. clusters schema.columns (key_places schema) index has.not_null is) at.at at.there
    (subst (λ (places : List ℕ). has_columns places at.index ≡ true) (sym at.its) (has_own at.index))

-- THE KEY

module _ (m : Migration) (rows : List Row) (plan : IsPlanned m rows) (finds : FindsRows m) where
  abbrev pub new_at : Clustered m.new
  new_at = clustered m.new plan.new_key

  pub key_from : AllByRecursion (IsFrom m) (key_places m.new)
  key_from = subst (AllByRecursion (IsFrom m)) (sym new_at.its) (All-at (λ (index : Index). AllByRecursion (IsFrom m) index.places) m.new.uniques new_at.place new_at.index finds.keys new_at.there)

  has_column : (places : List ℕ) → AllByRecursion (IsFrom m) places → AllByRecursion (HasColumn m.new.columns) places
  has_column [] all = tt
  has_column (place ∷ places) all = ((all.0.column, all.0.here), has_column places all.1)

  -- the places of the key that a condition names
  abbrev pub named : List ℕ
  named = each_once (key_places m.new)

  named_from : AllByRecursion (IsFrom m) named
  named_from = all_named (IsFrom m) (key_places m.new) key_from

  pub names_found : (row : Row) → places_named m.new (map (λ (s : Set). s.column) (key_sets m.new m.columns row named)) ≡ Ok named
  names_found row = key_named m.new m.columns row named (names-apart m.new.columns finds.names) (has_column named named_from)

  pub finds_key : (row : Row) → FindsKey m.new new_at named (map (λ (s : Set). s.column) (key_sets m.new m.columns row named))
  finds_key row =
      record {
        places = names_found row;
        once = named_once (key_places m.new);
        first = same_position (has_columns named) (has_columns (key_places m.new)) (same_columns (key_places m.new)) m.new.uniques ∙ key_first m.new new_at plan.new_key;
      }

  -- what a condition by the key of a row compares with
  abbrev pub compared : Row → Row
  compared row = key_of (old_places m.columns named) row

  pub key_is_wanted : (row : Row) → IsRow m.schema.columns row → wanted_each m.new named (map (λ (s : Set). s.value) (key_sets m.new m.columns row named)) ≡ Ok (compared row)
  key_is_wanted row fits =
      key_wanted m row fits named named_from
      (full_named m row fits (λ (p : ℕ). is_not_null (slice_get m.schema.columns p) ≡ true) (key_places m.new) key_from (subst (AllByRecursion (λ (p : ℕ). is_not_null (slice_get m.schema.columns p) ≡ true)) (sym finds.clustered) plan.old_key.not_null))

  -- *The key's values* are those of its places, of which each is named
  pub key_is : (row : Row) → IsRow m.schema.columns row → server_key_from (key_places m.new) named (compared row) ≡ key_of (key_places m.schema) row
  key_is row fits =
      let value : ℕ → Value = λ (place : ℕ). appliers.value_at (given_values m.columns row) place in
      ap (server_key_from (key_places m.new) named) (key_values m row fits named named_from)
      ∙ named_values value (key_places m.new) named (own_named (key_places m.new))
      ∙ sym (key_values m row fits (key_places m.new) key_from)
      ∙ ap (λ (places : List ℕ). key_of places row) finds.clustered
