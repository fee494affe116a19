-- A table stands after each clause that is taken.
use Rattle.std.proofs.Common.{◌≡◌, ℕ, suc, ◌+◌, ◌-◌, ◌<◌, ◌≤◌, Bool, true, false, not, ◌||◌, leb, List, [], ◌∷◌, length, Option, Some, None, Ok, refl, sym, ap, subst, ◌∙◌, arith, unwrap_or}
use Rattle.std.specs.Prelude.{slice_set}
use Rattle.std.specs.List.{insert, remove, AllByRecursion}
use Rattle.std.proofs.lemmas.Bool.{leb-false, or_parts}
use Rattle.std.proofs.lemmas.List.{length-set}
use Rattle.std.proofs.lemmas.List.Edits.{length-insert, length-remove}
use Rattle.base_values.specs.declared.gho_schema.schema.Column.{Column}
use Rattle.base_values.specs.declared.gho_schema.schema.Index.{Index}
use Rattle.base_values.specs.declared.gho_schema.schema.Schema.{Schema}
use Rattle.base_values.specs.GhoSchema.Names.{same_name}
use Rattle.base_values.specs.declared.row_conversion.clause.Clause.{Clause}
use Rattle.base_values.specs.declared.row_conversion.clause.Clause.TheVariants.{Add, Drop, Rename, Change, AddIndex, DropIndex}
use Rattle.base_values.specs.declared.row_conversion.clause.NewColumn.{NewColumn}
use Rattle.base_values.specs.declared.row_conversion.clause.ColumnPosition.{ColumnPosition}
use Rattle.base_values.specs.declared.row_conversion.clause.ColumnPosition.TheVariants.{Unsaid, First, After}
use Rattle.base_values.specs.SchemaRules.Results.{◌>>=◌}
use Rattle.base_values.specs.GhoSchema.ClusteredKey.{clustered_place}
use Rattle.base_values.specs.SchemaRules.Reasons.{first_reason}
use Rattle.base_values.specs.SchemaRules.Defaults.{defaults_fit}
use Rattle.base_values.specs.SchemaRules.Valid.{IsKey, IsValid}
use Rattle.base_values.specs.SchemaRules.Limits.{is_column_name}
use Rattle.sql_change.specs.declared.code.AlterCode.{AlterCode}
use Rattle.sql_change.specs.declared.code.AlterCode.TheVariants as codes
use Rattle.sql_change.specs.declared.places.PlaceChange.TheVariants.{Added, Dropped, Moved}
use Rattle.sql_change.specs.declared.so_far.AlteredSoFar.{AlteredSoFar}
use Rattle.sql_change.specs.AlteredSchema.{step}
use Rattle.sql_change.specs.ClauseResults.{add_reasons, added, dropped_at, dropped, rename_reasons, with_name, renamed_in, renamed_at, renamed, change_reasons, changed_nullable, changed_in, is_unapproved, unless_unapproved, changed_column, changed_at, changed}
use Rattle.sql_change.specs.Columns.{column_place, has_column, beside, found_at, column_named, is_in_keys, is_column_position, following, column_position_place, column_of, fitting}
use Rattle.sql_change.specs.IndexClauses.{index_name, index_reasons, index_of, with_index, indexed_as, indexed, index_place, is_clustered, without_unique, without_index, unindexed_at, unindexed}
use Rattle.sql_change.specs.Places.{keys_after, indexes_after, ArePlaces}
use Rattle.sql_change.specs.AlteredSoFar.{places_from, start, with_columns, put_in, taken_out, origin_at, moved_to, Stands}
use Rattle.base_values.proofs.SchemaRules.Lists.{All-filter_map, All-append, All-remove, position-within}
use Rattle.sql_change.proofs.KeyPlaces.{keys_after-within, indexes_after-within}
use Rattle.base_values.proofs.SchemaRules.Steps.{bind_ok, unless_ok, none_first, ok_is, let_through, kept_out}

-- ---- found columns

column_place-within : (columns : List Column) (name : List ℕ) (place : ℕ) → column_place columns name ≡ Some place → place < length columns
unfolding column_place
column_place-within columns name place e = position-within (λ column. same_name column.name name) columns place e

beside-is : (place : ℕ) (o : Option Column) (found : ℕ × Column) → beside place o ≡ Some found → (place ≡ found.0) × (o ≡ Some found.1)
beside-is place (Some column) found e = let is : (place, column) ≡ found = cc in (ap (λ (f : ℕ × Column). f.0) is, ap (λ (f : ℕ × Column). Some f.1) is)
beside-is place None found e = absurd cc

found_at-within : (columns : List Column) (o : Option ℕ) (found : ℕ × Column) → ((place : ℕ) → o ≡ Some place → place < length columns) → found_at columns o ≡ Some found → found.0 < length columns
found_at-within columns (Some place) found within e = subst (λ (n : ℕ). n < length columns) (beside-is place _ found e).0 (within place refl)
found_at-within columns None found within e = absurd cc

pub column_named-within : (columns : List Column) (name : List ℕ) (found : ℕ × Column) → column_named columns name ≡ Some found → found.0 < length columns
unfolding column_named
column_named-within columns name found e = found_at-within columns (column_place columns name) found (column_place-within columns name) e

following-within : (count : ℕ) (o : Option ℕ) → ((place : ℕ) → o ≡ Some place → place < count) → following o ≤ count
following-within count (Some place) within = let lt : place < count = within place refl in omega arith
following-within count None within = omega arith

pub column_position_place-within : (columns : List Column) (column_position : ColumnPosition) (place : ℕ) → place ≤ length columns → column_position_place columns column_position place ≤ length columns
unfolding column_position_place
column_position_place-within columns Unsaid place le = le
column_position_place-within columns First place le = omega arith
column_position_place-within columns (After name) place le = following-within (length columns) (column_place columns name) (column_place-within columns name)

-- ---- the changes

put_in-stands : (standing : AlteredSoFar) (at : ℕ) (column : Column) → Stands standing → length standing.schema.columns < 64 → at ≤ length standing.schema.columns → Stands (put_in standing at column)
unfolding put_in with_columns
put_in-stands standing at column stands few le =
    let count = length standing.schema.columns in
    let columns : length (insert standing.schema.columns at column) ≡ count + 1 = length-insert standing.schema.columns at column le in
    let origins : length (insert standing.origins at None) ≡ length standing.origins + 1 = length-insert standing.origins at None (omega (arith, stands.origins)) in
    record {
      few = omega arith;
      origins = omega (arith, stands.origins);
      uniques = subst (λ (n : ℕ). ArePlaces n (keys_after (Added at) standing.schema.uniques)) (sym columns) (keys_after-within (Added at) count standing.schema.uniques tt stands.uniques);
      indexes = subst (λ (n : ℕ). ArePlaces n (indexes_after (Added at) standing.schema.indexes)) (sym columns) (indexes_after-within (Added at) count standing.schema.indexes tt stands.indexes);
    }

taken_out-stands : (standing : AlteredSoFar) (at : ℕ) → Stands standing → at < length standing.schema.columns → Stands (taken_out standing at)
unfolding taken_out with_columns
taken_out-stands standing at stands lt =
    let count = length standing.schema.columns in
    let columns : length (remove standing.schema.columns at) + 1 ≡ count = length-remove standing.schema.columns at lt in
    let origins : length (remove standing.origins at) + 1 ≡ length standing.origins = length-remove standing.origins at (omega (arith, stands.origins)) in
    let less : count - 1 ≡ length (remove standing.schema.columns at) = omega arith in
    record {
      few = omega (arith, stands.few);
      origins = omega (arith, stands.origins);
      uniques = subst (λ (n : ℕ). ArePlaces n (keys_after (Dropped at) standing.schema.uniques)) less (keys_after-within (Dropped at) count standing.schema.uniques lt stands.uniques);
      indexes = subst (λ (n : ℕ). ArePlaces n (indexes_after (Dropped at) standing.schema.indexes)) less (indexes_after-within (Dropped at) count standing.schema.indexes lt stands.indexes);
    }

moved_to-stands : (standing : AlteredSoFar) (from to : ℕ) (column : Column) → Stands standing → from < length standing.schema.columns → to < length standing.schema.columns → Stands (moved_to standing from to column)
unfolding moved_to with_columns
moved_to-stands standing from to column stands lt within =
    let count = length standing.schema.columns in
    let others : length (remove standing.schema.columns from) + 1 ≡ count = length-remove standing.schema.columns from lt in
    let columns : length (insert (remove standing.schema.columns from) to column) ≡ length (remove standing.schema.columns from) + 1 = length-insert (remove standing.schema.columns from) to column (omega arith) in
    let other_origins : length (remove standing.origins from) + 1 ≡ length standing.origins = length-remove standing.origins from (omega (arith, stands.origins)) in
    let origins : length (insert (remove standing.origins from) to (origin_at standing from)) ≡ length (remove standing.origins from) + 1 = length-insert (remove standing.origins from) to (origin_at standing from) (omega (arith, stands.origins)) in
    let same : count ≡ length (insert (remove standing.schema.columns from) to column) = omega arith in
    record {
      few = omega (arith, stands.few);
      origins = omega (arith, stands.origins);
      uniques = subst (λ (n : ℕ). ArePlaces n (keys_after (Moved from to) standing.schema.uniques)) same (keys_after-within (Moved from to) count standing.schema.uniques (lt, within) stands.uniques);
      indexes = subst (λ (n : ℕ). ArePlaces n (indexes_after (Moved from to) standing.schema.indexes)) same (indexes_after-within (Moved from to) count standing.schema.indexes (lt, within) stands.indexes);
    }

renamed_in-stands : (standing : AlteredSoFar) (place : ℕ) (column : Column) → Stands standing → Stands (renamed_in standing place column)
unfolding renamed_in
renamed_in-stands standing place column stands =
    let same : length standing.schema.columns ≡ length (slice_set standing.schema.columns place column) = sym (length-set standing.schema.columns place column) in
    record {
      few = omega (arith, stands.few, same);
      origins = omega (arith, stands.origins, same);
      uniques = subst (λ (n : ℕ). ArePlaces n standing.schema.uniques) same stands.uniques;
      indexes = subst (λ (n : ℕ). ArePlaces n standing.schema.indexes) same stands.indexes;
    }

-- ---- the clauses

pub fitting-is : (standing next : AlteredSoFar) → fitting standing ≡ Ok next → standing ≡ next
fitting-is standing next e = (let_through (defaults_fit standing.schema.columns) standing next codes.Default e).1

pub few_enough : (columns : List Column) (written : NewColumn) (column_position : ColumnPosition) → first_reason (add_reasons columns written column_position) ≡ None → length columns < 64
few_enough columns written column_position none =
    let limit = leb 64 (length columns) || not (is_column_name written.name) || written.auto in
    let second = none_first (not (is_column_position columns column_position)) codes.UnknownName ((has_column columns written.name, codes.RepeatedName) ∷ (limit, codes.Scope) ∷ []) none in
    let third = none_first (has_column columns written.name) codes.RepeatedName ((limit, codes.Scope) ∷ []) second.1 in
    let here = none_first limit codes.Scope [] third.1 in
    leb-false 64 (length columns) ((or_parts (leb 64 (length columns)) (not (is_column_name written.name)) (or_parts (leb 64 (length columns) || not (is_column_name written.name)) written.auto here.0).0).0)

added-stands : (standing next : AlteredSoFar) (written : NewColumn) (column_position : ColumnPosition) → Stands standing → added standing written column_position ≡ Ok next → Stands next
unfolding added
added-stands standing next written column_position stands e =
    let columns = standing.schema.columns in
    let place = column_position_place columns column_position (length columns) in
    let let_in = unless_ok (first_reason (add_reasons columns written column_position)) (column_of None written (unwrap_or written.nullable true) >>= λ column. fitting (put_in standing place column)) next e in
    let made = bind_ok (column_of None written (unwrap_or written.nullable true)) (λ column. fitting (put_in standing place column)) next let_in.1 in
    subst Stands (fitting-is (put_in standing place made.0) next made.2) (put_in-stands standing place made.0 stands (few_enough columns written column_position let_in.0) (column_position_place-within columns column_position (length columns) (omega arith)))

dropped_at-stands : (standing next : AlteredSoFar) (found : Option (ℕ × Column)) → ((f : ℕ × Column) → found ≡ Some f → f.0 < length standing.schema.columns) → Stands standing → dropped_at standing found ≡ Ok next → Stands next
dropped_at-stands standing next None within stands e = absurd cc
dropped_at-stands standing next (Some found) within stands e =
    subst Stands (kept_out (is_in_keys standing.schema.uniques found.0) (taken_out standing found.0) next codes.KeyColumnDropped e).1 (taken_out-stands standing found.0 stands (within found refl))

renamed_at-stands : (approve : Bool) (standing next : AlteredSoFar) (new : List ℕ) (found : Option (ℕ × Column)) → Stands standing → renamed_at approve standing new found ≡ Ok next → Stands next
renamed_at-stands approve standing next new None stands e = absurd cc
renamed_at-stands approve standing next new (Some found) stands e =
    let let_in = unless_ok (first_reason (rename_reasons approve standing.schema.columns found.0 found.1.name new)) (Ok (renamed_in standing found.0 (with_name found.1 new))) next e in
    subst Stands (ok_is {C = AlterCode} (renamed_in standing found.0 (with_name found.1 new)) next let_in.1) (renamed_in-stands standing found.0 (with_name found.1 new) stands)

pub approved-is : (b : Bool) (standing next : AlteredSoFar) → unless_unapproved b standing ≡ Ok next → standing ≡ next
approved-is true standing next e = absurd cc
approved-is false standing next e = cc

changed_at-stands : (approve : Bool) (standing next : AlteredSoFar) (written : NewColumn) (column_position : ColumnPosition) (found : Option (ℕ × Column)) → ((f : ℕ × Column) → found ≡ Some f → f.0 < length standing.schema.columns) → Stands standing
    → changed_at approve standing written column_position found ≡ Ok next → Stands next
changed_at-stands approve standing next written column_position None within stands e = absurd cc
changed_at-stands approve standing next written column_position (Some found) within stands e =
    let place = found.0 in
    let lt = within found refl in
    let others = remove standing.schema.columns place in
    let to = column_position_place others column_position place in
    let fewer : length others + 1 ≡ length standing.schema.columns = length-remove standing.schema.columns place lt in
    let to_within : to ≤ length others = column_position_place-within others column_position place (omega arith) in
    let let_in = unless_ok (first_reason (change_reasons standing.schema place found.1 written column_position)) (changed_column approve standing place found.1 written column_position) next e in
    let made = bind_ok (column_of (origin_at standing place) written (changed_nullable standing.schema place written)) (λ new. (fitting (changed_in standing place column_position new) >>= λ changed. unless_unapproved (is_unapproved approve found.1.name written.name) changed)) next let_in.1 in
    let fit = bind_ok (fitting (changed_in standing place column_position made.0)) (λ changed. unless_unapproved (is_unapproved approve found.1.name written.name) changed) next made.2 in
    let is = fitting-is (changed_in standing place column_position made.0) fit.0 fit.1 ∙ approved-is (is_unapproved approve found.1.name written.name) fit.0 next fit.2 in
    subst Stands is (moved_to-stands standing place to made.0 stands lt (omega arith))

anything : (names : List (List ℕ)) → AllByRecursion (λ (n : List ℕ). Unit {0}) names
anything [] = tt
anything (name ∷ names) = (tt, anything names)

indexed_as-stands : (standing next : AlteredSoFar) (names : List (List ℕ)) (name : List ℕ) → Stands standing → indexed_as standing names name ≡ Ok next → Stands next
indexed_as-stands standing next names name stands e =
    let columns = standing.schema.columns in
    let index = index_of standing.schema names name in
    let let_in = unless_ok (first_reason (index_reasons standing.schema names name)) (Ok (with_index standing index)) next e in
    let places : AllByRecursion (λ place. place < length columns) index.places = All-filter_map (λ (n : List ℕ). Unit {0}) (λ (place : ℕ). place < length columns) (column_place columns) (λ n place u found. column_place-within columns n place found) names (anything names) in
    subst Stands (ok_is {C = AlterCode} (with_index standing index) next let_in.1) (record {
      few = stands.few;
      origins = stands.origins;
      uniques = stands.uniques;
      indexes = All-append (λ (i : Index). AllByRecursion (λ place. place < length columns) i.places) standing.schema.indexes (index ∷ []) stands.indexes (places, tt);
    })

unindexed_at-stands : (standing next : AlteredSoFar) (unique index : Option ℕ) → Stands standing → unindexed_at standing unique index ≡ Ok next → Stands next
unindexed_at-stands standing next (Some place) index stands e =
    subst Stands (kept_out (is_clustered (clustered_place standing.schema) place) (without_unique standing place) next codes.ClusteredKeyChange e).1 (record {
      few = stands.few;
      origins = stands.origins;
      uniques = All-remove (λ (i : Index). AllByRecursion (λ place. place < length standing.schema.columns) i.places) standing.schema.uniques place stands.uniques;
      indexes = stands.indexes;
    })
unindexed_at-stands standing next None (Some place) stands e =
    subst Stands (ok_is {C = AlterCode} (without_index standing place) next e) (record {
      few = stands.few;
      origins = stands.origins;
      uniques = stands.uniques;
      indexes = All-remove (λ (i : Index). AllByRecursion (λ place. place < length standing.schema.columns) i.places) standing.schema.indexes place stands.indexes;
    })
unindexed_at-stands standing next None None stands e = absurd cc

pub step-stands : (approve : Bool) (standing next : AlteredSoFar) (clause : Clause) → Stands standing → step approve standing clause ≡ Ok next → Stands next
unfolding step dropped renamed changed indexed unindexed
step-stands approve standing next (Add column column_position) stands e = added-stands standing next column column_position stands e
step-stands approve standing next (Drop name) stands e = dropped_at-stands standing next (column_named standing.schema.columns name) (column_named-within standing.schema.columns name) stands e
step-stands approve standing next (Rename old new) stands e = renamed_at-stands approve standing next new (column_named standing.schema.columns old) stands e
step-stands approve standing next (Change old column column_position) stands e = changed_at-stands approve standing next column column_position (column_named standing.schema.columns old) (column_named-within standing.schema.columns old) stands e
step-stands approve standing next (AddIndex name columns) stands e = indexed_as-stands standing next columns (index_name standing.schema columns name) stands e
step-stands approve standing next (DropIndex name) stands e = unindexed_at-stands standing next (index_place standing.schema.uniques name) (index_place standing.schema.indexes name) stands e

-- ---- the start

length-places_from : (place : ℕ) (columns : List Column) → length (places_from place columns) ≡ length columns
unfolding places_from
length-places_from place [] = refl
length-places_from place (column ∷ columns) = ap suc (length-places_from (place + 1) columns)

are_places : (count : ℕ) (indexes : List Index) → AllByRecursion (IsKey count) indexes → ArePlaces count indexes
are_places count [] all = tt
are_places count (index ∷ indexes) all = (all.0.within, are_places count indexes all.1)

pub start-stands : (schema : Schema) → IsValid schema → Stands (start schema)
start-stands schema valid = record {
  few = valid.few;
  origins = length-places_from 0 schema.columns;
  uniques = are_places (length schema.columns) schema.uniques valid.uniques;
  indexes = are_places (length schema.columns) schema.indexes valid.indexes;
}
