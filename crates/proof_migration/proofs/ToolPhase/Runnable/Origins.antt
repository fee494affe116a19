-- The map of an ALTER that is taken is of the old columns and of the new ones.
use Rattle.std.proofs.Common.{◌≡◌, ℕ, zero, suc, ◌+◌, ◌<◌, ◌≤◌, Bool, true, List, [], ◌∷◌, length, Option, Some, None, Ok, unwrap_or, refl, subst, ◌∙◌, arith}
use Rattle.std.specs.List.{insert, remove, slice_get, AllByRecursion}
use Rattle.base_values.specs.declared.value.Value.{Value}
use Rattle.base_values.specs.declared.gho_schema.schema.Column.{Column}
use Rattle.base_values.specs.declared.gho_schema.schema.Schema.{Schema}
use Rattle.base_values.specs.declared.row_conversion.clause.Clause.{Clause}
use Rattle.base_values.specs.declared.row_conversion.clause.Clause.TheVariants.{Add, Drop, Rename, Change, AddIndex, DropIndex}
use Rattle.base_values.specs.declared.row_conversion.clause.NewColumn.{NewColumn}
use Rattle.base_values.specs.declared.row_conversion.clause.ColumnPosition.{ColumnPosition}
use Rattle.base_values.specs.SchemaRules.Results.{◌>>=◌}
use Rattle.base_values.specs.SchemaRules.Reasons.{first_reason}
use Rattle.base_values.specs.SchemaRules.Valid.{IsValid}
use Rattle.base_values.proofs.SchemaRules.Lists.{All-remove, All-at}
use Rattle.base_values.proofs.SchemaRules.Steps.{bind_ok, unless_ok, ok_is, kept_out}
use Rattle.sql_change.specs.declared.code.AlterCode.{AlterCode}
use Rattle.sql_change.specs.declared.code.AlterCode.TheVariants as codes
use Rattle.sql_change.specs.declared.so_far.AlteredSoFar.{AlteredSoFar}
use Rattle.sql_change.specs.AlteredSchema.{step, steps, source_of, map_of, result_of, result_reasons, altered}
use Rattle.sql_change.specs.ClauseResults.{add_reasons, added, dropped_at, dropped, rename_reasons, with_name, renamed_in, renamed_at, renamed, change_reasons, changed_nullable, changed_in, is_unapproved, unless_unapproved, changed_column, changed_at, changed}
use Rattle.sql_change.specs.Columns.{column_named, is_in_keys, column_position_place, column_of, fitting}
use Rattle.sql_change.specs.IndexClauses.{index_name, index_reasons, index_of, with_index, indexed_as, indexed, index_place, is_clustered, without_unique, without_index, unindexed_at, unindexed}
use Rattle.sql_change.specs.AlteredSoFar.{places_from, start, put_in, taken_out, origin_of, origin_at, moved_to}
use Rattle.sql_change.proofs.Tables.{fitting-is, approved-is}
use Rattle.proof_schemas.proofs.Alters.Steps.{start-kept, steps-kept}
use Rattle.base_values.specs.GhoSchema.ClusteredKey.{clustered_place}
use Rattle.server_model.specs.Conditions.{IsOrigin, MapsInto, IsMapOf}
use Rattle.plan_data.specs.PlanData.{Altered}

-- WHERE COLUMNS COME FROM

-- a column comes from one of so many old ones, or is new
abbrev FromOld : ℕ → Option ℕ → Type 0
FromOld count None = Unit {0}
FromOld count (Some place) = place < count

abbrev AllFromOld : ℕ → AlteredSoFar → Type 0
AllFromOld count standing = AllByRecursion (FromOld count) standing.origins

all_insert : {X : Type 0} (P : X → Type 0) (xs : List X) (place : ℕ) (x : X) → AllByRecursion P xs → P x → AllByRecursion P (insert xs place x)
all_insert P xs zero x all now = (now, all)
all_insert P [] (suc place) x all now = (now, tt)
all_insert P (first ∷ xs) (suc place) x all now = (all.0, all_insert P xs place x all.1 now)

module _ (count : ℕ) where
  origin_from : (origins : List (Option ℕ)) (place : ℕ) → AllByRecursion (FromOld count) origins → (found : Option (Option ℕ)) → slice_get origins place ≡ found → FromOld count (origin_of found)
  origin_from origins place all (Some origin) at = All-at (FromOld count) origins place origin all at
  origin_from origins place all None at = tt

  put_in_from : (standing : AlteredSoFar) (place : ℕ) (column : Column) → AllFromOld count standing → AllFromOld count (put_in standing place column)
  unfolding put_in
  put_in_from standing place column all = all_insert (FromOld count) standing.origins place None all tt

  taken_out_from : (standing : AlteredSoFar) (place : ℕ) → AllFromOld count standing → AllFromOld count (taken_out standing place)
  unfolding taken_out
  taken_out_from standing place all = All-remove (FromOld count) standing.origins place all

  moved_from : (standing : AlteredSoFar) (from to : ℕ) (column : Column) → AllFromOld count standing → AllFromOld count (moved_to standing from to column)
  unfolding moved_to
  moved_from standing from to column all =
      all_insert (FromOld count) (remove standing.origins from) to (origin_at standing from) (All-remove (FromOld count) standing.origins from all) (origin_from standing.origins from all (slice_get standing.origins from) refl)

  -- THE CLAUSES

  added_from : (standing next : AlteredSoFar) (written : NewColumn) (column_position : ColumnPosition) → AllFromOld count standing → added standing written column_position ≡ Ok next → AllFromOld count next
  unfolding added
  added_from standing next written column_position all is =
      let columns = standing.schema.columns in
      let place = column_position_place columns column_position (length columns) in
      let let_in = unless_ok (first_reason (add_reasons columns written column_position)) (column_of None written (unwrap_or written.nullable true) >>= λ column. fitting (put_in standing place column)) next is in
      let made = bind_ok (column_of None written (unwrap_or written.nullable true)) (λ column. fitting (put_in standing place column)) next let_in.1 in
      subst (AllFromOld count) (fitting-is (put_in standing place made.0) next made.2) (put_in_from standing place made.0 all)

  dropped_from : (standing next : AlteredSoFar) (found : Option (ℕ × Column)) → AllFromOld count standing → dropped_at standing found ≡ Ok next → AllFromOld count next
  dropped_from standing next None all is = absurd cc
  dropped_from standing next (Some found) all is =
      let kept = kept_out (is_in_keys standing.schema.uniques found.0) (taken_out standing found.0) next codes.KeyColumnDropped is in
      subst (AllFromOld count) kept.1 (taken_out_from standing found.0 all)

  renamed_from : (approve : Bool) (standing next : AlteredSoFar) (new : List ℕ) (found : Option (ℕ × Column)) → AllFromOld count standing → renamed_at approve standing new found ≡ Ok next → AllFromOld count next
  unfolding renamed_in
  renamed_from approve standing next new None all is = absurd cc
  renamed_from approve standing next new (Some found) all is =
      let let_in = unless_ok (first_reason (rename_reasons approve standing.schema.columns found.0 found.1.name new)) (Ok (renamed_in standing found.0 (with_name found.1 new))) next is in
      subst (AllFromOld count) (ok_is {C = AlterCode} (renamed_in standing found.0 (with_name found.1 new)) next let_in.1) all

  changed_from : (approve : Bool) (standing next : AlteredSoFar) (written : NewColumn) (column_position : ColumnPosition) (found : Option (ℕ × Column)) → AllFromOld count standing → changed_at approve standing written column_position found ≡ Ok next → AllFromOld count next
  changed_from approve standing next written column_position None all is = absurd cc
  changed_from approve standing next written column_position (Some found) all is =
      let place = found.0 in
      let others = remove standing.schema.columns place in
      let to = column_position_place others column_position place in
      let let_in = unless_ok (first_reason (change_reasons standing.schema place found.1 written column_position)) (changed_column approve standing place found.1 written column_position) next is in
      let made = bind_ok (column_of (origin_at standing place) written (changed_nullable standing.schema place written)) (λ new. (fitting (changed_in standing place column_position new) >>= λ changed. unless_unapproved (is_unapproved approve found.1.name written.name) changed)) next let_in.1 in
      let fit = bind_ok (fitting (changed_in standing place column_position made.0)) (λ changed. unless_unapproved (is_unapproved approve found.1.name written.name) changed) next made.2 in
      let same = fitting-is (changed_in standing place column_position made.0) fit.0 fit.1 ∙ approved-is (is_unapproved approve found.1.name written.name) fit.0 next fit.2 in
      subst (AllFromOld count) same (moved_from standing place to made.0 all)

  indexed_from : (standing next : AlteredSoFar) (names : List (List ℕ)) (name : List ℕ) → AllFromOld count standing → indexed_as standing names name ≡ Ok next → AllFromOld count next
  indexed_from standing next names name all is =
      let index = index_of standing.schema names name in
      let let_in = unless_ok (first_reason (index_reasons standing.schema names name)) (Ok (with_index standing index)) next is in
      subst (AllFromOld count) (ok_is {C = AlterCode} (with_index standing index) next let_in.1) all

  unindexed_from : (standing next : AlteredSoFar) (unique index : Option ℕ) → AllFromOld count standing → unindexed_at standing unique index ≡ Ok next → AllFromOld count next
  unindexed_from standing next (Some place) index all is = subst (AllFromOld count) (kept_out (is_clustered (clustered_place standing.schema) place) (without_unique standing place) next codes.ClusteredKeyChange is).1 all
  unindexed_from standing next None (Some place) all is = subst (AllFromOld count) (ok_is {C = AlterCode} (without_index standing place) next is) all
  unindexed_from standing next None None all is = absurd cc

  step_from : (approve : Bool) (standing next : AlteredSoFar) (clause : Clause) → AllFromOld count standing → step approve standing clause ≡ Ok next → AllFromOld count next
  unfolding step dropped renamed changed indexed unindexed
  step_from approve standing next (Add column column_position) all is = added_from standing next column column_position all is
  step_from approve standing next (Drop name) all is = dropped_from standing next (column_named standing.schema.columns name) all is
  step_from approve standing next (Rename before new) all is = renamed_from approve standing next new (column_named standing.schema.columns before) all is
  step_from approve standing next (Change before column column_position) all is = changed_from approve standing next column column_position (column_named standing.schema.columns before) all is
  step_from approve standing next (AddIndex name columns) all is = indexed_from standing next columns (index_name standing.schema columns name) all is
  step_from approve standing next (DropIndex name) all is = unindexed_from standing next (index_place standing.schema.uniques name) (index_place standing.schema.indexes name) all is

  steps_from : (approve : Bool) (standing next : AlteredSoFar) (clauses : List Clause) → AllFromOld count standing → steps approve standing clauses ≡ Ok next → AllFromOld count next
  unfolding steps
  steps_from approve standing next [] all is = subst (AllFromOld count) (ok_is {C = AlterCode} standing next is) all
  steps_from approve standing next (clause ∷ clauses) all is =
      let first = bind_ok (step approve standing clause) (λ s. steps approve s clauses) next is in
      steps_from approve first.0 next clauses (step_from approve standing first.0 clause all first.1) first.2

places_are_old : (count from : ℕ) (columns : List Column) → from + length columns ≤ count → AllByRecursion (FromOld count) (places_from from columns)
unfolding places_from
places_are_old count from [] within = tt
places_are_old count from (column ∷ columns) within = (omega arith, places_are_old count (from + 1) columns (omega arith))

-- THE MAP

map_origins : (old : Schema) (columns : List Column) (origins : List (Option ℕ)) → AllByRecursion (FromOld (length old.columns)) origins → AllByRecursion (λ column. IsOrigin old column.origin) (map_of columns origins)
unfolding map_of
map_origins old [] [] all = tt
map_origins old [] (origin ∷ origins) all = tt
map_origins old (column ∷ columns) [] all = tt
map_origins old (column ∷ columns) (origin ∷ origins) all = (by origin column.default all.0, map_origins old columns origins all.1) where
  by : (origin : Option ℕ) (default : Option Value) → FromOld (length old.columns) origin → IsOrigin old (source_of origin default)
  by None default from = tt
  by (Some place) default from = from

map_into : (columns : List Column) (origins : List (Option ℕ)) → length origins ≡ length columns → MapsInto (map_of columns origins) columns
unfolding map_of
map_into [] [] same = tt
map_into [] (origin ∷ origins) same = tt
map_into (column ∷ columns) [] same = absurd (omega (arith, same))
map_into (column ∷ columns) (origin ∷ origins) same = (refl, refl, map_into columns origins (omega (arith, same)))

-- *The map is of the one table and of the other*
pub altered_is_mapped : (approve : Bool) (schema : Schema) (clauses : List Clause) (new : Altered) → IsValid schema → altered approve schema clauses ≡ Ok new → IsMapOf new.1 schema new.0
unfolding altered
altered_is_mapped approve schema clauses new valid is =
    let following = bind_ok (steps approve (start schema) clauses) (result_of schema) new is in
    let made : Altered = (following.0.schema, map_of following.0.schema.columns following.0.origins) in
    let taken = unless_ok (first_reason (result_reasons schema following.0)) (Ok made) new following.2 in
    let kept = steps-kept schema approve (start schema) following.0 clauses (start-kept schema valid) following.1 in
    let from = steps_from (length schema.columns) approve (start schema) following.0 clauses (places_are_old (length schema.columns) 0 schema.columns (omega arith)) following.1 in
    subst (λ (n : Altered). IsMapOf n.1 schema n.0) (ok_is {C = AlterCode} made new taken.1)
    (record { origins = map_origins schema following.0.schema.columns following.0.origins from; columns = map_into following.0.schema.columns following.0.origins kept.stands.origins })
