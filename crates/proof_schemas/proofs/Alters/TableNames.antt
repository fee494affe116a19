-- Each clause that is taken leaves the table its name.
use Rattle.std.proofs.Common.{◌≡◌, ℕ, Bool, true, List, [], ◌∷◌, length, Option, Some, None, Ok, unwrap_or, refl, subst, ◌∙◌}
use Rattle.std.specs.List.{remove}
use Rattle.base_values.specs.declared.gho_schema.schema.Column.{Column}
use Rattle.base_values.specs.GhoSchema.ClusteredKey.{clustered_place}
use Rattle.base_values.specs.declared.row_conversion.clause.Clause.{Clause}
use Rattle.base_values.specs.declared.row_conversion.clause.Clause.TheVariants.{Add, Drop, Rename, Change, AddIndex, DropIndex}
use Rattle.base_values.specs.declared.row_conversion.clause.NewColumn.{NewColumn}
use Rattle.base_values.specs.declared.row_conversion.clause.ColumnPosition.{ColumnPosition}
use Rattle.base_values.specs.SchemaRules.Results.{◌>>=◌}
use Rattle.base_values.specs.SchemaRules.Reasons.{first_reason}
use Rattle.sql_change.specs.declared.code.AlterCode.{AlterCode}
use Rattle.sql_change.specs.declared.code.AlterCode.TheVariants as codes
use Rattle.sql_change.specs.declared.so_far.AlteredSoFar.{AlteredSoFar}
use Rattle.sql_change.specs.AlteredSchema.{step, steps, result_reasons, map_of, result_of, altered}
use Rattle.sql_change.specs.ClauseResults.{add_reasons, added, dropped_at, dropped, rename_reasons, with_name, renamed_in, renamed_at, renamed, change_reasons, changed_nullable, changed_in, is_unapproved, unless_unapproved, changed_column, changed_at, changed}
use Rattle.sql_change.specs.Columns.{column_named, is_in_keys, column_position_place, column_of, fitting}
use Rattle.sql_change.specs.IndexClauses.{index_name, index_reasons, index_of, with_index, indexed_as, indexed, index_place, is_clustered, without_unique, without_index, unindexed_at, unindexed}
use Rattle.sql_change.specs.AlteredSoFar.{with_columns, start, put_in, taken_out, moved_to, origin_at}
use Rattle.base_values.proofs.SchemaRules.Steps.{bind_ok, unless_ok, ok_is, kept_out}
use Rattle.sql_change.proofs.Tables.{fitting-is, approved-is}
use Rattle.proof_schemas.specs.Alters.Laws.{Altered, AlteredTablesKeepNames}

-- the table has this name
abbrev Has : List ℕ → AlteredSoFar → Type 0
Has name standing = standing.schema.name ≡ name

module _ (name : List ℕ) where
  put_in-has : (standing : AlteredSoFar) (at : ℕ) (column : Column) → Has name standing → Has name (put_in standing at column)
  unfolding put_in with_columns
  put_in-has standing at column has = has

  taken_out-has : (standing : AlteredSoFar) (at : ℕ) → Has name standing → Has name (taken_out standing at)
  unfolding taken_out with_columns
  taken_out-has standing at has = has

  moved_to-has : (standing : AlteredSoFar) (from to : ℕ) (column : Column) → Has name standing → Has name (moved_to standing from to column)
  unfolding moved_to with_columns
  moved_to-has standing from to column has = has

  renamed_in-has : (standing : AlteredSoFar) (place : ℕ) (column : Column) → Has name standing → Has name (renamed_in standing place column)
  unfolding renamed_in
  renamed_in-has standing place column has = has

  added-has : (standing next : AlteredSoFar) (written : NewColumn) (column_position : ColumnPosition) → Has name standing → added standing written column_position ≡ Ok next → Has name next
  unfolding added
  added-has standing next written column_position has e =
      let columns = standing.schema.columns in
      let place = column_position_place columns column_position (length columns) in
      let let_in = unless_ok (first_reason (add_reasons columns written column_position)) (column_of None written (unwrap_or written.nullable true) >>= λ column. fitting (put_in standing place column)) next e in
      let made = bind_ok (column_of None written (unwrap_or written.nullable true)) (λ column. fitting (put_in standing place column)) next let_in.1 in
      subst (Has name) (fitting-is (put_in standing place made.0) next made.2) (put_in-has standing place made.0 has)

  dropped_at-has : (standing next : AlteredSoFar) (found : Option (ℕ × Column)) → Has name standing → dropped_at standing found ≡ Ok next → Has name next
  dropped_at-has standing next None has e = absurd cc
  dropped_at-has standing next (Some found) has e = subst (Has name) (kept_out (is_in_keys standing.schema.uniques found.0) (taken_out standing found.0) next codes.KeyColumnDropped e).1 (taken_out-has standing found.0 has)

  renamed_at-has : (approve : Bool) (standing next : AlteredSoFar) (new : List ℕ) (found : Option (ℕ × Column)) → Has name standing → renamed_at approve standing new found ≡ Ok next → Has name next
  renamed_at-has approve standing next new None has e = absurd cc
  renamed_at-has approve standing next new (Some found) has e =
      let let_in = unless_ok (first_reason (rename_reasons approve standing.schema.columns found.0 found.1.name new)) (Ok (renamed_in standing found.0 (with_name found.1 new))) next e in
      subst (Has name) (ok_is {C = AlterCode} (renamed_in standing found.0 (with_name found.1 new)) next let_in.1) (renamed_in-has standing found.0 (with_name found.1 new) has)

  changed_at-has : (approve : Bool) (standing next : AlteredSoFar) (written : NewColumn) (column_position : ColumnPosition) (found : Option (ℕ × Column)) → Has name standing → changed_at approve standing written column_position found ≡ Ok next → Has name next
  changed_at-has approve standing next written column_position None has e = absurd cc
  changed_at-has approve standing next written column_position (Some found) has e =
      let place = found.0 in
      let to = column_position_place (remove standing.schema.columns place) column_position place in
      let let_in = unless_ok (first_reason (change_reasons standing.schema place found.1 written column_position)) (changed_column approve standing place found.1 written column_position) next e in
      let made = bind_ok (column_of (origin_at standing place) written (changed_nullable standing.schema place written)) (λ new. (fitting (changed_in standing place column_position new) >>= λ changed. unless_unapproved (is_unapproved approve found.1.name written.name) changed)) next let_in.1 in
      let fit = bind_ok (fitting (changed_in standing place column_position made.0)) (λ changed. unless_unapproved (is_unapproved approve found.1.name written.name) changed) next made.2 in
      let is = fitting-is (changed_in standing place column_position made.0) fit.0 fit.1 ∙ approved-is (is_unapproved approve found.1.name written.name) fit.0 next fit.2 in
      subst (Has name) is (moved_to-has standing place to made.0 has)

  indexed_as-has : (standing next : AlteredSoFar) (names : List (List ℕ)) (index : List ℕ) → Has name standing → indexed_as standing names index ≡ Ok next → Has name next
  indexed_as-has standing next names index has e =
      let made = with_index standing (index_of standing.schema names index) in
      let let_in = unless_ok (first_reason (index_reasons standing.schema names index)) (Ok made) next e in
      subst (Has name) (ok_is {C = AlterCode} made next let_in.1) has

  unindexed_at-has : (standing next : AlteredSoFar) (unique index : Option ℕ) → Has name standing → unindexed_at standing unique index ≡ Ok next → Has name next
  unindexed_at-has standing next (Some place) index has e =
      subst (Has name) (kept_out (is_clustered (clustered_place standing.schema) place) (without_unique standing place) next codes.ClusteredKeyChange e).1 has
  unindexed_at-has standing next None (Some place) has e = subst (Has name) (ok_is {C = AlterCode} (without_index standing place) next e) has
  unindexed_at-has standing next None None has e = absurd cc

  step-has : (approve : Bool) (standing next : AlteredSoFar) (clause : Clause) → Has name standing → step approve standing clause ≡ Ok next → Has name next
  unfolding step dropped renamed changed indexed unindexed
  step-has approve standing next (Add column column_position) has e = added-has standing next column column_position has e
  step-has approve standing next (Drop column) has e = dropped_at-has standing next (column_named standing.schema.columns column) has e
  step-has approve standing next (Rename before new) has e = renamed_at-has approve standing next new (column_named standing.schema.columns before) has e
  step-has approve standing next (Change before column column_position) has e = changed_at-has approve standing next column column_position (column_named standing.schema.columns before) has e
  step-has approve standing next (AddIndex index columns) has e = indexed_as-has standing next columns (index_name standing.schema columns index) has e
  step-has approve standing next (DropIndex index) has e = unindexed_at-has standing next (index_place standing.schema.uniques index) (index_place standing.schema.indexes index) has e

  steps-has : (approve : Bool) (standing next : AlteredSoFar) (clauses : List Clause) → Has name standing → steps approve standing clauses ≡ Ok next → Has name next
  unfolding steps
  steps-has approve standing next [] has e = subst (Has name) (ok_is {C = AlterCode} standing next e) has
  steps-has approve standing next (clause ∷ clauses) has e =
      let b = bind_ok (step approve standing clause) (λ s. steps approve s clauses) next e in
      steps-has approve b.0 next clauses (step-has approve standing b.0 clause has b.1) b.2

pub keep_names : AlteredTablesKeepNames
unfolding altered
keep_names approve schema clauses new e =
    let b = bind_ok (steps approve (start schema) clauses) (result_of schema) new e in
    let made : Altered = (b.0.schema, map_of b.0.schema.columns b.0.origins) in
    let r = unless_ok (first_reason (result_reasons schema b.0)) (Ok made) new b.2 in
    subst (λ (n : Altered). n.0.name ≡ schema.name) (ok_is {C = AlterCode} made new r.1) (steps-has schema.name approve (start schema) b.0 clauses refl b.1)
