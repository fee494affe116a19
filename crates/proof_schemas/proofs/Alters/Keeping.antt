-- Each clause that is taken leaves columns that are lawful, of different names, and indexes with columns.
use Rattle.std.proofs.Common.{◌≡◌, ℕ, zero, suc, ◌<◌, Bool, true, false, not, ◌&&◌, ◌||◌, cond, eqb, leb, List, [], ◌∷◌, length, Option, Some, None, Ok, unwrap_or, refl, subst, ◌∙◌, arith}
use Rattle.std.specs.Prelude.{is_some, filter}
use Rattle.std.specs.List.{remove, list_all, filter_map, slice_get, AllByRecursion}
use Rattle.base_values.specs.declared.value.Value.{Value}
use Rattle.base_values.specs.Laws.{StoresAgain}
use Rattle.base_values.specs.declared.gho_schema.schema.Column.{Column}
use Rattle.base_values.specs.declared.gho_schema.schema.Index.{Index}
use Rattle.base_values.specs.declared.gho_schema.schema.Schema.{Schema}
use Rattle.base_values.specs.declared.row_conversion.clause.Clause.{Clause}
use Rattle.base_values.specs.declared.row_conversion.clause.Clause.TheVariants.{Add, Drop, Rename, Change, AddIndex, DropIndex}
use Rattle.base_values.specs.declared.row_conversion.clause.NewColumn.{NewColumn}
use Rattle.base_values.specs.declared.row_conversion.clause.ColumnPosition.{ColumnPosition}
use Rattle.base_values.specs.SchemaRules.Results.{◌>>=◌}
use Rattle.base_values.specs.GhoSchema.ClusteredKey.{clustered_place}
use Rattle.base_values.specs.SchemaRules.Reasons.{first_reason}
use Rattle.base_values.specs.SchemaRules.Defaults.{stored_default, default_or}
use Rattle.base_values.specs.SchemaRules.Names.{is_among}
use Rattle.base_values.specs.SchemaRules.Valid.{is_kind, StoresDefault, IsColumn}
use Rattle.base_values.specs.SchemaRules.Limits.{is_column_name}
use Rattle.proof_schemas.proofs.Columns.{made, default_stores}
use Rattle.base_values.proofs.SchemaRules.Lists.{All-at, list_all-All, All-append, All-remove}
use Rattle.sql_change.specs.declared.code.AlterCode.{AlterCode}
use Rattle.sql_change.specs.declared.code.AlterCode.TheVariants as codes
use Rattle.sql_change.specs.declared.places.PlaceChange.{PlaceChange}
use Rattle.sql_change.specs.declared.so_far.AlteredSoFar.{AlteredSoFar}
use Rattle.sql_change.specs.AlteredSchema.{step}
use Rattle.sql_change.specs.ClauseResults.{add_reasons, added, dropped_at, dropped, rename_reasons, with_name, renamed_in, renamed_at, renamed, change_reasons, changed_nullable, changed_in, is_unapproved, unless_unapproved, changed_column, changed_at, changed, breaks_counter}
use Rattle.sql_change.specs.Columns.{column_place, has_column, column_named, is_in_keys, is_key_conversion, is_conversion, is_column_position, column_position_place, lacks_default, unless_lacking, column_of, fitting}
use Rattle.sql_change.specs.IndexClauses.{key_names, index_name, are_columns, index_reasons, index_of, with_index, indexed_as, indexed, index_place, is_clustered, without_unique, without_index, unindexed_at, unindexed}
use Rattle.sql_change.specs.Places.{has_places, keys_after, indexes_after}
use Rattle.sql_change.specs.AlteredSoFar.{with_columns, put_in, taken_out, origin_at, moved_to}
use Rattle.base_values.proofs.SchemaRules.Steps.{bind_ok, unless_ok, none_first, ok_is, kept_out, default_is}
use Rattle.sql_change.proofs.Tables.{fitting-is, approved-is}
use Rattle.proof_schemas.specs.Alters.Laws.{IsClause}
use Rattle.proof_schemas.proofs.Alters.Apart.{IsNot, Apart, All-insert, All-taken, All-set, apart-insert, apart-remove, apart-set, no_column}
use Rattle.proof_schemas.proofs.Alters.Steps.{column_named-here, lacking-is}
use Rattle.std.proofs.lemmas.Bool.{and_parts, not-false}

-- the key has a column
abbrev pub HasPlaces : Index → Type 0
HasPlaces index = 0 < length index.places

-- columns that are lawful, of different names, and indexes with columns
pub record IsGood (schema : Schema) : Type 0 where
  pub columns : AllByRecursion IsColumn schema.columns
  pub apart : Apart schema.columns
  pub indexes : AllByRecursion HasPlaces schema.indexes

-- ---- the columns that clauses write

-- a column that a clause writes is lawful, and has the name that is written
pub record IsNew (written : NewColumn) (column : Column) : Type 0 where
  pub is : IsColumn column
  pub name : written.name ≡ column.name

column_of-new : StoresAgain → (origin : Option ℕ) (written : NewColumn) (nullable : Bool) (column : Column) → is_kind written.kind ≡ true → column_of origin written nullable ≡ Ok column → IsNew written column
unfolding column_of
column_of-new again origin written nullable column kind e =
    let b = bind_ok (default_or codes.Default (stored_default written.kind nullable written.default)) (λ default. unless_lacking (lacks_default origin nullable default) (made written.name written.kind nullable default written.auto)) column e in
    let stores = default_stores again written.name written.kind nullable written.auto written.default b.0 (default_is codes.Default (stored_default written.kind nullable written.default) b.0 b.1) in
    subst (IsNew written) (lacking-is (lacks_default origin nullable b.0) (made written.name written.kind nullable b.0 written.auto) column b.2) (record { is = record { kind = kind; default = stores }; name = refl })

-- ---- indexes

some_of : (n : ℕ) → eqb n 0 ≡ false → 0 < n
some_of zero e = absurd cc
some_of (suc n) e = omega arith

filter-places-by : (index : Index) (others : List Index) (b : Bool) → eqb (length index.places) 0 ≡ b → AllByRecursion HasPlaces others → AllByRecursion HasPlaces (cond (not b) (index ∷ others) others)
filter-places-by index others true e all = all
filter-places-by index others false e all = (some_of (length index.places) e, all)

filter-places : (indexes : List Index) → AllByRecursion HasPlaces (filter has_places indexes)
filter-places [] = tt
filter-places (index ∷ indexes) = filter-places-by index (filter has_places indexes) (eqb (length index.places) 0) refl (filter-places indexes)

after-places : (change : PlaceChange) (indexes : List Index) → AllByRecursion HasPlaces (indexes_after change indexes)
after-places change indexes = filter-places (keys_after change indexes)

-- ---- the changes

put_in-good : (standing : AlteredSoFar) (at : ℕ) (column : Column) → IsColumn column → AllByRecursion (IsNot column.name) standing.schema.columns → IsGood standing.schema → IsGood (put_in standing at column).schema
unfolding put_in with_columns
put_in-good standing at column is other good = record {
  columns = All-insert IsColumn standing.schema.columns at column is good.columns;
  apart = apart-insert standing.schema.columns at column other good.apart;
  indexes = after-places _ standing.schema.indexes;
}

taken_out-good : (standing : AlteredSoFar) (at : ℕ) → IsGood standing.schema → IsGood (taken_out standing at).schema
unfolding taken_out with_columns
taken_out-good standing at good = record {
  columns = All-taken IsColumn standing.schema.columns at good.columns;
  apart = apart-remove standing.schema.columns at good.apart;
  indexes = after-places _ standing.schema.indexes;
}

moved_to-good : (standing : AlteredSoFar) (from to : ℕ) (column : Column) → IsColumn column → AllByRecursion (IsNot column.name) (remove standing.schema.columns from) → IsGood standing.schema → IsGood (moved_to standing from to column).schema
unfolding moved_to with_columns
moved_to-good standing from to column is other good = record {
  columns = All-insert IsColumn (remove standing.schema.columns from) to column is (All-taken IsColumn standing.schema.columns from good.columns);
  apart = apart-insert (remove standing.schema.columns from) to column other (apart-remove standing.schema.columns from good.apart);
  indexes = after-places _ standing.schema.indexes;
}

named-stores : (column : Column) (name : List ℕ) (default : Option Value) → StoresDefault column default → StoresDefault (with_name column name) default
named-stores column name None s = tt
named-stores column name (Some value) s = s

named-is : (column : Column) (name : List ℕ) → IsColumn column → IsColumn (with_name column name)
named-is column name is = record { kind = is.kind; default = named-stores column name column.default is.default }

renamed_in-good : (standing : AlteredSoFar) (place : ℕ) (column : Column) → IsColumn column → AllByRecursion (IsNot column.name) (remove standing.schema.columns place) → IsGood standing.schema → IsGood (renamed_in standing place column).schema
unfolding renamed_in
renamed_in-good standing place column is other good = record {
  columns = All-set IsColumn standing.schema.columns place column is good.columns;
  apart = apart-set standing.schema.columns place column other good.apart;
  indexes = good.indexes;
}

-- ---- the clauses

add-free : (columns : List Column) (written : NewColumn) (column_position : ColumnPosition) → first_reason (add_reasons columns written column_position) ≡ None → has_column columns written.name ≡ false
add-free columns written column_position none =
    let scope = leb 64 (length columns) || not (is_column_name written.name) || written.auto in
    let second = none_first (not (is_column_position columns column_position)) codes.UnknownName ((has_column columns written.name, codes.RepeatedName) ∷ (scope, codes.Scope) ∷ []) none in
    (none_first (has_column columns written.name) codes.RepeatedName ((scope, codes.Scope) ∷ []) second.1).0

added-good : StoresAgain → (standing next : AlteredSoFar) (written : NewColumn) (column_position : ColumnPosition) → is_kind written.kind ≡ true → IsGood standing.schema → added standing written column_position ≡ Ok next → IsGood next.schema
unfolding added
added-good again standing next written column_position kind good e =
    let columns = standing.schema.columns in
    let place = column_position_place columns column_position (length columns) in
    let let_in = unless_ok (first_reason (add_reasons columns written column_position)) (column_of None written (unwrap_or written.nullable true) >>= λ column. fitting (put_in standing place column)) next e in
    let made = bind_ok (column_of None written (unwrap_or written.nullable true)) (λ column. fitting (put_in standing place column)) next let_in.1 in
    let new = column_of-new again None written (unwrap_or written.nullable true) made.0 kind made.1 in
    let other = subst (λ (n : List ℕ). AllByRecursion (IsNot n) columns) new.name (no_column columns written.name (add-free columns written column_position let_in.0)) in
    subst (λ (s : AlteredSoFar). IsGood s.schema) (fitting-is (put_in standing place made.0) next made.2) (put_in-good standing place made.0 new.is other good)

dropped_at-good : (standing next : AlteredSoFar) (found : Option (ℕ × Column)) → IsGood standing.schema → dropped_at standing found ≡ Ok next → IsGood next.schema
dropped_at-good standing next None good e = absurd cc
dropped_at-good standing next (Some found) good e =
    subst (λ (s : AlteredSoFar). IsGood s.schema) (kept_out (is_in_keys standing.schema.uniques found.0) (taken_out standing found.0) next codes.KeyColumnDropped e).1 (taken_out-good standing found.0 good)

rename-free : (approve : Bool) (columns : List Column) (place : ℕ) (old new : List ℕ) → first_reason (rename_reasons approve columns place old new) ≡ None → has_column (remove columns place) new ≡ false
rename-free approve columns place old new none =
    (none_first (has_column (remove columns place) new) codes.RepeatedName ((not (is_column_name new), codes.Scope) ∷ (is_unapproved approve old new, codes.RenameNotApproved) ∷ []) none).0

renamed_at-good : (approve : Bool) (standing next : AlteredSoFar) (new : List ℕ) (found : Option (ℕ × Column)) → ((f : ℕ × Column) → found ≡ Some f → slice_get standing.schema.columns f.0 ≡ Some f.1) → IsGood standing.schema → renamed_at approve standing new found ≡ Ok next → IsGood next.schema
renamed_at-good approve standing next new None here good e = absurd cc
renamed_at-good approve standing next new (Some found) here good e =
    let let_in = unless_ok (first_reason (rename_reasons approve standing.schema.columns found.0 found.1.name new)) (Ok (renamed_in standing found.0 (with_name found.1 new))) next e in
    let is = named-is found.1 new (All-at IsColumn standing.schema.columns found.0 found.1 good.columns (here found refl)) in
    let other = no_column (remove standing.schema.columns found.0) new (rename-free approve standing.schema.columns found.0 found.1.name new let_in.0) in
    subst (λ (s : AlteredSoFar). IsGood s.schema) (ok_is {C = AlterCode} (renamed_in standing found.0 (with_name found.1 new)) next let_in.1) (renamed_in-good standing found.0 (with_name found.1 new) is other good)

change-free : (schema : Schema) (place : ℕ) (column : Column) (written : NewColumn) (column_position : ColumnPosition) → first_reason (change_reasons schema place column written column_position) ≡ None → has_column (remove schema.columns place) written.name ≡ false
change-free schema place column written column_position none =
    let converted = is_in_keys schema.uniques place && not (is_key_conversion column.kind written.kind) in
    let scope = not (is_conversion column.kind written.kind) || not (is_column_name written.name) || breaks_counter column written in
    let second = none_first (not (is_column_position (remove schema.columns place) column_position)) codes.UnknownName ((has_column (remove schema.columns place) written.name, codes.RepeatedName) ∷ (converted, codes.KeyColumnConverted) ∷ (scope, codes.Scope) ∷ []) none in
    (none_first (has_column (remove schema.columns place) written.name) codes.RepeatedName ((converted, codes.KeyColumnConverted) ∷ (scope, codes.Scope) ∷ []) second.1).0

changed_at-good : StoresAgain → (approve : Bool) (standing next : AlteredSoFar) (written : NewColumn) (column_position : ColumnPosition) (found : Option (ℕ × Column)) → is_kind written.kind ≡ true → IsGood standing.schema → changed_at approve standing written column_position found ≡ Ok next → IsGood next.schema
changed_at-good again approve standing next written column_position None kind good e = absurd cc
changed_at-good again approve standing next written column_position (Some found) kind good e =
    let place = found.0 in
    let others = remove standing.schema.columns place in
    let nullable = changed_nullable standing.schema place written in
    let let_in = unless_ok (first_reason (change_reasons standing.schema place found.1 written column_position)) (changed_column approve standing place found.1 written column_position) next e in
    let made = bind_ok (column_of (origin_at standing place) written nullable) (λ new. (fitting (changed_in standing place column_position new) >>= λ changed. unless_unapproved (is_unapproved approve found.1.name written.name) changed)) next let_in.1 in
    let fit = bind_ok (fitting (changed_in standing place column_position made.0)) (λ changed. unless_unapproved (is_unapproved approve found.1.name written.name) changed) next made.2 in
    let is = fitting-is (changed_in standing place column_position made.0) fit.0 fit.1 ∙ approved-is (is_unapproved approve found.1.name written.name) fit.0 next fit.2 in
    let new = column_of-new again (origin_at standing place) written nullable made.0 kind made.1 in
    let other = subst (λ (n : List ℕ). AllByRecursion (IsNot n) others) new.name (no_column others written.name (change-free standing.schema place found.1 written column_position let_in.0)) in
    subst (λ (s : AlteredSoFar). IsGood s.schema) is (moved_to-good standing place (column_position_place others column_position place) made.0 new.is other good)

-- ---- indexes

place-there : (o : Option ℕ) → is_some o ≡ true → (place : ℕ) × (o ≡ Some place)
place-there (Some place) e = (place, refl)
place-there None e = absurd cc

places-there : (columns : List Column) (names : List (List ℕ)) → not (eqb (length names) 0) ≡ true → AllByRecursion (λ name. has_column columns name ≡ true) names → 0 < length (filter_map (column_place columns) names)
places-there columns [] some all = absurd cc
places-there columns (name ∷ names) some all =
    let p = place-there (column_place columns name) all.0 in
    rw p.1 (omega arith)

index-places : (schema : Schema) (names : List (List ℕ)) (name : List ℕ) → first_reason (index_reasons schema names name) ≡ None → HasPlaces (index_of schema names name)
index-places schema names name none =
    let are = are_columns schema.columns names in
    let first = none_first (not are) codes.UnknownName ((is_among (key_names schema) name, codes.RepeatedName) ∷ (leb 8 (length schema.indexes), codes.Scope) ∷ []) none in
    let p = and_parts (not (eqb (length names) 0)) (list_all (has_column schema.columns) names) (not-false are first.0) in
    places-there schema.columns names p.0 (list_all-All (has_column schema.columns) names p.1)

indexed_as-good : (standing next : AlteredSoFar) (names : List (List ℕ)) (name : List ℕ) → IsGood standing.schema → indexed_as standing names name ≡ Ok next → IsGood next.schema
indexed_as-good standing next names name good e =
    let index = index_of standing.schema names name in
    let let_in = unless_ok (first_reason (index_reasons standing.schema names name)) (Ok (with_index standing index)) next e in
    subst (λ (s : AlteredSoFar). IsGood s.schema) (ok_is {C = AlterCode} (with_index standing index) next let_in.1) (record {
      columns = good.columns;
      apart = good.apart;
      indexes = All-append HasPlaces standing.schema.indexes (index ∷ []) good.indexes (index-places standing.schema names name let_in.0, tt);
    })

unindexed_at-good : (standing next : AlteredSoFar) (unique index : Option ℕ) → IsGood standing.schema → unindexed_at standing unique index ≡ Ok next → IsGood next.schema
unindexed_at-good standing next (Some place) index good e =
    subst (λ (s : AlteredSoFar). IsGood s.schema) (kept_out (is_clustered (clustered_place standing.schema) place) (without_unique standing place) next codes.ClusteredKeyChange e).1 (record { columns = good.columns; apart = good.apart; indexes = good.indexes })
unindexed_at-good standing next None (Some place) good e =
    subst (λ (s : AlteredSoFar). IsGood s.schema) (ok_is {C = AlterCode} (without_index standing place) next e) (record { columns = good.columns; apart = good.apart; indexes = All-remove HasPlaces standing.schema.indexes place good.indexes })
unindexed_at-good standing next None None good e = absurd cc

pub step-good : StoresAgain → (approve : Bool) (standing next : AlteredSoFar) (clause : Clause) → IsClause clause → IsGood standing.schema → step approve standing clause ≡ Ok next → IsGood next.schema
unfolding step dropped renamed changed indexed unindexed
step-good again approve standing next (Add column column_position) kind good e = added-good again standing next column column_position kind good e
step-good again approve standing next (Drop name) kind good e = dropped_at-good standing next (column_named standing.schema.columns name) good e
step-good again approve standing next (Rename old new) kind good e = renamed_at-good approve standing next new (column_named standing.schema.columns old) (column_named-here standing.schema.columns old) good e
step-good again approve standing next (Change old column column_position) kind good e = changed_at-good again approve standing next column column_position (column_named standing.schema.columns old) kind good e
step-good again approve standing next (AddIndex name columns) kind good e = indexed_as-good standing next columns (index_name standing.schema columns name) good e
step-good again approve standing next (DropIndex name) kind good e = unindexed_at-good standing next (index_place standing.schema.uniques name) (index_place standing.schema.indexes name) good e
