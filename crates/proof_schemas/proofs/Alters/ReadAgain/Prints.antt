-- Each clause leaves a schema that can be printed.
use Rattle.std.proofs.Common.{◌≡◌, ℕ, Bool, true, List, [], ◌∷◌, length, Option, Some, None, Ok, unwrap_or, refl, subst, ◌∙◌}
use Rattle.std.specs.List.{remove, slice_get, AllByRecursion}
use Rattle.base_values.specs.Laws.{StoresAgain}
use Rattle.base_values.specs.declared.gho_schema.schema.Column.{Column}
use Rattle.base_values.specs.declared.gho_schema.schema.Index.{Index}
use Rattle.base_values.specs.declared.gho_schema.schema.Schema.{Schema}
use Rattle.base_values.specs.declared.row_conversion.clause.Clause.{Clause}
use Rattle.base_values.specs.declared.row_conversion.clause.Clause.TheVariants.{Add, Drop, Rename, Change, AddIndex, DropIndex}
use Rattle.base_values.specs.declared.row_conversion.clause.NewColumn.{NewColumn}
use Rattle.base_values.specs.declared.row_conversion.clause.ColumnPosition.{ColumnPosition}
use Rattle.base_values.specs.SchemaRules.Results.{◌>>=◌}
use Rattle.base_values.specs.GhoSchema.ClusteredKey.{clustered_place}
use Rattle.base_values.specs.SchemaRules.Reasons.{first_reason}
use Rattle.base_values.specs.SchemaRules.Defaults.{stored_default, default_or}
use Rattle.base_values.specs.SchemaRules.Valid.{is_kind}
use Rattle.proof_schemas.proofs.Columns.{made, default_stores}
use Rattle.base_values.proofs.SchemaRules.Lists.{All-at, All-append, All-filter}
use Rattle.sql_change.specs.declared.code.AlterCode.{AlterCode}
use Rattle.sql_change.specs.declared.code.AlterCode.TheVariants as codes
use Rattle.sql_change.specs.declared.places.PlaceChange.{PlaceChange}
use Rattle.sql_change.specs.declared.places.PlaceChange.TheVariants.{Added, Dropped, Moved}
use Rattle.sql_change.specs.declared.so_far.AlteredSoFar.{AlteredSoFar}
use Rattle.sql_change.specs.AlteredSchema.{step, steps}
use Rattle.sql_change.specs.ClauseResults.{add_reasons, added, dropped_at, dropped, rename_reasons, with_name, renamed_in, renamed_at, renamed, change_reasons, changed_nullable, changed_in, is_unapproved, unless_unapproved, changed_column, changed_at, changed}
use Rattle.sql_change.specs.Columns.{column_named, is_in_keys, column_position_place, lacks_default, unless_lacking, column_of, fitting}
use Rattle.sql_change.specs.IndexClauses.{key_names, spelled_as, first_column, index_name, index_reasons, index_of, with_index, indexed_as, indexed, index_place, is_clustered, without_unique, without_index, unindexed_at, unindexed}
use Rattle.sql_change.specs.Places.{has_places, keys_after, indexes_after}
use Rattle.sql_change.specs.AlteredSoFar.{with_columns, put_in, taken_out, origin_at, moved_to}
use Rattle.base_values.proofs.SchemaRules.Steps.{bind_ok, unless_ok, ok_is, kept_out, default_is}
use Rattle.sql_change.proofs.Tables.{fitting-is, approved-is}
use Rattle.proof_schemas.specs.Alters.Laws.{IsClause}
use Rattle.proof_schemas.proofs.Alters.Apart.{All-insert, All-taken, All-set}
use Rattle.proof_schemas.proofs.Alters.Steps.{column_named-here, lacking-is}
use Rattle.proof_schemas.specs.Printed.Laws.{CanQuote, CanQuoteKey, CanPrintColumn, CanPrint}
use Rattle.proof_schemas.proofs.ReadAgain.SoundReaders.{SoundName}
use Rattle.proof_schemas.proofs.ReadAgain.SoundSchemas.{default-sound, default-prints, kind-prints, free-plain}
use Rattle.proof_schemas.proofs.Alters.ReadAgain.Clauses.{SoundNew, SoundClause}
use Rattle.proof_schemas.proofs.Alters.ReadAgain.Names.{after-all, left-all, left-remove}

-- ---- columns

column_of-prints : StoresAgain → (origin : Option ℕ) (written : NewColumn) (nullable : Bool) (column : Column) → is_kind written.kind ≡ true → SoundNew written → column_of origin written nullable ≡ Ok column → CanPrintColumn column
unfolding column_of
column_of-prints again origin written nullable column kind sound e =
    let b = bind_ok (default_or codes.Default (stored_default written.kind nullable written.default)) (λ default. unless_lacking (lacks_default origin nullable default) (made written.name written.kind nullable default written.auto)) column e in
    let is = default_is codes.Default (stored_default written.kind nullable written.default) b.0 b.1 in
    let stores = default_stores again written.name written.kind nullable written.auto written.default b.0 is in
    let prints = default-prints (made written.name written.kind nullable b.0 written.auto) b.0 (default-sound written.kind nullable written.default b.0 sound.1 is) stores in
    subst CanPrintColumn (lacking-is (lacks_default origin nullable b.0) (made written.name written.kind nullable b.0 written.auto) column b.2) (sound.0, kind-prints written.kind kind, prints)

-- ---- keys

abbrev QuotesKey : Index → Type 0
QuotesKey index = CanQuoteKey index.name

after-quotes : (change : PlaceChange) (indexes : List Index) → AllByRecursion QuotesKey indexes → AllByRecursion QuotesKey (keys_after change indexes)
after-quotes change indexes all = after-all CanQuoteKey change indexes all

less-quotes : (change : PlaceChange) (indexes : List Index) → AllByRecursion QuotesKey indexes → AllByRecursion QuotesKey (indexes_after change indexes)
less-quotes change indexes all = All-filter QuotesKey has_places (keys_after change indexes) (after-quotes change indexes all)

-- ---- the changes

abbrev Prints : AlteredSoFar → Type 0
Prints standing = CanPrint standing.schema

put_in-prints : (standing : AlteredSoFar) (at : ℕ) (column : Column) → CanPrintColumn column → Prints standing → Prints (put_in standing at column)
unfolding put_in with_columns
put_in-prints standing at column can prints = record {
  name = prints.name;
  columns = All-insert CanPrintColumn standing.schema.columns at column can prints.columns;
  uniques = after-quotes (Added at) standing.schema.uniques prints.uniques;
  indexes = less-quotes (Added at) standing.schema.indexes prints.indexes;
  start = prints.start;
}

taken_out-prints : (standing : AlteredSoFar) (at : ℕ) → Prints standing → Prints (taken_out standing at)
unfolding taken_out with_columns
taken_out-prints standing at prints = record {
  name = prints.name;
  columns = All-taken CanPrintColumn standing.schema.columns at prints.columns;
  uniques = after-quotes (Dropped at) standing.schema.uniques prints.uniques;
  indexes = less-quotes (Dropped at) standing.schema.indexes prints.indexes;
  start = prints.start;
}

moved_to-prints : (standing : AlteredSoFar) (from to : ℕ) (column : Column) → CanPrintColumn column → Prints standing → Prints (moved_to standing from to column)
unfolding moved_to with_columns
moved_to-prints standing from to column can prints = record {
  name = prints.name;
  columns = All-insert CanPrintColumn (remove standing.schema.columns from) to column can (All-taken CanPrintColumn standing.schema.columns from prints.columns);
  uniques = after-quotes (Moved from to) standing.schema.uniques prints.uniques;
  indexes = less-quotes (Moved from to) standing.schema.indexes prints.indexes;
  start = prints.start;
}

renamed_in-prints : (standing : AlteredSoFar) (place : ℕ) (column : Column) → CanPrintColumn column → Prints standing → Prints (renamed_in standing place column)
unfolding renamed_in
renamed_in-prints standing place column can prints = record { name = prints.name; columns = All-set CanPrintColumn standing.schema.columns place column can prints.columns; uniques = prints.uniques; indexes = prints.indexes; start = prints.start }

-- ---- the clauses

added-prints : StoresAgain → (standing next : AlteredSoFar) (written : NewColumn) (column_position : ColumnPosition) → is_kind written.kind ≡ true → SoundNew written → Prints standing → added standing written column_position ≡ Ok next → Prints next
unfolding added
added-prints again standing next written column_position kind sound prints e =
    let columns = standing.schema.columns in
    let place = column_position_place columns column_position (length columns) in
    let let_in = unless_ok (first_reason (add_reasons columns written column_position)) (column_of None written (unwrap_or written.nullable true) >>= λ column. fitting (put_in standing place column)) next e in
    let made = bind_ok (column_of None written (unwrap_or written.nullable true)) (λ column. fitting (put_in standing place column)) next let_in.1 in
    subst Prints (fitting-is (put_in standing place made.0) next made.2) (put_in-prints standing place made.0 (column_of-prints again None written (unwrap_or written.nullable true) made.0 kind sound made.1) prints)

dropped_at-prints : (standing next : AlteredSoFar) (found : Option (ℕ × Column)) → Prints standing → dropped_at standing found ≡ Ok next → Prints next
dropped_at-prints standing next None prints e = absurd cc
dropped_at-prints standing next (Some found) prints e = subst Prints (kept_out (is_in_keys standing.schema.uniques found.0) (taken_out standing found.0) next codes.KeyColumnDropped e).1 (taken_out-prints standing found.0 prints)

renamed_at-prints : (approve : Bool) (standing next : AlteredSoFar) (new : List ℕ) (found : Option (ℕ × Column)) → ((f : ℕ × Column) → found ≡ Some f → slice_get standing.schema.columns f.0 ≡ Some f.1) → CanQuote new → Prints standing → renamed_at approve standing new found ≡ Ok next → Prints next
renamed_at-prints approve standing next new None here can prints e = absurd cc
renamed_at-prints approve standing next new (Some found) here can prints e =
    let let_in = unless_ok (first_reason (rename_reasons approve standing.schema.columns found.0 found.1.name new)) (Ok (renamed_in standing found.0 (with_name found.1 new))) next e in
    let own = All-at CanPrintColumn standing.schema.columns found.0 found.1 prints.columns (here found refl) in
    subst Prints (ok_is {C = AlterCode} (renamed_in standing found.0 (with_name found.1 new)) next let_in.1) (renamed_in-prints standing found.0 (with_name found.1 new) (can, own.1, own.2) prints)

changed_at-prints : StoresAgain → (approve : Bool) (standing next : AlteredSoFar) (written : NewColumn) (column_position : ColumnPosition) (found : Option (ℕ × Column)) → is_kind written.kind ≡ true → SoundNew written → Prints standing → changed_at approve standing written column_position found ≡ Ok next → Prints next
changed_at-prints again approve standing next written column_position None kind sound prints e = absurd cc
changed_at-prints again approve standing next written column_position (Some found) kind sound prints e =
    let place = found.0 in
    let others = remove standing.schema.columns place in
    let nullable = changed_nullable standing.schema place written in
    let let_in = unless_ok (first_reason (change_reasons standing.schema place found.1 written column_position)) (changed_column approve standing place found.1 written column_position) next e in
    let made = bind_ok (column_of (origin_at standing place) written nullable) (λ new. (fitting (changed_in standing place column_position new) >>= λ changed. unless_unapproved (is_unapproved approve found.1.name written.name) changed)) next let_in.1 in
    let fit = bind_ok (fitting (changed_in standing place column_position made.0)) (λ changed. unless_unapproved (is_unapproved approve found.1.name written.name) changed) next made.2 in
    let same = fitting-is (changed_in standing place column_position made.0) fit.0 fit.1 ∙ approved-is (is_unapproved approve found.1.name written.name) fit.0 next fit.2 in
    subst Prints same (moved_to-prints standing place (column_position_place others column_position place) made.0 (column_of-prints again (origin_at standing place) written nullable made.0 kind sound made.1) prints)

-- ---- indexes

spelled-quotes : (columns : List Column) (found : Option (ℕ × Column)) → ((f : ℕ × Column) → found ≡ Some f → slice_get columns f.0 ≡ Some f.1) → AllByRecursion CanPrintColumn columns → CanQuote (spelled_as found)
spelled-quotes columns None here prints = tt
spelled-quotes columns (Some found) here prints = (All-at CanPrintColumn columns found.0 found.1 prints (here found refl)).0

first-quotes : (columns : List Column) (names : List (List ℕ)) → AllByRecursion CanPrintColumn columns → CanQuote (first_column columns names)
unfolding first_column
first-quotes columns [] prints = tt
first-quotes columns (name ∷ names) prints = spelled-quotes columns (column_named columns name) (column_named-here columns name) prints

index_name-quotes : (schema : Schema) (names : List (List ℕ)) (name : Option (List ℕ)) → SoundName name → AllByRecursion CanPrintColumn schema.columns → CanQuote (index_name schema names name)
index_name-quotes schema names (Some name) is prints = is
index_name-quotes schema names None is prints = free-plain (key_names schema) (first_column schema.columns names) (length (key_names schema)) 1 (first-quotes schema.columns names prints)

indexed_as-prints : (standing next : AlteredSoFar) (names : List (List ℕ)) (name : List ℕ) → CanQuote name → Prints standing → indexed_as standing names name ≡ Ok next → Prints next
indexed_as-prints standing next names name can prints e =
    let index = index_of standing.schema names name in
    let let_in = unless_ok (first_reason (index_reasons standing.schema names name)) (Ok (with_index standing index)) next e in
    subst Prints (ok_is {C = AlterCode} (with_index standing index) next let_in.1) (record { name = prints.name; columns = prints.columns; uniques = prints.uniques; indexes = All-append QuotesKey standing.schema.indexes (index ∷ []) prints.indexes (can, tt); start = prints.start })

unindexed_at-prints : (standing next : AlteredSoFar) (unique index : Option ℕ) → Prints standing → unindexed_at standing unique index ≡ Ok next → Prints next
unindexed_at-prints standing next (Some place) index prints e =
    subst Prints (kept_out (is_clustered (clustered_place standing.schema) place) (without_unique standing place) next codes.ClusteredKeyChange e).1
    (record { name = prints.name; columns = prints.columns; uniques = left-all QuotesKey (left-remove standing.schema.uniques place) prints.uniques; indexes = prints.indexes; start = prints.start })
unindexed_at-prints standing next None (Some place) prints e =
    subst Prints (ok_is {C = AlterCode} (without_index standing place) next e) (record { name = prints.name; columns = prints.columns; uniques = prints.uniques; indexes = left-all QuotesKey (left-remove standing.schema.indexes place) prints.indexes; start = prints.start })
unindexed_at-prints standing next None None prints e = absurd cc

step-prints : StoresAgain → (approve : Bool) (standing next : AlteredSoFar) (clause : Clause) → IsClause clause → SoundClause clause → Prints standing → step approve standing clause ≡ Ok next → Prints next
unfolding step dropped renamed changed indexed unindexed
step-prints again approve standing next (Add column column_position) kind sound prints e = added-prints again standing next column column_position kind sound prints e
step-prints again approve standing next (Drop name) kind sound prints e = dropped_at-prints standing next (column_named standing.schema.columns name) prints e
step-prints again approve standing next (Rename before new) kind sound prints e = renamed_at-prints approve standing next new (column_named standing.schema.columns before) (column_named-here standing.schema.columns before) sound prints e
step-prints again approve standing next (Change before column column_position) kind sound prints e = changed_at-prints again approve standing next column column_position (column_named standing.schema.columns before) kind sound prints e
step-prints again approve standing next (AddIndex name columns) kind sound prints e = indexed_as-prints standing next columns (index_name standing.schema columns name) (index_name-quotes standing.schema columns name sound prints.columns) prints e
step-prints again approve standing next (DropIndex name) kind sound prints e = unindexed_at-prints standing next (index_place standing.schema.uniques name) (index_place standing.schema.indexes name) prints e

pub steps-prints : StoresAgain → (approve : Bool) (standing next : AlteredSoFar) (clauses : List Clause) → AllByRecursion IsClause clauses → AllByRecursion SoundClause clauses → Prints standing → steps approve standing clauses ≡ Ok next → Prints next
unfolding steps
steps-prints again approve standing next [] kinds sound prints e = subst Prints (ok_is {C = AlterCode} standing next e) prints
steps-prints again approve standing next (clause ∷ clauses) kinds sound prints e =
    let b = bind_ok (step approve standing clause) (λ s. steps approve s clauses) next e in
    steps-prints again approve b.0 next clauses kinds.1 sound.1 (step-prints again approve standing b.0 clause kinds.0 sound.0 prints b.1) b.2
