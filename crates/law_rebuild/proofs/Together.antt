-- Events that lead through valid tables go together with the opening rows.
use Rattle.std.proofs.Common.{◌≡◌, Bool, List, [], ◌∷◌, Ok, sym, subst}
use Rattle.std.specs.List.{AllByRecursion}
use Rattle.base_values.specs.declared.event.Change.{Change}
use Rattle.base_values.specs.declared.event.Change.TheVariants.{Write, Update, Delete}
use Rattle.base_values.specs.declared.gho_schema.schema.Schema.{Schema}
use Rattle.base_values.specs.declared.row_conversion.clause.Clause.{Clause}
use Rattle.base_values.specs.GhoSchema.Rows.{key_of, key_places}
use Rattle.base_values.specs.GhoSchema.Tables.{IsRow, IsTable}
use Rattle.base_values.specs.SchemaRules.Valid.{IsValid}
use Rattle.table_store.specs.ClusteredKeys.{HasClusteredKey}
use Rattle.table_store.specs.RowLists.{is_at, without_key}
use Rattle.table_store.proofs.Orders.{Row}
use Rattle.table_store.proofs.TableLaws.{put_keeps, remove_keeps}
use Rattle.sql_change.specs.AlteredSchema.{altered}
use Rattle.plan_data.specs.declared.plan.AlteredSchema.{AlteredSchema}
use Rattle.server_model.specs.Rows.{without_row}
use Rattle.server_model.proofs.LockedRows.OneRow.{same_removal}
use Rattle.server_model.proofs.LockedRows.WellFormed.{nulls}
use Rattle.server_seen.specs.FittingChanges.{AllFit, FitsRows, IsNewAmong}
use Rattle.proof_schemas.proofs.Alters.ConvertedRowTables.{clustered_keys_kept}
use Rattle.proof_journals.specs.Ghost.Rows.Moments.{Fits, FitsAll, rows_after}
use Rattle.proof_journals.proofs.Ghost.Changing.{found_stands, same_change}
use Rattle.proof_journals.proofs.Ghost.Rows.TimelineLaws.{change_keeps, none_clashing}
use Rattle.proof_rebuild.specs.Shards.{KeepsAfter, KeepsKey}
use Rattle.law_rebuild.specs.Laws.{AlteredLogsGoTogether}

-- a change that fits the table fits its rows
fits_row : (schema : Schema) → HasClusteredKey schema → (change : Change) (rows : List Row) → IsTable schema rows → Fits schema rows change → FitsRows (key_places schema) rows change
fits_row schema has (Write row) rows is fits = (put_keeps nulls (record { schema = schema; rows = rows }) row has is fits.0 (none_clashing schema row rows fits.1)).0
fits_row schema has (Update before after) rows is fits =
    let places = key_places schema in
    let left : List Row = without_key places (key_of places before) rows in
    let stood = found_stands (is_at places (key_of places before)) before rows fits.0 in
    let gone : left ≡ without_row before rows = same_removal places before rows is.ascends stood in
    let new = put_keeps nulls (record { schema = schema; rows = left }) after has (remove_keeps schema rows (key_of places before) is) fits.1 (none_clashing schema after left fits.2) in
    (stood, subst (λ (others : List Row). IsNewAmong places others after) gone new.0)
fits_row schema has (Delete row) rows is fits = found_stands (is_at (key_places schema) (key_of (key_places schema) row)) row rows fits

all_fit : (schema : Schema) → HasClusteredKey schema → (changes : List Change) (rows : List Row) → IsTable schema rows → FitsAll schema rows changes → AllFit (key_places schema) changes rows
unfolding AllFit FitsAll
all_fit schema has [] rows is fits = tt
all_fit schema has (change ∷ changes) rows is fits = (
  fits_row schema has change rows is fits.0,
  subst (AllFit (key_places schema) changes) (sym (same_change schema has change rows is fits.0))
      (all_fit schema has changes (rows_after (key_places schema) change rows) (change_keeps schema has change rows is fits.0) fits.1),
)

module _ (approve : Bool) (schema : Schema) (clauses : List Clause) (new : AlteredSchema) (valid : IsValid schema) (taken : altered approve schema clauses ≡ Ok (new.schema, new.map)) where
  row_keeps : (row : Row) → IsRow schema.columns row → KeepsKey (key_places schema) (key_places new.schema) new.map row
  row_keeps row fits made is = clustered_keys_kept approve schema clauses (new.schema, new.map) row made valid taken fits is

  rows_keep : (rows : List Row) → AllByRecursion (IsRow schema.columns) rows → AllByRecursion (KeepsKey (key_places schema) (key_places new.schema) new.map) rows
  rows_keep [] fit = tt
  rows_keep (row ∷ rows) fit = (row_keeps row fit.0, rows_keep rows fit.1)

  change_keeps_key : (change : Change) (rows : List Row) → Fits schema rows change → KeepsAfter (key_places schema) (key_places new.schema) new.map change
  change_keeps_key (Write row) rows fits = row_keeps row fits.0
  change_keeps_key (Update before after) rows fits = row_keeps after fits.1
  change_keeps_key (Delete row) rows fits = tt

  changes_keep : (changes : List Change) (rows : List Row) → FitsAll schema rows changes → AllByRecursion (KeepsAfter (key_places schema) (key_places new.schema) new.map) changes
  unfolding FitsAll
  changes_keep [] rows fits = tt
  changes_keep (change ∷ changes) rows fits = (change_keeps_key change rows fits.0, changes_keep changes (rows_after (key_places schema) change rows) fits.1)

-- *Logs of altered tables go together with their opening rows*
pub logs_go_together : AlteredLogsGoTogether
logs_go_together approve schema clauses new rows changes valid has taken is fits = record {
  ascends = is.ascends;
  fit = all_fit schema has changes rows is fits;
  opening_keys = rows_keep approve schema clauses new valid taken rows is.rows_fit;
  keys = changes_keep approve schema clauses new valid taken changes rows fits;
}
