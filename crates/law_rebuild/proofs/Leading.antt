-- A log that fits a table leads from its opening rows to its rows: by the changes that it says of the table.
use Rattle.std.proofs.Common.{◌≡◌, ℕ, Bool, true, false, cond, List, [], ◌∷◌, length, refl, ap, ◌∙◌}
use Rattle.std.specs.Str.{bytes_eq}
use Rattle.base_values.specs.declared.event.Change.{Change}
use Rattle.base_values.specs.declared.event.RowEvent.{RowEvent}
use Rattle.base_values.specs.declared.gho_schema.schema.Schema.{Schema}
use Rattle.base_values.specs.GhoSchema.Rows.{key_places}
use Rattle.base_values.specs.GhoSchema.Tables.{IsTable}
use Rattle.table_store.specs.ClusteredKeys.{HasClusteredKey}
use Rattle.server_model.specs.Rows.{change_all}
use Rattle.tool_program.specs.EventApplier.Appliers.{events_of}
use Rattle.proof_journals.specs.Ghost.Rows.Moments.{Fits, FitsAll, LogFits, Row, rows_after, rows_at, rows_then}
use Rattle.proof_journals.proofs.Ghost.Changing.{same_change}
use Rattle.proof_journals.proofs.Ghost.Rows.TimelineLaws.{then_keeps}
use Rattle.run_rebuild.specs.Rebuilds.{changes_of}
use Rattle.law_rebuild.specs.Marks.{changes_logged}

-- *A log leads*: its changes of the table fit, and lead to the rows of its end
pub record Leads (name : List ℕ) (schema : Schema) (rows : List Row) (log : List RowEvent) : Type 0 where
  pub fits : FitsAll schema rows (changes_logged name log)
  pub leads : change_all (key_places schema) (changes_logged name log) rows ≡ rows_at name (key_places schema) rows log (length log)

-- the changes that are said where the event is the table's, or isn't
abbrev changes_if : List ℕ → RowEvent → List RowEvent → Bool → List Change
changes_if name event log b = changes_of (cond b (event ∷ events_of name log) (events_of name log))

-- the rows after the event, where it is the table's
abbrev rows_if : List ℕ → RowEvent → List Row → Bool → List Row
rows_if places event rows b = cond b (rows_after places event.change rows) rows

leads_more : (name : List ℕ) (schema : Schema) → HasClusteredKey schema → (event : RowEvent) (log : List RowEvent) (rows : List Row) (b : Bool) → bytes_eq event.table name ≡ b → IsTable schema rows → (bytes_eq event.table name ≡ true → Fits schema rows event.change) → Leads name schema (rows_if (key_places schema) event rows b) log
    → FitsAll schema rows (changes_if name event log b) × (change_all (key_places schema) (changes_if name event log b) rows ≡ rows_at name (key_places schema) (rows_if (key_places schema) event rows b) log (length log))
unfolding FitsAll change_all
leads_more name schema has event log rows true named is one rest = (
  (one named, rest.fits),
  ap (λ (r : List Row). change_all (key_places schema) (changes_logged name log) r) (same_change schema has event.change rows is (one named)) ∙ rest.leads,
)
leads_more name schema has event log rows false named is one rest = (rest.fits, rest.leads)

pub log_leads : (name : List ℕ) (schema : Schema) → HasClusteredKey schema → (log : List RowEvent) (rows : List Row) → IsTable schema rows → LogFits name schema rows log → Leads name schema rows log
unfolding rows_at LogFits FitsAll change_all
log_leads name schema has [] rows is fits = record { fits = tt; leads = refl }
log_leads name schema has (event ∷ log) rows is fits =
    let rest = log_leads name schema has log (rows_then name (key_places schema) event rows) (then_keeps name schema has event rows (bytes_eq event.table name) refl is fits.0) fits.1 in
    let both = leads_more name schema has event log rows (bytes_eq event.table name) refl is fits.0 rest in
    record { fits = both.0; leads = both.1 }
