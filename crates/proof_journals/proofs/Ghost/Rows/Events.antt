-- What an event of the log does to the migrated table, key by key.
use Rattle.std.proofs.Common.{◌≡◌, ℕ, Bool, true, false, ◌&&◌, ◌||◌, List, find, None, refl, ap, ◌∙◌}
use Rattle.std.specs.Str.{bytes_eq}
use Rattle.base_values.specs.declared.gho_schema.schema.Schema.{Schema}
use Rattle.base_values.specs.declared.gho_schema.schema.Index.{Index}
use Rattle.base_values.specs.GhoSchema.Rows.{key_of, key_places}
use Rattle.base_values.specs.GhoSchema.Tables.{IsTable}
use Rattle.base_values.specs.declared.event.RowEvent.{RowEvent}
use Rattle.base_values.specs.declared.event.Change.{Change}
use Rattle.base_values.specs.declared.event.Change.TheVariants.{Write, Update, Delete}
use Rattle.table_store.specs.ClusteredKeys.{HasClusteredKey}
use Rattle.table_store.specs.RowLists.{is_at, without_key}
use Rattle.table_store.proofs.RowLaws.{gone}
use Rattle.table_store.proofs.TableLaws.{put_keeps, remove_keeps}
use Rattle.server_model.proofs.LockedRows.WellFormed.{nulls}
use Rattle.proof_journals.specs.Ghost.Relation.AppliedEvents.{EventOfKeys}
use Rattle.proof_journals.proofs.Ghost.Rows.Finding.{put_elsewhere, removed_elsewhere}
use Rattle.proof_journals.proofs.Ghost.Rows.Replacing.{not_its_key}
use Rattle.proof_journals.proofs.Ghost.Rows.StayingKeys.{put_is_found}
use Rattle.proof_journals.proofs.Ghost.Rows.TimelineLaws.{none_clashing}
use Rattle.proof_journals.specs.Ghost.Rows.Changes.{new_key, old_key, row_left}
use Rattle.proof_journals.specs.Ghost.Rows.Moments.{Fits, Row, rows_after, rows_at}
use Rattle.proof_journals.specs.Ghost.Rows.Timelines.{EventAt, Migration, changes_key, kept, timeline_of, touched_by, touches_row}

-- other keys aren't touched, and find what they found
neither : (c b a : Bool) → b ≡ false → a ≡ false → (c && (b || a)) ≡ false
neither true b a not_b not_a = rw (not_b, not_a) refl
neither false b a not_b not_a = refl

pub untouched : (uniques : List Index) (places : List ℕ) (key : Row) (change : Change) → (old_key places change ≡ key → ⊥) → (new_key places change ≡ key → ⊥) → touches_row uniques places key change ≡ false
untouched uniques places key (Write row) old new = not_its_key places key row (is_at places key row) refl new
untouched uniques places key (Update before after) old new =
    neither (changes_key uniques before after) (is_at places key before) (is_at places key after) (not_its_key places key before (is_at places key before) refl old) (not_its_key places key after (is_at places key after) refl new)
untouched uniques places key (Delete row) old new = not_its_key places key row (is_at places key row) refl old

pub others_found : (places : List ℕ) (key : Row) (change : Change) (rows : List Row) → (old_key places change ≡ key → ⊥) → (new_key places change ≡ key → ⊥) → find (is_at places key) (rows_after places change rows) ≡ find (is_at places key) rows
others_found places key (Write row) rows old new = put_elsewhere places key row rows (not_its_key places key row (is_at places key row) refl new)
others_found places key (Update before after) rows old new =
    put_elsewhere places key after (without_key places (key_of places before) rows) (not_its_key places key after (is_at places key after) refl new)
    ∙ removed_elsewhere places key before rows (not_its_key places key before (is_at places key before) refl old)
others_found places key (Delete row) rows old new = removed_elsewhere places key row rows (not_its_key places key row (is_at places key row) refl old)

-- *An event of the table names two keys.*
pub is_event : (m : Migration) (rows : List Row) (log : List RowEvent) (i : ℕ) (one : EventAt m.name m.schema rows log i) → bytes_eq one.event.table m.name ≡ true
    → EventOfKeys (timeline_of m rows log) i (old_key (key_places m.schema) one.event.change) (new_key (key_places m.schema) one.event.change)
is_event m rows log i one named =
    record {
      untouched = λ key old new.
          ap (touched_by (kept m) m.name (key_places m.schema) key) one.there ∙ rw named (untouched (kept m) (key_places m.schema) key one.event.change old new);
      same = λ key old new.
          ap (find (is_at (key_places m.schema) key)) one.then ∙ rw named (others_found (key_places m.schema) key one.event.change (rows_at m.name (key_places m.schema) rows log i) old new);
    }

pub left_at : (schema : Schema) → HasClusteredKey schema → (change : Change) (rows : List Row) → IsTable schema rows → Fits schema rows change → find (is_at (key_places schema) (new_key (key_places schema) change)) (rows_after (key_places schema) change rows) ≡ row_left change
left_at schema has (Write row) rows is fits =
    put_is_found (key_places schema) row rows (let both = put_keeps nulls (record { schema = schema; rows = rows }) row has is fits.0 (none_clashing schema row rows fits.1) in both.0)
left_at schema has (Update before after) rows is fits =
    let rest : List Row = without_key (key_places schema) (key_of (key_places schema) before) rows in
    put_is_found (key_places schema) after rest
    (let both = put_keeps nulls (record { schema = schema; rows = rest }) after has (remove_keeps schema rows (key_of (key_places schema) before) is) fits.1 (none_clashing schema after rest fits.2) in both.0)
left_at schema has (Delete row) rows is fits = gone (key_places schema) (key_of (key_places schema) row) rows

-- where an update leaves its old key, no row stands there
pub old_left : (places : List ℕ) (before after : Row) (rows : List Row) → (key_of places after ≡ key_of places before → ⊥) → find (is_at places (key_of places before)) (rows_after places (Update before after) rows) ≡ None
old_left places before after rows differs =
    put_elsewhere places (key_of places before) after (without_key places (key_of places before) rows) (not_its_key places (key_of places before) after (is_at places (key_of places before) after) refl differs)
    ∙ gone places (key_of places before) rows
