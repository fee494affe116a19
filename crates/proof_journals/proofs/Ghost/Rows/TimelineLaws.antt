-- A log that log_fits through valid tables is a past that the ghost relation can stand on.
use Rattle.std.proofs.Common.{◌≡◌, ℕ, zero, suc, ◌+◌, ◌<◌, Bool, true, false, ◌&&◌, List, [], ◌∷◌, length, find, cond, Some, None, refl, sym, ap, ◌∙◌, subst, arith}
use Rattle.std.specs.Str.{bytes_eq}
use Rattle.base_values.specs.declared.gho_schema.schema.Schema.{Schema}
use Rattle.base_values.specs.GhoSchema.Rows.{key_of, key_places}
use Rattle.base_values.specs.GhoSchema.Tables.{IsRow, IsTable}
use Rattle.base_values.specs.RowConversion.ConvertedRows.{converted_row}
use Rattle.base_values.specs.declared.event.RowEvent.{RowEvent}
use Rattle.base_values.specs.declared.event.Change.{Change}
use Rattle.base_values.specs.declared.event.Change.TheVariants.{Write, Update, Delete}
use Rattle.table_store.specs.ClusteredKeys.{HasClusteredKey}
use Rattle.table_store.specs.Databases.{clashing}
use Rattle.table_store.specs.RowLists.{is_at, without_key}
use Rattle.table_store.proofs.FoundRows.{put_new}
use Rattle.table_store.proofs.TableLaws.{put_keeps, remove_keeps}
use Rattle.server_model.proofs.LockedRows.WellFormed.{nulls}
use Rattle.proof_journals.specs.Ghost.Relation.Timelines.{IsTimeline, RowBefore}
use Rattle.proof_journals.proofs.Ghost.Rows.Finding.{apart_found, clash_turned, found_in}
use Rattle.proof_journals.proofs.Ghost.Rows.StayingKeys.{Earlier, earlier, same_key}
use Rattle.proof_journals.specs.Ghost.Rows.Moments.{Fits, LogFits, NoneClashes, Row, put_in, rows_after, rows_at, rows_then}
use Rattle.proof_journals.specs.Ghost.Rows.Timelines.{EventAt, KeepsUniques, Migration, changes_key, kept, timeline_of, touched_by, touches_row}
use Rattle.proof_journals.proofs.Results.{was_ok}

pub none_clashing : (schema : Schema) (row : Row) (rows : List Row) → NoneClashes schema.uniques row rows → clashing (record { schema = schema; rows = rows }) row None ≡ None
none_clashing schema row [] none = refl
none_clashing schema row (first ∷ rows) none = rw none.0 (none_clashing schema row rows none.1)

put_table : (schema : Schema) → HasClusteredKey schema → (row : Row) (rows : List Row) → IsTable schema rows → IsRow schema.columns row → NoneClashes schema.uniques row rows → IsTable schema (put_in (key_places schema) row rows)
put_table schema has row rows is fits none =
    let both = put_keeps nulls (record { schema = schema; rows = rows }) row has is fits (none_clashing schema row rows none) in
    subst (IsTable schema) (sym (put_new (key_places schema) row rows both.0)) both.1

-- a change that goes with a table leaves a table
pub change_keeps : (schema : Schema) → HasClusteredKey schema → (change : Change) (rows : List Row) → IsTable schema rows → Fits schema rows change → IsTable schema (rows_after (key_places schema) change rows)
change_keeps schema has (Write row) rows is fits = put_table schema has row rows is fits.0 fits.1
change_keeps schema has (Update before after) rows is fits =
    put_table schema has after (without_key (key_places schema) (key_of (key_places schema) before) rows) (remove_keeps schema rows (key_of (key_places schema) before) is) fits.1 fits.2
change_keeps schema has (Delete row) rows is fits = remove_keeps schema rows (key_of (key_places schema) row) is

pub then_keeps : (name : List ℕ) (schema : Schema) → HasClusteredKey schema → (event : RowEvent) (rows : List Row) (b : Bool) → bytes_eq event.table name ≡ b → IsTable schema rows → (bytes_eq event.table name ≡ true → Fits schema rows event.change)
    → IsTable schema (cond b (rows_after (key_places schema) event.change rows) rows)
then_keeps name schema has event rows true is_named is fits = change_keeps schema has event.change rows is (fits is_named)
then_keeps name schema has event rows false is_named is fits = is

-- each moment's rows are a table
pub each_table : (name : List ℕ) (schema : Schema) → HasClusteredKey schema → (log : List RowEvent) (rows : List Row) (i : ℕ) → IsTable schema rows → LogFits name schema rows log → IsTable schema (rows_at name (key_places schema) rows log i)
unfolding rows_at LogFits
each_table name schema has [] rows zero is log_fits = is
each_table name schema has [] rows (suc i) is log_fits = is
each_table name schema has (event ∷ log) rows zero is log_fits = is
each_table name schema has (event ∷ log) rows (suc i) is log_fits =
    each_table name schema has log (rows_then name (key_places schema) event rows) i (then_keeps name schema has event rows (bytes_eq event.table name) refl is log_fits.0) log_fits.1

-- what one event does
pub step : (name : List ℕ) (schema : Schema) (log : List RowEvent) (rows : List Row) (i : ℕ) → i < length log → LogFits name schema rows log → EventAt name schema rows log i
unfolding rows_at LogFits
step name schema [] rows i less log_fits = absurd (let no : ⊥ = omega arith in no)
step name schema (event ∷ []) rows zero less log_fits = record { event = event; there = refl; then = refl; fits = log_fits.0 }
step name schema (event ∷ (next ∷ log)) rows zero less log_fits = record { event = event; there = refl; then = refl; fits = log_fits.0 }
step name schema (event ∷ log) rows (suc i) less log_fits =
    let later = step name schema log (rows_then name (key_places schema) event rows) i (omega arith) log_fits.1 in
    let next : suc i + 1 ≡ suc (i + 1) = omega arith in
    record { event = later.event; there = later.there; then = ap (rows_at name (key_places schema) rows (event ∷ log)) next ∙ later.then; fits = later.fits }

-- where an event doesn't touch a key
was_by : (m : Migration) (schema : Schema) → schema ≡ m.schema → (clustered : (before after : Row) → changes_key (kept m) before after ≡ false → key_of (key_places schema) before ≡ key_of (key_places schema) after) (event : RowEvent) (key row : Row) (rows : List Row) (b : Bool) → bytes_eq event.table m.name ≡ b
    → (bytes_eq event.table m.name ≡ true → Fits schema rows event.change) → (b && touches_row (kept m) (key_places schema) key event.change) ≡ false → find (is_at (key_places schema) key) (cond b (rows_after (key_places schema) event.change rows) rows) ≡ Some row
    → Earlier (kept m) (key_places schema) key row rows
was_by m schema same clustered event key row rows true named fits quiet is = earlier (kept m) schema clustered key row event.change rows (fits named) quiet is
was_by m schema same clustered event key row rows false named fits quiet is = record { before = row; stands = is; same = λ other clashes. clashes }

pub keys_stay : (m : Migration) → KeepsUniques m → (before after : Row) → changes_key (kept m) before after ≡ false → key_of (key_places m.schema) before ≡ key_of (key_places m.schema) after
keys_stay m keeps before after none =
    subst (λ places. key_of places before ≡ key_of places after) keeps.its_places (same_key (kept m) keeps.place keeps.clustered before after keeps.there none)

still : (m : Migration) (rows : List Row) (log : List RowEvent) → KeepsUniques m → LogFits m.name m.schema rows log → (i : ℕ) (key row : Row) → i < length log → (timeline_of m rows log).touches i key ≡ false → (timeline_of m rows log).row_at (i + 1) key ≡ Some row → RowBefore (timeline_of m rows log) i key row
still m rows log keeps log_fits i key row less quiet is =
    let one = step m.name m.schema log rows i less log_fits in
    let at : find (is_at (key_places m.schema) key) (rows_then m.name (key_places m.schema) one.event (rows_at m.name (key_places m.schema) rows log i)) ≡ Some row = subst (λ rs. find (is_at (key_places m.schema) key) rs ≡ Some row) one.then is in
    let not_it : touched_by (kept m) m.name (key_places m.schema) key (Some one.event) ≡ false = subst (λ e. touched_by (kept m) m.name (key_places m.schema) key e ≡ false) one.there quiet in
    let was = was_by m m.schema refl (keys_stay m keeps) one.event key row (rows_at m.name (key_places m.schema) rows log i) (bytes_eq one.event.table m.name) refl one.fits not_it at in
    record { before = was.before; stands = was.stands; same = was.same }

-- rows that stood are rows
stood_fits : (m : Migration) (rows : List Row) (log : List RowEvent) → ((i : ℕ) → IsTable m.schema (rows_at m.name (key_places m.schema) rows log i)) → (i : ℕ) (key row : Row) → (timeline_of m rows log).row_at i key ≡ Some row → IsRow m.schema.columns row
stood_fits m rows log tables i key row stands = found_in (is_at (key_places m.schema) key) (IsRow m.schema.columns) (rows_at m.name (key_places m.schema) rows log i) row (tables i).rows_fit stands

-- *The past is one of valid tables.*
pub is_timeline : (m : Migration) (rows : List Row) (log : List RowEvent) → HasClusteredKey m.schema → KeepsUniques m → IsTable m.schema rows → LogFits m.name m.schema rows log → IsTimeline (timeline_of m rows log) (length log)
is_timeline m rows log has keeps is log_fits =
    let tables : (i : ℕ) → IsTable m.schema (rows_at m.name (key_places m.schema) rows log i) = λ i. each_table m.name m.schema has log rows i is log_fits in
    record {
      apart = λ i key other a b within first second meets. apart_found m.schema.uniques (key_places m.schema) key other a b (rows_at m.name (key_places m.schema) rows log i) (tables i).apart first second (keeps.are_old a b meets);
      still = still m rows log keeps log_fits;
      clashes = λ i j key other a b made more within too at_i at_j is_a is_b clash.
          keeps.clashes a b made more (stood_fits m rows log tables i key a at_i) (stood_fits m rows log tables j other b at_j) (was_ok (converted_row m.columns a) made is_a) (was_ok (converted_row m.columns b) more is_b) clash;
      turned = λ a b meets. clash_turned (kept m) a b meets;
    }
