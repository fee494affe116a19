-- What two sessions changed has no point in common.
use Rattle.std.proofs.Common.{◌≡◌, true, false, List, [], ◌∷◌, Some, sym, ◌∙◌, subst}
use Rattle.std.proofs.lemmas.Bool.{false_from_ne_true, true≢false}
use Rattle.std.specs.List.{AllByRecursion}
use Rattle.base_values.specs.declared.gho_schema.schema.Schema.{Schema}
use Rattle.base_values.specs.GhoSchema.Rows.{key_of, key_places}
use Rattle.base_values.specs.GhoSchema.Tables.{IsRow, IsTable, clash}
use Rattle.base_values.specs.declared.event.Change.{Change}
use Rattle.base_values.specs.declared.event.Change.TheVariants.{Write, Update, Delete}
use Rattle.server_locks.specs.declared.row_locks.lock.Lock.{Lock}
use Rattle.table_store.specs.ClusteredKeys.{HasClusteredKey}
use Rattle.table_store.specs.RowLists.{is_at}
use Rattle.table_store.proofs.Orders.{Row}
use Rattle.proof_journals.proofs.Ghost.Keys.{locked_apart, row_locked}
use Rattle.proof_journals.specs.Ghost.HeldKeys.{is_locked}
use Rattle.proof_journals.proofs.Ghost.Rows.Finding.{found_in}
use Rattle.proof_journals.proofs.Ghost.Rows.TimelineLaws.{change_keeps}
use Rattle.proof_journals.specs.Ghost.Rows.Changes.{NamesHeld, NoneRemoved, new_key, old_key, removed_row}
use Rattle.proof_journals.specs.Ghost.Rows.Disjoint.{AllDisjoint, AreDisjoint, Disjoint}
use Rattle.proof_journals.specs.Ghost.Rows.Moments.{Fits, FitsAll, rows_after}
use Rattle.proof_journals.specs.Ghost.Rows.Views.{is_among}
use Rattle.proof_journals.proofs.Kept.{apart-turn}
use Rattle.server_model.specs.Needs.{points}
use Rattle.server_model.proofs.LockedRows.Covers.{not_under}
use Rattle.server_model.proofs.LockedRows.Points.{clash_under, under-within}
use Rattle.server_model.specs.LockedRows.Agreement.{Within}
use Rattle.server_model.specs.LockedRows.Coverage.{rows_of, RowsCovered, Apart, Covered}

-- rows whose points two sessions hold don't clash
no_clash : (schema : Schema) (own others : List Lock) (row other : Row) → Apart own others → Within (points schema row) own → Within (points schema other) others → clash schema.uniques other row ≡ false
no_clash schema own others row other apart mine theirs =
    false_from_ne_true (clash schema.uniques other row) (λ clashes.
    true≢false (sym (under-within schema (points schema other) others row theirs (clash_under schema other row clashes)) ∙ not_under schema own others row apart mine))

-- *Rows whose points two sessions hold are disjoint_rows.*
pub disjoint_rows : (schema : Schema) → HasClusteredKey schema → (own others : List Lock) (row other : Row) → Apart own others → IsRow schema.columns row → IsRow schema.columns other → Within (points schema row) own → Within (points schema other) others
    → AreDisjoint schema row other
disjoint_rows schema has own others row other apart fits too mine theirs =
    record {
      apart = no_clash schema others own other row (apart-turn own others apart) theirs mine;
      turned = no_clash schema own others row other apart mine theirs;
      keys = λ same.
          true≢false (sym (row_locked schema has other others too theirs) ∙ subst (λ (k : Row). is_locked schema others k ≡ false) same (locked_apart schema own others (key_of (key_places schema) row) apart (row_locked schema has row own fits mine)));
    }

-- the rows that changes name are rows of the table's columns
abbrev pub NamesRows : Schema → List Change → Type 0
NamesRows schema changes = AllByRecursion (λ change. AllByRecursion (IsRow schema.columns) (rows_of change)) changes

named_by : (schema : Schema) (change : Change) (rows : List Row) → IsTable schema rows → Fits schema rows change → AllByRecursion (IsRow schema.columns) (rows_of change)
named_by schema (Write row) rows is fits = (fits.0, tt)
named_by schema (Update before after) rows is fits = (found_in (is_at (key_places schema) (key_of (key_places schema) before)) (IsRow schema.columns) rows before is.rows_fit fits.0, (fits.1, tt))
named_by schema (Delete row) rows is fits = (found_in (is_at (key_places schema) (key_of (key_places schema) row)) (IsRow schema.columns) rows row is.rows_fit fits, tt)

pub named_rows : (schema : Schema) → HasClusteredKey schema → (changes : List Change) (rows : List Row) → IsTable schema rows → FitsAll schema rows changes → NamesRows schema changes
unfolding FitsAll
named_rows schema has [] rows is fits = tt
named_rows schema has (change ∷ changes) rows is fits =
    (named_by schema change rows is fits.0, named_rows schema has changes (rows_after (key_places schema) change rows) (change_keeps schema has change rows is fits.0) fits.1)

-- the two words for the rows of a change are one
covered_rows : (schema : Schema) (locks : List Lock) (change : Change) → RowsCovered schema locks (rows_of change) → RowsCovered schema locks (rows_of change)
covered_rows schema locks (Write row) covered = covered
covered_rows schema locks (Update before after) covered = covered
covered_rows schema locks (Delete row) covered = covered

row_and_rows : (schema : Schema) → HasClusteredKey schema → (own others : List Lock) (row : Row) (rows : List Row) → Apart own others → IsRow schema.columns row → Within (points schema row) own
    → AllByRecursion (IsRow schema.columns) rows → RowsCovered schema others rows → AllByRecursion (AreDisjoint schema row) rows
row_and_rows schema has own others row [] apart fits mine too theirs = tt
row_and_rows schema has own others row (other ∷ rows) apart fits mine too theirs =
    (disjoint_rows schema has own others row other apart fits too.0 mine theirs.0, row_and_rows schema has own others row rows apart fits mine too.1 theirs.1)

rows_and_rows : (schema : Schema) → HasClusteredKey schema → (own others : List Lock) (rows more : List Row) → Apart own others → AllByRecursion (IsRow schema.columns) rows → RowsCovered schema own rows
    → AllByRecursion (IsRow schema.columns) more → RowsCovered schema others more → AllByRecursion (λ row. AllByRecursion (AreDisjoint schema row) more) rows
rows_and_rows schema has own others [] more apart fits mine too theirs = tt
rows_and_rows schema has own others (row ∷ rows) more apart fits mine too theirs =
    (row_and_rows schema has own others row more apart fits.0 mine.0 too theirs, rows_and_rows schema has own others rows more apart fits.1 mine.1 too theirs)

one_strange : (schema : Schema) → HasClusteredKey schema → (own others : List Lock) (change : Change) (more : List Change) → Apart own others → AllByRecursion (IsRow schema.columns) (rows_of change) → RowsCovered schema own (rows_of change)
    → NamesRows schema more → Covered schema others more → AllByRecursion (Disjoint schema change) more
one_strange schema has own others change [] apart fits mine too theirs = tt
one_strange schema has own others change (other ∷ more) apart fits mine too theirs = (
  rows_and_rows schema has own others (rows_of change) (rows_of other) apart fits (covered_rows schema own change mine) too.0 (covered_rows schema others other theirs.0),
  one_strange schema has own others change more apart fits mine too.1 theirs.1,
)

-- *What two sessions changed has no point in common.*
pub all_disjoint : (schema : Schema) → HasClusteredKey schema → (own others : List Lock) (changes more : List Change) → Apart own others → NamesRows schema changes → Covered schema own changes
    → NamesRows schema more → Covered schema others more → AllDisjoint schema changes more
all_disjoint schema has own others [] more apart fits mine too theirs = tt
all_disjoint schema has own others (change ∷ changes) more apart fits mine too theirs =
    (one_strange schema has own others change more apart fits.0 mine.0 too theirs, all_disjoint schema has own others changes more apart fits.1 mine.1 too theirs)

-- *Changes whose rows' points are held name keys that are held.*
keys_locked : (schema : Schema) → HasClusteredKey schema → (locks : List Lock) (change : Change) → AllByRecursion (IsRow schema.columns) (rows_of change) → RowsCovered schema locks (rows_of change)
    → (is_locked schema locks (old_key (key_places schema) change) ≡ true) × (is_locked schema locks (new_key (key_places schema) change) ≡ true)
keys_locked schema has locks (Write row) fits within = let is = row_locked schema has row locks fits.0 within.0 in (is, is)
keys_locked schema has locks (Update before after) fits within = (row_locked schema has before locks fits.0 within.0, row_locked schema has after locks fits.1.0 within.1.0)
keys_locked schema has locks (Delete row) fits within = let is = row_locked schema has row locks fits.0 within.0 in (is, is)

pub covered_keys : (schema : Schema) → HasClusteredKey schema → (locks : List Lock) (changes : List Change) → NamesRows schema changes → Covered schema locks changes → NamesHeld (key_places schema) (is_locked schema locks) changes
covered_keys schema has locks [] fits within = tt
covered_keys schema has locks (change ∷ changes) fits within = (keys_locked schema has locks change fits.0 within.0, covered_keys schema has locks changes fits.1 within.1)

-- *No row that a session took out clashes with a row whose points another holds.*
none_out : (schema : Schema) (own others : List Lock) (made : Row) (change : Change) → Apart own others → RowsCovered schema own (rows_of change) → Within (points schema made) others → (out : Row) → removed_row change ≡ Some out → clash schema.uniques made out ≡ false
none_out schema own others made (Write row) apart mine theirs out is = absurd cc
none_out schema own others made (Update before after) apart mine theirs out is = let one : before ≡ out = cc in subst (λ r. clash schema.uniques made r ≡ false) one (no_clash schema own others before made apart mine.0 theirs)
none_out schema own others made (Delete row) apart mine theirs out is = let one : row ≡ out = cc in subst (λ r. clash schema.uniques made r ≡ false) one (no_clash schema own others row made apart mine.0 theirs)

pub none_removed : (schema : Schema) (own others : List Lock) (made : Row) (changes : List Change) → Apart own others → Covered schema own changes → Within (points schema made) others → NoneRemoved schema.uniques made changes
none_removed schema own others made [] apart mine theirs = tt
none_removed schema own others made (change ∷ changes) apart mine theirs = (none_out schema own others made change apart mine.0 theirs, none_removed schema own others made changes apart mine.1 theirs)

-- *The key of an image whose points are granted isn't the other session's.*
pub converted_row_free : (schema : Schema) → HasClusteredKey schema → (own others : List Lock) (made : Row) → Apart own others → IsRow schema.columns made → Within (points schema made) others → is_locked schema own (key_of (key_places schema) made) ≡ false
converted_row_free schema has own others made apart fits theirs = locked_apart schema others own (key_of (key_places schema) made) (apart-turn own others apart) (row_locked schema has made others fits theirs)

-- *Keys that one session holds are no keys of the other's.*
pub held_apart : (schema : Schema) (own others : List Lock) (keys : List Row) → Apart own others → ((key : Row) → is_among keys key ≡ true → is_locked schema others key ≡ true) → (key : Row) → is_among keys key ≡ true → is_locked schema own key ≡ false
held_apart schema own others keys apart holds key among = locked_apart schema others own key (apart-turn own others apart) (holds key among)
