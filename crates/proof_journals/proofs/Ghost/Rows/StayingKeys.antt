-- A change that doesn't touch a key leaves its unique keys.
use Rattle.std.proofs.Common.{◌≡◌, ℕ, zero, suc, Bool, true, false, not, ◌&&◌, ◌||◌, List, [], ◌∷◌, find, Some, None, refl, sym, ap, ◌∙◌, subst}
use Rattle.std.proofs.lemmas.Bool.{false≢true, not-false, or_parts}
use Rattle.std.specs.Ordering.{is_eq}
use Rattle.std.specs.List.{slice_get}
use Rattle.base_values.specs.KeyOrder.{compare_keys}
use Rattle.base_values.proofs.Orders.{tied_keys}
use Rattle.base_values.specs.declared.gho_schema.schema.Schema.{Schema}
use Rattle.base_values.specs.declared.gho_schema.schema.Index.{Index}
use Rattle.base_values.specs.GhoSchema.Rows.{key_of, key_places}
use Rattle.base_values.specs.GhoSchema.Tables.{clash}
use Rattle.base_values.specs.declared.event.Change.{Change}
use Rattle.base_values.specs.declared.event.Change.TheVariants.{Write, Update, Delete}
use Rattle.table_store.specs.RowLists.{is_at, without_key}
use Rattle.table_store.proofs.RowLaws.{key_is, put_found, gone}
use Rattle.proof_journals.proofs.Ghost.Relation.Tests.{true_false}
use Rattle.proof_journals.proofs.Ghost.Rows.Finding.{put_elsewhere, removed_elsewhere}
use Rattle.proof_journals.specs.Ghost.Rows.Moments.{Fits, Row, put_in, rows_after}
use Rattle.proof_journals.specs.Ghost.Rows.Timelines.{changes_key, touches_row}
use Rattle.table_store.proofs.FoundRows.{put_new}
use Rattle.table_store.proofs.Orders.{is_Equal}
use Rattle.server_model.proofs.LockedRows.OneRow.{own_key}

same_place : (index : Index) (before after : Row) → not (is_eq (compare_keys (key_of index.places before) (key_of index.places after))) ≡ false → key_of index.places before ≡ key_of index.places after
same_place index before after is =
    tied_keys (key_of index.places before) (key_of index.places after)
    (is_Equal (compare_keys (key_of index.places before) (key_of index.places after)) (not-false (is_eq (compare_keys (key_of index.places before) (key_of index.places after))) is))

pub same_clash : (uniques : List Index) (before after other : Row) → changes_key uniques before after ≡ false → clash uniques after other ≡ clash uniques before other
unfolding changes_key
same_clash [] before after other none = refl
same_clash (index ∷ uniques) before after other none =
    let parts = or_parts (not (is_eq (compare_keys (key_of index.places before) (key_of index.places after)))) (changes_key uniques before after) none in
    rw (same_place index before after parts.0, same_clash uniques before after other parts.1) refl

pub same_key : (uniques : List Index) (place : ℕ) (index : Index) (before after : Row) → slice_get uniques place ≡ Some index → changes_key uniques before after ≡ false → key_of index.places before ≡ key_of index.places after
unfolding changes_key
same_key [] place index before after there none = absurd cc
same_key (first ∷ uniques) zero index before after there none =
    let parts = or_parts (not (is_eq (compare_keys (key_of first.places before) (key_of first.places after)))) (changes_key uniques before after) none in
    let one : first ≡ index = cc in
    subst (λ (i : Index). key_of i.places before ≡ key_of i.places after) one (same_place first before after parts.0)
same_key (first ∷ uniques) (suc place) index before after there none =
    let parts = or_parts (not (is_eq (compare_keys (key_of first.places before) (key_of first.places after)))) (changes_key uniques before after) none in
    same_key uniques place index before after there parts.1

-- the row of a key before a change that doesn't touch it
pub record Earlier (uniques : List Index) (places : List ℕ) (key row : Row) (rows : List Row) : Type 0 where
  pub before : Row
  pub stands : find (is_at places key) rows ≡ Some before
  pub same : (other : Row) → clash uniques row other ≡ true → clash uniques before other ≡ true

unchanged : (uniques : List Index) (places : List ℕ) (key row : Row) (rows rows' : List Row) → find (is_at places key) rows' ≡ find (is_at places key) rows → find (is_at places key) rows' ≡ Some row → Earlier uniques places key row rows
unchanged uniques places key row rows rows' same is = record { before = row; stands = sym same ∙ is; same = λ other clashes. clashes }

-- a row that is put where its key is new is found
pub put_is_found : (places : List ℕ) (row : Row) (rows : List Row) → find (is_at places (key_of places row)) rows ≡ None → find (is_at places (key_of places row)) (put_in places row rows) ≡ Some row
put_is_found places row rows none = ap (find (is_at places (key_of places row))) (put_new places row rows none) ∙ put_found places (key_of places row) row rows (own_key places row)

-- an update: whether it is of the row of the key
updated : (uniques : List Index) (places : List ℕ) (clustered : (before after : Row) → changes_key uniques before after ≡ false → key_of places before ≡ key_of places after) (key before after row : Row) (rows : List Row) (c b a : Bool) → changes_key uniques before after ≡ c
    → is_at places key before ≡ b → is_at places key after ≡ a → (c && (b || a)) ≡ false → find (is_at places (key_of places before)) rows ≡ Some before
    → find (is_at places key) (put_in places after (without_key places (key_of places before) rows)) ≡ Some row → Earlier uniques places key row rows
updated uniques places clustered key before after row rows true true a changes old new none stood is = absurd (false≢true (sym none))
updated uniques places clustered key before after row rows true false true changes old new none stood is = absurd (false≢true (sym none))
updated uniques places clustered key before after row rows c false false changes old new none stood is =
    unchanged uniques places key row rows (put_in places after (without_key places (key_of places before) rows)) (put_elsewhere places key after (without_key places (key_of places before) rows) new ∙ removed_elsewhere places key before rows old) is
updated uniques places clustered key before after row rows false true a changes old new none stood is =
    let keys : key_of places before ≡ key_of places after = clustered before after changes in
    let is_key : key ≡ key_of places after = key_is places key before old ∙ keys in
    let now : find (is_at places (key_of places after)) (put_in places after (without_key places (key_of places before) rows)) ≡ Some after =
    put_is_found places after (without_key places (key_of places before) rows) (subst (λ k. find (is_at places k) (without_key places (key_of places before) rows) ≡ None) keys (gone places (key_of places before) rows)) in
    let one : Some row ≡ Some after = sym is ∙ subst (λ k. find (is_at places k) (put_in places after (without_key places (key_of places before) rows)) ≡ Some after) (sym is_key) now in
    let same : row ≡ after = cc in
    record {
      before = before;
      stands = subst (λ k. find (is_at places k) rows ≡ Some before) (sym (key_is places key before old)) stood;
      same = λ other clashes. sym (same_clash uniques before after other changes) ∙ subst (λ r. clash uniques r other ≡ true) same clashes;
    }
updated uniques places clustered key before after row rows false false true changes old new none stood is =
    let keys : key_of places before ≡ key_of places after = clustered before after changes in
    true_false (is_at places key before) (ap (λ k. is_eq (compare_keys key k)) keys ∙ new) old

pub earlier : (uniques : List Index) (schema : Schema) (clustered : (before after : Row) → changes_key uniques before after ≡ false → key_of (key_places schema) before ≡ key_of (key_places schema) after) (key row : Row) (change : Change) (rows : List Row) → Fits schema rows change
    → touches_row uniques (key_places schema) key change ≡ false → find (is_at (key_places schema) key) (rows_after (key_places schema) change rows) ≡ Some row → Earlier uniques (key_places schema) key row rows
earlier uniques schema clustered key row (Write new) rows fits quiet is = unchanged uniques (key_places schema) key row rows (put_in (key_places schema) new rows) (put_elsewhere (key_places schema) key new rows quiet) is
earlier uniques schema clustered key row (Update before after) rows fits quiet is =
    updated uniques (key_places schema) clustered key before after row rows (changes_key uniques before after) (is_at (key_places schema) key before) (is_at (key_places schema) key after) refl refl refl quiet fits.0 is
earlier uniques schema clustered key row (Delete old) rows fits quiet is =
    unchanged uniques (key_places schema) key row rows (without_key (key_places schema) (key_of (key_places schema) old) rows) (removed_elsewhere (key_places schema) key old rows quiet) is
