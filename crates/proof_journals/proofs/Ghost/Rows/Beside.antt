-- Own writes still go with the rows when another session, with other points, has committed.
use Rattle.std.proofs.Common.{◌≡◌, ℕ, Bool, true, false, not, List, [], ◌∷◌, find, filter, cond, Some, None, refl, sym, ◌∙◌, subst, unwrap_or, ◌⊎◌, inl, inr}
use Rattle.std.specs.List.{AllByRecursion}
use Rattle.base_values.specs.declared.gho_schema.schema.Schema.{Schema}
use Rattle.base_values.specs.GhoSchema.Rows.{key_of, key_places, has_key, with_row}
use Rattle.base_values.specs.GhoSchema.Tables.{IsTable, clash}
use Rattle.base_values.proofs.GhoSchema.Orders.{all-with_row}
use Rattle.base_values.specs.declared.event.Change.{Change}
use Rattle.base_values.specs.declared.event.Change.TheVariants.{Write, Update, Delete}
use Rattle.table_store.specs.ClusteredKeys.{HasClusteredKey}
use Rattle.table_store.specs.RowLists.{is_at, without_key}
use Rattle.table_store.proofs.Ascending.{all-filter}
use Rattle.proof_journals.proofs.Ghost.Relation.Tests.{true_false}
use Rattle.proof_journals.proofs.Ghost.Rows.Altering.{same_rows}
use Rattle.proof_journals.proofs.Ghost.Rows.Events.{others_found}
use Rattle.proof_journals.proofs.Ghost.Rows.Finding.{keys_decided}
use Rattle.proof_journals.proofs.Ghost.Rows.Overlays.{same_after}
use Rattle.proof_journals.proofs.Ghost.Rows.TimelineLaws.{change_keeps}
use Rattle.proof_journals.specs.Ghost.Rows.Changes.{new_key, old_key}
use Rattle.proof_journals.specs.Ghost.Rows.Disjoint.{AllDisjoint, AreDisjoint, Disjoint}
use Rattle.proof_journals.specs.Ghost.Rows.Moments.{Fits, FitsAll, Row, rows_after, rows_after_all}
use Rattle.server_model.specs.LockedRows.Coverage.{rows_of}

-- ---- what holds of all rows behind a change

put_all : (P : Row → Type 0) (places : List ℕ) (row : Row) (rows : List Row) (b : Bool) → P row → AllByRecursion P rows → AllByRecursion P (unwrap_or (cond b None (Some (with_row places row rows))) rows)
put_all P places row rows true new all = all
put_all P places row rows false new all = all-with_row P places row rows new all

after_all : (P : Row → Type 0) (places : List ℕ) (change : Change) (rows : List Row) → AllByRecursion P (rows_of change) → AllByRecursion P rows → AllByRecursion P (rows_after places change rows)
after_all P places (Write row) rows new all = put_all P places row rows (has_key places rows (key_of places row)) new.0 all
after_all P places (Update before after) rows new all =
    put_all P places after (without_key places (key_of places before) rows) (has_key places (without_key places (key_of places before) rows) (key_of places after)) new.1.0 (all-filter P (λ row. not (is_at places (key_of places before) row)) rows all)
after_all P places (Delete row) rows new all = all-filter P (λ other. not (is_at places (key_of places row) other)) rows all

-- all rows but those that pass a test
but_here : (test : Row → Bool) (P : Row → Type 0) (row : Row) (rest : List Row) (b : Bool) → test row ≡ b → AllByRecursion P (cond (not b) (row ∷ rest) rest) → (test row ≡ false → P row) × AllByRecursion P rest
but_here test P row rest true passes all = (λ fails. true_false (test row) passes fails, all)
but_here test P row rest false passes all = (λ fails. all.0, all.1)

but_all : (test : Row → Bool) (P : Row → Type 0) (rows : List Row) → AllByRecursion P (filter (λ row. not (test row)) rows) → AllByRecursion (λ row. test row ≡ false → P row) rows
but_all test P [] all = tt
but_all test P (row ∷ rows) all = let both = but_here test P row (filter (λ r. not (test r)) rows) (test row) refl all in (both.0, but_all test P rows both.1)

all_here : (test : Row → Bool) (P : Row → Type 0) (row : Row) (rest : List Row) (b : Bool) → test row ≡ b → (test row ≡ false → P row) → AllByRecursion P rest → AllByRecursion P (cond (not b) (row ∷ rest) rest)
all_here test P row rest true passes first all = all
all_here test P row rest false passes first all = (first passes, all)

all_but : (test : Row → Bool) (P : Row → Type 0) (rows : List Row) → AllByRecursion (λ row. test row ≡ false → P row) rows → AllByRecursion P (filter (λ row. not (test row)) rows)
all_but test P [] all = tt
all_but test P (row ∷ rows) all = all_here test P row (filter (λ r. not (test r)) rows) (test row) refl all.0 (all_but test P rows all.1)

-- ---- one change beside another

-- the rows that a change names are disjoint to a row of the other
others_apart : (schema : Schema) (row : Row) (rows : List Row) → AllByRecursion (λ other. AllByRecursion (AreDisjoint schema other) (row ∷ [])) rows → AllByRecursion (λ other. clash schema.uniques row other ≡ false) rows
others_apart schema row [] all = tt
others_apart schema row (other ∷ rows) all = (all.0.0.turned, others_apart schema row rows all.1)

-- no key that a change names is a stranger's
abbrev pub KeyApart : Schema → Change → Row → Type 0
KeyApart schema change key = (old_key (key_places schema) change ≡ key → ⊥) × (new_key (key_places schema) change ≡ key → ⊥)

key_apart : (schema : Schema) (change : Change) (row : Row) → AllByRecursion (λ other. AreDisjoint schema other row) (rows_of change) → KeyApart schema change (key_of (key_places schema) row)
key_apart schema (Write other) row all = (all.0.keys, all.0.keys)
key_apart schema (Update before after) row all = (all.0.keys, all.1.0.keys)
key_apart schema (Delete other) row all = (all.0.keys, all.0.keys)

first_of_two : (schema : Schema) (a : Row) (b : List Row) (rows : List Row) → AllByRecursion (λ other. AllByRecursion (AreDisjoint schema other) (a ∷ b)) rows → AllByRecursion (λ other. AreDisjoint schema other a) rows
first_of_two schema a b [] all = tt
first_of_two schema a b (other ∷ rows) all = (all.0.0, first_of_two schema a b rows all.1)

second_of_two : (schema : Schema) (a b : Row) (rows : List Row) → AllByRecursion (λ other. AllByRecursion (AreDisjoint schema other) (a ∷ b ∷ [])) rows → AllByRecursion (λ other. clash schema.uniques b other ≡ false) rows
second_of_two schema a b [] all = tt
second_of_two schema a b (other ∷ rows) all = (all.0.1.0.turned, second_of_two schema a b rows all.1)

weaken : (P Q : Row → Type 0) (rows : List Row) → ((row : Row) → P row → Q row) → AllByRecursion P rows → AllByRecursion Q rows
weaken P Q [] so all = tt
weaken P Q (row ∷ rows) so all = (so row all.0, weaken P Q rows so all.1)

pub fits_beside : (schema : Schema) (change other : Change) (rows : List Row) → Disjoint schema change other → Fits schema rows other → Fits schema (rows_after (key_places schema) change rows) other
fits_beside schema change (Write row) rows disjoint fits =
    (fits.0, after_all (λ other. clash schema.uniques row other ≡ false) (key_places schema) change rows (others_apart schema row (rows_of change) disjoint) fits.1)
fits_beside schema change (Update before after) rows disjoint fits =
    let places : List ℕ = key_places schema in
    let key : Row = key_of places before in
    let apart = key_apart schema change before (first_of_two schema before (after ∷ []) (rows_of change) disjoint) in
    let clear : AllByRecursion (λ other. is_at places key other ≡ false → clash schema.uniques after other ≡ false) rows = but_all (is_at places key) (λ other. clash schema.uniques after other ≡ false) rows fits.2 in
    let then : AllByRecursion (λ other. is_at places key other ≡ false → clash schema.uniques after other ≡ false) (rows_after places change rows) =
    after_all (λ other. is_at places key other ≡ false → clash schema.uniques after other ≡ false) places change rows
    (weaken (λ other. clash schema.uniques after other ≡ false) (λ other. is_at places key other ≡ false → clash schema.uniques after other ≡ false) (rows_of change) (λ other is free. is) (second_of_two schema before after (rows_of change) disjoint)) clear in
    (others_found places key change rows apart.0 apart.1 ∙ fits.0, fits.1, all_but (is_at places key) (λ other. clash schema.uniques after other ≡ false) (rows_after places change rows) then)
fits_beside schema change (Delete row) rows disjoint fits =
    let apart = key_apart schema change row (first_of_two schema row [] (rows_of change) disjoint) in
    others_found (key_places schema) (key_of (key_places schema) row) change rows apart.0 apart.1 ∙ fits

-- ---- two changes in either order

one_by_one : (schema : Schema) (change other : Change) (rows : List Row) (key : Row) → (KeyApart schema change key) ⊎ (KeyApart schema other key)
    → find (is_at (key_places schema) key) (rows_after (key_places schema) other (rows_after (key_places schema) change rows)) ≡ find (is_at (key_places schema) key) (rows_after (key_places schema) change (rows_after (key_places schema) other rows))
one_by_one schema change other rows key (inl free) =
    let places : List ℕ = key_places schema in
    same_after places key other (rows_after places change rows) rows (others_found places key change rows free.0 free.1) ∙ sym (others_found places key change (rows_after places other rows) free.0 free.1)
one_by_one schema change other rows key (inr free) =
    let places : List ℕ = key_places schema in
    others_found places key other (rows_after places change rows) free.0 free.1 ∙ same_after places key change rows (rows_after places other rows) (sym (others_found places key other rows free.0 free.1))

-- the strangers the other way about
flip_one : (schema : Schema) (row other : Row) → AreDisjoint schema row other → AreDisjoint schema other row
flip_one schema row other are = record { apart = are.turned; turned = are.apart; keys = λ same. are.keys (sym same) }

column : (schema : Schema) (row : Row) (rows others : List Row) → AllByRecursion (λ r. AllByRecursion (AreDisjoint schema r) (row ∷ others)) rows → AllByRecursion (AreDisjoint schema row) rows × AllByRecursion (λ r. AllByRecursion (AreDisjoint schema r) others) rows
column schema row [] others all = (tt, tt)
column schema row (r ∷ rows) others all = let more = column schema row rows others all.1 in ((flip_one schema r row all.0.0, more.0), (all.0.1, more.1))

pub flip : (schema : Schema) (rows others : List Row) → AllByRecursion (λ r. AllByRecursion (AreDisjoint schema r) others) rows → AllByRecursion (λ r. AllByRecursion (AreDisjoint schema r) rows) others
flip schema rows [] all = tt
flip schema rows (other ∷ others) all = let parts = column schema other rows others all in (parts.0, flip schema rows others parts.1)

flipped : (schema : Schema) (row : Row) (rows : List Row) → AllByRecursion (AreDisjoint schema row) rows → AllByRecursion (λ other. AreDisjoint schema other row) rows
flipped schema row [] all = tt
flipped schema row (other ∷ rows) all = (flip_one schema row other all.0, flipped schema row rows all.1)

old_apart : (schema : Schema) (change other : Change) → Disjoint schema change other → KeyApart schema other (old_key (key_places schema) change)
old_apart schema (Write row) other disjoint = key_apart schema other row (flipped schema row (rows_of other) disjoint.0)
old_apart schema (Update before after) other disjoint = key_apart schema other before (flipped schema before (rows_of other) disjoint.0)
old_apart schema (Delete row) other disjoint = key_apart schema other row (flipped schema row (rows_of other) disjoint.0)

new_apart : (schema : Schema) (change other : Change) → Disjoint schema change other → KeyApart schema other (new_key (key_places schema) change)
new_apart schema (Write row) other disjoint = key_apart schema other row (flipped schema row (rows_of other) disjoint.0)
new_apart schema (Update before after) other disjoint = key_apart schema other after (flipped schema after (rows_of other) disjoint.1.0)
new_apart schema (Delete row) other disjoint = key_apart schema other row (flipped schema row (rows_of other) disjoint.0)

split_by : (schema : Schema) (change other : Change) (key : Row) → Disjoint schema change other → (old_key (key_places schema) change ≡ key) ⊎ (old_key (key_places schema) change ≡ key → ⊥) → (new_key (key_places schema) change ≡ key) ⊎ (new_key (key_places schema) change ≡ key → ⊥)
    → (KeyApart schema change key) ⊎ (KeyApart schema other key)
split_by schema change other key disjoint (inl same) which = inr (subst (KeyApart schema other) same (old_apart schema change other disjoint))
split_by schema change other key disjoint (inr differs) (inl same) = inr (subst (KeyApart schema other) same (new_apart schema change other disjoint))
split_by schema change other key disjoint (inr differs) (inr too) = inl (differs, too)

-- *Two changes without a common point may be made in either order.*
pub either_order : (schema : Schema) → HasClusteredKey schema → (change other : Change) (rows : List Row) → IsTable schema rows → Fits schema rows change → Fits schema rows other → Disjoint schema change other
    → rows_after (key_places schema) other (rows_after (key_places schema) change rows) ≡ rows_after (key_places schema) change (rows_after (key_places schema) other rows)
either_order schema has change other rows is fits too disjoint =
    let places : List ℕ = key_places schema in
    let first : IsTable schema (rows_after places other (rows_after places change rows)) = change_keeps schema has other (rows_after places change rows) (change_keeps schema has change rows is fits) (fits_beside schema change other rows disjoint too) in
    let second : IsTable schema (rows_after places change (rows_after places other rows)) =
    change_keeps schema has change (rows_after places other rows) (change_keeps schema has other rows is too) (fits_beside schema other change rows (flip schema (rows_of change) (rows_of other) disjoint) fits) in
    same_rows places (rows_after places other (rows_after places change rows)) (rows_after places change (rows_after places other rows)) first.ascends second.ascends
    (λ key. one_by_one schema change other rows key (split_by schema change other key disjoint (keys_decided (old_key places change) key) (keys_decided (new_key places change) key)))

-- *Own writes go with the rows behind one change of another session.*
pub one_beside : (schema : Schema) → HasClusteredKey schema → (change : Change) (others : List Change) (rows : List Row) → IsTable schema rows → Fits schema rows change → AllByRecursion (Disjoint schema change) others → FitsAll schema rows others
    → FitsAll schema (rows_after (key_places schema) change rows) others
unfolding FitsAll
one_beside schema has change [] rows is fits disjoint all = tt
one_beside schema has change (other ∷ others) rows is fits disjoint all =
    let places : List ℕ = key_places schema in
    let later : FitsAll schema (rows_after places change (rows_after places other rows)) others =
    one_beside schema has change others (rows_after places other rows) (change_keeps schema has other rows is all.0)
    (fits_beside schema other change rows (flip schema (rows_of change) (rows_of other) disjoint.0) fits) disjoint.1 all.1 in
    (fits_beside schema change other rows disjoint.0 all.0, subst (λ rs. FitsAll schema rs others) (sym (either_order schema has change other rows is fits all.0 disjoint.0)) later)

-- *Own writes go with the rows that another session left*, whose writes have no point in common with them.
pub all_beside : (schema : Schema) → HasClusteredKey schema → (changes others : List Change) (rows : List Row) → IsTable schema rows → FitsAll schema rows changes → FitsAll schema rows others → AllDisjoint schema changes others
    → FitsAll schema (rows_after_all (key_places schema) changes rows) others
unfolding FitsAll rows_after_all
all_beside schema has [] others rows is fits all disjoint = all
all_beside schema has (change ∷ changes) others rows is fits all disjoint =
    all_beside schema has changes others (rows_after (key_places schema) change rows) (change_keeps schema has change rows is fits.0) fits.1 (one_beside schema has change others rows is fits.0 disjoint.0 all) disjoint.1

pub all_table : (schema : Schema) → HasClusteredKey schema → (changes : List Change) (rows : List Row) → IsTable schema rows → FitsAll schema rows changes → IsTable schema (rows_after_all (key_places schema) changes rows)
unfolding FitsAll rows_after_all
all_table schema has [] rows is fits = is
all_table schema has (change ∷ changes) rows is fits = all_table schema has changes (rows_after (key_places schema) change rows) (change_keeps schema has change rows is fits.0) fits.1
