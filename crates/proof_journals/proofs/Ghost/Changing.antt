-- A change that goes with the rows makes the same of them by value and by key.
use Rattle.std.proofs.Common.{◌≡◌, ℕ, Bool, true, false, ◌||◌, List, [], ◌∷◌, find, cond, Some, refl, sym, ap, ◌∙◌, subst}
use Rattle.std.proofs.Math.Bool.{or-true}
use Rattle.std.proofs.lemmas.Bool.{false≢true, true≢false}
use Rattle.base_values.specs.declared.gho_schema.schema.Schema.{Schema}
use Rattle.base_values.specs.GhoSchema.Rows.{key_of, key_places, with_row}
use Rattle.base_values.specs.GhoSchema.Tables.{IsTable, Ascends}
use Rattle.base_values.specs.declared.event.Change.{Change}
use Rattle.base_values.specs.declared.event.Change.TheVariants.{Write, Update, Delete}
use Rattle.table_store.specs.ClusteredKeys.{HasClusteredKey}
use Rattle.table_store.specs.RowLists.{is_at, without_key}
use Rattle.table_store.proofs.Orders.{Row}
use Rattle.table_store.proofs.RowLaws.{key_is}
use Rattle.table_store.proofs.TableLaws.{put_keeps, remove_keeps}
use Rattle.table_store.proofs.FoundRows.{put_new}
use Rattle.proof_journals.proofs.Ghost.Rows.TimelineLaws.{none_clashing}
use Rattle.proof_journals.specs.Ghost.Rows.Moments.{Fits, rows_after}
use Rattle.server_model.proofs.LockedRows.OneRow.{one_of_key, own_key, same_removal}
use Rattle.server_model.specs.Rows.{change_rows, same_row, stands, without_row}
use Rattle.server_model.proofs.LockedRows.WellFormed.{nulls}
use Rattle.server_model.proofs.LockedRows.Standing.{one_row, same_itself}

-- a row that is found stands
found_here : (test : Row → Bool) (row first : Row) (rows : List Row) (b : Bool) → cond b (Some first) (find test rows) ≡ Some row → (find test rows ≡ Some row → stands row rows ≡ true) → (same_row row first || stands row rows) ≡ true
found_here test row first rows true is rest = let one : first ≡ row = cc in rw (ap (same_row row) one ∙ same_itself row) refl
found_here test row first rows false is rest = rw (rest is) (or-true (same_row row first))

pub found_stands : (test : Row → Bool) (row : Row) (rows : List Row) → find test rows ≡ Some row → stands row rows ≡ true
unfolding stands
found_stands test row [] is = absurd cc
found_stands test row (first ∷ rows) is = found_here test row first rows (test first) is (found_stands test row rows)

-- a row that stands is found by its key
stands_here : (places : List ℕ) (row first : Row) (rows : List Row) (s b : Bool) → same_row row first ≡ s → is_at places (key_of places row) first ≡ b → Ascends places (first ∷ rows) → stands first (first ∷ rows) ≡ true → stands row (first ∷ rows) ≡ true
    → (s || stands row rows) ≡ true → (stands row rows ≡ true → find (is_at places (key_of places row)) rows ≡ Some row) → cond b (Some first) (find (is_at places (key_of places row)) rows) ≡ Some row
stands_here places row first rows s true same at ascends front stood some rest =
    let one : first ≡ row = one_of_key places first row (first ∷ rows) ascends front stood (sym (key_is places (key_of places row) first at)) in ap Some one
stands_here places row first rows true false same at ascends front stood some rest =
    let one : row ≡ first = one_row row first same in
    absurd (true≢false (sym (subst (λ (r : Row). is_at places (key_of places row) r ≡ true) one (own_key places row)) ∙ at))
stands_here places row first rows false false same at ascends front stood some rest = rest some

first_stands : (first : Row) (rows : List Row) → stands first (first ∷ rows) ≡ true
unfolding stands
first_stands first rows = rw (same_itself first) refl

stands_parts : (row first : Row) (rows : List Row) → stands row (first ∷ rows) ≡ true → (same_row row first || stands row rows) ≡ true
unfolding stands
stands_parts row first rows stood = stood

pub stands_found : (places : List ℕ) (row : Row) (rows : List Row) → Ascends places rows → stands row rows ≡ true → find (is_at places (key_of places row)) rows ≡ Some row
unfolding stands
stands_found places row [] ascends stood = absurd (false≢true stood)
stands_found places row (first ∷ rows) ascends stood =
    stands_here places row first rows (same_row row first) (is_at places (key_of places row) first) refl refl ascends (first_stands first rows) stood (stands_parts row first rows stood) (stands_found places row rows ascends.1)

-- *What goes with the rows is changed alike by value and by key.*
pub same_change : (schema : Schema) → HasClusteredKey schema → (change : Change) (rows : List Row) → IsTable schema rows → Fits schema rows change → change_rows (key_places schema) change rows ≡ rows_after (key_places schema) change rows
unfolding change_rows
same_change schema has (Write row) rows is fits =
    let new = put_keeps nulls (record { schema = schema; rows = rows }) row has is fits.0 (none_clashing schema row rows fits.1) in
    sym (put_new (key_places schema) row rows new.0)
same_change schema has (Update before after) rows is fits =
    let places : List ℕ = key_places schema in
    let left : List Row = without_key places (key_of places before) rows in
    let gone : left ≡ without_row before rows = same_removal places before rows is.ascends (found_stands (is_at places (key_of places before)) before rows fits.0) in
    let new = put_keeps nulls (record { schema = schema; rows = left }) after has (remove_keeps schema rows (key_of places before) is) fits.1 (none_clashing schema after left fits.2) in
    ap (with_row places after) (sym gone) ∙ sym (put_new places after left new.0)
same_change schema has (Delete row) rows is fits =
    let places : List ℕ = key_places schema in sym (same_removal places row rows is.ascends (found_stands (is_at places (key_of places row)) row rows fits))
