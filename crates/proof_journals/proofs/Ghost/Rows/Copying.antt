-- CopyRow keeps the ghost relation.
use Rattle.std.proofs.Common.{◌≡◌, ℕ, Bool, true, false, ◌&&◌, ◌||◌, List, [], ◌∷◌, ◌++◌, find, cond, Option, Some, None, Ok, refl, sym, ap, ◌∙◌, subst, ◌⊎◌, inl, inr}
use Rattle.std.specs.List.{AllByRecursion}
use Rattle.std.specs.Ordering.{is_eq}
use Rattle.std.specs.Result.{result_ok}
use Rattle.std.proofs.lemmas.Bool.{and_parts, or_parts}
use Rattle.base_values.specs.KeyOrder.{compare_keys}
use Rattle.base_values.proofs.Orders.{tied_keys}
use Rattle.base_values.specs.declared.gho_schema.schema.Schema.{Schema}
use Rattle.base_values.specs.GhoSchema.Rows.{key_of, key_places}
use Rattle.base_values.specs.GhoSchema.Tables.{IsRow, IsTable, Ascends, clash}
use Rattle.base_values.specs.RowConversion.ConvertedRows.{converted_row}
use Rattle.base_values.specs.declared.event.RowEvent.{RowEvent}
use Rattle.base_values.specs.declared.event.Change.TheVariants.{Write}
use Rattle.table_store.specs.ClusteredKeys.{HasClusteredKey}
use Rattle.table_store.specs.Databases.{clashing}
use Rattle.table_store.specs.RowLists.{is_at}
use Rattle.table_store.proofs.TableLaws.{put_keeps}
use Rattle.table_store.proofs.Orders.{is_Equal}
use Rattle.server_model.proofs.LockedRows.WellFormed.{nulls}
use Rattle.proof_journals.proofs.Ghost.Relation.AllViews.{copies_new, copies_none}
use Rattle.proof_journals.specs.Ghost.Relation.Timelines.{IsTimeline}
use Rattle.proof_journals.specs.Ghost.Relation.Views.{GhostFollows, Progress}
use Rattle.proof_journals.proofs.Ghost.Rows.Altering.{finds_itself}
use Rattle.proof_journals.proofs.Ghost.Rows.Finding.{clash_turned, found_at, found_in, put_elsewhere}
use Rattle.proof_journals.proofs.Ghost.Rows.Replacing.{after_both, following}
use Rattle.proof_journals.proofs.Ghost.Rows.StayingKeys.{put_is_found}
use Rattle.proof_journals.specs.Ghost.Rows.Moments.{Row, put_in, rows_after_all, rows_at}
use Rattle.proof_journals.specs.Ghost.Rows.Timelines.{Migration, timeline_of}
use Rattle.proof_journals.specs.Ghost.Rows.Views.{GhostRows, is_among, views_of}

-- what a test finds is found by its own key
found_by_test : (test : Row → Bool) (places : List ℕ) (row was : Row) (rows : List Row) (b : Bool) → AllByRecursion (λ other. is_at places (key_of places other) row ≡ false) rows → cond b (Some row) (find test rows) ≡ Some was
    → (find test rows ≡ Some was → find (is_at places (key_of places was)) rows ≡ Some was) → find (is_at places (key_of places was)) (row ∷ rows) ≡ Some was
found_by_test test places row was rows true before is others = let one : row ≡ was = cc in subst (λ r. find (is_at places (key_of places r)) (row ∷ rows) ≡ Some r) one (finds_itself places row rows)
found_by_test test places row was rows false before is others = rw (found_in test (λ other. is_at places (key_of places other) row ≡ false) rows was before is) (others is)

pub found_by_own : (test : Row → Bool) (places : List ℕ) (was : Row) (rows : List Row) → Ascends places rows → find test rows ≡ Some was → find (is_at places (key_of places was)) rows ≡ Some was
found_by_own test places was [] ascends is = absurd cc
found_by_own test places was (row ∷ rows) ascends is = found_by_test test places row was rows (test row) (following places row rows ascends.0) is (found_by_own test places was rows ascends.1)

-- a row that clashes is found by its own key
pub found_clash : (schema : Schema) (made was : Row) (rows : List Row) → Ascends (key_places schema) rows → clashing (record { schema = schema; rows = rows }) made None ≡ Some was → (find (is_at (key_places schema) (key_of (key_places schema) was)) rows ≡ Some was) × (clash schema.uniques made was ≡ true)
found_clash schema made was rows ascends is =
    (found_by_own (λ other. clash schema.uniques made other && true) (key_places schema) was rows ascends is, (and_parts (clash schema.uniques made was) true (found_at (λ other. clash schema.uniques made other && true) rows was is)).0)

-- one key more is held
among_by : (key other : Row) (held t : Bool) → is_eq (compare_keys other key) ≡ t → (t || held) ≡ true → (key ≡ other) ⊎ ((is_eq (compare_keys other key) ≡ false) × (held ≡ true))
among_by key other held true tie is = inl (sym (tied_keys other key (is_Equal (compare_keys other key) tie)))
among_by key other held false tie is = inr (tie, is)

pub among_more : (keys : List Row) (key other : Row) → is_among (key ∷ keys) other ≡ true → (key ≡ other) ⊎ ((is_eq (compare_keys other key) ≡ false) × (is_among keys other ≡ true))
unfolding is_among
among_more keys key other is = among_by key other (is_among keys other) (is_eq (compare_keys other key)) refl is

pub among_less : (keys : List Row) (key other : Row) → is_among (key ∷ keys) other ≡ false → (is_eq (compare_keys other key) ≡ false) × (is_among keys other ≡ false)
unfolding is_among
among_less keys key other is = or_parts (is_eq (compare_keys other key)) (is_among keys other) is

-- *CopyRow answers Ok(1).*
pub row_copied : (m : Migration) (rows : List Row) (log : List RowEvent) (done half : Row → Bool) (progress : Progress Row) (ghost : GhostRows) (keys : List Row) (row made : Row) → HasClusteredKey m.new
    → IsTable m.new (rows_after_all (key_places m.new) ghost.chunk ghost.committed) → IsRow m.new.columns made
    → find (is_at (key_places m.schema) (key_of (key_places m.new) made)) (rows_at m.name (key_places m.schema) rows log progress.end) ≡ Some row → converted_row m.columns row ≡ Ok made
    → clashing (record { schema = m.new; rows = rows_after_all (key_places m.new) ghost.chunk ghost.committed }) made None ≡ None → progress.applier_holds (key_of (key_places m.new) made) ≡ false → progress.copier_holds ≡ is_among keys
    → GhostFollows (timeline_of m rows log) done half progress (views_of (key_places m.new) ghost)
    → GhostFollows (timeline_of m rows log) done half (record progress { copier_holds = is_among (key_of (key_places m.new) made ∷ keys) }) (views_of (key_places m.new) (record ghost { chunk = ghost.chunk ++ (Write made ∷ []) }))
unfolding rows_after_all
row_copied m rows log done half progress ghost keys row made has table fits stands imaged clashes free held are =
    let new : List ℕ = key_places m.new in
    let seen : List Row = rows_after_all new ghost.chunk ghost.committed in
    let fresh = put_keeps nulls (record { schema = m.new; rows = seen }) made has table fits clashes in
    let then : rows_after_all new (ghost.chunk ++ (Write made ∷ [])) ghost.committed ≡ put_in new made seen = after_both new ghost.chunk (Write made ∷ []) ghost.committed in
    let same : (other : Row) → is_eq (compare_keys other (key_of new made)) ≡ false → find (is_at new other) (rows_after_all new (ghost.chunk ++ (Write made ∷ [])) ghost.committed) ≡ find (is_at new other) seen =
    λ other apart. ap (find (is_at new other)) then ∙ put_elsewhere new other made seen apart in
    copies_new (timeline_of m rows log) done half progress (views_of new ghost) (key_of new made) row made (is_among (key_of new made ∷ keys)) (λ key. find (is_at new key) (rows_after_all new (ghost.chunk ++ (Write made ∷ [])) ghost.committed))
    stands (ap result_ok imaged) free (ap (find (is_at new (key_of new made))) then ∙ put_is_found new made seen fresh.0)
    (λ other is. ⊎_more progress.copier_holds keys other held (same other) (among_more keys (key_of new made) other is))
    (λ other is. let less = among_less keys (key_of new made) other is in (ap (λ (h : Row → Bool). h other) held ∙ less.1, same other less.0)) are
  where
    ⊎_more : (holds : Row → Bool) (keys : List Row) (other : Row) {key : Row} {found found' : Option Row} → holds ≡ is_among keys → (is_eq (compare_keys other key) ≡ false → found' ≡ found) → (key ≡ other) ⊎ ((is_eq (compare_keys other key) ≡ false) × (is_among keys other ≡ true))
        → (key ≡ other) ⊎ ((holds other ≡ true) × (found' ≡ found))
    ⊎_more holds keys other held same (inl is) = inl is
    ⊎_more holds keys other held same (inr both) = inr (ap (λ (h : Row → Bool). h other) held ∙ both.1, same both.0)

-- *CopyRow answers Ok(0)*, since a row that the copier sees clashes. The applier sees that row as it is committed, where the
-- copier doesn't hold its key.
pub row_not_copied : (m : Migration) (rows : List Row) (log : List RowEvent) (done half : Row → Bool) (progress : Progress Row) (ghost : GhostRows) (keys : List Row) (row made was : Row) → IsTimeline (timeline_of m rows log) progress.end
    → IsTable m.new (rows_after_all (key_places m.new) ghost.chunk ghost.committed)
    → find (is_at (key_places m.schema) (key_of (key_places m.new) made)) (rows_at m.name (key_places m.schema) rows log progress.end) ≡ Some row → converted_row m.columns row ≡ Ok made
    → clashing (record { schema = m.new; rows = rows_after_all (key_places m.new) ghost.chunk ghost.committed }) made None ≡ Some was → progress.applier_holds (key_of (key_places m.new) made) ≡ false → progress.copier_holds ≡ is_among keys
    → (progress.copier_holds (key_of (key_places m.new) was) ≡ false → find (is_at (key_places m.new) (key_of (key_places m.new) was)) (rows_after_all (key_places m.new) ghost.batch ghost.committed) ≡ find (is_at (key_places m.new) (key_of (key_places m.new) was)) ghost.committed)
    → GhostFollows (timeline_of m rows log) done half progress (views_of (key_places m.new) ghost)
    → GhostFollows (timeline_of m rows log) done half (record progress { copier_holds = is_among (key_of (key_places m.new) made ∷ keys) }) (views_of (key_places m.new) ghost)
row_not_copied m rows log done half progress ghost keys row made was is table stands imaged clashes free held seen are =
    let new : List ℕ = key_places m.new in
    let view : List Row = rows_after_all new ghost.chunk ghost.committed in
    let found : find (is_at new (key_of new was)) view ≡ Some was = found_by_own (λ other. clash m.new.uniques made other && true) new was view table.ascends clashes in
    let clash_too : clash m.new.uniques made was ≡ true = (and_parts (clash m.new.uniques made was) true (found_at (λ other. clash m.new.uniques made other && true) view was clashes)).0 in
    copies_none (timeline_of m rows log) done half progress (views_of new ghost) (key_of new made) (key_of new was) row made was (is_among (key_of new made ∷ keys)) is stands (ap result_ok imaged) free found
    (clash_turned m.new.uniques made was clash_too) seen (λ other more. ⊎_held progress.copier_holds keys other held (among_more keys (key_of new made) other more))
    (λ other more. ap (λ (h : Row → Bool). h other) held ∙ (among_less keys (key_of new made) other more).1) are
  where
    ⊎_held : (holds : Row → Bool) (keys : List Row) (other : Row) {key : Row} → holds ≡ is_among keys → (key ≡ other) ⊎ ((is_eq (compare_keys other key) ≡ false) × (is_among keys other ≡ true)) → (key ≡ other) ⊎ (holds other ≡ true)
    ⊎_held holds keys other held (inl same) = inl same
    ⊎_held holds keys other held (inr both) = inr (ap (λ (h : Row → Bool). h other) held ∙ both.1)
