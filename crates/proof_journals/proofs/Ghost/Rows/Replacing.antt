-- REPLACE, DELETE and UPDATE on rows are those of the ghost relation.
use Rattle.std.proofs.Common.{◌≡◌, ℕ, Bool, true, false, not, List, [], ◌∷◌, ◌++◌, map, find, filter, cond, Option, Some, None, Less, Greater, refl, sym, ap, ◌∙◌, subst, ◌⊎◌, inl, inr}
use Rattle.std.specs.Ordering.{ordering_reverse}
use Rattle.std.specs.List.{AllByRecursion}
use Rattle.base_values.specs.KeyOrder.{compare_keys}
use Rattle.base_values.specs.declared.gho_schema.schema.Schema.{Schema}
use Rattle.base_values.specs.declared.gho_schema.schema.Index.{Index}
use Rattle.base_values.specs.GhoSchema.Rows.{key_of, key_places}
use Rattle.base_values.specs.GhoSchema.Tables.{IsRow, IsTable, Ascends, clash}
use Rattle.base_values.specs.declared.event.Change.{Change}
use Rattle.base_values.specs.declared.event.Change.TheVariants.{Write, Delete}
use Rattle.table_store.specs.ClusteredKeys.{HasClusteredKey}
use Rattle.table_store.specs.RowLists.{is_at, without_key}
use Rattle.table_store.proofs.FoundRows.{all_left, none_found, none_at}
use Rattle.table_store.proofs.Ascending.{all-filter}
use Rattle.table_store.proofs.Orders.{turned}
use Rattle.table_store.proofs.RowLaws.{key_is, gone}
use Rattle.table_store.proofs.TableLaws.{put_keeps, remove_keeps}
use Rattle.server_model.proofs.LockedRows.WellFormed.{nulls}
use Rattle.proof_journals.specs.Ghost.Relation.AppliedEvents.{Deleted, Displaced, Replaced, Updated}
use Rattle.proof_journals.proofs.Ghost.Rows.Finding.{clash_turned, found_at, put_elsewhere, removed_elsewhere}
use Rattle.proof_journals.proofs.Ghost.Rows.StayingKeys.{put_is_found}
use Rattle.proof_journals.proofs.Ghost.Rows.TimelineLaws.{none_clashing}
use Rattle.proof_journals.specs.Ghost.Rows.Changes.{deleting, replacing, updating}
use Rattle.proof_journals.specs.Ghost.Rows.Moments.{Row, put_in, rows_after, rows_after_all}
use Rattle.server_model.specs.StatementResults.{displaced}
use Rattle.server_model.proofs.LockedRows.OneRow.{own_key}

-- ---- the rows that pass a test are taken out one by one

abbrev pub Out : List ℕ → List Row → List Row → List Row
Out places gone rows = rows_after_all places (map Delete gone) rows

pub after_both : (places : List ℕ) (a b : List Change) (rows : List Row) → rows_after_all places (a ++ b) rows ≡ rows_after_all places b (rows_after_all places a rows)
unfolding rows_after_all
after_both places [] b rows = refl
after_both places (change ∷ a) b rows = after_both places a b (rows_after places change rows)

-- a row in front stays, where all that are taken out are behind it
out_after : (places : List ℕ) (row : Row) (taken rows : List Row) → AllByRecursion (λ other. is_at places (key_of places other) row ≡ false) taken → Out places taken (row ∷ rows) ≡ row ∷ Out places taken rows
unfolding rows_after_all
out_after places row [] rows following = refl
out_after places row (other ∷ taken) rows following =
    let first : without_key places (key_of places other) (row ∷ rows) ≡ row ∷ without_key places (key_of places other) rows = rw following.0 refl in
    ap (Out places taken) first ∙ out_after places row taken (without_key places (key_of places other) rows) following.1

pub following : (places : List ℕ) (row : Row) (rows : List Row) → AllByRecursion (λ other. compare_keys (key_of places row) (key_of places other) ≡ Less) rows → AllByRecursion (λ other. is_at places (key_of places other) row ≡ false) rows
following places row [] less = tt
following places row (other ∷ rows) less =
    let back : compare_keys (key_of places other) (key_of places row) ≡ Greater = turned (key_of places other) (key_of places row) ∙ ap ordering_reverse less.0 in
    (rw back refl, following places row rows less.1)

-- Rows that pass a test are taken out one by one: the others are left.
out_here : (test : Row → Bool) (places : List ℕ) (row : Row) (rows : List Row) (b : Bool) → test row ≡ b → AllByRecursion (λ other. compare_keys (key_of places row) (key_of places other) ≡ Less) rows → Out places (filter test rows) rows ≡ filter (λ r. not (test r)) rows
    → Out places (cond b (row ∷ filter test rows) (filter test rows)) (row ∷ rows) ≡ cond (not b) (row ∷ filter (λ r. not (test r)) rows) (filter (λ r. not (test r)) rows)
unfolding rows_after_all
out_here test places row rows true passes less others =
    let left : without_key places (key_of places row) rows ≡ rows = all_left (is_at places (key_of places row)) rows (none_at places row rows less) in
    let first : without_key places (key_of places row) (row ∷ rows) ≡ rows = rw (own_key places row) left in
    ap (Out places (filter test rows)) first ∙ others
out_here test places row rows false passes less others =
    out_after places row (filter test rows) rows (all-filter (λ other. is_at places (key_of places other) row ≡ false) test rows (following places row rows less)) ∙ ap (λ (rs : List Row). row ∷ rs) others

pub taken_out : (test : Row → Bool) (places : List ℕ) (rows : List Row) → Ascends places rows → Out places (filter test rows) rows ≡ filter (λ r. not (test r)) rows
unfolding rows_after_all
taken_out test places [] ascends = refl
taken_out test places (row ∷ rows) ascends = out_here test places row rows (test row) refl ascends.0 (taken_out test places rows ascends.1)

-- what is found then
unfoldable pub unless : (Row → Bool) → Option Row → Option Row
unless test None = None
unless test (Some row) = cond (test row) None (Some row)

left_here : (test : Row → Bool) (places : List ℕ) (key row : Row) (rows : List Row) (k t : Bool) → is_at places key row ≡ k → test row ≡ t → AllByRecursion (λ other. compare_keys (key_of places row) (key_of places other) ≡ Less) rows
    → find (is_at places key) (filter (λ r. not (test r)) rows) ≡ unless test (find (is_at places key) rows)
    → find (is_at places key) (cond (not t) (row ∷ filter (λ r. not (test r)) rows) (filter (λ r. not (test r)) rows)) ≡ unless test (cond k (Some row) (find (is_at places key) rows))
unfolding unless
left_here test places key row rows true true at passes less others =
    let apart : AllByRecursion (λ other. is_at places key other ≡ false) rows = subst (λ k. AllByRecursion (λ other. is_at places k other ≡ false) rows) (sym (key_is places key row at)) (none_at places row rows less) in
    rw passes (none_found (is_at places key) (is_at places key) (filter (λ r. not (test r)) rows) (λ other fails. fails) (all-filter (λ other. is_at places key other ≡ false) (λ r. not (test r)) rows apart))
left_here test places key row rows true false at passes less others = rw (at, passes) refl
left_here test places key row rows false true at passes less others = others
left_here test places key row rows false false at passes less others = rw at others

pub left_found : (test : Row → Bool) (places : List ℕ) (key : Row) (rows : List Row) → Ascends places rows → find (is_at places key) (filter (λ r. not (test r)) rows) ≡ unless test (find (is_at places key) rows)
unfolding unless
left_found test places key [] ascends = refl
left_found test places key (row ∷ rows) ascends = left_here test places key row rows (is_at places key row) (test row) refl refl ascends.0 (left_found test places key rows ascends.1)

-- removals leave a table
out_keeps : (schema : Schema) (taken rows : List Row) → IsTable schema rows → IsTable schema (Out (key_places schema) taken rows)
unfolding rows_after_all
out_keeps schema [] rows is = is
out_keeps schema (row ∷ taken) rows is = out_keeps schema taken (without_key (key_places schema) (key_of (key_places schema) row) rows) (remove_keeps schema rows (key_of (key_places schema) row) is)

-- no row that is left clashes
none_here : (test : Row → Bool) (row : Row) (rest : List Row) (b : Bool) → test row ≡ b → AllByRecursion (λ other. test other ≡ false) rest → AllByRecursion (λ other. test other ≡ false) (cond (not b) (row ∷ rest) rest)
none_here test row rest true passes others = others
none_here test row rest false passes others = (passes, others)

pub none_passes : (test : Row → Bool) (rows : List Row) → AllByRecursion (λ other. test other ≡ false) (filter (λ r. not (test r)) rows)
none_passes test [] = tt
none_passes test (row ∷ rows) = none_here test row (filter (λ r. not (test r)) rows) (test row) refl (none_passes test rows)

pub not_its_key : (places : List ℕ) (key row : Row) (b : Bool) → is_at places key row ≡ b → (key_of places row ≡ key → ⊥) → b ≡ false
not_its_key places key row true at differs = absurd (differs (sym (key_is places key row at)))
not_its_key places key row false at differs = refl

one_other : (uniques : List Index) (row : Row) (before after : Option Row) → after ≡ unless (clash uniques row) before → (after ≡ before) ⊎ Displaced (clash uniques) row before after
unfolding unless
one_other uniques row None after is = inl is
one_other uniques row (Some was) after is = by_clash (clash uniques row was) refl is
  where
    by_clash : (b : Bool) → clash uniques row was ≡ b → after ≡ cond b None (Some was) → (after ≡ Some was) ⊎ Displaced (clash uniques) row (Some was) after
    by_clash true clashes gone = inr (record { was = was; stood = refl; clashes = clash_turned uniques row was clashes; gone = gone })
    by_clash false clashes same = inl same

-- *REPLACE*
pub replaced : (schema : Schema) → HasClusteredKey schema → (row : Row) (rows : List Row) → IsTable schema rows → IsRow schema.columns row
    → Replaced (clash schema.uniques) (key_of (key_places schema) row) row (λ key. find (is_at (key_places schema) key) rows)
    (λ key. find (is_at (key_places schema) key) (rows_after_all (key_places schema) (replacing schema row rows) rows))
unfolding rows_after_all
replaced schema has row rows is fits =
    let places : List ℕ = key_places schema in
    let left : List Row = filter (λ r. not (clash schema.uniques row r)) rows in
    let out : Out places (displaced schema row rows) rows ≡ left = taken_out (clash schema.uniques row) places rows is.ascends in
    let then : rows_after_all places (replacing schema row rows) rows ≡ put_in places row left = after_both places (map Delete (displaced schema row rows)) (Write row ∷ []) rows ∙ ap (put_in places row) out in
    let table : IsTable schema left = subst (IsTable schema) out (out_keeps schema (displaced schema row rows) rows is) in
    let new = put_keeps nulls (record { schema = schema; rows = left }) row has table fits (none_clashing schema row left (none_passes (clash schema.uniques row) rows)) in
    record {
      here = ap (find (is_at places (key_of places row))) then ∙ put_is_found places row left new.0;
      others = λ other differs.
          one_other schema.uniques row (find (is_at places other) rows) (find (is_at places other) (rows_after_all places (replacing schema row rows) rows))
          (ap (find (is_at places other)) then ∙ put_elsewhere places other row left (not_its_key places other row (is_at places other row) refl differs) ∙ left_found (clash schema.uniques row) places other rows is.ascends);
    }

-- *DELETE by key*
deleted_at : (places : List ℕ) (key : Row) (rows : List Row) (found : Option Row) → find (is_at places key) rows ≡ found → Deleted key (λ k. find (is_at places k) rows) (λ k. find (is_at places k) (rows_after_all places (deleting found) rows))
unfolding rows_after_all
deleted_at places key rows None is = record { here = is; others = λ other differs. refl }
deleted_at places key rows (Some row) is =
    let same : key ≡ key_of places row = key_is places key row (found_at (is_at places key) rows row is) in
    record {
      here = subst (λ k. find (is_at places k) (without_key places (key_of places row) rows) ≡ None) (sym same) (gone places (key_of places row) rows);
      others = λ other differs. removed_elsewhere places other row rows (not_its_key places other row (is_at places other row) refl (λ one. differs (same ∙ one)));
    }

pub deleted : (places : List ℕ) (key : Row) (rows : List Row) → Deleted key (λ k. find (is_at places k) rows) (λ k. find (is_at places k) (rows_after_all places (deleting (find (is_at places key) rows)) rows))
deleted places key rows = deleted_at places key rows (find (is_at places key) rows) refl

-- *UPDATE in place*
updated_at : (places : List ℕ) (new : Row) (rows : List Row) (found : Option Row) → find (is_at places (key_of places new)) rows ≡ found
    → Updated (key_of places new) new (λ k. find (is_at places k) rows) (λ k. find (is_at places k) (rows_after_all places (updating new found) rows))
unfolding rows_after_all
updated_at places new rows None is = record { here = inl (is, is); others = λ other differs. refl }
updated_at places new rows (Some row) is =
    let same : key_of places new ≡ key_of places row = key_is places (key_of places new) row (found_at (is_at places (key_of places new)) rows row is) in
    let free : find (is_at places (key_of places new)) (without_key places (key_of places row) rows) ≡ None = subst (λ k. find (is_at places k) (without_key places (key_of places row) rows) ≡ None) (sym same) (gone places (key_of places row) rows) in
    record {
      here = inr (put_is_found places new (without_key places (key_of places row) rows) free);
      others = λ other differs.
          put_elsewhere places other new (without_key places (key_of places row) rows) (not_its_key places other new (is_at places other new) refl differs)
          ∙ removed_elsewhere places other row rows (not_its_key places other row (is_at places other row) refl (λ one. differs (same ∙ one)));
    }

pub updated : (places : List ℕ) (new : Row) (rows : List Row)
    → Updated (key_of places new) new (λ k. find (is_at places k) rows) (λ k. find (is_at places k) (rows_after_all places (updating new (find (is_at places (key_of places new)) rows)) rows))
updated places new rows = updated_at places new rows (find (is_at places (key_of places new)) rows) refl
