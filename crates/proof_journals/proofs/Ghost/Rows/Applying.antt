-- The applier's statements keep the ghost relation.
use Rattle.std.proofs.Common.{◌≡◌, ℕ, ◌+◌, ◌<◌, Bool, true, false, List, ◌++◌, find, Some, None, Ok, refl, sym, ap, ◌∙◌, subst, ◌⊎◌, inl, inr}
use Rattle.std.specs.Str.{bytes_eq}
use Rattle.std.specs.Result.{result_ok}
use Rattle.base_values.specs.GhoSchema.Rows.{key_of, key_places}
use Rattle.base_values.specs.GhoSchema.Tables.{IsRow, IsTable, clash}
use Rattle.base_values.specs.RowConversion.ConvertedRows.{converted_row}
use Rattle.base_values.specs.declared.event.RowEvent.{RowEvent}
use Rattle.base_values.specs.declared.event.Change.{Change}
use Rattle.base_values.specs.declared.event.Change.TheVariants.{Write, Update, Delete}
use Rattle.table_store.specs.ClusteredKeys.{HasClusteredKey}
use Rattle.table_store.specs.RowLists.{is_at}
use Rattle.proof_journals.proofs.Ghost.Relation.AllViews.{event_applied, event_passes, half_applied}
use Rattle.proof_journals.proofs.Ghost.Relation.Statements.{deletes, replaces, updates}
use Rattle.proof_journals.proofs.Ghost.Relation.Tests.{true_false}
use Rattle.proof_journals.specs.Ghost.Relation.AppliedEvents.{AppliedAt, Deleted, EventOfKeys, Replaced, Updated}
use Rattle.proof_journals.specs.Ghost.Relation.Timelines.{IsTimeline}
use Rattle.proof_journals.specs.Ghost.Relation.Views.{GhostFollows, HoldsChanged, Progress}
use Rattle.proof_journals.proofs.Ghost.Rows.Events.{is_event, left_at, old_left}
use Rattle.proof_journals.proofs.Ghost.Rows.Finding.{keys_decided, same_is}
use Rattle.proof_journals.proofs.Ghost.Rows.Overlays.{spared}
use Rattle.proof_journals.proofs.Ghost.Rows.Replacing.{after_both, deleted, replaced, updated}
use Rattle.proof_journals.specs.Ghost.Rows.Changes.{NamesHeld, deleting, new_key, old_key, replacing, row_left, updating}
use Rattle.proof_journals.specs.Ghost.Rows.Moments.{Row, rows_after, rows_after_all, rows_at}
use Rattle.proof_journals.specs.Ghost.Rows.Timelines.{EventAt, IsDue, Migration, changes_key, kept, timeline_of, touched_by}
use Rattle.proof_journals.specs.Ghost.Rows.Views.{GhostRows, ghost_row, is_key, view_of, views_of}

pub due_event : (m : Migration) (rows : List Row) (log : List RowEvent) (i : ℕ) (change : Change) → IsDue m rows log i change → EventOfKeys (timeline_of m rows log) i (old_key (key_places m.schema) change) (new_key (key_places m.schema) change)
due_event m rows log i change due =
    subst (λ c. EventOfKeys (timeline_of m rows log) i (old_key (key_places m.schema) c) (new_key (key_places m.schema) c)) due.is (is_event m rows log i due.step due.named)

-- the rows behind the event
due_then : (m : Migration) (rows : List Row) (log : List RowEvent) (i : ℕ) (change : Change) → IsDue m rows log i change → rows_at m.name (key_places m.schema) rows log (i + 1) ≡ rows_after (key_places m.schema) change (rows_at m.name (key_places m.schema) rows log i)
due_then m rows log i change due =
    due.step.then ∙ rw due.named (ap (λ c. rows_after (key_places m.schema) c (rows_at m.name (key_places m.schema) rows log i)) due.is)

pub due_left : (m : Migration) (rows : List Row) (log : List RowEvent) (i : ℕ) (change : Change) → HasClusteredKey m.schema → IsDue m rows log i change → (timeline_of m rows log).row_at (i + 1) (new_key (key_places m.schema) change) ≡ row_left change
due_left m rows log i change has due =
    ap (find (is_at (key_places m.schema) (new_key (key_places m.schema) change))) (due_then m rows log i change due)
    ∙ subst (λ c. find (is_at (key_places m.schema) (new_key (key_places m.schema) c)) (rows_after (key_places m.schema) c (rows_at m.name (key_places m.schema) rows log i)) ≡ row_left c) due.is
    (left_at m.schema has due.step.event.change (rows_at m.name (key_places m.schema) rows log i) due.table (due.step.fits due.named))

old_gone : (places : List ℕ) (change : Change) (row : Row) (rows : List Row) → row_left change ≡ Some row → (new_key places change ≡ old_key places change → ⊥) → find (is_at places (old_key places change)) (rows_after places change rows) ≡ None
old_gone places (Write new) row rows is differs = absurd (differs refl)
old_gone places (Update before after) row rows is differs = old_left places before after rows differs
old_gone places (Delete old) row rows is differs = absurd (differs refl)

-- *WRITE as REPLACE*, and the second half of an UPDATE that was begun by taking its old key out.
pub replace_applies : (m : Migration) (rows : List Row) (log : List RowEvent) (i : ℕ) (change : Change) (half : Row → Bool) (row made : Row) (view : List Row) → HasClusteredKey m.schema → HasClusteredKey m.new → IsDue m rows log i change
    → row_left change ≡ Some row → converted_row m.columns row ≡ Ok made → key_of (key_places m.new) made ≡ new_key (key_places m.schema) change → IsTable m.new view → IsRow m.new.columns made
    → ((key : Row) → half key ≡ true → (old_key (key_places m.schema) change ≡ key) ⊎ (new_key (key_places m.schema) change ≡ key))
    → ((new_key (key_places m.schema) change ≡ old_key (key_places m.schema) change → ⊥) → ghost_row m view (old_key (key_places m.schema) change) ≡ None)
    → (key : Row) → AppliedAt (timeline_of m rows log) half i (ghost_row m view) (ghost_row m (rows_after_all (key_places m.new) (replacing m.new made view) view)) key
replace_applies m rows log i change half row made view has has_new due is imaged same table fits taken gone =
    replaces keys_decided (timeline_of m rows log) half i (old_key (key_places m.schema) change) (new_key (key_places m.schema) change) row made (ghost_row m view) (ghost_row m (rows_after_all (key_places m.new) (replacing m.new made view) view))
    (due_event m rows log i change due) taken (due_left m rows log i change has due ∙ is) (ap result_ok imaged)
    (λ differs. (
      ap (find (is_at (key_places m.schema) (old_key (key_places m.schema) change))) (due_then m rows log i change due) ∙ old_gone (key_places m.schema) change row (rows_at m.name (key_places m.schema) rows log i) is differs,
      gone differs,
    ))
    (subst (λ key. Replaced (clash m.new.uniques) key made (ghost_row m view) (ghost_row m (rows_after_all (key_places m.new) (replacing m.new made view) view))) same (replaced m.new has_new made view table fits))

-- *DELETE by key*
pub delete_applies : (m : Migration) (rows : List Row) (log : List RowEvent) (i : ℕ) (row : Row) (view : List Row) → HasClusteredKey m.schema → IsDue m rows log i (Delete row)
    → (key : Row) → AppliedAt (timeline_of m rows log) (λ _. false) i (ghost_row m view) (ghost_row m (rows_after_all (key_places m.new) (deleting (ghost_row m view (key_of (key_places m.schema) row))) view)) key
delete_applies m rows log i row view has due =
    deletes keys_decided (timeline_of m rows log) i (key_of (key_places m.schema) row) (ghost_row m view) (ghost_row m (rows_after_all (key_places m.new) (deleting (ghost_row m view (key_of (key_places m.schema) row))) view))
    (due_event m rows log i (Delete row) due) (due_left m rows log i (Delete row) has due) (deleted (key_places m.new) (key_of (key_places m.schema) row) view)

-- *UPDATE in place*, of a row whose unique keys stay
pub update_applies : (m : Migration) (rows : List Row) (log : List RowEvent) (i : ℕ) (before row made : Row) (view : List Row) → HasClusteredKey m.schema → IsDue m rows log i (Update before row) → changes_key (kept m) before row ≡ false
    → key_of (key_places m.schema) before ≡ key_of (key_places m.schema) row → converted_row m.columns row ≡ Ok made → key_of (key_places m.new) made ≡ key_of (key_places m.schema) row
    → (key : Row) → AppliedAt (timeline_of m rows log) (λ _. false) i (ghost_row m view) (ghost_row m (rows_after_all (key_places m.new) (updating made (ghost_row m view (key_of (key_places m.new) made))) view)) key
update_applies m rows log i before row made view has due stays one imaged same =
    updates keys_decided (timeline_of m rows log) i (key_of (key_places m.schema) row) row made (ghost_row m view) (ghost_row m (rows_after_all (key_places m.new) (updating made (ghost_row m view (key_of (key_places m.new) made))) view))
    (subst (λ key. EventOfKeys (timeline_of m rows log) i key (key_of (key_places m.schema) row)) one (due_event m rows log i (Update before row) due))
    (ap (touched_by (kept m) m.name (key_places m.schema) (key_of (key_places m.schema) row)) due.step.there ∙ rw (due.named, due.is, stays) refl)
    (due_left m rows log i (Update before row) has due) (ap result_ok imaged)
    (subst (λ key. Updated key made (ghost_row m view) (ghost_row m (rows_after_all (key_places m.new) (updating made (ghost_row m view (key_of (key_places m.new) made))) view))) same (updated (key_places m.new) made view))

-- ---- the applier's view goes on

-- the keys that aren't locked are no keys of the event
not_named : (locked : Row → Bool) (named key : Row) → locked named ≡ true → locked key ≡ false → named ≡ key → ⊥
not_named locked named key is free same = true_false (locked key) (subst (λ k. locked k ≡ true) same is) free

due_spares : (m : Migration) (rows : List Row) (log : List RowEvent) (i : ℕ) (change : Change) (locked : Row → Bool) → IsDue m rows log i change → locked (old_key (key_places m.schema) change) ≡ true → locked (new_key (key_places m.schema) change) ≡ true
    → (key : Row) → locked key ≡ false → ((timeline_of m rows log).touches i key ≡ false) × ((timeline_of m rows log).row_at (i + 1) key ≡ (timeline_of m rows log).row_at i key)
due_spares m rows log i change locked due old new key free =
    let event = due_event m rows log i change due in
    let not_old : old_key (key_places m.schema) change ≡ key → ⊥ = not_named locked (old_key (key_places m.schema) change) key old free in
    let not_new : new_key (key_places m.schema) change ≡ key → ⊥ = not_named locked (new_key (key_places m.schema) change) key new free in
    (event.untouched key not_old not_new, event.same key not_old not_new)

held_of : (m : Migration) (progress : Progress Row) (ghost : GhostRows) (locked : Row → Bool) (changes : List Change) → ((key : Row) → progress.copier_holds key ≡ true → locked key ≡ false) → NamesHeld (key_places m.new) locked (ghost.batch ++ changes)
    → HoldsChanged progress (views_of (key_places m.new) ghost) locked (ghost_row m (rows_after_all (key_places m.new) (ghost.batch ++ changes) ghost.committed))
held_of m progress ghost locked changes apart covered = record { apart = apart; alone = λ key free. spared (key_places m.new) locked key (ghost.batch ++ changes) ghost.committed covered free }

-- *One event more is applied*, by changes of the applier's view that do so.
pub batch_applies : (m : Migration) (rows : List Row) (log : List RowEvent) (done half : Row → Bool) (progress : Progress Row) (ghost : GhostRows) (locked : Row → Bool) (change : Change) (changes : List Change) → IsTimeline (timeline_of m rows log) progress.end → progress.reached < progress.end
    → IsDue m rows log progress.reached change → ((key : Row) → progress.copier_holds key ≡ true → locked key ≡ false) → NamesHeld (key_places m.new) locked (ghost.batch ++ changes) → locked (old_key (key_places m.schema) change) ≡ true → locked (new_key (key_places m.schema) change) ≡ true
    → ((key : Row) → AppliedAt (timeline_of m rows log) half progress.reached (ghost_row m (view_of m ghost)) (ghost_row m (rows_after_all (key_places m.new) changes (view_of m ghost))) key)
    → GhostFollows (timeline_of m rows log) done half progress (views_of (key_places m.new) ghost)
    → GhostFollows (timeline_of m rows log) done (λ _. false) (record progress { reached = progress.reached + 1; applier_holds = locked }) (views_of (key_places m.new) (record ghost { batch = ghost.batch ++ changes }))
batch_applies m rows log done half progress ghost locked change changes is more due apart covered old new each are =
    event_applied (timeline_of m rows log) done half progress (views_of (key_places m.new) ghost) locked (ghost_row m (rows_after_all (key_places m.new) (ghost.batch ++ changes) ghost.committed)) is more (held_of m progress ghost locked changes apart covered)
    (due_spares m rows log progress.reached change locked due old new)
    (subst (λ view. (key : Row) → AppliedAt (timeline_of m rows log) half progress.reached (ghost_row m (view_of m ghost)) (ghost_row m view) key) (sym (after_both (key_places m.new) ghost.batch changes ghost.committed)) each) are

-- *The first half of an UPDATE*: the row of its old key is taken out.
pub batch_halves : (m : Migration) (rows : List Row) (log : List RowEvent) (done : Row → Bool) (progress : Progress Row) (ghost : GhostRows) (locked : Row → Bool) (key : Row) → ((other : Row) → progress.copier_holds other ≡ true → locked other ≡ false)
    → NamesHeld (key_places m.new) locked (ghost.batch ++ deleting (ghost_row m (view_of m ghost) key)) → GhostFollows (timeline_of m rows log) done (λ _. false) progress (views_of (key_places m.new) ghost)
    → GhostFollows (timeline_of m rows log) done (is_key key) (record progress { applier_holds = locked }) (views_of (key_places m.new) (record ghost { batch = ghost.batch ++ deleting (ghost_row m (view_of m ghost) key) }))
batch_halves m rows log done progress ghost locked key apart covered are =
    half_applied (timeline_of m rows log) done (is_key key) progress (views_of (key_places m.new) ghost) locked (ghost_row m (rows_after_all (key_places m.new) (ghost.batch ++ deleting (ghost_row m (view_of m ghost) key)) ghost.committed))
    (held_of m progress ghost locked (deleting (ghost_row m (view_of m ghost) key)) apart covered)
    (subst (λ view. (other : Row) → (ghost_row m view other ≡ ghost_row m (view_of m ghost) other) ⊎ ((is_key key other ≡ true) × (ghost_row m view other ≡ None))) (sym (after_both (key_places m.new) ghost.batch (deleting (ghost_row m (view_of m ghost) key)) ghost.committed))
    (λ other. taken (rows_after_all (key_places m.new) (deleting (ghost_row m (view_of m ghost) key)) (view_of m ghost)) other (keys_decided key other) (deleted (key_places m.new) key (view_of m ghost))))
    are
  where
    taken : (after : List Row) (other : Row) → (key ≡ other) ⊎ (key ≡ other → ⊥) → Deleted key (ghost_row m (view_of m ghost)) (ghost_row m after) → (ghost_row m after other ≡ ghost_row m (view_of m ghost) other) ⊎ ((is_key key other ≡ true) × (ghost_row m after other ≡ None))
    taken after other (inl same) out = inr (same_is key other same, subst (λ k. ghost_row m after k ≡ None) same out.here)
    taken after other (inr differs) out = inl (out.others other differs)

-- *An event of another table is passed over.*
pub batch_skips : (m : Migration) (rows : List Row) (log : List RowEvent) (done : Row → Bool) (progress : Progress Row) (ghost : GhostRows) (step : EventAt m.name m.schema rows log progress.reached) → bytes_eq step.event.table m.name ≡ false → IsTimeline (timeline_of m rows log) progress.end → progress.reached < progress.end
    → GhostFollows (timeline_of m rows log) done (λ _. false) progress (views_of (key_places m.new) ghost) → GhostFollows (timeline_of m rows log) done (λ _. false) (record progress { reached = progress.reached + 1 }) (views_of (key_places m.new) ghost)
batch_skips m rows log done progress ghost step other is more are =
    let quiet : (key : Row) → (timeline_of m rows log).touches progress.reached key ≡ false = λ key. ap (touched_by (kept m) m.name (key_places m.schema) key) step.there ∙ rw other refl in
    let same : (key : Row) → (timeline_of m rows log).row_at (progress.reached + 1) key ≡ (timeline_of m rows log).row_at progress.reached key = λ key. ap (find (is_at (key_places m.schema) key)) step.then ∙ rw other refl in
    event_passes (timeline_of m rows log) done progress (views_of (key_places m.new) ghost) is more (λ key. (quiet key, same key)) are
