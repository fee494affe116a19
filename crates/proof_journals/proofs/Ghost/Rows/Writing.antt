-- CopyRow and the applier's statements keep the migration under way.
use Rattle.std.proofs.Common.{◌≡◌, ℕ, ◌+◌, ◌<◌, Bool, true, false, ◌&&◌, List, [], ◌∷◌, ◌++◌, map, find, cond, Option, Some, None, Ok, refl, sym, ap, ◌∙◌, subst}
use Rattle.std.specs.List.{AllByRecursion}
use Rattle.base_values.specs.declared.gho_schema.schema.Schema.{Schema}
use Rattle.base_values.specs.GhoSchema.Rows.{key_of, key_places}
use Rattle.base_values.specs.GhoSchema.Tables.{IsRow, IsTable, Ascends, clash}
use Rattle.base_values.specs.RowConversion.ConvertedRows.{converted_row}
use Rattle.base_values.specs.declared.event.RowEvent.{RowEvent}
use Rattle.base_values.specs.declared.event.Change.{Change}
use Rattle.base_values.specs.declared.event.Change.TheVariants.{Write, Delete}
use Rattle.table_store.specs.ClusteredKeys.{HasClusteredKey}
use Rattle.table_store.specs.Databases.{clashing}
use Rattle.table_store.specs.RowLists.{is_at, without_key}
use Rattle.table_store.proofs.Ascending.{all-filter, ascends-filter}
use Rattle.std.specs.Ordering.{is_eq}
use Rattle.std.proofs.lemmas.Cmp.{tied_itself}
use Rattle.std.proofs.lemmas.Bool.{or_right}
use Rattle.base_values.specs.KeyOrder.{compare_keys}
use Rattle.base_values.proofs.Orders.{keys_total}
use Rattle.proof_journals.specs.Ghost.Relation.AppliedEvents.{AppliedAt}
use Rattle.proof_journals.specs.Ghost.Relation.Timelines.{IsTimeline}
use Rattle.proof_journals.specs.Ghost.Relation.Views.{Progress}
use Rattle.proof_journals.proofs.Ghost.Rows.Applying.{batch_applies}
use Rattle.proof_journals.proofs.Ghost.Rows.Beside.{all_table}
use Rattle.proof_journals.proofs.Ghost.Rows.Copying.{row_copied}
use Rattle.proof_journals.proofs.Ghost.Rows.Finding.{removed_elsewhere}
use Rattle.proof_journals.proofs.Ghost.Rows.Finishing.{all_found}
use Rattle.proof_journals.proofs.Ghost.Rows.Replacing.{Out, following, none_passes, taken_out}
use Rattle.proof_journals.specs.Ghost.Rows.Changes.{NamesHeld, new_key, old_key, replacing}
use Rattle.proof_journals.specs.Ghost.Rows.Disjoint.{AllDisjoint, Disjoint}
use Rattle.proof_journals.specs.Ghost.Rows.Moments.{Fits, FitsAll, NoneClashes, Row, rows_after, rows_after_all, rows_at}
use Rattle.proof_journals.specs.Ghost.Rows.Timelines.{IsDue, Migration, timeline_of}
use Rattle.proof_journals.specs.Ghost.Rows.UnderWay.{IsUnderWay}
use Rattle.proof_journals.specs.Ghost.Rows.Views.{GhostRows, ghost_row, is_among, view_of}
use Rattle.server_model.specs.StatementResults.{displaced}
use Rattle.server_locks.proofs.LeastSession.Kept.{both}

-- changes and then more
pub fits_more : (schema : Schema) (changes more : List Change) (rows : List Row) → FitsAll schema rows changes → FitsAll schema (rows_after_all (key_places schema) changes rows) more → FitsAll schema rows (changes ++ more)
unfolding FitsAll rows_after_all
fits_more schema [] more rows all others = others
fits_more schema (change ∷ changes) more rows all others = (all.0, fits_more schema changes more (rows_after (key_places schema) change rows) all.1 others)

pub fits_one : (schema : Schema) (change : Change) (rows : List Row) → Fits schema rows change → FitsAll schema rows (change ∷ [])
unfolding FitsAll
fits_one schema change rows fits = (fits, tt)

disjoint_one : (schema : Schema) (change : Change) (changes others : List Change) → AllDisjoint schema changes others → AllByRecursion (λ c. Disjoint schema c change) changes → AllDisjoint schema changes (others ++ (change ∷ []))
disjoint_one schema change [] others all new = tt
disjoint_one schema change (c ∷ changes) others all new = (both (Disjoint schema c) others (change ∷ []) all.0 (new.0, tt), disjoint_one schema change changes others all.1 new.1)

pub covered_by : (places : List ℕ) (test wider : Row → Bool) (changes : List Change) → ((key : Row) → test key ≡ true → wider key ≡ true) → NamesHeld places test changes → NamesHeld places wider changes
covered_by places test wider [] so all = tt
covered_by places test wider (change ∷ changes) so all = ((so (old_key places change) all.0.0, so (new_key places change) all.0.1), covered_by places test wider changes so all.1)

pub wider_by : (keys : List Row) (key other : Row) → is_among keys other ≡ true → is_among (key ∷ keys) other ≡ true
unfolding is_among
wider_by keys key other is = or_right _ (is_among keys other) is

among_itself : (keys : List Row) (key : Row) → is_among (key ∷ keys) key ≡ true
unfolding is_among
among_itself keys key = rw (at_key key) refl
  where
    at_key : (k : Row) → is_eq (compare_keys k k) ≡ true
    at_key k = ap is_eq (tied_itself keys_total k)

-- what clashes with none is found to
clash_free : (schema : Schema) (row : Row) (rows : List Row) → clashing (record { schema = schema; rows = rows }) row None ≡ None → NoneClashes schema.uniques row rows
clash_free schema row [] none = tt
clash_free schema row (first ∷ rows) none = let parts = free_here first (clash schema.uniques row first) (find (λ other. clash schema.uniques row other && true) rows) none in (parts.0, clash_free schema row rows parts.1)
  where
    free_here : (first : Row) (b : Bool) (rest : Option Row) → cond (b && true) (Some first) rest ≡ None → (b ≡ false) × (rest ≡ None)
    free_here first true rest is = absurd cc
    free_here first false rest is = (refl, is)

-- *CopyRow, Ok(1).*
pub copy_goes_on : (m : Migration) (rows : List Row) (log : List RowEvent) (done half : Row → Bool) (progress : Progress Row) (ghost : GhostRows) (keys : List Row) (row made : Row) → HasClusteredKey m.new → IsRow m.new.columns made
    → find (is_at (key_places m.schema) (key_of (key_places m.new) made)) (rows_at m.name (key_places m.schema) rows log progress.end) ≡ Some row → converted_row m.columns row ≡ Ok made
    → clashing (record { schema = m.new; rows = rows_after_all (key_places m.new) ghost.chunk ghost.committed }) made None ≡ None → progress.applier_holds (key_of (key_places m.new) made) ≡ false → progress.copier_holds ≡ is_among keys
    → AllByRecursion (λ change. Disjoint m.new change (Write made)) ghost.batch → IsUnderWay m rows log done half progress ghost
    → IsUnderWay m rows log done half (record progress { copier_holds = is_among (key_of (key_places m.new) made ∷ keys) }) (record ghost { chunk = ghost.chunk ++ (Write made ∷ []) })
copy_goes_on m rows log done half progress ghost keys row made has is_row stands imaged free unlocked held disjoint now =
    let new : List ℕ = key_places m.new in
    let key : Row = key_of new made in
    let view : List Row = rows_after_all new ghost.chunk ghost.committed in
    let table : IsTable m.new view = all_table m.new has ghost.chunk ghost.committed now.table now.chunk in
    record {
      log_fits = now.log_fits;
      end = now.end;
      are = row_copied m rows log done half progress ghost keys row made has table is_row stands imaged free unlocked held now.are;
      table = now.table;
      batch = now.batch;
      chunk = fits_more m.new ghost.chunk (Write made ∷ []) ghost.committed now.chunk (fits_one m.new (Write made) view (is_row, clash_free m.new made view free));
      batch_covered = now.batch_covered;
      chunk_covered = both (λ change. (is_among (key ∷ keys) (old_key new change) ≡ true) × (is_among (key ∷ keys) (new_key new change) ≡ true)) ghost.chunk (Write made ∷ [])
          (covered_by new (is_among keys) (is_among (key ∷ keys)) ghost.chunk (wider_by keys key) (subst (λ test. NamesHeld new test ghost.chunk) held now.chunk_covered))
          ((among_itself keys key, among_itself keys key), tt);
      disjoint = disjoint_one m.new (Write made) ghost.batch ghost.chunk now.disjoint disjoint;
    }

-- *A statement of the applier's*, that applies the event at the place that is reached.
pub event_goes_on : (m : Migration) (rows : List Row) (log : List RowEvent) (done half : Row → Bool) (progress : Progress Row) (ghost : GhostRows) (locked : Row → Bool) (change : Change) (changes : List Change) → IsTimeline (timeline_of m rows log) progress.end → progress.reached < progress.end
    → IsDue m rows log progress.reached change → ((key : Row) → progress.copier_holds key ≡ true → locked key ≡ false) → NamesHeld (key_places m.new) locked (ghost.batch ++ changes) → locked (old_key (key_places m.schema) change) ≡ true → locked (new_key (key_places m.schema) change) ≡ true
    → ((key : Row) → AppliedAt (timeline_of m rows log) half progress.reached (ghost_row m (view_of m ghost)) (ghost_row m (rows_after_all (key_places m.new) changes (view_of m ghost))) key)
    → FitsAll m.new (view_of m ghost) changes → AllDisjoint m.new changes ghost.chunk → IsUnderWay m rows log done half progress ghost
    → IsUnderWay m rows log done (λ _. false) (record progress { reached = progress.reached + 1; applier_holds = locked }) (record ghost { batch = ghost.batch ++ changes })
event_goes_on m rows log done half progress ghost locked change changes is more due apart covered old new each fits disjoint now =
    record {
      log_fits = now.log_fits;
      end = now.end;
      are = batch_applies m rows log done half progress ghost locked change changes is more due apart covered old new each now.are;
      table = now.table;
      batch = fits_more m.new ghost.batch changes ghost.committed now.batch fits;
      chunk = now.chunk;
      batch_covered = covered;
      chunk_covered = now.chunk_covered;
      disjoint = both (λ c. AllByRecursion (Disjoint m.new c) ghost.chunk) ghost.batch changes now.disjoint disjoint;
    }

-- ---- REPLACE goes with the rows

still_there : (places : List ℕ) (row : Row) (taken rows : List Row) → AllByRecursion (λ other. is_at places (key_of places other) row ≡ false) taken → AllByRecursion (λ other. find (is_at places (key_of places other)) rows ≡ Some other) taken
    → AllByRecursion (λ other. find (is_at places (key_of places other)) (without_key places (key_of places row) rows) ≡ Some other) taken
still_there places row [] rows apart there = tt
still_there places row (other ∷ taken) rows apart there = (removed_elsewhere places (key_of places other) row rows apart.0 ∙ there.0, still_there places row taken rows apart.1 there.1)

pub taken_fit : (schema : Schema) (taken rows : List Row) → Ascends (key_places schema) taken → AllByRecursion (λ other. find (is_at (key_places schema) (key_of (key_places schema) other)) rows ≡ Some other) taken → FitsAll schema rows (map Delete taken)
unfolding FitsAll
taken_fit schema [] rows ascends there = tt
taken_fit schema (row ∷ taken) rows ascends there =
    (there.0, taken_fit schema taken (without_key (key_places schema) (key_of (key_places schema) row) rows) ascends.1 (still_there (key_places schema) row taken rows (following (key_places schema) row taken ascends.0) there.1))

pub replacing_fits : (schema : Schema) (row : Row) (rows : List Row) → IsTable schema rows → IsRow schema.columns row → FitsAll schema rows (replacing schema row rows)
replacing_fits schema row rows is fits =
    let places : List ℕ = key_places schema in
    let taken : List Row = displaced schema row rows in
    fits_more schema (map Delete taken) (Write row ∷ []) rows
    (taken_fit schema taken rows (ascends-filter places (clash schema.uniques row) rows is.ascends) (all-filter (λ other. find (is_at places (key_of places other)) rows ≡ Some other) (clash schema.uniques row) rows (all_found places rows is.ascends)))
    (fits_one schema (Write row) (Out places taken rows) (fits, subst (NoneClashes schema.uniques row) (sym (taken_out (clash schema.uniques row) places rows is.ascends)) (none_passes (clash schema.uniques row) rows)))
