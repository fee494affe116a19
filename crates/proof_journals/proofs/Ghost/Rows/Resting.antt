-- The steps that write nothing, or take back, keep the migration under way.
use Rattle.std.proofs.Common.{◌≡◌, ℕ, ◌+◌, ◌≤◌, ◌<◌, Bool, true, false, List, [], ◌∷◌, ◌++◌, find, Option, Some, None, Ok, refl, sym, ◌∙◌, subst}
use Rattle.std.specs.List.{AllByRecursion}
use Rattle.std.specs.Str.{bytes_eq}
use Rattle.base_values.specs.declared.span.Span.{Span}
use Rattle.base_values.specs.declared.gho_schema.schema.Schema.{Schema}
use Rattle.base_values.specs.GhoSchema.Rows.{key_of, key_places}
use Rattle.base_values.specs.GhoSchema.Tables.{IsTable}
use Rattle.base_values.specs.RowConversion.ConvertedRows.{converted_row}
use Rattle.base_values.specs.declared.event.RowEvent.{RowEvent}
use Rattle.table_store.specs.ClusteredKeys.{HasClusteredKey}
use Rattle.table_store.specs.Databases.{clashing}
use Rattle.table_store.specs.RowLists.{is_at}
use Rattle.table_store.proofs.RowLaws.{key_is}
use Rattle.proof_journals.proofs.Ghost.Relation.AllViews.{lowers_all}
use Rattle.proof_journals.specs.Ghost.Relation.Timelines.{IsTimeline}
use Rattle.proof_journals.specs.Ghost.Relation.Views.{Progress}
use Rattle.proof_journals.proofs.Ghost.Rows.Applying.{batch_halves, batch_skips}
use Rattle.proof_journals.proofs.Ghost.Rows.Beside.{all_table}
use Rattle.proof_journals.proofs.Ghost.Rows.Chunking.{batch_is_undone, chunk_is_undone}
use Rattle.proof_journals.proofs.Ghost.Rows.Committing.{disjoint_none, fits_none}
use Rattle.proof_journals.proofs.Ghost.Rows.Copying.{found_clash, row_not_copied}
use Rattle.proof_journals.proofs.Ghost.Rows.Finding.{found_at}
use Rattle.proof_journals.proofs.Ghost.Rows.Removed.{beside_stays}
use Rattle.proof_journals.proofs.Ghost.Rows.Writing.{covered_by, fits_more, wider_by}
use Rattle.proof_journals.specs.Ghost.Rows.Changes.{NamesHeld, NoneRemoved, deleting}
use Rattle.proof_journals.specs.Ghost.Rows.Disjoint.{AllDisjoint, Disjoint}
use Rattle.proof_journals.specs.Ghost.Rows.Moments.{FitsAll, Row, rows_after_all, rows_at}
use Rattle.proof_journals.specs.Ghost.Rows.Timelines.{EventAt, Migration, timeline_of}
use Rattle.proof_journals.specs.Ghost.Rows.UnderWay.{IsUnderWay}
use Rattle.proof_journals.specs.Ghost.Rows.Views.{GhostRows, ghost_row, is_among, is_done, is_done_in, is_key, view_of, views_of}
use Rattle.server_locks.proofs.LeastSession.Kept.{both}

-- *CopyRow, Ok(0).*
pub copy_rests : (m : Migration) (rows : List Row) (log : List RowEvent) (done half : Row → Bool) (progress : Progress Row) (ghost : GhostRows) (keys : List Row) (row made was : Row) → HasClusteredKey m.new → IsTimeline (timeline_of m rows log) progress.end
    → find (is_at (key_places m.schema) (key_of (key_places m.new) made)) (rows_at m.name (key_places m.schema) rows log progress.end) ≡ Some row → converted_row m.columns row ≡ Ok made
    → clashing (record { schema = m.new; rows = rows_after_all (key_places m.new) ghost.chunk ghost.committed }) made None ≡ Some was → progress.applier_holds (key_of (key_places m.new) made) ≡ false → progress.copier_holds ≡ is_among keys
    → NoneRemoved m.new.uniques made ghost.batch → IsUnderWay m rows log done half progress ghost → IsUnderWay m rows log done half (record progress { copier_holds = is_among (key_of (key_places m.new) made ∷ keys) }) ghost
copy_rests m rows log done half progress ghost keys row made was has is stands imaged clash unlocked held apart now =
    let new : List ℕ = key_places m.new in
    let table : IsTable m.new (rows_after_all new ghost.chunk ghost.committed) = all_table m.new has ghost.chunk ghost.committed now.table now.chunk in
    let found = found_clash m.new made was (rows_after_all new ghost.chunk ghost.committed) table.ascends clash in
    record {
      log_fits = now.log_fits;
      end = now.end;
      are = row_not_copied m rows log done half progress ghost keys row made was is table stands imaged clash unlocked held
          (λ free. let there : find (is_at new (key_of new was)) ghost.committed ≡ Some was = sym (now.are.chunk_alone (key_of new was) free) ∙ found.0 in
          beside_stays m.new (key_of new was) made was ghost.batch ghost.committed there now.batch apart found.1 ∙ sym there)
          now.are;
      table = now.table;
      batch = now.batch;
      chunk = now.chunk;
      batch_covered = now.batch_covered;
      chunk_covered = covered_by new (is_among keys) (is_among (key_of new made ∷ keys)) ghost.chunk (wider_by keys (key_of new made)) (subst (λ test. NamesHeld new test ghost.chunk) held now.chunk_covered);
      disjoint = now.disjoint;
    }

-- what is deleted stands
pub deleting_fits : (schema : Schema) (key : Row) (rows : List Row) (found : Option Row) → find (is_at (key_places schema) key) rows ≡ found → FitsAll schema rows (deleting found)
unfolding FitsAll
deleting_fits schema key rows None is = tt
deleting_fits schema key rows (Some row) is =
    (subst (λ k. find (is_at (key_places schema) k) rows ≡ Some row) (key_is (key_places schema) key row (found_at (is_at (key_places schema) key) rows row is)) is, tt)

-- *The first half of an event.*
pub half_goes_on : (m : Migration) (rows : List Row) (log : List RowEvent) (done : Row → Bool) (progress : Progress Row) (ghost : GhostRows) (locked : Row → Bool) (key : Row) → ((other : Row) → progress.copier_holds other ≡ true → locked other ≡ false)
    → NamesHeld (key_places m.new) locked (ghost.batch ++ deleting (ghost_row m (view_of m ghost) key)) → AllDisjoint m.new (deleting (ghost_row m (view_of m ghost) key)) ghost.chunk → IsUnderWay m rows log done (λ _. false) progress ghost
    → IsUnderWay m rows log done (is_key key) (record progress { applier_holds = locked }) (record ghost { batch = ghost.batch ++ deleting (ghost_row m (view_of m ghost) key) })
half_goes_on m rows log done progress ghost locked key apart covered disjoint now =
    record {
      log_fits = now.log_fits;
      end = now.end;
      are = batch_halves m rows log done progress ghost locked key apart covered now.are;
      table = now.table;
      batch = fits_more m.new ghost.batch (deleting (ghost_row m (view_of m ghost) key)) ghost.committed now.batch (deleting_fits m.new key (view_of m ghost) (ghost_row m (view_of m ghost) key) refl);
      chunk = now.chunk;
      batch_covered = covered;
      chunk_covered = now.chunk_covered;
      disjoint = both (λ c. AllByRecursion (Disjoint m.new c) ghost.chunk) ghost.batch (deleting (ghost_row m (view_of m ghost) key)) now.disjoint disjoint;
    }

-- *An event of another table.*
pub event_rests : (m : Migration) (rows : List Row) (log : List RowEvent) (done : Row → Bool) (progress : Progress Row) (ghost : GhostRows) (step : EventAt m.name m.schema rows log progress.reached) → bytes_eq step.event.table m.name ≡ false → IsTimeline (timeline_of m rows log) progress.end → progress.reached < progress.end
    → IsUnderWay m rows log done (λ _. false) progress ghost → IsUnderWay m rows log done (λ _. false) (record progress { reached = progress.reached + 1 }) ghost
event_rests m rows log done progress ghost step other is more now =
    record { log_fits = now.log_fits; end = now.end; are = batch_skips m rows log done progress ghost step other is more now.are; table = now.table; batch = now.batch; chunk = now.chunk; batch_covered = now.batch_covered; chunk_covered = now.chunk_covered; disjoint = now.disjoint }

-- *The batch is rolled back.*
pub batch_goes_back : (m : Migration) (rows : List Row) (log : List RowEvent) (done half : Row → Bool) (progress : Progress Row) (ghost : GhostRows) → IsTimeline (timeline_of m rows log) progress.end → IsUnderWay m rows log done half progress ghost
    → IsUnderWay m rows log done (λ _. false) (record progress { reached = progress.position; applier_holds = λ _. false }) (record ghost { batch = [] })
batch_goes_back m rows log done half progress ghost is now =
    record { log_fits = now.log_fits; end = now.end; are = batch_is_undone m rows log done half progress ghost is now.are; table = now.table; batch = fits_none m.new ghost.committed; chunk = now.chunk; batch_covered = tt; chunk_covered = now.chunk_covered; disjoint = tt }

-- *The chunk is rolled back.*
pub chunk_goes_back : (m : Migration) (rows : List Row) (log : List RowEvent) (left following : Option Span) (keys : List Row) (half : Row → Bool) (progress : Progress Row) (ghost : GhostRows) → IsUnderWay m rows log (is_done_in left following keys) half progress ghost
    → IsUnderWay m rows log (is_done left) half (record progress { copier_holds = λ _. false }) (record ghost { chunk = [] })
chunk_goes_back m rows log left following keys half progress ghost now =
    record { log_fits = now.log_fits; end = now.end; are = chunk_is_undone m rows log left following keys half progress ghost now.are; table = now.table; batch = now.batch; chunk = fits_none m.new ghost.committed; batch_covered = now.batch_covered; chunk_covered = tt; disjoint = disjoint_none m.new ghost.batch }

-- *A batch is to be done again*, though its COMMIT was done.
pub places_go_back : (m : Migration) (rows : List Row) (log : List RowEvent) (done half : Row → Bool) (progress : Progress Row) (ghost : GhostRows) (position reached : ℕ) → IsTimeline (timeline_of m rows log) progress.end → position ≤ progress.position → reached ≤ progress.reached → position ≤ reached
    → IsUnderWay m rows log done half progress ghost → IsUnderWay m rows log done half (record progress { position = position; reached = reached }) ghost
places_go_back m rows log done half progress ghost position reached is low lower order now =
    record { log_fits = now.log_fits; end = now.end; are = lowers_all (timeline_of m rows log) done half progress (views_of (key_places m.new) ghost) position reached is low lower order now.are; table = now.table; batch = now.batch; chunk = now.chunk; batch_covered = now.batch_covered; chunk_covered = now.chunk_covered; disjoint = now.disjoint }
