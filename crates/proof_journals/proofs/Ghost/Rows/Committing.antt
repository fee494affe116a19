-- Commits keep the migration under way.
use Rattle.std.proofs.Common.{Bool, false, List, [], ◌∷◌, ◌++◌, length, refl}
use Rattle.std.specs.List.{AllByRecursion}
use Rattle.base_values.specs.declared.gho_schema.schema.Schema.{Schema}
use Rattle.base_values.specs.GhoSchema.Rows.{key_places}
use Rattle.base_values.specs.GhoSchema.Tables.{IsTable}
use Rattle.base_values.specs.declared.event.RowEvent.{RowEvent}
use Rattle.base_values.specs.declared.event.Change.{Change}
use Rattle.table_store.specs.ClusteredKeys.{HasClusteredKey}
use Rattle.proof_journals.specs.Ghost.Relation.Views.{GhostFollows, Progress}
use Rattle.proof_journals.proofs.Ghost.Rows.Beside.{all_beside, all_table, flip}
use Rattle.proof_journals.proofs.Ghost.Rows.Chunking.{batch_is_done}
use Rattle.proof_journals.proofs.Ghost.Rows.Finishing.{log_fits-append, log_has_grown}
use Rattle.proof_journals.proofs.Ghost.Rows.TimelineLaws.{is_timeline}
use Rattle.proof_journals.specs.Ghost.Rows.Disjoint.{AllDisjoint, Disjoint}
use Rattle.proof_journals.specs.Ghost.Rows.Moments.{FitsAll, LogFits, Row, rows_after_all, rows_at}
use Rattle.proof_journals.specs.Ghost.Rows.Timelines.{KeepsUniques, Migration, timeline_of}
use Rattle.proof_journals.specs.Ghost.Rows.UnderWay.{IsUnderWay}
use Rattle.proof_journals.specs.Ghost.Rows.Views.{GhostRows, views_of}
use Rattle.server_model.specs.LockedRows.Coverage.{rows_of}

-- strangers the other way about
heads : (schema : Schema) (change : Change) (others : List Change) (changes : List Change) → AllByRecursion (λ c. AllByRecursion (Disjoint schema c) (change ∷ others)) changes → AllByRecursion (Disjoint schema change) changes × AllByRecursion (λ c. AllByRecursion (Disjoint schema c) others) changes
heads schema change others [] all = (tt, tt)
heads schema change others (c ∷ changes) all = let more = heads schema change others changes all.1 in ((flip schema (rows_of c) (rows_of change) all.0.0, more.0), (all.0.1, more.1))

pub turn_all : (schema : Schema) (changes others : List Change) → AllDisjoint schema changes others → AllDisjoint schema others changes
turn_all schema changes [] all = tt
turn_all schema changes (other ∷ others) all = let parts = heads schema other others changes all in (parts.0, turn_all schema changes others parts.1)

pub disjoint_none : (schema : Schema) (changes : List Change) → AllDisjoint schema changes []
disjoint_none schema [] = tt
disjoint_none schema (change ∷ changes) = (tt, disjoint_none schema changes)

pub fits_none : (schema : Schema) (rows : List Row) → FitsAll schema rows []
unfolding FitsAll
fits_none schema rows = tt

-- what holds of the rows behind the chunk's commit
pub record ChunkAfter (m : Migration) (progress : Progress Row) (ghost : GhostRows) : Type 0 where
  pub table : IsTable m.new (rows_after_all (key_places m.new) ghost.chunk ghost.committed)
  pub batch : FitsAll m.new (rows_after_all (key_places m.new) ghost.chunk ghost.committed) ghost.batch

pub chunk_after : (m : Migration) (rows : List Row) (log : List RowEvent) (done half : Row → Bool) (progress : Progress Row) (ghost : GhostRows) → HasClusteredKey m.new → IsUnderWay m rows log done half progress ghost → ChunkAfter m progress ghost
chunk_after m rows log done half progress ghost has now =
    record { table = all_table m.new has ghost.chunk ghost.committed now.table now.chunk; batch = all_beside m.new has ghost.chunk ghost.batch ghost.committed now.table now.chunk now.batch (turn_all m.new ghost.batch ghost.chunk now.disjoint) }

-- *The chunk is committed*, or is to be repeated, where the ghost relation holds then.
pub chunk_ends : (m : Migration) (rows : List Row) (log : List RowEvent) (done next half : Row → Bool) (progress : Progress Row) (ghost : GhostRows) → HasClusteredKey m.new
    → GhostFollows (timeline_of m rows log) next half (record progress { copier_holds = λ _. false }) (views_of (key_places m.new) (record ghost { committed = rows_after_all (key_places m.new) ghost.chunk ghost.committed; chunk = [] }))
    → IsUnderWay m rows log done half progress ghost
    → IsUnderWay m rows log next half (record progress { copier_holds = λ _. false }) (record ghost { committed = rows_after_all (key_places m.new) ghost.chunk ghost.committed; chunk = [] })
chunk_ends m rows log done next half progress ghost has are now =
    let then = chunk_after m rows log done half progress ghost has now in
    record {
      log_fits = now.log_fits;
      end = now.end;
      are = are;
      table = then.table;
      batch = then.batch;
      chunk = fits_none m.new (rows_after_all (key_places m.new) ghost.chunk ghost.committed);
      batch_covered = now.batch_covered;
      chunk_covered = tt;
      disjoint = disjoint_none m.new ghost.batch;
    }

-- *The batch is committed.*
pub batch_goes_on : (m : Migration) (rows : List Row) (log : List RowEvent) (done : Row → Bool) (progress : Progress Row) (ghost : GhostRows) → HasClusteredKey m.new → IsUnderWay m rows log done (λ _. false) progress ghost
    → IsUnderWay m rows log done (λ _. false) (record progress { position = progress.reached; applier_holds = λ _. false }) (record ghost { committed = rows_after_all (key_places m.new) ghost.batch ghost.committed; batch = [] })
batch_goes_on m rows log done progress ghost has now =
    record {
      log_fits = now.log_fits;
      end = now.end;
      are = batch_is_done m rows log done progress ghost now.chunk_covered now.batch_covered now.are;
      table = all_table m.new has ghost.batch ghost.committed now.table now.batch;
      batch = fits_none m.new (rows_after_all (key_places m.new) ghost.batch ghost.committed);
      chunk = all_beside m.new has ghost.batch ghost.chunk ghost.committed now.table now.batch now.chunk now.disjoint;
      batch_covered = tt;
      chunk_covered = now.chunk_covered;
      disjoint = tt;
    }

-- *More is logged.*
pub log_goes_on : (m : Migration) (rows : List Row) (log more : List RowEvent) (done half : Row → Bool) (progress : Progress Row) (ghost : GhostRows) → HasClusteredKey m.schema → KeepsUniques m → IsTable m.schema rows
    → LogFits m.name m.schema (rows_at m.name (key_places m.schema) rows log (length log)) more → IsUnderWay m rows log done half progress ghost → IsUnderWay m rows (log ++ more) done half (record progress { end = length (log ++ more) }) ghost
log_goes_on m rows log more done half progress ghost has keeps is log_fits now =
    let all : LogFits m.name m.schema rows (log ++ more) = log_fits-append m.name m.schema rows log more now.log_fits log_fits in
    record {
      log_fits = all;
      end = refl;
      are = log_has_grown m rows log more done half progress ghost (is_timeline m rows (log ++ more) has keeps is all) now.end now.are;
      table = now.table;
      batch = now.batch;
      chunk = now.chunk;
      batch_covered = now.batch_covered;
      chunk_covered = now.chunk_covered;
      disjoint = now.disjoint;
    }
