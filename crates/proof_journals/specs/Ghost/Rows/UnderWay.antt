-- What every step of the migration keeps.
use Rattle.std.specs.Prelude.{◌≡◌, ◌+◌, Bool, true, false, List, ◌++◌, length}
use Rattle.base_values.specs.GhoSchema.Rows.{key_places}
use Rattle.base_values.specs.GhoSchema.Tables.{IsTable}
use Rattle.base_values.specs.declared.event.Change.{Change}
use Rattle.base_values.specs.declared.event.RowEvent.{RowEvent}
use Rattle.proof_journals.specs.Ghost.Relation.Views.{Progress, GhostFollows}
use Rattle.proof_journals.specs.Ghost.Rows.Moments.{Row, LogFits, FitsAll}
use Rattle.proof_journals.specs.Ghost.Rows.Changes.{NamesHeld}
use Rattle.proof_journals.specs.Ghost.Rows.Timelines.{Migration, timeline_of}
use Rattle.proof_journals.specs.Ghost.Rows.Views.{GhostRows, views_of}
use Rattle.proof_journals.specs.Ghost.Rows.Disjoint.{AllDisjoint}

-- *The migration is under way*, from these rows and this log on: the ghost relation holds in all views; the committed ghost
-- is a table; what the open batch and the open chunk wrote fits it, names held keys alone, and is disjoint.
pub record IsUnderWay (m : Migration) (rows : List Row) (log : List RowEvent) (done half : Row → Bool) (progress : Progress Row) (ghost : GhostRows) : Type 0 where
  pub log_fits : LogFits m.name m.schema rows log
  pub end : progress.end ≡ length log
  pub are : GhostFollows (timeline_of m rows log) done half progress (views_of (key_places m.new) ghost)
  pub table : IsTable m.new ghost.committed
  pub batch : FitsAll m.new ghost.committed ghost.batch
  pub chunk : FitsAll m.new ghost.committed ghost.chunk
  pub batch_covered : NamesHeld (key_places m.new) progress.applier_holds ghost.batch
  pub chunk_covered : NamesHeld (key_places m.new) progress.copier_holds ghost.chunk
  pub disjoint : AllDisjoint m.new ghost.batch ghost.chunk

-- *The batch may grow* by these changes, where the applier then holds these keys: none of the copier's, and all that its
-- changes name; and the changes are disjoint from the open chunk's.
pub record BatchMayGrow (m : Migration) (progress : Progress Row) (ghost : GhostRows) (held : Row → Bool) (changes : List Change) : Type 0 where
  pub apart : (key : Row) → progress.copier_holds key ≡ true → held key ≡ false
  pub names : NamesHeld (key_places m.new) held (ghost.batch ++ changes)
  pub disjoint : AllDisjoint m.new changes ghost.chunk

-- one event more is applied, and the applier holds these keys
abbrev pub one_applied : (Row → Bool) → Progress Row → Progress Row
one_applied held progress = record progress { reached = progress.reached + 1; applier_holds = held }

-- the open batch with these changes more
abbrev pub batch_more : List Change → GhostRows → GhostRows
batch_more changes ghost = record ghost { batch = ghost.batch ++ changes }
