-- What is kept of the server and the migration together.
use Rattle.std.specs.Prelude.{◌≡◌, ℕ, ◌==◌, Bool, false, List, length, Some}
use Rattle.std.specs.List.{AllByRecursion}
use Rattle.std.specs.Str.{bytes_eq}
use Rattle.base_values.specs.GhoSchema.Rows.{key_places}
use Rattle.base_values.specs.declared.event.RowEvent.{RowEvent}
use Rattle.table_store.specs.Databases.{find_table}
use Rattle.proof_journals.specs.Ghost.FittingEvents.{EventsFit}
use Rattle.proof_journals.specs.Ghost.Joined.{IsJoined}
use Rattle.proof_journals.specs.Ghost.Relation.Views.{Progress}
use Rattle.proof_journals.specs.Ghost.Rows.Moments.{Row, rows_at}
use Rattle.proof_journals.specs.Ghost.Rows.Timelines.{Migration}
use Rattle.proof_journals.specs.Ghost.Rows.Views.{GhostRows}
use Rattle.proof_journals.specs.Scenes.{SessionHold, Stored}
use Rattle.server_model.specs.Operations.{events_of}
use Rattle.server_model.specs.LockedRows.Coverage.{Apart}
use Rattle.server_model.specs.LockedRows.Databases.{EventsCovered, IsWellFormedDatabase}

-- *What the server keeps*: well-formed tables, which each session's own writes fit, event by event; writes that are covered by
-- locks; and locks of two sessions that don't conflict
pub record IsServed (now : Stored) (hold : ℕ → SessionHold) : Type 0 where
  pub well_formed : IsWellFormedDatabase now.tables
  pub fits : (n : ℕ) → EventsFit now.tables (hold n).writes
  pub covered : (n : ℕ) → EventsCovered (hold n).names (hold n).locks now.tables (hold n).writes
  pub apart : (m n : ℕ) → (m == n) ≡ false → Apart (hold m).locks (hold n).locks

-- no event is of the table of this name
abbrev pub NotOf : List ℕ → List RowEvent → Type 0
NotOf name events = AllByRecursion (λ event. bytes_eq event.table name ≡ false) events

-- *Ghost invariant*: the migration is under way with the locks of its two sessions; the migrated table has the rows of the
-- log's end, and the new one those of the committed ghost; the two sessions wrote what the open batch and the open chunk did.
pub record GhostInvariant (m : Migration) (rows : List Row) (done half : Row → Bool) (taken : List Row) (progress : Progress Row) (ghost : GhostRows) (copier applier : ℕ) (now : Stored) (hold : ℕ → SessionHold) : Type 0 where
  pub joined : IsJoined m rows now.log done half (hold applier).locks (hold copier).locks taken progress ghost
  pub old : find_table m.name now.tables ≡ Some (record { schema = m.schema; rows = rows_at m.name (key_places m.schema) rows now.log (length now.log) })
  pub new : find_table m.new.name now.tables ≡ Some (record { schema = m.new; rows = ghost.committed })
  pub batch : (hold applier).writes ≡ events_of m.new.name ghost.batch
  pub chunk : (hold copier).writes ≡ events_of m.new.name ghost.chunk
  pub differ : bytes_eq m.new.name m.name ≡ false
