-- A whole copy: the moment at which it starts, the one at which it ends, and the turns of a scene between them.
use Rattle.std.specs.Prelude.{◌≡◌, ◌≤◌, ℕ, ◌==◌, false, List, [], ◌∷◌, ◌++◌, length, Option, Some, None}
use Rattle.std.specs.Str.{bytes_eq}
use Rattle.base_values.specs.declared.span.Bound.TheVariants.{Closed}
use Rattle.base_values.specs.declared.span.Span.{Span}
use Rattle.base_values.specs.GhoSchema.Rows.{key_of, key_places}
use Rattle.base_values.specs.RowConversion.ConvertedRows.{converted_rows}
use Rattle.table_store.specs.Databases.{Database, find_table}
use Rattle.server_model.specs.declared.entry.Entry.{Entry}
use Rattle.server_model.specs.declared.session.Limits.{Limits}
use Rattle.server_model.specs.Chunks.{keys_of, last_of}
use Rattle.proof_journals.specs.Scenes.{Scene, no_hold}
use Rattle.proof_journals.specs.Holdings.{face_of, stored}
use Rattle.proof_journals.specs.Turns.{scene_state}
use Rattle.proof_journals.specs.Ghost.Rows.Moments.{Row, rows_at, LogFits}
use Rattle.proof_journals.specs.Ghost.Rows.Timelines.{Migration}
use Rattle.proof_journals.specs.Ghost.HeldKeys.{Clustered}
use Rattle.proof_journals.specs.Ghost.ToolTurns.{ToolMoment, ToolTurn}
use Rattle.proof_journals.specs.Ghost.ToolTurns.ApplyPlan.{Resting}
use Rattle.proof_journals.specs.Ghost.Tool.CopyState.{Waiting}

-- the range of rows in the order of their keys, from the least key to the greatest; none of no rows
abbrev pub range_of : List ℕ → List Row → Option Span
range_of places [] = None
range_of places (first ∷ others) = Some (record { low = Closed (key_of places first); high = Closed (last_of (key_of places first) (keys_of places others)) })

-- the migrated table's rows, by its log
abbrev pub rows_now : Migration → List Row → ToolMoment → List Row
rows_now m rows now = rows_at m.name (key_places m.schema) rows now.stored.log (length now.stored.log)

-- *The start of a copy*: the applier's position was noted, then the migrated table's range was read; the new table is empty, all
-- of the range is left, nothing is to be applied, and neither session holds anything.
pub record IsCopyStart (m : Migration) (rows : List Row) (copier applier : ℕ) (now : ToolMoment) : Type 0 where
  pub fits : LogFits m.name m.schema rows now.stored.log
  pub noted : now.position ≤ length now.stored.log
  pub old : find_table m.name now.stored.tables ≡ Some (record { schema = m.schema; rows = rows_now m rows now })
  pub empty : find_table m.new.name now.stored.tables ≡ Some (record { schema = m.new; rows = [] })
  pub range : now.copy ≡ Waiting (range_of (key_places m.schema) (rows_now m rows now))
  pub resting : now.plan ≡ Resting
  pub copier_rests : now.hold copier ≡ no_hold
  pub applier_rests : now.hold applier ≡ no_hold
  pub differ : bytes_eq m.new.name m.name ≡ false
  pub two : (copier == applier) ≡ false

-- *The end of a copy*: nothing of the range is left, and the applier's position is the log's end.
pub record IsCopyEnd (now : ToolMoment) : Type 0 where
  pub copied : now.copy ≡ Waiting None
  pub applied : now.position ≡ length now.stored.log

-- *Altered*: of both tables as they are, the new one's rows are the migrated one's, converted, row by row.
pub record IsAltered (m : Migration) (tables : Database) : Type 0 where
  pub rows : List Row
  pub made : List Row
  pub old : find_table m.name tables ≡ Some (record { schema = m.schema; rows = rows })
  pub new : find_table m.new.name tables ≡ Some (record { schema = m.new; rows = made })
  pub altered : converted_rows m.columns rows ≡ Some made

-- *In a scene*: what is stored and held at the moment is what the server has after some of the journal's first entries.
pub record IsInScene (limits : Limits) (scene : Scene) (journal : List Entry) (now : ToolMoment) : Type 0 where
  pub made : List Entry
  pub left : List Entry
  pub journal_is : made ++ left ≡ journal
  pub stored_is : now.stored ≡ stored (scene_state limits scene made)
  pub hold_is : now.hold ≡ (λ n. (face_of (scene_state limits scene made).sessions n).hold)

-- *Turns of a scene*: turns in any order, from moments of the scene
abbrev pub SceneTurns : (m : Migration) → Clustered m.schema → List Row → ℕ → ℕ → ℕ → Limits → Scene → List Entry → ToolMoment → List ToolMoment → Type 0
SceneTurns m at rows place copier applier limits scene journal first [] = Unit {0}
SceneTurns m at rows place copier applier limits scene journal first (next ∷ others) = IsInScene limits scene journal first × ToolTurn m at rows place copier applier first next × SceneTurns m at rows place copier applier limits scene journal next others
