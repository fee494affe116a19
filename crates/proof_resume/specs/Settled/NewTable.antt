-- *Settled*: the ghost relation of the committed new table alone, with no batch and no chunk open.
use Rattle.std.specs.Prelude.{◌≡◌, ℕ, true, false, List, [], length, Option, Some, find}
use Rattle.std.specs.Str.{bytes_eq}
use Rattle.base_values.specs.declared.span.Span.{Span}
use Rattle.base_values.specs.GhoSchema.Rows.{key_places}
use Rattle.table_store.specs.Databases.{find_table}
use Rattle.table_store.specs.RowLists.{is_at}
use Rattle.proof_journals.specs.Scenes.{Stored}
use Rattle.proof_journals.specs.Ghost.Tool.{start_places}
use Rattle.proof_journals.specs.Ghost.Rows.Moments.{Row, rows_at}
use Rattle.proof_journals.specs.Ghost.Rows.Timelines.{Migration}
use Rattle.proof_journals.specs.Ghost.Rows.UnderWay.{IsUnderWay}
use Rattle.proof_journals.specs.Ghost.Rows.Views.{GhostRows, is_done}

-- the new table's rows, with nothing open
abbrev pub only_committed : List Row → GhostRows
only_committed made = record { committed = made; batch = []; chunk = [] }

-- *Settled* at this position, with this span left to copy: the relation holds of the committed new table, which has these rows.
pub record IsSettled (m : Migration) (rows : List Row) (now : Stored) (position : ℕ) (left : Option Span) (made : List Row) : Type 0 where
  pub under_way : IsUnderWay m rows now.log (is_done left) (λ _. false) (start_places position now) (only_committed made)
  pub old : find_table m.name now.tables ≡ Some (record { schema = m.schema; rows = rows_at m.name (key_places m.schema) rows now.log (length now.log) })
  pub new : find_table m.new.name now.tables ≡ Some (record { schema = m.new; rows = made })
  pub differ : bytes_eq m.new.name m.name ≡ false

-- *At least this is left*: each key at which a row exists now, and that isn't left by the one span, isn't left by the other
abbrev pub LeavesMore : Migration → List Row → Stored → Option Span → Option Span → Type 0
LeavesMore m rows now left more = (key row : Row) → is_done more key ≡ true → find (is_at (key_places m.schema) key) (rows_at m.name (key_places m.schema) rows now.log (length now.log)) ≡ Some row → is_done left key ≡ true
