-- What changes put and remove, and that locks cover it.
use Rattle.std.specs.Prelude.{◌≡◌, false, List, [], ◌∷◌, Option, Some, None, Ok, Err}
use Rattle.std.specs.List.{AllByRecursion}
use Rattle.base_values.specs.declared.value.Value.{Value}
use Rattle.base_values.specs.declared.gho_schema.schema.Schema.{Schema}
use Rattle.base_values.specs.GhoSchema.Tables.{IsRow, IsTable}
use Rattle.base_values.specs.declared.gho_schema.schema.Column.{Column}
use Rattle.base_values.specs.StoredValues.{stores}
use Rattle.base_values.specs.SchemaRules.Valid.{StoresDefault}
use Rattle.table_store.specs.ClusteredKeys.{HasClusteredKey}
use Rattle.table_store.specs.Databases.{TableRows}
use Rattle.base_values.specs.declared.event.Change.{Change}
use Rattle.base_values.specs.declared.event.Change.TheVariants.{Write, Update, Delete}
use Rattle.server_locks.specs.declared.row_locks.lock.Lock.{Lock}
use Rattle.server_locks.specs.RowLocks.Grants.{conflict}
use Rattle.server_model.specs.declared.work.Work.{Work}
use Rattle.server_model.specs.declared.work.Work.TheVariants as works
use Rattle.server_model.specs.Needs.{points}
use Rattle.server_model.specs.LockedRows.Agreement.{Among, Within}

-- the rows that a change puts or removes
abbrev pub rows_of : Change → List (List Value)
rows_of (Write row) = row ∷ []
rows_of (Update before after) = before ∷ after ∷ []
rows_of (Delete row) = row ∷ []

-- the rows' points are among the locks
abbrev pub RowsCovered : Schema → List Lock → List (List Value) → Type 0
RowsCovered schema locks rows = AllByRecursion (λ row. Within (points schema row) locks) rows

-- *Covered*: all points of all rows that the changes put or remove are among the locks
abbrev pub Covered : Schema → List Lock → List Change → Type 0
Covered schema locks changes = AllByRecursion (λ change. RowsCovered schema locks (rows_of change)) changes

-- no lock of the one conflicts with one of the other
abbrev pub Apart : List Lock → List Lock → Type 0
Apart own others = (lock other : Lock) → Among lock own → Among other others → conflict lock other ≡ false

-- a table with a clustered key, and defaults that fit their columns
pub record IsWellFormedTable (table : TableRows) : Type 0 where
  pub keyed : HasClusteredKey table.schema
  pub defaults : AllByRecursion (λ column. StoresDefault column column.default) table.schema.columns
  pub is_table : IsTable table.schema table.rows

-- what the columns are set to fits them
abbrev pub SetsFit : List Column → List (Option Value) → Type 0
SetsFit [] sets = Unit {0}
SetsFit (column ∷ columns) [] = Unit {0}
SetsFit (column ∷ columns) (None ∷ sets) = SetsFit columns sets
SetsFit (column ∷ columns) (Some value ∷ sets) = (stores value column.kind column.nullable ≡ Ok value) × SetsFit columns sets

-- the work's new rows are rows of the columns
abbrev pub IsSound : List Column → Work → Type 0
IsSound columns (works.Refuse refusal) = Unit {0}
IsSound columns (works.Insert row) = IsRow columns row
IsSound columns (works.Copy row) = IsRow columns row
IsSound columns (works.Replace row) = IsRow columns row
IsSound columns (works.Delete reach) = Unit {0}
IsSound columns (works.Update reach (Err at)) = Unit {0}
IsSound columns (works.Update reach (Ok sets)) = SetsFit columns sets
IsSound columns (works.Select reach selection) = Unit {0}
