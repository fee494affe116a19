-- What holds of all that a statement says.
use Rattle.base_values.specs.GhoSchema.Rows.{key_places}
use Rattle.table_store.specs.Databases.{TableRows}
use Rattle.server_model.specs.declared.work.Work.{Work}
use Rattle.server_model.specs.StatementResults.{tells}
use Rattle.server_model.specs.LockedRows.Coverage.{IsWellFormedTable, IsSound}
use Rattle.server_seen.specs.FittingChanges.{AllFit}

-- *Told changes fit*: each change that a statement makes fits the rows of its table as they then are.
abbrev pub ReportedChangesFit : Type 0
ReportedChangesFit = (table : TableRows) (work : Work) → IsWellFormedTable table → IsSound table.schema.columns work → AllFit (key_places table.schema) (tells table.schema table.rows work).changes table.rows
