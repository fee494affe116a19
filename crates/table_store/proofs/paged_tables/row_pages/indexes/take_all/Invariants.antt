use Rattle.table_store.specs.PagedTables.RowPages.Indexes.{IsTaken}
use Rattle.table_store.proofs.PagedTables.RowPages.Zipped.{IsHalfDone}
use Rattle.table_store.proofs.paged_tables.row_pages.indexes.take_all.Given as goal

abbrev pub invariant-loop-i : goal.invariant-loop-i
invariant-loop-i l = IsHalfDone (IsTaken l.rows l.clustered l.entry) l.i l.fn.indexes.items l.indexes.items
