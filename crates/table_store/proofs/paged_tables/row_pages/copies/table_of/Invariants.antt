use Rattle.std.proofs.Common.{◌≡◌, ◌≤◌, ◌++◌, drop, length}
use Rattle.table_store.proofs.paged_tables.row_pages.copies.table_of.Given as goal

-- the rows that are put and those that are left are all, and there is room for these
abbrev pub invariant-loop-row : goal.invariant-loop-row
invariant-loop-row l = record {
  schema : l.table.table.schema ≡ l.fn.schema;
  rows : l.table.table.rows ++ drop l.row-index l.rows ≡ l.rows;
  room : length (drop l.row-index l.rows) ≤ l.table.spare;
}
