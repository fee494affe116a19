use Rattle.std.proofs.Common.{◌≡◌, ◌≤◌, ◌++◌, length}
use Rattle.table_store.proofs.paged_tables.row_pages.copies.copied_table.Given as goal

-- the rows that are put and those that are left are all, and there is room for these
abbrev pub invariant-loop-row : goal.invariant-loop-row
invariant-loop-row l = record {
  schema : l.copy.table.schema ≡ l.table.table.schema;
  rows : l.copy.table.rows ++ l.row-iterator ≡ l.table.table.rows;
  room : length l.row-iterator ≤ l.copy.spare;
}
