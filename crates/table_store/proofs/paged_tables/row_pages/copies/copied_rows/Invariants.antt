use Rattle.std.proofs.Common.{◌≡◌, ◌++◌, length}
use Rattle.table_store.proofs.paged_tables.row_pages.copies.copied_rows.Given as goal

-- the rows so far, and those that are left, are all
abbrev pub invariant-loop-row : goal.invariant-loop-row
invariant-loop-row l = l.copy.items ++ l.rows ≡ l.fn.table.table.rows

-- each turn takes one of them
abbrev pub decreases-loop-row : goal.decreases-loop-row
decreases-loop-row l = length l.rows
