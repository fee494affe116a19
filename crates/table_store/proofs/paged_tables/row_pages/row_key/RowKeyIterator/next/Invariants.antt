use Rattle.std.proofs.Common.{◌≡◌, length}
use Rattle.base_values.specs.GhoSchema.Rows.{key_of}
use Rattle.table_store.proofs.paged_tables.row_pages.row_key.RowKeyIterator.next.Given as goal

-- the columns that are passed over had no value
abbrev pub invariant-loop-column : goal.invariant-loop-column
invariant-loop-column l = key_of l.self-inside.columns.now l.self-inside.values.now ≡ l.fn.self

abbrev pub decreases-loop-column : goal.decreases-loop-column
decreases-loop-column l = length l.self-inside.columns.now
