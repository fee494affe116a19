use Rattle.std.proofs.Common.{length}
use Rattle.table_store.proofs.paged_tables.row_pages.clashes.+first_clash.Given as goal

abbrev pub decreases-first_clash : goal.decreases-first_clash
decreases-first_clash l = length l.indexes.now
