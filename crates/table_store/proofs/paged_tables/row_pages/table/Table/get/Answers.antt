use Rattle.std.proofs.Common.{[]}
use Rattle.table_store.proofs.paged_tables.row_pages.table.Table.get.Goals as goal

pub row_with_key-requires : goal.row_with_key-requires
row_with_key-requires c = ([], rw c.key_places-places.ensures c.self.invariant.listed)
