use Rattle.base_page_list.specs.Pages.{flat}
use Rattle.table_store.specs.PagedTables.RowPages.RowOrders.{rows_of}
use Rattle.table_store.proofs.PagedTables.RowPages.RowPlaces.{row_fails_on}
use Rattle.table_store.proofs.paged_tables.row_pages.indexes.KeyIndex.place_of.Goals as goal

pub place_of_row-requires : goal.place_of_row-requires
place_of_row-requires c =
    row_fails_on c.as_slice-places.result.now c.args.clustered.now c.row_of-row.result.now (rows_of c.args.rows.now (flat c.args.self.now.entries.pages)) (rw c.as_slice-places.ensures c.requires)

pub returns-clause-place : goal.returns-clause-place
returns-clause-place c = rw (c.as_slice-places.ensures, c.row_of-row.ensures) at c.place_of_row.ensures.place
