use Rattle.std.proofs.Common.{◌∙◌}
use Rattle.base_page_list.specs.Pages.{flat}
use Rattle.table_store.specs.RowLists.{comes_before}
use Rattle.table_store.specs.PagedTables.RowPages.RowOrders.{row_of}
use Rattle.table_store.specs.PagedTables.RowPages.KeyLookup.{wanted_key}
use Rattle.base_page_list.proofs.Ascending.{fails_map, prefix_map}
use Rattle.table_store.proofs.paged_tables.row_pages.places.place_of_key.Goals as goal

pub place-requires : goal.place-requires
place-requires c = fails_map (row_of c.args.rows.now) (comes_before c.args.places.now (wanted_key c.args.places.now c.args.sought)) (flat c.args.order.now.pages) c.requires

pub returns-clause-place : goal.returns-clause-place
returns-clause-place c = c.place.ensures.place ∙ prefix_map (row_of c.args.rows.now) (comes_before c.args.places.now (wanted_key c.args.places.now c.args.sought)) (flat c.args.order.now.pages)
