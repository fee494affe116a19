use Rattle.std.proofs.Common.{◌∙◌}
use Rattle.base_page_list.specs.Pages.{flat}
use Rattle.table_store.specs.PagedTables.RowPages.RowOrders.{row_of, is_before}
use Rattle.base_page_list.proofs.Ascending.{fails_map, prefix_map, last_map}
use Rattle.table_store.proofs.paged_tables.row_pages.places.place_of_row.Goals as goal

pub place-requires : goal.place-requires
place-requires c = fails_map (row_of c.args.rows.now) (is_before c.args.first.now c.args.second.now c.args.row.now) (flat c.args.order.now.pages) c.requires

pub returns-clause-place : goal.returns-clause-place
returns-clause-place c = c.place.ensures.place ∙ prefix_map (row_of c.args.rows.now) (is_before c.args.first.now c.args.second.now c.args.row.now) (flat c.args.order.now.pages)

pub returns-clause-page : goal.returns-clause-page
returns-clause-page c = c.place.ensures.page ∙ last_map (row_of c.args.rows.now) (is_before c.args.first.now c.args.second.now c.args.row.now) c.args.order.now.pages
