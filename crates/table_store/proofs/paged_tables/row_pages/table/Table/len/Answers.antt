use Rattle.std.proofs.Common.{◌∙◌, sym}
use Rattle.std.proofs.lemmas.List.{length-map}
use Rattle.base_page_list.specs.Pages.{flat}
use Rattle.table_store.specs.PagedTables.RowPages.RowOrders.{row_of}
use Rattle.table_store.proofs.paged_tables.row_pages.table.Table.len.Goals as goal

pub returns : goal.returns
returns c = rw (← c.self.view_is) (c.len.ensures ∙ sym (length-map (flat c.self.inside.order.pages) (row_of c.self.inside.rows) ∙ c.self.invariant.listed.counted))
