use Rattle.table_store.specs.PagedTables.RowPages.RowOrders.{row_of}
use Rattle.table_store.proofs.PagedTables.RowPages.TablePages.{rows_of_pages, sizes_of_rows}
use Rattle.table_store.proofs.paged_tables.row_pages.table.Table.pages.Goals as goal

pub returns-clause-rows : goal.returns-clause-rows
returns-clause-rows c = rw (← c.self.view_is) (rows_of_pages (row_of c.self.inside.rows) c.self.inside.order.pages)

pub returns-clause-sizes : goal.returns-clause-sizes
returns-clause-sizes c = rw (← c.self.view_is) (sizes_of_rows c.self.inside.rows c.self.inside.order.pages c.pages.ensures.sizes)
