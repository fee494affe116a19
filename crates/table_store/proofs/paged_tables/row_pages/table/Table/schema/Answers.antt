use Rattle.base_values.specs.GhoSchema.Rows.{key_places}
use Rattle.base_page_list.specs.Pages.{flat}
use Rattle.table_store.specs.PagedTables.RowPages.RowOrders.{rows_of}
use Rattle.table_store.proofs.PagedTables.RowPages.TablePages.{ascends_alone}
use Rattle.table_store.proofs.paged_tables.row_pages.table.Table.schema.Goals as goal

pub returns-clause-ascends : goal.returns-clause-ascends
returns-clause-ascends c = rw (← c.self.view_is) (ascends_alone (key_places c.self.inside.schema) (rows_of c.self.inside.rows (flat c.self.inside.order.pages)) c.self.invariant.listed.ascends)
