use Rattle.std.proofs.Common.{IsSome}
use Rattle.slab.specs.Slab.{get}
use Rattle.table_store.proofs.PagedTables.RowPages.TablePages.{page_all}
use Rattle.table_store.proofs.paged_tables.row_pages.table.Table.page.Goals as goal

pub new-requires : goal.new-requires
new-requires c = rw c.page_entries.ensures (page_all (λ e. IsSome (get c.self.inside.rows e)) c.args.n c.self.inside.order.pages c.self.invariant.listed.stored)
