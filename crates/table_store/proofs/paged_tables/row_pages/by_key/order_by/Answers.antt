use Rattle.std.proofs.Common.{sym, refl}
use Rattle.base_values.specs.GhoSchema.Rows.{key_places, places_at}
use Rattle.base_page_list.specs.Pages.{flat}
use Rattle.table_store.proofs.PagedTables.RowPages.ByKeys.{own_order, index_order, no_index}
use Rattle.table_store.proofs.paged_tables.row_pages.by_key.order_by.Goals as goal

pub returns-in_default : goal.returns-in_default
returns-in_default c = own_order (places_at c.args.schema.now c.args.n) (key_places c.args.schema.now) c.args.rows.now c.args.order.now c.requires.stored.listed c.in_default.ensures

pub returns-in-Some-index_at : goal.returns-in-Some-index_at
returns-in-Some-index_at c =
    index_order c.args.schema.now c.args.rows.now (flat c.args.order.now.pages) c.args.indexes.now c.in-Some.number (places_at c.args.schema.now c.args.n) c.in-Some-index_at.index.now c.requires.stored c.in-Some.ensures (sym c.in-Some-index_at.ensures)

pub returns-in-None : goal.returns-in-None
returns-in-None c =
    no_index c.args.schema.now c.args.rows.now (flat c.args.order.now.pages) c.args.indexes.now c.in-Some.number (places_at c.args.schema.now c.args.n) c.args.order.now refl c.requires.stored c.in-Some.ensures (sym c.in-None.ensures)
