use Rattle.std.proofs.Common.{◌∙◌, sym}
use Rattle.base_values.specs.GhoSchema.Rows.{key_places, places_at}
use Rattle.base_page_list.specs.Pages.{flat}
use Rattle.table_store.specs.RowLists.{is_at}
use Rattle.table_store.proofs.PagedTables.RowPages.FirstRows.{found_by_test}
use Rattle.table_store.proofs.paged_tables.row_pages.table.Table.get_by.Goals as goal

pub order_by-entries-requires-clause-stored : goal.order_by-entries-requires-clause-stored
order_by-entries-requires-clause-stored c = rw c.as_slice-indexes.ensures.value c.self.invariant

pub row_with_key-requires : goal.row_with_key-requires
row_with_key-requires c = (key_places c.self.inside.schema, rw c.places_at.ensures c.order_by-entries.ensures.listed)

pub returns : goal.returns
returns c =
    let places = places_at c.self.inside.schema c.args.n in
    let found = rw (c.places_at.ensures, c.as_slice.ensures) at c.row_with_key.ensures in
    rw (← c.self.view_is)
    (found
    ∙ sym (found_by_test (key_places c.self.inside.schema) c.self.inside.rows (flat c.self.inside.order.pages) (record { places = places; entries = c.order_by-entries.result.now }) c.args.key.now (is_at places c.args.key.now) (λ row at. at) c.self.invariant.listed.ascends c.order_by-entries.ensures))
