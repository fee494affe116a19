use Rattle.std.proofs.Common.{◌∙◌, IsSome, sym}
use Rattle.slab.specs.Slab.{get}
use Rattle.base_page_list.specs.Pages.{flat}
use Rattle.base_page_list.proofs.Ascending.{has_all}
use Rattle.table_store.proofs.PagedTables.RowPages.RowPlaces.{some_row}
use Rattle.table_store.proofs.paged_tables.row_pages.places.row_besides.Goals as goal

pub returns-in-Some : goal.returns-in-Some
returns-in-Some c =
    let some = has_all (λ e. IsSome (get c.args.rows.now e)) c.in-Some.entry (flat c.args.order.now.pages) c.requires.stored c.in-Some.ensures.has in
    c.get.ensures ∙ some_row c.args.rows.now c.in-Some.entry some ∙ sym c.in-Some.ensures.row_is
