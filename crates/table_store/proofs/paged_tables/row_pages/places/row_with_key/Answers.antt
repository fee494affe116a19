use Rattle.std.proofs.Common.{◌∙◌, IsSome, sym}
use Rattle.slab.specs.Slab.{get}
use Rattle.base_page_list.specs.Pages.{flat}
use Rattle.base_page_list.proofs.Ascending.{has_all, has_at}
use Rattle.table_store.proofs.PagedTables.RowPages.RowPlaces.{some_row}
use Rattle.table_store.proofs.paged_tables.row_pages.places.row_with_key.Goals as goal

pub found-requires : goal.found-requires
found-requires c = (c.requires.0, c.requires.1.ascends)

pub returns-in-Some : goal.returns-in-Some
returns-in-Some c =
    let entries = flat c.args.order.now.pages in
    let has = has_at _ c.in-Some.entry entries c.in-Some.ensures.entry_is in
    let some = has_all (λ e. IsSome (get c.args.rows.now e)) c.in-Some.entry entries c.requires.1.stored has in
    c.get.ensures ∙ some_row c.args.rows.now c.in-Some.entry some ∙ sym c.in-Some.ensures.row_is
