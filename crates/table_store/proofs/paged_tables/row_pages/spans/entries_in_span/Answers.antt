use Rattle.std.proofs.Common.{not}
use Rattle.base_values.specs.Spans.{above, below, has}
use Rattle.base_values.specs.GhoSchema.Rows.{key_of}
use Rattle.base_page_list.specs.Pages.{flat}
use Rattle.table_store.proofs.Orders.{Row, under_fails, below_fails}
use Rattle.table_store.specs.PagedTables.RowPages.RowOrders.{row_of, rows_of}
use Rattle.base_page_list.proofs.Ascending.{fails_map}
use Rattle.table_store.proofs.PagedTables.RowPages.RowPlaces.{test_fails_on}
use Rattle.table_store.proofs.PagedTables.RowPages.SpanPlaces.{has_between, rows_of_between}
use Rattle.table_store.proofs.paged_tables.row_pages.spans.entries_in_span.Goals as goal

pub place-from-requires : goal.place-from-requires
place-from-requires c =
    let entries = flat c.args.order.now.pages in
    fails_map (row_of c.args.rows.now) (λ (row : Row). not (above c.args.span.now.low (key_of c.args.places.now row))) entries
    (test_fails_on (λ (key : Row). not (above c.args.span.now.low key)) c.args.places.now c.requires.0 (rows_of c.args.rows.now entries) (under_fails c.args.span.now.low) c.requires.1)

pub place-to-requires : goal.place-to-requires
place-to-requires c =
    let entries = flat c.args.order.now.pages in
    fails_map (row_of c.args.rows.now) (λ (row : Row). below c.args.span.now.high (key_of c.args.places.now row)) entries
    (test_fails_on (λ (key : Row). below c.args.span.now.high key) c.args.places.now c.requires.0 (rows_of c.args.rows.now entries) (below_fails c.args.span.now.high) c.requires.1)

pub returns-clause-rows : goal.returns-clause-rows
unfolding has
returns-clause-rows c =
    let entries = flat c.args.order.now.pages in
    let rows = rows_of c.args.rows.now entries in
    let over = λ (row : Row). above c.args.span.now.low (key_of c.args.places.now row) in
    let under = λ (row : Row). below c.args.span.now.high (key_of c.args.places.now row) in
    rw c.entries_between.ensures
    (rows_of_between over under c.args.rows.now entries _ _ c.place-from.ensures.place c.place-to.ensures.place
    (test_fails_on (λ (key : Row). not (above c.args.span.now.low key)) c.args.places.now c.requires.0 rows (under_fails c.args.span.now.low) c.requires.1)
    (test_fails_on (λ (key : Row). below c.args.span.now.high key) c.args.places.now c.requires.0 rows (below_fails c.args.span.now.high) c.requires.1))

pub returns-clause-has : goal.returns-clause-has
returns-clause-has c = rw c.entries_between.ensures (λ entry has. has_between _ _ entry (flat c.args.order.now.pages) has)
