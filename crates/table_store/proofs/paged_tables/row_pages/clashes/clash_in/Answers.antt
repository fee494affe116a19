use Rattle.std.proofs.Common.{◌∙◌, sym}
use Rattle.base_page_list.specs.Pages.{flat}
use Rattle.table_store.specs.PagedTables.RowPages.RowOrders.{rows_of}
use Rattle.table_store.proofs.PagedTables.RowPages.ClashTests.{clash_of_nulls, clash_plain, clash_named}
use Rattle.table_store.proofs.paged_tables.row_pages.clashes.clash_in.Goals as goal

pub returns-then-not-has_no_null : goal.returns-then-not-has_no_null
returns-then-not-has_no_null c = sym (clash_of_nulls c.args.clustered.now c.args.places.now c.args.new.now _ (rows_of c.args.rows.now (flat c.args.order.now.pages)) (sym c.if-not-has_no_null.ensures))

pub row_with_key-requires : goal.row_with_key-requires
row_with_key-requires c = (c.args.clustered.now, c.requires)

pub returns-in-None : goal.returns-in-None
returns-in-None c = rw c.in-None.is (c.row_with_key.ensures ∙ sym (clash_plain c.args.clustered.now c.args.places.now c.args.new.now (rows_of c.args.rows.now (flat c.args.order.now.pages)) (sym c.if-not-has_no_null.ensures)))

pub returns-in-Some : goal.returns-in-Some
returns-in-Some c =
    rw c.in-Some.is
    ((rw c.as_slice.ensures at c.row_besides.ensures)
    ∙ sym (clash_named c.args.clustered.now c.args.places.now c.args.new.now c.in-Some.key.now (rows_of c.args.rows.now (flat c.args.order.now.pages)) (sym c.if-not-has_no_null.ensures)))
