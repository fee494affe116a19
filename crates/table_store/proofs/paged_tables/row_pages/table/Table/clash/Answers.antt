use Rattle.std.proofs.Common.{◌∙◌, Option, find, sym, ap}
use Rattle.std.specs.Option.{option_copied}
use Rattle.base_values.specs.GhoSchema.Rows.{key_places}
use Rattle.base_page_list.specs.Pages.{flat}
use Rattle.table_store.specs.PagedTables.RowPages.RowOrders.{rows_of}
use Rattle.table_store.specs.PagedTables.RowPages.Clashes.{by_key, earlier, clashes_at}
use Rattle.table_store.proofs.Orders.{Row}
use Rattle.table_store.proofs.PagedTables.RowPages.Indexing.{own_all}
use Rattle.table_store.proofs.PagedTables.RowPages.TableClash.{clash_by_others, clash_by_both, listed_twice, none_by, some_by}
use Rattle.table_store.proofs.paged_tables.row_pages.table.Table.clash.Goals as goal

pub first_clash-others-requires : goal.first_clash-others-requires
first_clash-others-requires c = rw (c.key_places-places.ensures, c.as_slice-indexes.ensures.value) (own_all (key_places c.self.inside.schema) c.self.inside.rows (flat c.self.inside.order.pages) c.self.inside.indexes.items c.self.invariant.indexed)

pub clash_in-own-requires : goal.clash_in-own-requires
clash_in-own-requires c = rw c.key_places-places.ensures (listed_twice (key_places c.self.inside.schema) c.self.inside.rows (flat c.self.inside.order.pages) c.self.invariant.listed)

pub returns-then-is_none : goal.returns-then-is_none
returns-then-is_none c =
    let others = rw (c.key_places-places.ensures, c.as_slice-indexes.ensures.value, c.as_slice.ensures) at c.first_clash-others.ensures in
    let none = none_by _ _ _ _ c.clustered_key.ensures c.is_none.ensures c.if-is_none.true in
    rw (← c.self.view_is) (others ∙ sym (clash_by_others c.self.inside.rows (flat c.self.inside.order.pages) c.self.inside.schema c.self.inside.indexes.items c.args.row.now _ c.self.invariant none))

pub returns-else-is_none : goal.returns-else-is_none
returns-else-is_none c =
    let places = key_places c.self.inside.schema in
    let others = rw (c.key_places-places.ensures, c.as_slice-indexes.ensures.value, c.as_slice.ensures) at c.first_clash-others.ensures in
    let mine = rw (c.key_places-places.ensures, c.as_slice-else-is_none.ensures) at c.clash_in-own.ensures in
    let some = some_by _ _ _ _ c.clustered_key.ensures c.is_none.ensures c.if-is_none.false in
    let first = rw c.key_places-places.ensures at c.earlier.ensures in
    rw (← c.self.view_is)
    (first ∙ ap (λ (o : Option Row). earlier (by_key places) o (option_copied c.first_clash-others.result)) mine ∙ ap (λ (o : Option Row). earlier (by_key places) (find (clashes_at places places c.args.row.now (option_copied c.args.besides)) (rows_of c.self.inside.rows (flat c.self.inside.order.pages))) o) others
    ∙ sym (clash_by_both c.self.inside.rows (flat c.self.inside.order.pages) c.self.inside.schema c.self.inside.indexes.items c.args.row.now _ c.self.invariant some))
