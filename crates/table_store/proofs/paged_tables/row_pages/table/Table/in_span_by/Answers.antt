use Rattle.std.proofs.Common.{◌∙◌, ℕ, IsSome}
use Rattle.slab.specs.Slab.{get}
use Rattle.base_values.specs.GhoSchema.Rows.{key_places, places_at}
use Rattle.base_page_list.specs.Pages.{flat}
use Rattle.base_page_list.proofs.Ascending.{has_all, all_has}
use Rattle.table_store.proofs.PagedTables.RowPages.ByKeys.{are_in_span}
use Rattle.table_store.proofs.paged_tables.row_pages.table.Table.in_span_by.Goals as goal

pub order_by-entries-requires-clause-stored : goal.order_by-entries-requires-clause-stored
order_by-entries-requires-clause-stored c = rw c.as_slice-indexes.ensures.value c.self.invariant

pub entries_in_span-found-requires : goal.entries_in_span-found-requires
entries_in_span-found-requires c = (key_places c.self.inside.schema, rw c.places_at.ensures c.order_by-entries.ensures.listed.ascends)

pub new-requires : goal.new-requires
new-requires c =
    let stored = λ (e : ℕ). IsSome (get c.self.inside.rows e) in
    all_has stored _ (λ e has. has_all stored e (flat c.order_by-entries.result.now.pages) c.order_by-entries.ensures.listed.stored (c.entries_in_span-found.ensures.has e has))

pub returns : goal.returns
returns c =
    rw (← c.self.view_is)
    (are_in_span c.self.inside.schema c.self.inside.rows (flat c.self.inside.order.pages) c.order_by-entries.result.now (places_at c.self.inside.schema c.args.n) c.args.span.now c.new.result c.order_by-entries.ensures
    (c.new.ensures ∙ (rw c.places_at.ensures at c.entries_in_span-found.ensures.rows)))
