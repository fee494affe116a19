use Rattle.std.proofs.Common.{◌∙◌, ℕ, IsSome}
use Rattle.slab.specs.Slab.{get}
use Rattle.base_page_list.specs.Pages.{flat}
use Rattle.base_page_list.proofs.Ascending.{has_all, all_has}
use Rattle.table_store.proofs.paged_tables.row_pages.table.Table.in_span.Goals as goal

pub new-requires : goal.new-requires
new-requires c =
    let stored = λ (e : ℕ). IsSome (get c.self.inside.rows e) in
    all_has stored _ (λ e has. has_all stored e (flat c.self.inside.order.pages) c.self.invariant.listed.stored (c.entries_in_span-entries.ensures.has e has))

pub returns : goal.returns
returns c = rw (← c.self.view_is) (c.new.ensures ∙ (rw c.key_places-places.ensures at c.entries_in_span-entries.ensures.rows))
