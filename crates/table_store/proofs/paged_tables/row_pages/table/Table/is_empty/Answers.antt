use Rattle.std.proofs.Common.{◌∙◌, ◌==◌, ℕ, sym, ap}
use Rattle.std.proofs.lemmas.List.{length-map}
use Rattle.base_page_list.specs.Pages.{flat}
use Rattle.table_store.specs.PagedTables.RowPages.RowOrders.{row_of}
use Rattle.table_store.proofs.paged_tables.row_pages.table.Table.is_empty.Goals as goal

pub returns : goal.returns
returns c = rw (← c.self.view_is) (c.is_empty.ensures ∙ ap (λ (n : ℕ). n == 0) (sym (length-map (flat c.self.inside.order.pages) (row_of c.self.inside.rows) ∙ c.self.invariant.listed.counted)))
