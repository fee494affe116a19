use Rattle.std.proofs.Common.{◌∙◌, refl, ap, insert, ℕ}
use Rattle.base_page_list.specs.Pages.{flat}
use Rattle.table_store.proofs.paged_tables.row_pages.indexes.add.Goals as goal

pub returns : goal.returns
returns c = record {
  places = refl;
  entries = c.insert.ensures.entries ∙ ap (λ (n : ℕ). insert (flat c.args.index.now.entries.pages) n c.args.entry) c.place_of-place.ensures.place;
  spare = c.insert.ensures.spare;
}
