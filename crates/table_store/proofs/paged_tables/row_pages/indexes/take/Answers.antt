use Rattle.std.proofs.Common.{◌∙◌, refl, ap, remove, ℕ, arith}
use Rattle.std.proofs.lemmas.Option.{slice_get_within}
use Rattle.base_page_list.specs.Pages.{flat}
use Rattle.table_store.proofs.PagedTables.RowPages.RowPlaces.{again}
use Rattle.table_store.proofs.paged_tables.row_pages.indexes.take.Goals as goal

pub unreachable-requires : goal.unreachable-requires
unreachable-requires c =
    let entries = flat c.args.index.now.entries.pages in
    let place = c.place_of-place.ensures.place in
    let there = again c.args.index.now.places c.args.clustered.now c.args.rows.now entries c.args.entry c.requires.ascends c.requires.has in
    let within = slice_get_within entries _ c.args.entry there in
    let over = c.in_default.ensures in
    omega (arith, within, over, place)

pub returns : goal.returns
returns c =
    let place = c.place_of-place.ensures.place in
    record {
      places = refl;
      entries = c.remove.ensures.entries ∙ ap (λ (n : ℕ). remove (flat c.args.index.now.entries.pages) n) (c.in-Some.ensures.place_is ∙ place);
      spare = c.remove.ensures.spare;
    }
