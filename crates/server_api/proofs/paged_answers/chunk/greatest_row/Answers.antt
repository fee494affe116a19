use Rattle.std.proofs.Common.{◌≡◌, suc, ◌-◌, List, length, ap, ◌∙◌, arith}
use Rattle.std.specs.List.{slice_get}
use Rattle.table_store.proofs.Orders.{Row}
use Rattle.server_api.proofs.PagedAnswers.LastRows.{greatest}
use Rattle.server_api.proofs.paged_answers.chunk.greatest_row.Goals as goal

pub returns : goal.returns
returns c =
    let table = c.args.table.now in
    let many : length c.args.table.now.pages ≡ suc (c.pages-pages.result - 1) = omega (arith, c.pages-pages.ensures.count, c.if-pages-eq0.false) in
    c.last_row.ensures ∙ ap (λ (rows : List Row). slice_get rows (length rows - 1)) c.page.ensures
    ∙ greatest (c.pages-pages.result - 1) table.pages table.table.rows c.pages-pages.ensures.sizes c.pages-pages.ensures.rows many
