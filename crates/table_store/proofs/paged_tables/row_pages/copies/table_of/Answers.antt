use Rattle.std.proofs.Common.{◌≡◌, ◌∙◌, ◌∷◌, ◌++◌, suc, List, drop, sym, ap}
use Rattle.std.proofs.Math.Seq.{drop-cons}
use Rattle.base_values.specs.GhoSchema.Rows.{key_places}
use Rattle.table_store.proofs.Orders.{Row}
use Rattle.table_store.proofs.PagedTables.RowPages.PutLast.{next_ascends}
use Rattle.table_store.proofs.paged_tables.row_pages.copies.table_of.Goals as goal

pub put_last-requires-clause-last : goal.put_last-requires-clause-last
put_last-requires-clause-last c =
    let rows = c.args.rows.now in
    let rest = drop (suc c.loop-row.row-index) rows in
    let here : drop c.loop-row.row-index rows ≡ c.in_ok-copy.field-0 ∷ rest = drop-cons rows c.loop-row.row-index c.row-item.result c.loop-row-test.true ∙ ap (λ (r : Row). r ∷ rest) (sym c.row-item.is ∙ sym c.in_ok-copy.ensures) in
    rw c.loop-row.invariant.schema
    (next_ascends (key_places c.args.schema) c.loop-row.table.table.rows rest rows c.in_ok-copy.field-0 c.requires (ap (λ (rs : List Row). c.loop-row.table.table.rows ++ rs) (sym here) ∙ c.loop-row.invariant.rows))
