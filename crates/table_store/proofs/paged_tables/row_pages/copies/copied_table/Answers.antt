use Rattle.std.proofs.Common.{◌≡◌, ◌∙◌, ◌∷◌, ◌++◌, List, sym, ap}
use Rattle.base_values.specs.GhoSchema.Rows.{key_places}
use Rattle.table_store.proofs.Orders.{Row}
use Rattle.table_store.proofs.PagedTables.RowPages.PutLast.{next_ascends}
use Rattle.table_store.proofs.paged_tables.row_pages.copies.copied_table.Goals as goal

pub put_last-requires-clause-last : goal.put_last-requires-clause-last
put_last-requires-clause-last c =
    let all = c.args.table.now.table.rows in
    let here : c.loop-row.row-iterator ≡ c.in_ok-copy-2.field-0 ∷ c.next.new.self = c.in-Some.ensures.steps ∙ ap (λ (r : Row). r ∷ c.next.new.self) (sym c.in_ok-copy-2.ensures) in
    rw c.loop-row.invariant.schema
    (next_ascends (key_places c.args.table.now.table.schema) c.loop-row.copy.table.rows c.next.new.self all c.in_ok-copy-2.field-0 c.schema-schema.ensures.ascends (ap (λ (rs : List Row). c.loop-row.copy.table.rows ++ rs) (sym here) ∙ c.loop-row.invariant.rows))
