use Rattle.table_store.proofs.PagedTables.Paged.{copied_more, fresh_copy}
use Rattle.table_store.proofs.paged_tables.copies.copied_tables.Goals as goal

pub add_new-requires-clause-new : goal.add_new-requires-clause-new
add_new-requires-clause-new c = fresh_copy c.loop-place.copy.values c.args.tables.now.values c.loop-place.place c.in_ok-copy_table.field-0 c.at-table.result.now c.requires.1 c.at-table.ensures c.in_ok-copy_table.ensures c.loop-place.invariant.0

pub loop-place-preserved : goal.loop-place-preserved
loop-place-preserved c = (rw c.in_ok-add_new.ensures.ok (copied_more c.loop-place.copy.values c.args.tables.now.values c.loop-place.place c.in_ok-copy_table.field-0 c.at-table.result.now c.at-table.ensures c.in_ok-copy_table.ensures c.loop-place.invariant.0), c.in_ok-add_new.ensures.named)
