use Rattle.std.proofs.Common.{◌<◌, length, arith}
use Rattle.table_store.specs.PagedTables.RowPages.Indexes.{IsAdded}
use Rattle.table_store.proofs.PagedTables.RowPages.Zipped.{more_done}
use Rattle.table_store.proofs.paged_tables.row_pages.indexes.add_all.Goals as goal

pub loop-i-preserved : goal.loop-i-preserved
loop-i-preserved c =
    let within : c.loop-i.i < length c.args.indexes.now.items = omega (arith, c.loop-i.invariant.size) in
    more_done (IsAdded c.args.rows.now c.args.clustered.now c.args.entry) c.loop-i.i c.args.indexes.now.items c.loop-i.indexes.items c.add.new.index c.index_mut-index.result.now c.loop-i.invariant within c.index_mut-index.ensures.value c.add.ensures
