use Rattle.std.proofs.Common.{◌<◌, length, arith}
use Rattle.table_store.specs.PagedTables.RowPages.Indexes.{IsWide, IsSame}
use Rattle.table_store.proofs.PagedTables.RowPages.Zipped.{more_done, all_done, weaker, stopped}
use Rattle.table_store.proofs.PagedTables.RowPages.Indexing.{wide_same, same_self}
use Rattle.table_store.proofs.paged_tables.row_pages.indexes.reserve_all.Goals as goal

pub loop-i-preserved : goal.loop-i-preserved
loop-i-preserved c =
    let within : c.loop-i.i < length c.args.indexes.now.items = omega (arith, c.loop-i.invariant.size) in
    more_done (IsWide c.args.total) c.loop-i.i c.args.indexes.now.items c.loop-i.indexes.items c.widen.new.index c.index_mut-index.result.now c.loop-i.invariant within c.index_mut-index.ensures.value c.in_ok-widen.ensures.ok

pub returns-in_err-widen-clause-same : goal.returns-in_err-widen-clause-same
returns-in_err-widen-clause-same c =
    let within : c.loop-i.i < length c.args.indexes.now.items = omega (arith, c.loop-i.invariant.size) in
    stopped IsSame same_self c.loop-i.i c.args.indexes.now.items c.loop-i.indexes.items c.widen.new.index c.index_mut-index.result.now
    (weaker (IsWide c.args.total) IsSame (λ old new wide. wide.same) c.loop-i.i c.args.indexes.now.items c.loop-i.indexes.items c.loop-i.invariant) within c.index_mut-index.ensures.value c.widen.ensures.same

pub returns-clause-same : goal.returns-clause-same
returns-clause-same c =
    let over = c.loop-i-test.false in
    let size = c.len-i-end.ensures in
    wide_same c.args.total c.args.indexes.now.items c.loop-i.indexes.items (all_done (IsWide c.args.total) c.loop-i.i c.args.indexes.now.items c.loop-i.indexes.items c.loop-i.invariant (omega (arith, over, size)))
