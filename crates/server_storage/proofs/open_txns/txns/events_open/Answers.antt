use Rattle.std.proofs.Common.{◌≤◌, ◌+◌, take, arith}
use Rattle.server_storage.specs.OpenTxns.Open.{puts_open}
use Rattle.server_storage.proofs.OpenTxns.OpenRows.{counted_more}
use Rattle.server_storage.proofs.open_txns.txns.events_open.Goals as goal

pub loop-one-preserved : goal.loop-one-preserved
loop-one-preserved c = λ name.
    let counted : puts_open name (take (c.loop-one.one-index + 1) c.args.txns.now) ≤ c.loop-one.count + c.len.result =
    counted_more name c.args.txns.now c.loop-one.one-index c.loop-one.count c.len.result c.one-item.result c.loop-one-test.true c.one-item.is c.len.ensures (c.loop-one.invariant name) in
    let more = c.in_ok-count.ensures in
    omega (arith, counted, more)
