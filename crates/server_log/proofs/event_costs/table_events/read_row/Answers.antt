use Rattle.std.proofs.Common.{arith}
use Rattle.server_log.specs.Laws.{IsHeld}
use Rattle.server_log.proofs.Lists.{all_more, all_whole}
use Rattle.server_log.proofs.event_costs.table_events.read_row.Goals as goal

pub loop-value-preserved : goal.loop-value-preserved
loop-value-preserved c = all_more IsHeld c.args.row.now c.loop-value.value-index c.value-item.result (omega arith) c.value-item.is c.loop-value.invariant c.read_text.ensures

pub returns : goal.returns
returns c = all_whole IsHeld c.args.row.now c.loop-value.value-index (omega arith) c.loop-value.invariant
