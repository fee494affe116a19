use Rattle.std.proofs.Common.{◌∙◌}
use Rattle.top_call.specs.PrintedOrders.{ordered}
use Rattle.top_call.proofs.PrintedOrders.Orders.{replayed, replayed_only}
use Rattle.top_call.proofs.PrintedOrders.Verdicts.{over_same, stops_same}
use Rattle.top_call.proofs.printed_orders.printed_orders_replay.Goals as goal

pub returns : goal.returns
returns c = record {
  replay = replayed;
  only = λ plan journal runs kept numbered goes are stops over.
      replayed_only c.replays_agree.ensures.prefix (ordered plan runs) journal (replayed plan journal runs kept numbered goes are).replay (stops_same plan runs journal stops) (over_same plan runs journal ∙ over);
}
