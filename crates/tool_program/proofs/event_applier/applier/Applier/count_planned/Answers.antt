use Rattle.std.proofs.Common.{ap, ◌∙◌, ◌+◌, length, arith, drop}
use Rattle.tool_program.specs.EventApplier.Appliers.{planned}
use Rattle.tool_program.proofs.EventApplier.Walks.{counted, all_counted}
use Rattle.tool_program.proofs.event_applier.applier.Applier.count_planned.Goals as goal

pub loop-event-preserved : goal.loop-event-preserved
loop-event-preserved c = record {
  counted = ap (λ n. c.loop-event.count + n + length (planned c.args.self.now (drop (c.loop-event.event-index + 1) c.args.events.now))) c.count_in-count.ensures.counted
      ∙ counted c.args.self.now c.args.events.now c.loop-event.event-index c.loop-event.count c.event-item.result c.loop-event-test.true c.event-item.is c.loop-event.invariant.counted;
  few = omega (arith, c.count_in-count.ensures.few, c.loop-event.invariant.few);
}

pub returns : goal.returns
returns c = all_counted c.args.self.now c.args.events.now c.loop-event.event-index c.loop-event.count c.loop-event-test.false c.loop-event.invariant.counted
