use Rattle.std.proofs.Common.{ap, ◌∙◌, ◌≤◌, ◌-◌, ◌+◌, length, arith, drop}
use Rattle.std.specs.List.{slice_get}
use Rattle.tool_program.specs.EventApplier.Appliers.{planned}
use Rattle.tool_program.specs.EventApplier.BatchPlans.{event_doings}
use Rattle.tool_program.proofs.EventApplier.Walks.{found, passed, not_found}
use Rattle.tool_program.proofs.event_applier.applier.Applier.planned_at.Goals as goal

pub returns-then-left-count : goal.returns-then-left-count
returns-then-left-count c =
    c.planned_in.ensures
    ∙ found c.args.self.now c.args.events.now c.loop-event.event-index c.loop-event.left c.args.number c.event-item.result c.loop-event-test.true c.event-item.is c.loop-event.invariant (omega (arith, c.count_in-count.ensures.counted))

pub loop-event-preserved : goal.loop-event-preserved
loop-event-preserved c =
    let past : length (event_doings c.args.self.now c.event-item.result) ≤ c.loop-event.left = omega (arith, c.count_in-count.ensures.counted) in
    ap (λ count. slice_get (planned c.args.self.now (drop (c.loop-event.event-index + 1) c.args.events.now)) (c.loop-event.left - count)) c.count_in-count.ensures.counted
    ∙ passed c.args.self.now c.args.events.now c.loop-event.event-index c.loop-event.left c.args.number c.event-item.result c.loop-event-test.true c.event-item.is c.loop-event.invariant past

pub returns : goal.returns
returns c = not_found c.args.self.now c.args.events.now c.loop-event.event-index c.loop-event.left c.args.number c.loop-event-test.false c.loop-event.invariant
