use Rattle.std.proofs.Common.{◌≡◌, ◌+◌, ◌≤◌, ◌*◌, length, drop}
use Rattle.tool_program.specs.EventApplier.Appliers.{planned}
use Rattle.tool_program.proofs.event_applier.applier.Applier.count_planned.Given as goal

-- what is counted, and what is still to be counted; no more than two an event
abbrev pub invariant-loop-event : goal.invariant-loop-event
invariant-loop-event l = record {
  counted : l.count + length (planned l.self (drop l.event-index l.events)) ≡ length (planned l.self l.events);
  few : l.count ≤ 2 * l.event-index;
}
