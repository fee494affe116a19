use Rattle.std.proofs.Common.{◌≡◌, drop}
use Rattle.std.specs.List.{slice_get}
use Rattle.tool_program.specs.EventApplier.Appliers.{planned}
use Rattle.tool_program.proofs.event_applier.applier.Applier.planned_at.Given as goal

-- what is looked for is among what is left
abbrev pub invariant-loop-event : goal.invariant-loop-event
invariant-loop-event l = slice_get (planned l.self (drop l.event-index l.events)) l.left ≡ slice_get (planned l.self l.events) l.number
