use Rattle.std.proofs.Common.{◌≡◌, drop}
use Rattle.tool_changelog.specs.Hints.{last_hint}
use Rattle.tool_changelog.proofs.hints.last_hint.Given as goal

abbrev pub invariant-loop-event : goal.invariant-loop-event
invariant-loop-event l = last_hint l.table l.hint (drop l.event-index l.events) ≡ last_hint l.table l.last l.events
