use Rattle.std.proofs.Common.{◌≡◌, drop}
use Rattle.server_model.specs.Operations.{after_events}
use Rattle.test_histories.proofs.changes.after_events.Given as goal

-- the events that are left lead from the tables so far to those behind all
abbrev pub invariant-loop-event : goal.invariant-loop-event
invariant-loop-event l = after_events l.after (drop l.event-index l.events) ≡ after_events l.tables l.events
