use Rattle.std.proofs.Common.{◌≡◌, ◌+◌, ◌++◌, take}
use Rattle.server_log.specs.EventCosts.Costs.{bytes_of}
use Rattle.server_log.proofs.log.whole.Log.append.Given as goal

-- the events so far are there, and took their room
abbrev pub invariant-loop-event : goal.invariant-loop-event
invariant-loop-event l = record {
  events : l.self.events ≡ l.initial.self.events ++ take l.event-index l.events;
  spare : l.self.spare + bytes_of (take l.event-index l.events) ≡ l.initial.self.spare;
}
