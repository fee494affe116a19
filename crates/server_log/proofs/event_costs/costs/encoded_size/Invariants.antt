use Rattle.std.proofs.Common.{◌≡◌, take}
use Rattle.std.specs.List.{AllByRecursion}
use Rattle.server_log.specs.Encodings.{IsEncodable}
use Rattle.server_log.specs.EventCosts.Costs.{bytes_of}
use Rattle.server_log.proofs.event_costs.costs.encoded_size.Given as goal

-- the size so far is that of the events so far, which are encoded
abbrev pub invariant-loop-event : goal.invariant-loop-event
invariant-loop-event l = record {
  size : l.size ≡ bytes_of (take l.event-index l.events);
  encodable : AllByRecursion IsEncodable (take l.event-index l.events);
}
