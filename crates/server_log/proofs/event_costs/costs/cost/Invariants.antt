use Rattle.std.proofs.Common.{◌≡◌, take}
use Rattle.server_log.specs.EventCosts.Costs.{cost_of}
use Rattle.server_log.proofs.event_costs.costs.cost.Given as goal

-- the sum so far is the cost of the events so far
abbrev pub invariant-loop-event : goal.invariant-loop-event
invariant-loop-event l = l.sum ≡ cost_of (take l.event-index l.events)
