use Rattle.std.proofs.Common.{◌≡◌, ◌++◌, take, drop}
use Rattle.server_model.specs.States.{counters_from}
use Rattle.server_sessions.proofs.counters.raise.Given as goal

-- the counters up to here are raised, and those from here on are as they were
abbrev pub invariant-loop-counter : goal.invariant-loop-counter
invariant-loop-counter l = take l.counter-index l.counter-items ++ counters_from l.name l.least (drop l.counter-index l.counter-items) ≡ counters_from l.name l.least l.fn.counters.items
