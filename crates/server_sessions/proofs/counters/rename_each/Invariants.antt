use Rattle.std.proofs.Common.{◌≡◌, ◌++◌, take, drop}
use Rattle.server_model.specs.States.{counters_named}
use Rattle.server_sessions.proofs.counters.rename_each.Given as goal

-- the counters up to here are renamed, and those from here on are as they were
abbrev pub invariant-loop-counter : goal.invariant-loop-counter
invariant-loop-counter l = take l.counter-index l.counter-items ++ counters_named l.pair.old l.pair.new (drop l.counter-index l.counter-items) ≡ counters_named l.pair.old l.pair.new l.fn.counters.items
