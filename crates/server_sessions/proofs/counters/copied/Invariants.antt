use Rattle.std.proofs.Common.{◌≡◌, take}
use Rattle.server_sessions.proofs.counters.copied.Given as goal

-- the counters so far
abbrev pub invariant-loop-counter : goal.invariant-loop-counter
invariant-loop-counter l = l.copy.items ≡ take l.counter-index l.counters
