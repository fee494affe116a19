use Rattle.std.proofs.Common.{◌≡◌, drop}
use Rattle.server_model.specs.States.{counters_renamed}
use Rattle.server_sessions.proofs.counters.counters_renamed.Given as goal

-- the pairs that are left decide
abbrev pub invariant-loop-pair : goal.invariant-loop-pair
invariant-loop-pair l = counters_renamed (drop l.pair-index l.pairs) l.after.items ≡ counters_renamed l.pairs l.counters
