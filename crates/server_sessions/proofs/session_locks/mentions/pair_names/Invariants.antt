use Rattle.std.proofs.Common.{◌≡◌, take}
use Rattle.server_model.specs.States.{pair_names}
use Rattle.server_sessions.proofs.session_locks.mentions.pair_names.Given as goal

-- the names of the pairs so far are there
abbrev pub invariant-loop-pair : goal.invariant-loop-pair
invariant-loop-pair l = l.names ≡ pair_names (take l.pair-index l.pairs)
